-- The options of a block: a code, a length, and a value that is filled up to a word of four bytes (pcapng, section 3.5).
use Rattle.std.specs.Prelude.{ℕ, zero, suc, ⊤, Bool, ◌≤◌, ◌+◌, ◌*◌, ◌/◌, ◌==◌, ◌&&◌, List, length, nat_le, Option, Some, None, if◌then◌else◌}
use Rattle.pfs_capture_files.specs.declared.orders.Order.{Order}
use Rattle.pfs_capture_files.specs.declared.options.ValueSpan.{ValueSpan}
use Rattle.pfs_capture_files.specs.declared.options.OptionWanted.{OptionWanted}
use Rattle.pfs_capture_files.specs.declared.options.Look.{Look}
use Rattle.pfs_capture_files.specs.declared.options.Look.TheVariants.{On, Here, Nowhere}
use Rattle.pfs_capture_files.specs.Orders.{u16_in}

-- whether a value of so many bytes is wanted
abbrev pub takes_size : OptionWanted → ℕ → Bool
takes_size wanted size = nat_le wanted.least size && nat_le size wanted.most

-- where a look goes from an option: the code 0 ends them
abbrev pub option_step : Order → List ℕ → OptionWanted → ℕ → Look
option_step order body wanted at =
    if nat_le (at + 4) (length body)
    then (if u16_in order body at == 0 then Nowhere
    else (if (u16_in order body at == wanted.code) && takes_size wanted (u16_in order body (at + 2)) && nat_le (at + 4 + u16_in order body (at + 2)) (length body)
    then Here (record { at = at + 4; size = u16_in order body (at + 2) })
    else On (at + 4 + (u16_in order body (at + 2) + 3) / 4 * 4)))
    else Nowhere

-- what follows where a look goes on, and what it has come to
abbrev pub at_look : Look → (ℕ → Option ValueSpan) → Option ValueSpan
at_look (On next) on = on next
at_look (Here place) on = Some place
at_look Nowhere on = None

-- where the value is of the first option that is wanted, of at most so many
unfoldable pub find_option : ℕ → Order → List ℕ → OptionWanted → ℕ → Option ValueSpan
find_option zero order body wanted at = None
find_option (suc n) order body wanted at = at_look (option_step order body wanted at) (λ next. find_option n order body wanted next)

-- a value within so many bytes, which has at least so many
abbrev pub LiesWithin : ℕ → ℕ → ValueSpan → Type 0
LiesWithin whole least place = (least ≤ place.size) × (place.at + place.size ≤ whole)

-- what is found is within so many bytes, and has at least so many
abbrev pub FitsIn : ℕ → ℕ → Look → Type 0
FitsIn whole least (On next) = ⊤
FitsIn whole least (Here place) = LiesWithin whole least place
FitsIn whole least Nowhere = ⊤
