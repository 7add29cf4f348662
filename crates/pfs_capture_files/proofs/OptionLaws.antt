-- A look through options goes on, or ends, as its next option says.
use Rattle.std.proofs.Common.{ℕ, ◌≡◌, ◌+◌, ◌-◌, ◌<◌, ◌≤◌, suc, List, None, ap, arith, ◌∙◌}
use Rattle.pfs_capture_files.specs.declared.orders.Order.{Order}
use Rattle.pfs_capture_files.specs.declared.options.OptionWanted.{OptionWanted}
use Rattle.pfs_capture_files.specs.declared.options.Look.{Look}
use Rattle.pfs_capture_files.specs.Options.{at_look, find_option, option_step}

look-turn : (n : ℕ) (order : Order) (body : List ℕ) (wanted : OptionWanted) (at : ℕ) (look : Look) → option_step order body wanted at ≡ look →
    find_option (suc n) order body wanted at ≡ at_look look (λ next. find_option n order body wanted next)
unfolding find_option
look-turn n order body wanted at look e = ap (λ x. at_look x (λ next. find_option n order body wanted next)) e

-- of `m` options there are `i` and one more before those that are left
pub left-turn : (m i : ℕ) (order : Order) (body : List ℕ) (wanted : OptionWanted) (at : ℕ) (look : Look) → i < m → option_step order body wanted at ≡ look →
    find_option (m - i) order body wanted at ≡ at_look look (λ next. find_option (m - (i + 1)) order body wanted next)
left-turn m i order body wanted at look h e =
    let turns : m - i ≡ suc (m - (i + 1)) = omega arith in
    ap (λ k. find_option k order body wanted at) turns ∙ look-turn (m - (i + 1)) order body wanted at look e

-- no option is left
pub left-none : (m i : ℕ) (order : Order) (body : List ℕ) (wanted : OptionWanted) (at : ℕ) → m ≤ i → find_option (m - i) order body wanted at ≡ None
unfolding find_option
left-none m i order body wanted at h =
    let turns : m - i ≡ 0 = omega arith in
    ap (λ k. find_option k order body wanted at) turns
