-- The records of states, each at its place, by rising number. (own)
use Rattle.std.specs.Prelude.{◌≡◌, ℕ, ◌<◌, ◌==◌, ◌&&◌, nat_lt, nat_le, not, Bool, if◌then◌else◌, List, map}
use Rattle.std.specs.List.{AllByRecursion}
use Rattle.std.specs.List.Sorted.{IsStrictlySortedBy}
use Rattle.std.specs.Ordering.{nat_cmp}
use Rattle.pfs_track.specs.declared.state_phases.StatePhase.{StatePhase}
use Rattle.pfs_store_contract.specs.declared.records.State.{State}

-- a state, and the place of its record
pub record Placed : Type 0 where
  pub state : State
  pub place : ℕ

abbrev pub placed_at : ℕ → State → Placed
placed_at place s = record { state = s; place = place }

-- the states, without their places
abbrev pub states_of : List Placed → List State
states_of records = map (λ (p : Placed). p.state) records

-- ---- numbers

-- each number is above the one before it
abbrev pub IsRising : List ℕ → Type 0
IsRising numbers = IsStrictlySortedBy nat_cmp numbers

-- this number is above all of these
abbrev pub IsAbove : ℕ → List ℕ → Type 0
IsAbove number numbers = AllByRecursion (λ n. n < number) numbers

-- a number is above one, and at most another
abbrev pub between : ℕ → ℕ → ℕ → Bool
between above most n = nat_lt above n && nat_le n most

-- ---- places

-- the record is at this place
abbrev pub stands_at : ℕ → Placed → Bool
stands_at place p = p.place == place

-- it is the record of this number, and is at this place
abbrev pub is_placed : ℕ → ℕ → Placed → Bool
is_placed number place p = (p.state.number == number) && stands_at place p

-- the record at this place is that of this state
abbrev pub IsRecordAt : ℕ → State → List Placed → Type 0
IsRecordAt place s records = AllByRecursion (λ (p : Placed). p.place ≡ place → p.state ≡ s) records

-- ---- changes

-- the record stays where that of this number is removed
abbrev pub leaves_number : ℕ → Placed → Bool
leaves_number number p = not (p.state.number == number)

-- the state has this phase, and this moment of its last packet
abbrev pub renewed : StatePhase → ℕ → State → State
renewed phase last s = record s { phase = phase; last = last }

-- that of the record at a place has them
abbrev pub renewed_at : ℕ → StatePhase → ℕ → Placed → Placed
renewed_at place phase last p = if stands_at place p then placed_at p.place (renewed phase last p.state) else p
