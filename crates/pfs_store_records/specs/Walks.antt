-- A walk over the records in a range of numbers, from the least on: up to the first that passes a test, or to a share of them; the
-- test of a state is that it has expired, that of a source node that it leaves. (own)
use Rattle.std.specs.Prelude.{◌≡◌, ℕ, ◌+◌, ◌<◌, ◌≤◌, ◌==◌, Bool, true, false, Option, Some, None, List, [], filter, length, map, slice_get, take, drop}
use Rattle.std.specs.List.{AllByRecursion, find}
use Rattle.pfs_conf_values.specs.declared.items.RuleNo.{RuleNo}
use Rattle.pfs_conf_values.specs.declared.timeouts.TimeoutName.{TimeoutName}
use Rattle.pfs_track.specs.Lifetimes.{is_expired}
use Rattle.pfs_track.specs.StatePhases.{slot}
use Rattle.pfs_store_contract.specs.Purging.{state_numbers}
use Rattle.pfs_store_contract.specs.declared.records.State.{State}
use Rattle.pfs_store_records.specs.Records.{between}

-- the moment at which a state expires, and whether it has expired at a second, where states of a rule may stay so long in
-- phases of a timeout
abbrev pub end_of : (RuleNo → TimeoutName → ℕ) → State → ℕ
end_of lifetime s = s.last + lifetime s.rule (slot s.phase)

abbrev pub state_has_expired : (RuleNo → TimeoutName → ℕ) → ℕ → State → Bool
state_has_expired lifetime now s = is_expired (lifetime s.rule (slot s.phase)) s.last now

-- the walk stopped at this state before its share was used up: it is that of the next number, and passes
pub record IsNext (test : State → Bool) (states : List State) (last most stayed share : ℕ) (s : State) : Type 0 where
  pub within : stayed < share
  pub next : slice_get (filter (between last most) (state_numbers states)) 0 ≡ Some s.number
  pub found : find (λ (t : State). t.number == s.number) states ≡ Some s
  pub passes : test s ≡ true

-- where the walk stopped at no state, its share is used up, or no record is left in the range
abbrev pub IsLeaver : (State → Bool) → List State → ℕ → ℕ → ℕ → ℕ → Option State → Type 0
IsLeaver test states last most stayed share (Some s) = IsNext test states last most stayed share s
IsLeaver test states last most stayed share None = stayed < share → filter (between last most) (state_numbers states) ≡ []

-- a walk passed by so many elements, the last of them of this number, and none of them passes
pub record IsPassing {X : Type 0} (number : X → ℕ) (test : X → Bool) (xs : List X) (above most share stayed last : ℕ) : Type 0 where
  pub from : above ≤ last
  pub to : last ≤ most
  pub stay : AllByRecursion (λ (x : X). between above last (number x) ≡ true → test x ≡ false) xs
  pub count : stayed ≡ length (filter (between above last) (map number xs))
  pub passed : filter (between above last) (map number xs) ≡ take stayed (filter (between above most) (map number xs))
  pub rest : filter (between last most) (map number xs) ≡ drop stayed (filter (between above most) (map number xs))
  pub within : stayed ≤ share

-- a walk stopped at this element before its share was used up: it is that of the next number, and passes
pub record IsStop {X : Type 0} (number : X → ℕ) (test : X → Bool) (xs : List X) (last most stayed share : ℕ) (x : X) : Type 0 where
  pub within : stayed < share
  pub next : slice_get (filter (between last most) (map number xs)) 0 ≡ Some (number x)
  pub found : find (λ (y : X). number y == number x) xs ≡ Some x
  pub passes : test x ≡ true

-- where it stopped at none, its share is used up, or no element is left in the range
abbrev pub StopsWalkAt : {X : Type 0} → (X → ℕ) → (X → Bool) → List X → ℕ → ℕ → ℕ → ℕ → Option X → Type 0
StopsWalkAt number test xs last most stayed share (Some x) = IsStop number test xs last most stayed share x
StopsWalkAt number test xs last most stayed share None = stayed < share → filter (between last most) (map number xs) ≡ []

-- the walk passed by so many states, the last of them of this number, and none of them passes
pub record IsWalk (test : State → Bool) (states : List State) (above most share stayed last : ℕ) (stopped : Option State) : Type 0 where
  pub from : above ≤ last
  pub to : last ≤ most
  pub stay : AllByRecursion (λ (s : State). between above last s.number ≡ true → test s ≡ false) states
  pub count : stayed ≡ length (filter (between above last) (state_numbers states))
  pub passed : filter (between above last) (state_numbers states) ≡ take stayed (filter (between above most) (state_numbers states))
  pub rest : filter (between last most) (state_numbers states) ≡ drop stayed (filter (between above most) (state_numbers states))
  pub within : stayed ≤ share
  pub leaver : IsLeaver test states last most stayed share stopped

-- up to a moment none of the states of these numbers passes
abbrev pub StayUntil : (State → ℕ) → List State → ℕ → ℕ → ℕ → Type 0
StayUntil moment states above last until = AllByRecursion (λ (s : State). between above last s.number ≡ true → until ≤ moment s) states

-- the looks of a walk: one for each that it passed by, and one for that at which it stopped
abbrev pub looks_of : {X : Type 0} → ℕ → Option X → ℕ
looks_of stayed None = stayed
looks_of stayed (Some x) = stayed + 1
