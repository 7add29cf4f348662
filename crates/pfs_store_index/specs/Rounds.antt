-- Rounds of the purge as two numbers: those above the cursor and up to the mark are still to be examined.
use Rattle.std.specs.Prelude.{ℕ, ◌≡◌, ◌+◌, ◌<◌, ◌≤◌, ◌==◌, ◌&&◌, not, Bool, List, drop, filter, length, map, take}
use Rattle.pfs_store_contract.specs.Purging.{is_among}
use Rattle.pfs_store_contract.specs.declared.records.Node.{Node}
use Rattle.pfs_store_contract.specs.declared.records.State.{State}
use Rattle.pfs_store_records.specs.Records.{between}

-- the numbers that a round with this cursor and mark has still to examine
abbrev pub waiting : ℕ → ℕ → List ℕ → List ℕ
waiting cursor mark numbers = filter (between cursor mark) numbers

-- of a share, so many of the numbers that waited are examined, the first ones, and so many more may be; none, where the share is
-- used up, or no number is left
pub record IsExamined (share examined left : ℕ) (before after : List ℕ) : Type 0 where
  pub rest : after ≡ drop examined before
  pub within : examined ≤ length before
  pub most : examined + left ≤ share
  pub goes : 0 < left → examined + left ≡ share
  pub ends : left ≡ 0 → examined ≡ length (take share before)

-- the numbers above one, and up to another, of the states that pass a test
abbrev pub waiting_of : (State → Bool) → ℕ → ℕ → List State → List ℕ
waiting_of test above most states = map (λ (s : State). s.number) (filter (λ (s : State). test s && between above most s.number) states)

-- a state stays when one number is examined: it has another, or does not leave
abbrev pub state_survives : (State → Bool) → ℕ → State → Bool
state_survives leaves n s = not ((n == s.number) && leaves s)

-- a state, or a node, stays when these numbers are examined
abbrev pub states_survive : (State → Bool) → List ℕ → State → Bool
states_survive leaves examined s = not (is_among examined s.number && leaves s)

abbrev pub nodes_survive : (Node → Bool) → List ℕ → Node → Bool
nodes_survive leaves examined node = not (is_among examined node.number && leaves node)
