-- Up to when states and source nodes stay that were examined. (own)
use Rattle.std.specs.Prelude.{ℕ, ◌≡◌, ◌≤◌, true, List}
use Rattle.std.specs.List.{AllByRecursion}
use Rattle.pfs_conf_values.specs.Configs.{Conf}
use Rattle.pfs_store_contract.specs.Purging.{is_among}
use Rattle.pfs_store_index.specs.QuietPurges.{NodeStays}
use Rattle.pfs_store_contract.specs.declared.records.Node.{Node}
use Rattle.pfs_store_contract.specs.declared.records.State.{State}

-- no state whose number is among these leaves before a moment, where each has one at which it leaves
abbrev pub StatesHold : (State → ℕ) → List ℕ → ℕ → List State → Type 0
StatesHold moment examined until states = AllByRecursion (λ (s : State). is_among examined s.number ≡ true → until ≤ moment s) states

-- no node whose number is among these leaves before a moment, where these states are held
abbrev pub NodesHold : Conf → List State → List ℕ → ℕ → List Node → Type 0
NodesHold conf states examined until nodes = AllByRecursion (λ (n : Node). is_among examined n.number ≡ true → NodeStays conf states until n) nodes
