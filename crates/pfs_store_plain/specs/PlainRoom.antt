-- What the store over plain lists keeps to itself.
use Rattle.std.specs.Prelude.{ℕ, ◌≡◌, ◌≤◌, List, All, length}
use Rattle.pfs_conf_values.specs.Configs.{Conf}
use Rattle.pfs_store_contract.specs.declared.records.Node.{Node}
use Rattle.pfs_store_contract.specs.declared.records.State.{State}

-- no score is past the greatest
abbrev pub AreScores : List Node → Type 0
AreScores nodes = All (λ (n : Node). n.score.value ≤ 4294968000) nodes

-- the pending lists have room for the numbers of all that is held, there is a count for each rule, and no score is past
-- the greatest
pub record IsRoomy (conf : Conf) (states : List State) (nodes : List Node) (counts : List ℕ) (state_room node_room : ℕ) : Type 0 where
  pub state_numbers : length states ≤ state_room
  pub node_numbers : length nodes ≤ node_room
  pub rules : length counts ≡ length conf.items
  pub scores : AreScores nodes
