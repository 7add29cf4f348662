-- What is held of a configuration: the states and the source nodes, each by rising number. (own)
use Rattle.std.specs.Prelude.{◌≡◌, Bool, false, List}
use Rattle.std.specs.List.{list_any}
use Rattle.pfs_conf_values.specs.Configs.{Conf}
use Rattle.pfs_track.specs.StatePhases.{is_done}
use Rattle.pfs_store_contract.specs.Worlds.{World}
use Rattle.pfs_store_contract.specs.declared.records.StateHandle.{StateHandle}
use Rattle.pfs_store_contract.specs.declared.records.Node.{Node}
use Rattle.pfs_store_contract.specs.declared.records.State.{State}
use Rattle.pfs_store_records.specs.Records.{Placed, is_placed}

-- records are the states with the places of their records
pub record Holding : Type 0 where
  pub config : Conf
  pub states : List State
  pub nodes : List Node
  pub records : List Placed

-- the same of a store, with its world in place of the states and the nodes
pub record Indexed : Type 0 where
  pub config : Conf
  pub world : World
  pub records : List Placed

-- the record of the state that was found is where it was
abbrev pub is_reached : List Placed → StateHandle → Bool
is_reached records found = list_any (is_placed found.number.0 found.place) records

-- the handshake of a state has not completed
abbrev pub IsUncompleted : State → Type 0
IsUncompleted s = is_done s.phase ≡ false
