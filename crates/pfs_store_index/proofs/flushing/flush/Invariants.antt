-- Invariant of flush: of the states of the source the first are examined, and the others wait.
use Rattle.std.proofs.Common.{◌≡◌, ◌+◌, ◌-◌, ◌≤◌, length, filter, map, take, drop}
use Rattle.pfs_store_contract.specs.Leaving.{is_beside, is_flushed, node_after_leaving}
use Rattle.pfs_store_index.specs.Rounds.{waiting_of}
use Rattle.pfs_store_index.proofs.Leavings.{state_number}
use Rattle.pfs_store_index.proofs.RisingWalks.{stays_by}
use Rattle.pfs_store_index.proofs.flushing.flush.Given as goal

-- of the states of the source, the first are examined and the others wait
abbrev pub invariant-loop-number : goal.invariant-loop-number
invariant-loop-number g l = record {
  config : l.indexes.config ≡ l.fn.indexes.config;
  order : l.cursor ≤ l.made;
  within : l.examined ≤ length (waiting_of (is_beside l.fn.indexes.config.profile l.what.dir l.what.source) 0 l.made l.fn.indexes.states);
  states : l.indexes.states ≡ filter (stays_by state_number (is_flushed l.fn.indexes.config.profile l.what.dir l.what.source l.what.rule) (take l.examined (waiting_of (is_beside l.fn.indexes.config.profile l.what.dir l.what.source) 0 l.made l.fn.indexes.states))) l.fn.indexes.states;
  nodes : l.indexes.nodes ≡ map (node_after_leaving l.fn.indexes.config l.fn.indexes.states l.indexes.states l.now) l.fn.indexes.nodes;
  rest : waiting_of (is_beside l.fn.indexes.config.profile l.what.dir l.what.source) l.cursor l.made l.indexes.states ≡ drop l.examined (waiting_of (is_beside l.fn.indexes.config.profile l.what.dir l.what.source) 0 l.made l.fn.indexes.states);
  looks : l.meter ≡ l.fn.meter + l.examined;
}

abbrev pub decreases-loop-number : goal.decreases-loop-number
decreases-loop-number g l = length (waiting_of (is_beside l.fn.indexes.config.profile l.what.dir l.what.source) 0 l.made l.fn.indexes.states) - l.examined
