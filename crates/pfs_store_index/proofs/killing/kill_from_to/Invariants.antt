-- Invariant of kill_from_to: of all states the first are examined, and the others wait.
use Rattle.std.proofs.Common.{◌≡◌, ◌+◌, ◌-◌, ◌≤◌, length, filter, map, take, drop}
use Rattle.pfs_store_contract.specs.Leaving.{is_from_to, node_after_leaving}
use Rattle.pfs_store_contract.specs.Purging.{state_numbers}
use Rattle.pfs_store_index.specs.Rounds.{waiting}
use Rattle.pfs_store_index.proofs.Leavings.{state_number}
use Rattle.pfs_store_index.proofs.RisingWalks.{stays_by}
use Rattle.pfs_store_index.proofs.killing.kill_from_to.Given as goal

-- of all states, the first are examined and the others wait
abbrev pub invariant-loop-number : goal.invariant-loop-number
invariant-loop-number g l = record {
  config : l.indexes.config ≡ l.fn.indexes.config;
  order : l.cursor ≤ l.made;
  within : l.examined ≤ length (waiting 0 l.made (state_numbers l.fn.indexes.states));
  states : l.indexes.states ≡ filter (stays_by state_number (is_from_to l.hosts) (take l.examined (waiting 0 l.made (state_numbers l.fn.indexes.states)))) l.fn.indexes.states;
  nodes : l.indexes.nodes ≡ map (node_after_leaving l.fn.indexes.config l.fn.indexes.states l.indexes.states l.now) l.fn.indexes.nodes;
  rest : waiting l.cursor l.made (state_numbers l.indexes.states) ≡ drop l.examined (waiting 0 l.made (state_numbers l.fn.indexes.states));
  looks : l.meter ≡ l.fn.meter + l.examined;
}

abbrev pub decreases-loop-number : goal.decreases-loop-number
decreases-loop-number g l = length (waiting 0 l.made (state_numbers l.fn.indexes.states)) - l.examined
