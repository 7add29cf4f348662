-- Invariant of walk_states: of the states that waited the first are examined, and the others wait.
use Rattle.std.proofs.Common.{◌≡◌, ◌+◌, ◌≤◌, length, filter, map, take}
use Rattle.pfs_store_contract.specs.Leaving.{node_after_leaving}
use Rattle.pfs_store_contract.specs.Purging.{state_numbers}
use Rattle.pfs_store_index.specs.Rounds.{IsExamined, waiting}
use Rattle.pfs_store_index.specs.Stored.{due_at, is_due}
use Rattle.pfs_store_index.specs.Staying.{StatesHold}
use Rattle.pfs_store_index.proofs.Leavings.{state_number}
use Rattle.pfs_store_index.proofs.RisingWalks.{stays_by}
use Rattle.pfs_store_index.proofs.purging.walk_states.Given as goal

-- of the numbers that waited, the first are examined and the others wait
abbrev pub invariant-loop-done : goal.invariant-loop-done
invariant-loop-done g l = record {
  config : l.indexes.config ≡ l.fn.indexes.config;
  held : l.held ≡ length l.fn.indexes.states;
  order : l.done.cursor ≤ l.round.mark;
  examined : IsExamined l.share l.done.examined l.done.left (waiting l.round.cursor l.round.mark (state_numbers l.fn.indexes.states)) (waiting l.done.cursor l.round.mark (state_numbers l.indexes.states));
  states : l.indexes.states
      ≡ filter (stays_by state_number (is_due l.fn.indexes.config l.counts (length l.fn.indexes.states) l.now) (take l.done.examined (waiting l.round.cursor l.round.mark (state_numbers l.fn.indexes.states)))) l.fn.indexes.states;
  nodes : l.indexes.nodes ≡ map (node_after_leaving l.fn.indexes.config l.fn.indexes.states l.indexes.states l.now) l.fn.indexes.nodes;
  until : StatesHold (due_at l.fn.indexes.config l.counts (length l.fn.indexes.states)) (take l.done.examined (waiting l.round.cursor l.round.mark (state_numbers l.fn.indexes.states))) l.done.until l.indexes.states;
  looks : l.meter ≡ l.fn.meter + l.done.examined;
}

abbrev pub decreases-loop-done : goal.decreases-loop-done
decreases-loop-done g l = l.done.left
