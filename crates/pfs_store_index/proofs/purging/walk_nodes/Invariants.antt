-- Invariant of walk_nodes: of the nodes that waited the first are examined, and the others wait.
use Rattle.std.proofs.Common.{◌≡◌, ◌+◌, ◌≤◌, length, filter, take}
use Rattle.pfs_store_contract.specs.Purging.{is_over, node_numbers}
use Rattle.pfs_store_index.specs.Rounds.{IsExamined, waiting}
use Rattle.pfs_store_index.specs.Staying.{NodesHold}
use Rattle.pfs_store_index.proofs.Retained.{node_number}
use Rattle.pfs_store_index.proofs.RisingWalks.{stays_by}
use Rattle.pfs_store_index.proofs.purging.walk_nodes.Given as goal

-- of the numbers that waited, the first are examined and the others wait
abbrev pub invariant-loop-done : goal.invariant-loop-done
invariant-loop-done g l = record {
  config : l.indexes.config ≡ l.fn.indexes.config;
  kept : l.indexes.states ≡ l.fn.indexes.states;
  held : l.held ≡ length l.fn.indexes.nodes;
  order : l.done.cursor ≤ l.round.mark;
  examined : IsExamined l.share l.done.examined l.done.left (waiting l.round.cursor l.round.mark (node_numbers l.fn.indexes.nodes)) (waiting l.done.cursor l.round.mark (node_numbers l.indexes.nodes));
  nodes : l.indexes.nodes
      ≡ filter (stays_by node_number (is_over l.fn.indexes.config l.fn.indexes.states l.now) (take l.done.examined (waiting l.round.cursor l.round.mark (node_numbers l.fn.indexes.nodes)))) l.fn.indexes.nodes;
  until : NodesHold l.fn.indexes.config l.fn.indexes.states (take l.done.examined (waiting l.round.cursor l.round.mark (node_numbers l.fn.indexes.nodes))) l.done.until l.indexes.nodes;
  looks : l.meter ≡ l.fn.meter + l.done.examined;
}

abbrev pub decreases-loop-done : goal.decreases-loop-done
decreases-loop-done g l = l.done.left
