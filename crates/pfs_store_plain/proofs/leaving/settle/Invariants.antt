-- Invariant of settle: the nodes so far are settled, the others as before, no score past the greatest.
use Rattle.std.proofs.Common.{◌≡◌, ◌++◌, take, drop, map, filter}
use Rattle.pfs_store_contract.specs.Leaving.{node_after_leaving}
use Rattle.pfs_store_plain.specs.PlainRoom.{AreScores}
use Rattle.pfs_store_plain.proofs.leaving.settle.Given as goal

-- those so far are settled, and no score is past the greatest
abbrev pub invariant-loop-node : goal.invariant-loop-node
invariant-loop-node g l = record {
  nodes : l.nodes
      ≡ map (node_after_leaving l.config l.before (filter (g.T.Test.passes l.test) l.before) l.now) (take l.node-index l.initial.nodes) ++ drop l.node-index l.initial.nodes;
  scores : AreScores l.nodes;
}
