-- Invariant of rescore: the nodes so far are rescored, the others as before, with no handshake after now.
use Rattle.std.proofs.Common.{◌≡◌, ◌≤◌, ◌++◌, take, drop, map, length}
use Rattle.std.specs.List.{AllWithin}
use Rattle.pfs_store_plain.specs.PlainRoom.{AreScores}
use Rattle.pfs_store_contract.specs.Touching.{node_after_handshake}
use Rattle.pfs_store_contract.specs.declared.records.Node.{Node}
use Rattle.pfs_store_plain.proofs.touching.rescore.Given as goal

-- the nodes so far are done; of the others the last handshake came before now; no score is past the greatest
abbrev pub invariant-loop-node : goal.invariant-loop-node
invariant-loop-node l = record {
  nodes : l.nodes
      ≡ map (node_after_handshake l.scope l.source l.rate.seconds l.now) (take l.node-index l.initial.nodes) ++ drop l.node-index l.initial.nodes;
  order : AllWithin (λ (n : Node). n.score.last ≤ l.now) l.nodes l.node-index (length l.nodes);
  scores : AreScores l.nodes;
}
