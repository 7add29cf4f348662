-- Answer of rescore: one node more is gone through, rescored if it is the one, no score past the greatest.
use Rattle.std.proofs.Common.{◌<◌, ◌≤◌, ◌≢◌, length, arith, get_or-set_other}
use Rattle.std.proofs.lemmas.List.{get_or_default, length-set}
use Rattle.std.proofs.lemmas.List.Edits.{map_over_more}
use Rattle.std.proofs.lemmas.List.Elements.{All-set}
use Rattle.pfs_store_contract.specs.Touching.{node_after_handshake}
use Rattle.pfs_store_contract.specs.declared.records.Node.{Node}
use Rattle.pfs_store_plain.proofs.touching.rescore.Goals as goal

pub loop-node-preserved : goal.loop-node-preserved
loop-node-preserved c =
    let i = c.loop-node.node-index in
    let within : i < length c.loop-node.nodes = omega arith in
    record {
      nodes =
          rw c.rescored.ensures.value
          (map_over_more (node_after_handshake c.args.scope c.args.source c.args.rate.seconds c.args.now) c.args.nodes.now c.loop-node.nodes i _ (omega arith) c.loop-node.invariant.nodes (get_or_default c.loop-node.nodes i _ _ within));
      order = λ k d after below.
          let other : k ≢ i = omega arith in
          let inside : k < length c.loop-node.nodes = omega (arith, length-set c.loop-node.nodes i c.rescored.result) in
          rw get_or-set_other (c.loop-node.invariant.order k d (omega arith) inside);
      scores = All-set (λ (n : Node). n.score.value ≤ 4294968000) c.loop-node.nodes i c.rescored.result c.rescored.ensures.bounded c.loop-node.invariant.scores;
    }
