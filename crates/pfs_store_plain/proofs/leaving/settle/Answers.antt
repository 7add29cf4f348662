-- Answer of settle: one node more is settled, and its score is not past the greatest.
use Rattle.std.proofs.Common.{◌<◌, ◌≤◌, length, filter, arith, subst, sym}
use Rattle.std.proofs.lemmas.List.{get_or_default}
use Rattle.std.proofs.lemmas.List.Edits.{map_over_more}
use Rattle.std.proofs.lemmas.List.Elements.{All-set}
use Rattle.pfs_store_contract.specs.Leaving.{node_after_leaving}
use Rattle.pfs_store_contract.specs.declared.records.Node.{Node}
use Rattle.pfs_track.specs.declared.scores.Score.{Score}
use Rattle.pfs_store_plain.proofs.leaving.settle.Goals as goal

pub loop-node-preserved : goal.loop-node-preserved
loop-node-preserved g c =
    let i = c.loop-node.node-index in
    let within : i < length c.loop-node.nodes = omega arith in
    let before = c.args.before.now in
    record {
      nodes =
          rw c.released.ensures.node
          (map_over_more (node_after_leaving c.args.config.now before (filter (g.T.Test.passes c.args.test.now) before) c.args.now) c.args.nodes.now c.loop-node.nodes i _ (omega arith) c.loop-node.invariant.nodes (get_or_default c.loop-node.nodes i _ _ within));
      scores =
          All-set (λ (n : Node). n.score.value ≤ 4294968000) c.loop-node.nodes i c.released.result
          (subst (λ (s : Score). s.value ≤ 4294968000) (sym c.released.ensures.score) (c.loop-node.invariant.scores i _ within)) c.loop-node.invariant.scores;
    }
