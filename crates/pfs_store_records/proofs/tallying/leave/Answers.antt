-- Answers of leave: the node counts one state less; without a scope, or a node in it, none changes.
use Rattle.std.proofs.Common.{◌∙◌, Option, Some, ap, map, sym}
use Rattle.pfs_store_contract.specs.declared.records.NodeScope.{NodeScope}
use Rattle.pfs_store_records.specs.Changes.{at_node, left_by, left_of}
use Rattle.pfs_store_records.proofs.OneNode.{no-scope}
use Rattle.pfs_store_records.proofs.TallyLaws.{left-here}
use Rattle.pfs_store_records.proofs.tallying.leave.Goals as goal

pub returns-in-None : goal.returns-in-None
returns-in-None g c =
    no-scope c.args.state.now.source (left_of c.args.config.now c.args.state.now c.args.now) c.args.nodes.now
    ∙ ap (λ (o : Option NodeScope). map (at_node o c.args.state.now.source (left_of c.args.config.now c.args.state.now c.args.now)) c.args.nodes.now) (sym c.in-None.is)

pub change-requires : goal.change-requires
change-requires g c = record { can = λ t f. tt }

pub returns-in-Some : goal.returns-in-Some
returns-in-Some g c =
    c.change.ensures.nodes
    ∙ (λ i. map (at_node (Some c.in-Some.scope) c.args.state.now.source (left_by (c.done-connection.ensures i) (c.end_of_retention-expires.ensures i))) c.args.nodes.now)
    ∙ left-here c.args.config.now c.in-Some.scope c.args.state.now.source c.args.state.now c.args.now c.args.nodes.now
    ∙ ap (λ (o : Option NodeScope). map (at_node o c.args.state.now.source (left_of c.args.config.now c.args.state.now c.args.now)) c.args.nodes.now) (sym c.in-Some.is)
