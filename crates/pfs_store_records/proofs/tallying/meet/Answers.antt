-- Answers of meet: where nothing is asked of a packet that completes no handshake, or the rule tracks no sources, no node changes (`nodes`).
use Rattle.std.proofs.Common.{◌∙◌, Option, ap, map}
use Rattle.pfs_conf_values.specs.Configs.{options_of}
use Rattle.pfs_store_contract.specs.Counts.{node_scope_of}
use Rattle.pfs_store_contract.specs.declared.records.NodeScope.{NodeScope}
use Rattle.pfs_store_records.specs.Changes.{at_node, met_by}
use Rattle.pfs_store_records.proofs.OneNode.{no-scope}
use Rattle.pfs_store_records.proofs.TallyLaws.{unmet}
use Rattle.pfs_store_records.proofs.tallying.meet.Goals as goal

pub returns-then-not-completed-clause-nodes : goal.returns-then-not-completed-clause-nodes
returns-then-not-completed-clause-nodes g c =
    unmet (node_scope_of c.args.config.now c.args.rule.0) c.args.source (options_of c.args.config.now c.args.rule.0).max_src_conn_rate c.args.now c.args.completed c.if-not-completed.true.1 c.args.nodes.now

pub returns-in-None-clause-nodes : goal.returns-in-None-clause-nodes
returns-in-None-clause-nodes g c =
    let f = met_by (options_of c.args.config.now c.args.rule.0).max_src_conn_rate c.args.now c.args.completed in
    no-scope c.args.source f c.args.nodes.now ∙ ap (λ (o : Option NodeScope). map (at_node o c.args.source f) c.args.nodes.now) c.in-None.ensures
