-- Answers of Indexes::source_count: whether there is a node (`some`), and how many states it has (`value`).
use Rattle.std.proofs.Common.{◌∙◌, ap, is_some, sym}
use Rattle.pfs_store_contract.specs.Counts.{has_node, node_states}
use Rattle.pfs_store_records.specs.Records.{states_of}
use Rattle.pfs_store_records.specs.Tallies.{is_tally}
use Rattle.pfs_store_records.specs.declared.nodes.NodeTally.{NodeTally}
use Rattle.pfs_store_index.specs.Holdings.{Holding}
use Rattle.pfs_store_index.specs.IndexInvariants.{IsCounted}
use Rattle.pfs_store_index.proofs.Comings.{has_node-tally}
use Rattle.pfs_store_records.proofs.OneNode.{scope_is, source_is}
use Rattle.pfs_store_records.proofs.Searches.{found-all, found-passes}
use Rattle.pfs_store_index.proofs.indexes.Indexes.source_count.Goals as goal

pub returns-in-Some-clause-some : goal.returns-in-Some-clause-some
returns-in-Some-clause-some g c =
    ap is_some c.in-Some.ensures ∙ sym (has_node-tally c.args.scope c.args.source c.self.inside.nodes) ∙ ap (λ (h : Holding). has_node c.args.scope c.args.source h.nodes) c.self.view_is

pub returns-in-Some-clause-value : goal.returns-in-Some-clause-value
returns-in-Some-clause-value g c =
    let t = c.in-Some.tally in
    let f = sym c.in-Some.ensures in
    let k = found-all (IsCounted c.self.inside.config (states_of c.self.inside.records)) (is_tally c.args.scope c.args.source) t c.self.inside.nodes c.self.invariant.counted f in
    let i = found-passes (is_tally c.args.scope c.args.source) t c.self.inside.nodes f in
    ap (λ (u : NodeTally). u.states) k ∙ (λ j. node_states c.self.inside.config (scope_is c.args.scope c.args.source t i j) (source_is c.args.scope c.args.source t i j) (states_of c.self.inside.records))
    ∙ ap (λ (h : Holding). node_states h.config c.args.scope c.args.source h.states) c.self.view_is

pub returns-in-None-clause-some : goal.returns-in-None-clause-some
returns-in-None-clause-some g c =
    ap is_some c.in-None.ensures ∙ sym (has_node-tally c.args.scope c.args.source c.self.inside.nodes) ∙ ap (λ (h : Holding). has_node c.args.scope c.args.source h.nodes) c.self.view_is
