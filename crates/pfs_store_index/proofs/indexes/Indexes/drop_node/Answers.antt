-- Answers of Indexes::drop_node: the node is there and goes (`nodes`), and without it all stays tied.
use Rattle.std.proofs.Common.{◌≡◌, ◌∙◌, ◌==◌, Some, ap, filter, not}
use Rattle.std.specs.List.{find}
use Rattle.pfs_store_contract.specs.Counts.{node_states}
use Rattle.pfs_store_contract.specs.declared.records.Node.{Node}
use Rattle.pfs_store_records.specs.Tallies.{nodes_of}
use Rattle.pfs_store_index.specs.Holdings.{Holding}
use Rattle.pfs_store_index.proofs.Dropping.{node-held, nodes-dropped, tied-dropped}
use Rattle.pfs_store_index.proofs.indexes.Indexes.drop_node.Goals as goal

pub remove-requires : goal.remove-requires
remove-requires g c =
    node-held c.args.node c.self.inside.nodes (ap (λ (h : Holding). find (λ (n : Node). n.number == c.args.node.number) h.nodes) c.self.view_is ∙ c.requires.held)

pub invariant_of-self : goal.invariant_of-self
invariant_of-self g c =
    let f : find (λ (n : Node). n.number == c.args.node.number) (nodes_of c.self.inside.nodes) ≡ Some c.args.node =
    ap (λ (h : Holding). find (λ (n : Node). n.number == c.args.node.number) h.nodes) c.self.view_is ∙ c.requires.held in
    let z = ap (λ (h : Holding). node_states h.config c.args.node.scope c.args.node.source h.states) c.self.view_is ∙ c.requires.stateless in
    rw c.remove.ensures.nodes
    (tied-dropped c.self.inside.config c.self.inside.records c.self.inside.keys c.self.inside.insides c.self.inside.counts.items c.self.inside.nodes c.self.inside.filing c.args.node c.self.invariant c.are_orderly.ensures.rising f z)

pub returns-clause-nodes : goal.returns-clause-nodes
returns-clause-nodes g c =
    ap nodes_of c.remove.ensures.nodes ∙ nodes-dropped c.args.node.number c.self.inside.nodes
    ∙ ap (λ (h : Holding). filter (λ (n : Node). not (n.number == c.args.node.number)) h.nodes) c.self.view_is
