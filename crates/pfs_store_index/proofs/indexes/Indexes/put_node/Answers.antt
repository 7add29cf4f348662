-- Answers of Indexes::put_node: the node comes, or none does where memory is refused, and all stays tied.
use Rattle.std.proofs.Common.{◌≡◌, ◌∙◌, ◌++◌, ◌∷◌, [], List, ap, subst, sym}
use Rattle.pfs_store_contract.specs.Counts.{has_node}
use Rattle.pfs_track.specs.Scores.{zero_score}
use Rattle.pfs_track.specs.declared.scores.Score.{Score}
use Rattle.pfs_store_records.specs.Changes.{IsScope}
use Rattle.pfs_store_records.specs.declared.nodes.NodeTally.{NodeTally}
use Rattle.pfs_store_index.specs.Holdings.{Holding}
use Rattle.pfs_store_index.specs.IndexInvariants.{IsTied}
use Rattle.pfs_store_index.proofs.Comings.{node-absent, on-either}
use Rattle.pfs_store_records.proofs.Searches.{none-any}
use Rattle.pfs_store_index.proofs.Tying.{tied-left_node}
use Rattle.pfs_store_index.proofs.indexes.Indexes.put_node.Goals as goal

pub push-requires-clause-absent : goal.push-requires-clause-absent
push-requires-clause-absent g c =
    node-absent c.args.scope c.args.source c.self.inside.nodes (ap (λ (h : Holding). has_node c.args.scope c.args.source h.nodes) c.self.view_is ∙ c.requires.absent)

pub invariant_of-self : goal.invariant_of-self
invariant_of-self g c =
    let t : NodeTally = record { node = record { number = c.args.number; scope = c.args.scope; source = c.args.source; score = c.default.result; expires = c.args.now }; states = 0; connections = 0 } in
    let z : c.default.result ≡ zero_score = (λ i. record { value = c.default.ensures.0 i; last = c.default.ensures.1 i }) in
    let e : t ≡ record { node = record { number = c.args.number; scope = c.args.scope; source = c.args.source; score = zero_score; expires = c.args.now }; states = 0; connections = 0 } =
    ap (λ (x : Score). record { node = record { number = c.args.number; scope = c.args.scope; source = c.args.source; score = x; expires = c.args.now }; states = 0; connections = 0 }) z in
    let k : IsScope c.self.inside.config c.args.scope = subst (λ (h : Holding). IsScope h.config c.args.scope) (sym c.self.view_is) c.requires.scoped in
    let f = node-absent c.args.scope c.args.source c.self.inside.nodes (ap (λ (h : Holding). has_node c.args.scope c.args.source h.nodes) c.self.view_is ∙ c.requires.absent) in
    on-either c.push.result (λ (ts : List NodeTally). IsTied c.self.inside.config c.self.inside.records c.self.inside.keys c.self.inside.insides c.self.inside.counts.items ts c.self.inside.filing)
    c.self.inside.nodes (c.self.inside.nodes ++ t ∷ []) c.push.new.self c.push.ensures.ok c.push.ensures.err
    (tied-left_node c.self.inside.config c.self.inside.records c.self.inside.keys c.self.inside.insides c.self.inside.counts.items c.self.inside.nodes c.self.inside.filing t c.args.number c.args.scope c.args.source c.args.now e k
    (none-any _ c.self.inside.nodes f) c.self.invariant)
    c.self.invariant
