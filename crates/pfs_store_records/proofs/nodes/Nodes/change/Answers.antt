-- Answers of Nodes::change: the tally at the place that the table has is changed alone (`nodes`); where the table has none, no node is there.
use Rattle.std.proofs.Common.{◌≡◌, ◌∙◌, Option, Some, ap, map, option_map, refl, sym}
use Rattle.std.specs.List.{find}
use Rattle.indexmap.specs.IndexMap.{get}
use Rattle.slab.specs.Slab.{with_value}
use Rattle.slab.proofs.SlabLemmas.{Updates-with_value}
use Rattle.pfs_addr_values.specs.declared.addresses.Addr.{Addr}
use Rattle.pfs_store_contract.specs.declared.records.NodeScope.{NodeScope}
use Rattle.pfs_store_records.specs.Changes.{at_node, changed_by}
use Rattle.pfs_store_records.specs.RecordPlaces.{same_source, source_of_node, tally_in, values_at}
use Rattle.pfs_store_records.specs.Tallies.{IsOrderly, IsTallied, is_tally, put_tally}
use Rattle.pfs_store_records.specs.declared.nodes.NodeTally.{NodeTally}
use Rattle.pfs_store_records.proofs.NodeLaws.{at_tally, get-absent, get-found, has_key, noted-written, orderly, updated-slab, view-tally}
use Rattle.pfs_store_records.proofs.OneNode.{IsFaithful, none-at, put-at, tallied-at}
use Rattle.pfs_store_records.proofs.TallyLaws.{changed-faithful, rising-tallies}
use Rattle.pfs_store_records.proofs.nodes.Nodes.change.Goals as goal

-- the changed tally has the scope and the source that were looked up
source-kept : (f : NodeTally → NodeTally) → IsFaithful f → (v t u : NodeTally) (source : NodeScope × Addr) (o : Option NodeTally) → v ≡ f t → o ≡ Some t → o ≡ Some u → source_of_node u ≡ source → source_of_node v ≡ source
source-kept f k v t u source o e h g s =
    let q : t ≡ u = cc (h, g) in
    ap source_of_node e ∙ (λ i. (k.scope t i, k.source t i)) ∙ ap source_of_node q ∙ s

found : (g : _) (c : goal.After-before-1 g) → find (is_tally c.args.scope c.args.source) c.args.self.now ≡ Some c.index-before.result.now
found g c =
    rw (sym c.self.view_is)
    (sym (get-found (get same_source c.self.inside.table) (tally_in c.self.inside.slab) c.self.inside.order.entries c.self.inside.counts.rules.items c.self.inside.counts.global c.self.invariant c.args.scope c.args.source c.in-Some.place.now (sym c.in-Some.ensures.value))
    ∙ c.index-before.ensures)

tallied : (g : _) (c : goal.After-self-1 g) → IsTallied c.changed-tally.result c.args.self.now
tallied g c =
    let k = changed-faithful c.args.change in
    let t = c.index-before.result.now in
    let e = c.changed-tally.ensures in
    tallied-at c.args.scope c.args.source c.changed-tally.result t c.args.self.now (found g c.before.before.before.before)
    (ap (λ (u : NodeTally). u.node.scope) e ∙ k.scope t) (ap (λ (u : NodeTally). u.node.source) e ∙ k.source t) (ap (λ (u : NodeTally). u.node.number) e ∙ k.number t)

-- the table leads from the changed tally to its place
placed : (g : _) (c : goal.After-self-1 g) → get same_source c.self.inside.table (source_of_node c.changed-tally.result) ≡ Some c.in-Some.place.now
placed g c =
    let a = sym c.in-Some.ensures.value in
    let f = c.self.invariant.found (c.args.scope, c.args.source) c.in-Some.place.now a in
    ap (get same_source c.self.inside.table) (source-kept (changed_by c.args.change) (changed-faithful c.args.change) c.changed-tally.result c.index-before.result.now f.0 (c.args.scope, c.args.source) (tally_in c.self.inside.slab c.in-Some.place.now) c.changed-tally.ensures c.index-before.ensures f.1 f.2) ∙ a

pub index-before-requires : goal.index-before-requires
index-before-requires g c =
    let f = c.self.invariant.found (c.args.scope, c.args.source) c.in-Some.place.now (sym c.in-Some.ensures.value) in
    has_key c.self.inside.slab c.in-Some.place.now f.0 f.1

pub changed-tally-requires : goal.changed-tally-requires
changed-tally-requires g c =
    c.requires.can c.index-before.result.now (rw (sym c.self.view_is)
    (sym (get-found (get same_source c.self.inside.table) (tally_in c.self.inside.slab) c.self.inside.order.entries c.self.inside.counts.rules.items c.self.inside.counts.global c.self.invariant c.args.scope c.args.source c.in-Some.place.now (sym c.in-Some.ensures.value))
    ∙ c.index-before.ensures))

-- the tallies after it
listed : (g : _) (c : goal.After-self-1 g) → values_at (tally_in (with_value c.self.inside.slab c.in-Some.place.now c.changed-tally.result)) c.self.inside.order.entries
    ≡ map (at_node (Some c.args.scope) c.args.source (changed_by c.args.change)) c.args.self.now
listed g c =
    let v = c.changed-tally.result in
    let t = c.index-before.result.now in
    let k = changed-faithful c.args.change in
    let e = c.changed-tally.ensures in
    let a = placed g c in
    let f = c.self.invariant.found (source_of_node v) c.in-Some.place.now a in
    let u = updated-slab c.self.inside.slab (with_value c.self.inside.slab c.in-Some.place.now v) c.in-Some.place.now _ (Updates-with_value c.self.inside.slab c.in-Some.place.now v (has_key c.self.inside.slab c.in-Some.place.now f.0 f.1)) in
    let l = at_tally (get same_source c.self.inside.table) (tally_in c.self.inside.slab) v c.self.inside.order.entries c.self.invariant.kept (rw c.self.view_is (tallied g c)) c.in-Some.place.now a in
    let o : IsOrderly c.args.self.now = rw (sym c.self.view_is) (orderly (get same_source c.self.inside.table) (tally_in c.self.inside.slab) c.self.inside.order.entries c.self.invariant.kept) in
    view-tally (get same_source c.self.inside.table) (tally_in c.self.inside.slab) (tally_in (with_value c.self.inside.slab c.in-Some.place.now v)) v c.in-Some.place.now c.self.inside.order.entries l u c.self.invariant.kept
    ∙ ap (map (put_tally v)) c.self.view_is
    ∙ put-at c.args.scope c.args.source v t (changed_by c.args.change) c.args.self.now (rising-tallies c.args.self.now o.rising) o.distinct (found g c.before.before.before.before) (ap (λ (x : NodeTally). x.node.number) e ∙ k.number t) (sym e)

pub invariant_of-self : goal.invariant_of-self
invariant_of-self g c =
    let v = c.changed-tally.result in
    let a = placed g c in
    let f = c.self.invariant.found (source_of_node v) c.in-Some.place.now a in
    let u = updated-slab c.self.inside.slab (with_value c.self.inside.slab c.in-Some.place.now v) c.in-Some.place.now _ (Updates-with_value c.self.inside.slab c.in-Some.place.now v (has_key c.self.inside.slab c.in-Some.place.now f.0 f.1)) in
    let l = at_tally (get same_source c.self.inside.table) (tally_in c.self.inside.slab) v c.self.inside.order.entries c.self.invariant.kept (rw c.self.view_is (tallied g c)) c.in-Some.place.now a in
    noted-written (get same_source c.self.inside.table) (tally_in c.self.inside.slab) (tally_in (with_value c.self.inside.slab c.in-Some.place.now v)) v c.in-Some.place.now c.self.inside.order.entries c.self.inside.counts.rules.items c.self.inside.counts.global a l u c.self.invariant

pub returns-in-Some-clause-nodes : goal.returns-in-Some-clause-nodes
returns-in-Some-clause-nodes g c = listed g c

pub returns-in-Some-clause-tally : goal.returns-in-Some-clause-tally
returns-in-Some-clause-tally g c = ap Some c.changed-tally.ensures ∙ sym (ap (option_map (changed_by c.args.change)) (found g c.before.before.before.before))

pub returns-in-None-clause-absent : goal.returns-in-None-clause-absent
returns-in-None-clause-absent g c = λ e. (
  refl,
  rw (sym c.self.view_is)
      (get-absent (get same_source c.self.inside.table) (tally_in c.self.inside.slab) c.self.inside.order.entries c.self.inside.counts.rules.items c.self.inside.counts.global c.self.invariant c.args.scope c.args.source (sym c.in-None.ensures.value)),
)

pub returns-in-None-clause-nodes : goal.returns-in-None-clause-nodes
returns-in-None-clause-nodes g c = none-at c.args.scope c.args.source (changed_by c.args.change) c.args.self.now (returns-in-None-clause-absent g c refl).1

pub returns-in-None-clause-tally : goal.returns-in-None-clause-tally
returns-in-None-clause-tally g c = sym (ap (option_map (changed_by c.args.change)) (returns-in-None-clause-absent g c refl).1)
