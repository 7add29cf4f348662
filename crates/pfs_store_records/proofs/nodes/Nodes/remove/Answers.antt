-- Answers of Nodes::remove: the node is there, leaves (`nodes`), and is counted no more; all are `orderly`.
use Rattle.std.proofs.Common.{◌∙◌, ap, filter, sym}
use Rattle.indexmap.specs.IndexMap.{get}
use Rattle.pfs_store_records.specs.RecordPlaces.{NodeIsAt, number_of_node, same_source, source_of_node, tally_in}
use Rattle.pfs_store_records.specs.Tallies.{other_node}
use Rattle.pfs_store_records.proofs.Ordered.{found, held-removed, in_none}
use Rattle.pfs_store_records.proofs.NodeLaws.{has_key, noted-removed, orderly, some-noted, updated-slab, updated-table}
use Rattle.pfs_store_records.proofs.nodes.Nodes.remove.Goals as goal

pub remove-tally-requires : goal.remove-tally-requires
remove-tally-requires g c =
    let f = found number_of_node (NodeIsAt (get same_source c.self.inside.table)) (tally_in c.self.inside.slab) c.args.number c.in-Some.place c.self.inside.order.entries c.self.invariant.kept.placed (sym c.in-Some.ensures.value) in
    has_key c.self.inside.slab c.in-Some.place f.0 f.1

pub take-requires : goal.take-requires
take-requires g c =
    some-noted (get same_source c.self.inside.table) (tally_in c.self.inside.slab) c.args.number c.in-Some.place c.remove-tally.result c.self.inside.order.entries c.self.inside.counts.rules.items c.self.inside.counts.global c.self.invariant
    (sym c.in-Some.ensures.value) c.remove-tally.ensures.value

pub invariant_of-self : goal.invariant_of-self
invariant_of-self g c =
    noted-removed (get same_source c.self.inside.table) (get same_source c.swap_remove.new.self) (tally_in c.self.inside.slab) (tally_in c.remove-tally.new.self) c.args.number c.in-Some.place c.remove-tally.result c.self.inside.order.entries c.remove.new.self.entries
    c.self.inside.counts.rules.items c.take.new.self.rules.items c.self.inside.counts.global c.take.new.self.global
    (sym c.in-Some.ensures.value) c.remove-tally.ensures.value
    (updated-table (get same_source c.self.inside.table) (get same_source c.swap_remove.new.self) (source_of_node c.remove-tally.result) _ c.swap_remove.ensures.updates.0)
    (updated-slab c.self.inside.slab c.remove-tally.new.self c.in-Some.place _ c.remove-tally.ensures.updates)
    c.remove.ensures.entries c.remove.ensures.ordered c.remove.ensures.updates c.take.ensures c.self.invariant

pub unreachable-requires : goal.unreachable-requires
unreachable-requires g c =
    in_none number_of_node (NodeIsAt (get same_source c.self.inside.table)) (tally_in c.self.inside.slab) c.args.number c.self.inside.order.entries c.self.invariant.kept.placed (sym c.in-None.ensures.value) (rw c.self.view_is c.requires)

pub returns-clause-nodes : goal.returns-clause-nodes
returns-clause-nodes g c =
    held-removed number_of_node (NodeIsAt (get same_source c.self.inside.table)) (tally_in c.self.inside.slab) (tally_in c.remove-tally.new.self) c.in-Some.place c.args.number c.self.inside.order.entries c.remove.new.self.entries
    (sym c.in-Some.ensures.value) (updated-slab c.self.inside.slab c.remove-tally.new.self c.in-Some.place _ c.remove-tally.ensures.updates) c.self.invariant.kept c.remove.ensures.entries
    ∙ ap (filter (other_node c.args.number)) c.self.view_is

pub returns-clause-orderly : goal.returns-clause-orderly
returns-clause-orderly g c = orderly (get same_source c.swap_remove.new.self) (tally_in c.remove-tally.new.self) c.remove.new.self.entries (invariant_of-self g c).kept
