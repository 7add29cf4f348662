-- Answers of Nodes::get: the tally at the place that the table has for a scope and a source, or none.
use Rattle.std.proofs.Common.{◌∙◌, sym}
use Rattle.indexmap.specs.IndexMap.{get}
use Rattle.pfs_store_records.specs.RecordPlaces.{same_source, tally_in}
use Rattle.pfs_store_records.proofs.NodeLaws.{get-absent, get-found}
use Rattle.pfs_store_records.proofs.nodes.Nodes.get.Goals as goal

pub returns-in-Some : goal.returns-in-Some
returns-in-Some g c =
    rw (sym c.self.view_is)
    (c.copied.ensures ∙ c.get-in-Some.ensures
    ∙ get-found (get same_source c.self.inside.table) (tally_in c.self.inside.slab) c.self.inside.order.entries c.self.inside.counts.rules.items c.self.inside.counts.global c.self.invariant c.args.scope c.args.source c.in-Some.place.now (sym c.in-Some.ensures.value))

pub returns-in-None : goal.returns-in-None
returns-in-None g c =
    rw (sym c.self.view_is)
    (sym (get-absent (get same_source c.self.inside.table) (tally_in c.self.inside.slab) c.self.inside.order.entries c.self.inside.counts.rules.items c.self.inside.counts.global c.self.invariant c.args.scope c.args.source (sym c.in-None.ensures.value)))
