-- Answers of Nodes::walk: a walk over slab and order is one over the tallies (`passing`, `until`, `leaver`).
use Rattle.std.proofs.Common.{sym}
use Rattle.indexmap.specs.IndexMap.{get}
use Rattle.pfs_store_records.specs.RecordPlaces.{same_source, tally_in}
use Rattle.pfs_store_records.proofs.NodeLaws.{kept-anywhere}
use Rattle.pfs_store_records.proofs.nodes.Nodes.walk.Goals as goal

pub walk_range-requires-clause-kept : goal.walk_range-requires-clause-kept
walk_range-requires-clause-kept g c =
    kept-anywhere (get same_source c.self.inside.table) (tally_in c.self.inside.slab) c.self.inside.order.entries c.self.invariant.kept

pub returns-clause-passing : goal.returns-clause-passing
returns-clause-passing g c = rw (sym c.self.view_is) c.walk_range.ensures.passing

pub returns-clause-until : goal.returns-clause-until
returns-clause-until g c = rw (sym c.self.view_is) c.walk_range.ensures.until

pub returns-clause-leaver : goal.returns-clause-leaver
returns-clause-leaver g c = rw (sym c.self.view_is) c.walk_range.ensures.leaver
