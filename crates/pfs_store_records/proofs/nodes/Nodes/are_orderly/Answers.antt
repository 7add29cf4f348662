-- Answer of Nodes::are_orderly: the nodes are kept by rising number, and each is the one that the table leads to.
use Rattle.std.proofs.Common.{sym}
use Rattle.indexmap.specs.IndexMap.{get}
use Rattle.pfs_store_records.specs.RecordPlaces.{same_source, tally_in}
use Rattle.pfs_store_records.proofs.NodeLaws.{orderly}
use Rattle.pfs_store_records.proofs.nodes.Nodes.are_orderly.Goals as goal

pub returns : goal.returns
returns g c =
    rw (sym c.self.view_is) (orderly (get same_source c.self.inside.table) (tally_in c.self.inside.slab) c.self.inside.order.entries c.self.invariant.kept)
