-- Answer of Nodes::len: there are as many nodes as numbers in order.
use Rattle.std.proofs.Common.{length, ◌∙◌, ap, sym}
use Rattle.indexmap.specs.IndexMap.{get}
use Rattle.pfs_store_records.specs.RecordPlaces.{NodeIsAt, number_of_node, same_source, tally_in}
use Rattle.pfs_store_records.proofs.Ordered.{length-held}
use Rattle.pfs_store_records.proofs.nodes.Nodes.len.Goals as goal

pub returns : goal.returns
returns g c =
    c.len.ensures.len ∙ sym (length-held number_of_node (NodeIsAt (get same_source c.self.inside.table)) (tally_in c.self.inside.slab) c.self.inside.order.entries c.self.invariant.kept.placed) ∙ ap length c.self.view_is
