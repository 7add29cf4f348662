-- Answer of Nodes::order: the numbers of the nodes are those of the map (`numbers`).
use Rattle.std.proofs.Common.{◌∙◌, List, ap, sym}
use Rattle.indexmap.specs.IndexMap.{get}
use Rattle.pfs_store_contract.specs.Purging.{node_numbers}
use Rattle.pfs_store_records.specs.RecordPlaces.{NodeIsAt, number_of_node, same_source, tally_in}
use Rattle.pfs_store_records.specs.Tallies.{nodes_of}
use Rattle.pfs_store_records.specs.declared.nodes.NodeTally.{NodeTally}
use Rattle.pfs_store_records.proofs.NodeLaws.{numbers-nodes}
use Rattle.pfs_store_records.proofs.Ordered.{numbers-held}
use Rattle.pfs_store_records.proofs.nodes.Nodes.order.Goals as goal

pub returns-clause-numbers : goal.returns-clause-numbers
returns-clause-numbers g c =
    sym (ap (λ (ts : List NodeTally). node_numbers (nodes_of ts)) (sym c.self.view_is) ∙ numbers-nodes _
    ∙ numbers-held number_of_node (NodeIsAt (get same_source c.self.inside.table)) (tally_in c.self.inside.slab) c.self.inside.order.entries c.self.invariant.kept.placed)
