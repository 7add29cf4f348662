-- Answer of Nodes::new: no nodes are `orderly`.
use Rattle.pfs_store_records.proofs.NodeLaws.{orderly-nil}
use Rattle.pfs_store_records.proofs.nodes.Nodes.new.Goals as goal

pub returns-clause-orderly : goal.returns-clause-orderly
returns-clause-orderly g c = rw c.new-2.ensures.empty orderly-nil
