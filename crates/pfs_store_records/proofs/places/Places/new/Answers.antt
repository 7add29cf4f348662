-- Answer of Places::new: no numbers rise.
use Rattle.pfs_store_records.proofs.Reversed.{rising-reversed}
use Rattle.pfs_store_records.proofs.places.Places.new.Goals as goal

pub returns-clause-ordered : goal.returns-clause-ordered
returns-clause-ordered c = rising-reversed c.new.result.entries c.new.ensures.ordered
