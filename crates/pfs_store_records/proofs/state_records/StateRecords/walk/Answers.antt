-- Answer of Records::walk: a walk over slab and order is one over the states of the records (`walk`).
use Rattle.std.proofs.Common.{sym}
use Rattle.pfs_store_records.proofs.state_records.StateRecords.walk.Goals as goal

pub returns-clause-walk : goal.returns-clause-walk
returns-clause-walk g c = rw (sym c.self.view_is) c.walk_range.ensures.walk
