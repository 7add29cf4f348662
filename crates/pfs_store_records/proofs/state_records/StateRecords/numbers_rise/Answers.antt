-- Answer of Records::numbers_rise: the records are kept by rising number.
use Rattle.std.proofs.Common.{sym}
use Rattle.pfs_store_records.proofs.RecordLaws.{rising-states}
use Rattle.pfs_store_records.proofs.state_records.StateRecords.numbers_rise.Goals as goal

pub returns : goal.returns
returns c =
    rw (sym c.self.view_is) (rising-states c.self.inside.slab c.self.inside.places.entries c.self.invariant.kept)
