-- Answers of StateRecords::record_at: there is a record at the place, and it is the one that is returned (`value`).
use Rattle.std.proofs.Common.{sym}
use Rattle.pfs_store_records.proofs.RecordLaws.{records-at, stands}
use Rattle.pfs_store_records.proofs.state_records.StateRecords.record_at.Goals as goal

pub look-requires-clause-held : goal.look-requires-clause-held
look-requires-clause-held c =
    stands c.args.place c.self.inside.slab c.self.inside.places.entries c.self.invariant.kept.placed (rw c.self.view_is c.requires.held)

pub returns-clause-value : goal.returns-clause-value
returns-clause-value c =
    rw (sym c.self.view_is) (records-at c.args.place c.look.result.now c.self.inside.slab c.self.inside.places.entries c.look.ensures.value c.self.invariant.kept.placed)
