-- Answer of Records::len: there are as many records as numbers in order.
use Rattle.std.proofs.Common.{length, ◌∙◌, ap, sym}
use Rattle.pfs_store_records.specs.RecordPlaces.{number_in, RecordIsAt, record_in}
use Rattle.pfs_store_records.proofs.Ordered.{length-held}
use Rattle.pfs_store_records.proofs.state_records.StateRecords.len.Goals as goal

pub returns : goal.returns
returns c =
    c.len.ensures.len ∙ sym (length-held number_in RecordIsAt (record_in c.self.inside.slab) c.self.inside.places.entries c.self.invariant.kept.placed) ∙ ap length c.self.view_is
