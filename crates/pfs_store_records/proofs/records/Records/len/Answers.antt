-- Answers of Records::len: a record with its keys is one record.
use Rattle.std.proofs.Common.{◌∙◌, List, ap, length, sym}
use Rattle.pfs_store_records.specs.Records.{Placed}
use Rattle.pfs_store_records.proofs.Joining.{length-joined}
use Rattle.pfs_store_records.proofs.records.Records.len.Goals as goal

pub returns : goal.returns
returns c = c.len.ensures ∙ sym (length-joined c.self.inside.aside c.self.inside.packed) ∙ ap (λ (ps : List Placed). length ps) c.self.view_is
