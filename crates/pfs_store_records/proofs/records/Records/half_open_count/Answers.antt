-- Answers of Records::half_open_count: the keys change no phase.
use Rattle.std.proofs.Common.{◌∙◌, List, ap, sym}
use Rattle.pfs_store_contract.specs.Counts.{half_open}
use Rattle.pfs_store_records.specs.Records.{Placed, states_of}
use Rattle.pfs_store_records.proofs.Joining.{half-joined}
use Rattle.pfs_store_records.proofs.records.Records.half_open_count.Goals as goal

pub returns : goal.returns
returns c = c.half_open_count.ensures ∙ sym (half-joined c.self.inside.aside c.self.inside.packed) ∙ ap (λ (ps : List Placed). half_open (states_of ps)) c.self.view_is
