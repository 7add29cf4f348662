-- Answers of Records::read_at: the state of the record at a place, with the keys that lie aside for it (`value`).
use Rattle.std.proofs.Common.{◌∙◌, List, ap, sym}
use Rattle.std.specs.List.{list_any}
use Rattle.pfs_store_records.specs.Records.{Placed, stands_at}
use Rattle.pfs_store_records.proofs.Joining.{record-joined, stands-joined}
use Rattle.pfs_store_records.proofs.records.Records.read_at.Goals as goal

pub read_at-state-requires-clause-held : goal.read_at-state-requires-clause-held
read_at-state-requires-clause-held c =
    sym (stands-joined c.args.place c.self.inside.aside c.self.inside.packed) ∙ ap (λ (ps : List Placed). list_any (stands_at c.args.place) ps) c.self.view_is ∙ c.requires.held

pub returns-clause-value : goal.returns-clause-value
returns-clause-value c =
    rw (c.join.ensures, sym c.self.view_is) (record-joined c.args.place c.read_at-state.result c.self.inside.aside c.self.inside.packed c.read_at-state.ensures.value)
