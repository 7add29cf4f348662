-- Answers of Records::record_at: the record at a place has all but the keys (`value`).
use Rattle.std.proofs.Common.{◌∙◌, List, ap, subst, sym}
use Rattle.std.specs.List.{list_any}
use Rattle.pfs_store_records.specs.ApartKeys.{IsKeptAt}
use Rattle.pfs_store_records.specs.Records.{Placed, stands_at}
use Rattle.pfs_store_records.proofs.Joining.{kept-joined, stands-joined}
use Rattle.pfs_store_records.proofs.records.Records.record_at.Goals as goal

pub record_at-requires-clause-held : goal.record_at-requires-clause-held
record_at-requires-clause-held c =
    sym (stands-joined c.args.place c.self.inside.aside c.self.inside.packed) ∙ ap (λ (ps : List Placed). list_any (stands_at c.args.place) ps) c.self.view_is ∙ c.requires.held

pub returns-clause-value : goal.returns-clause-value
returns-clause-value c =
    subst (IsKeptAt c.args.place c.record_at.result.now) c.self.view_is (kept-joined c.args.place c.record_at.result.now c.self.inside.aside c.self.inside.packed c.record_at.ensures.value)
