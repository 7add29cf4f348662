-- Answers of Indexes::record: there is a record at the place, and it is that of the number.
use Rattle.std.proofs.Common.{◌∙◌, ◌==◌, Some, ap, option_map, sym}
use Rattle.std.specs.List.{find}
use Rattle.pfs_store_contract.specs.declared.records.State.{State}
use Rattle.pfs_store_records.specs.ApartKeys.{rekeyed}
use Rattle.pfs_store_index.specs.Holdings.{Holding, is_reached}
use Rattle.pfs_store_index.proofs.Reached.{reached-stands}
use Rattle.pfs_store_index.proofs.Renewing.{IsKeptAs, kept-as}
use Rattle.pfs_store_index.proofs.indexes.Indexes.record.Goals as goal

pub record_at-requires-clause-held : goal.record_at-requires-clause-held
record_at-requires-clause-held g c =
    reached-stands c.args.found c.self.inside.records (ap (λ (x : Holding). is_reached x.records c.args.found) c.self.view_is ∙ c.requires.reached)

pub returns-clause-value : goal.returns-clause-value
returns-clause-value g c =
    let kept = c.record_at.result.now in
    let k : IsKeptAs c.args.found.number.0 kept c.self.inside.records =
    kept-as c.args.found kept c.self.inside.records c.numbers_rise.ensures (ap (λ (x : Holding). is_reached x.records c.args.found) c.self.view_is ∙ c.requires.reached) c.record_at.ensures.value in
    ap (λ (x : Holding). option_map (rekeyed kept) (find (λ (s : State). s.number == c.args.found.number.0) x.states)) (sym c.self.view_is)
    ∙ ap (option_map (rekeyed kept)) k.found ∙ ap Some k.same
