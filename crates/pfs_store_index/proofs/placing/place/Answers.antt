-- Answers of place: where room for the record or the node is refused, what was placed is taken back.
use Rattle.std.proofs.Common.{◌∙◌, ap, filter, refl}
use Rattle.pfs_store_records.specs.Records.{leaves_number, placed_at}
use Rattle.pfs_store_index.proofs.Comings.{push-undone}
use Rattle.pfs_store_index.proofs.SourcePairs.{filed-undone}
use Rattle.pfs_store_index.proofs.Stands.{above-records}
use Rattle.pfs_store_index.proofs.placing.place.Goals as goal

pub returns-in-Err-push-clause-same_filed : goal.returns-in-Err-push-clause-same_filed
returns-in-Err-push-clause-same_filed g c = λ d.
    filed-undone c.args.profile d c.args.state.now c.args.filing.now c.insert.new.self c.remove.new.self (c.requires.absent d (c.insert.ensures.addr d)) (c.in-Ok.ensures.ok d) (c.remove.ensures.filed d)

pub returns-in-Err-join-clause-same_records : goal.returns-in-Err-join-clause-same_records
returns-in-Err-join-clause-same_records g c =
    c.remove-in-Err-join.ensures.records ∙ ap (filter (leaves_number c.args.state.now.number)) c.in-Ok-push.ensures.records
    ∙ push-undone c.args.state.now c.args.records.now (placed_at c.in-Ok-push.place c.args.state.now) refl (above-records c.args.state.now.number c.args.records.now c.requires.above)

pub returns-in-Err-join-clause-same_filed : goal.returns-in-Err-join-clause-same_filed
returns-in-Err-join-clause-same_filed g c = λ d.
    filed-undone c.args.profile d c.args.state.now c.args.filing.now c.insert.new.self c.remove-in-Err-join-2.new.self (c.requires.absent d (c.insert.ensures.addr d)) (c.in-Ok.ensures.ok d) (c.remove-in-Err-join-2.ensures.filed d)
