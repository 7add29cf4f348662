-- Answers of write_report_over: what the engine of this configuration reports, and that nothing is written where
-- it could not be made (`tells`); and its tally (`tallies`).
use Rattle.std.proofs.Common.{[], Err, inr, refl}
use Rattle.pfs_trace.specs.Reading.{records_of}
use Rattle.pfs_cli.specs.declared.records.RecordsStop.TheVariants as stop
use Rattle.pfs_cli.proofs.Ending.{tallied-nothing, tallied-under}
use Rattle.pfs_cli.proofs.Telling.{Appends-nothing, ends-under}
use Rattle.pfs_cli.proofs.reports.write_report_over.Goals as goal

pub returns-in-Ok-clause-tells : goal.returns-in-Ok-clause-tells
returns-in-Ok-clause-tells g c xs e =
    ends-under c.args.config _ (records_of xs) _ _ _ c.in-Ok.ensures.config (c.tell_records.ensures.tells xs e)

pub returns-in-Err-clause-tells : goal.returns-in-Err-clause-tells
returns-in-Err-clause-tells g c xs e = ([], Appends-nothing _, inr refl)

pub returns-in-Ok-clause-tallies : goal.returns-in-Ok-clause-tallies
returns-in-Ok-clause-tallies g c xs e =
    tallied-under g.H.Store.counts c.args.config _ (records_of xs) _ _ _ _ c.in-Ok.ensures.config (c.tell_records.ensures.tallies xs e)

pub returns-in-Err-clause-tallies : goal.returns-in-Err-clause-tallies
returns-in-Err-clause-tallies g c xs e = ([], Appends-nothing _, tallied-nothing g.H.Store.counts c.args.config _ _ (Err stop.Memory) c.none.ensures tt)
