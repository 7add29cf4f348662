-- Answers of write_report: nothing is written or tallied where a store could not be made (`tells`, `tallies`).
use Rattle.std.proofs.Common.{[], Err, inr, refl, true}
use Rattle.pfs_cli.specs.declared.records.RecordsStop.TheVariants as stop
use Rattle.pfs_cli.proofs.Ending.{tallied-nothing}
use Rattle.pfs_cli.proofs.Telling.{Appends-nothing}
use Rattle.pfs_cli.proofs.reports.write_report.Goals as goal

pub returns-in-Err-clause-tells : goal.returns-in-Err-clause-tells
returns-in-Err-clause-tells g c xs e = ([], Appends-nothing _, inr refl)

pub returns-in-Err-clause-tallies : goal.returns-in-Err-clause-tallies
returns-in-Err-clause-tallies g c xs e = ([], Appends-nothing _, tallied-nothing true c.args.config _ c.args.tally.now (Err stop.Memory) c.requires.none tt)
