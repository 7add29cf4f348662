-- Answers of replay: the report, also of refused rules (`reports`), and its tally (`work`), their fault (`refused`, `rules_alone`), a feed that gives no more (`read`,
-- `endless`, `memory`, `waits`), and what is flushed (`shows`).
use Rattle.std.proofs.Common.{◌≡◌, ◌<◌, [], arith, refl, inr}
use Rattle.pfs_cli.specs.declared.faults.ReplayFault.TheVariants as fault
use Rattle.pfs_cli.proofs.Replaying.{cut-tally, lent-gives, refused-tally, rules-cut, run-tally, text-refused, told-refused}
use Rattle.pfs_cli.proofs.Telling.{Appends-nothing, Appends-kept}
use Rattle.pfs_cli.proofs.Checking.{unwritten-shows}
use Rattle.pfs_streams.proofs.Flushing.{then-flushed, unwritten-flushed}
use Rattle.pfs_cli.proofs.replays.replay.Goals as goal

pub returns-in-Err-clause-reports : goal.returns-in-Err-clause-reports
returns-in-Err-clause-reports g c rs ts er et = ([], Appends-nothing _, text-refused rs ts c.in-Err.fault (c.in-Err.ensures.err rs er))

pub returns-in-Err-clause-refused : goal.returns-in-Err-clause-refused
returns-in-Err-clause-refused g c rs f er is =
    let same : c.in-Err.fault ≡ fault.Rules f = cc in
    told-refused rs c.in-Err.fault f (c.in-Err.ensures.err rs er) same

pub returns-in-Err-read-clause-reports : goal.returns-in-Err-read-clause-reports
returns-in-Err-read-clause-reports g c rs ts er et = ([], Appends-nothing _, rules-cut rs ts c.feed_fault.result c.feed_fault.ensures.kinds)

pub returns-clause-reports : goal.returns-clause-reports
returns-clause-reports g c rs ts er et =
    let conf = c.in-Ok.config in
    let given = lent-gives ts _ _ _ _ _ et c.in-Ok-read.ensures.bytes.0 (c.lend.ensures.bytes g.T.Read.remaining) c.chain-lent.ensures.bytes in
    let (t, grown, told) = c.write_report-outcome.ensures.tells ts given in
    (t, Appends-kept _ _ _ t grown c.finish.ensures.kept, c.finish.ensures.told conf rs ts t (c.in-Ok.ensures.ok rs er) told)

pub returns-clause-refused : goal.returns-clause-refused
returns-clause-refused g c rs f er is = absurd (c.finish.ensures.no_rules f is)

pub returns-clause-read : goal.returns-clause-read
returns-clause-read g c is = inr (c.finish.ensures.read is)

pub returns-clause-endless : goal.returns-clause-endless
returns-clause-endless g c is = inr (c.finish.ensures.endless is)

pub returns-in-Err-clause-rules_alone : goal.returns-in-Err-clause-rules_alone
returns-in-Err-clause-rules_alone g c rs er none = (c.in-Err.ensures.err rs er, refl)

pub returns-in-Err-read-clause-rules_alone : goal.returns-in-Err-read-clause-rules_alone
returns-in-Err-read-clause-rules_alone g c rs er none = absurd (none c.in-Ok.config (c.in-Ok.ensures.ok rs er))

pub returns-clause-rules_alone : goal.returns-clause-rules_alone
returns-clause-rules_alone g c rs er none = absurd (none c.in-Ok.config (c.in-Ok.ensures.ok rs er))

pub returns-clause-unwritten : goal.returns-clause-unwritten
returns-clause-unwritten g c f is = absurd (c.finish.ensures.no_rules f is)

pub returns-clause-waits : goal.returns-clause-waits
returns-clause-waits g c fresh failed once = let more : 1 < 1 = rw once at (c.resume.ensures.begun.1 failed) in absurd (omega arith)

pub returns-clause-memory : goal.returns-clause-memory
returns-clause-memory g c is = (c.in-Ok.ensures.sound, inr (c.finish.ensures.memory is))

pub returns-in-Err-clause-shows : goal.returns-in-Err-clause-shows
returns-in-Err-clause-shows g c = unwritten-shows c.args.out.now c.in-Err.fault c.requires.passed_on

pub returns-in-Err-read-clause-shows : goal.returns-in-Err-read-clause-shows
returns-in-Err-read-clause-shows g c = unwritten-shows c.args.out.now c.feed_fault.result c.requires.passed_on

pub returns-in-Err-clause-flushes : goal.returns-in-Err-clause-flushes
returns-in-Err-clause-flushes g c = unwritten-flushed c.args.out.now

pub returns-in-Err-read-clause-flushes : goal.returns-in-Err-read-clause-flushes
returns-in-Err-read-clause-flushes g c = unwritten-flushed c.args.out.now

pub returns-clause-flushes : goal.returns-clause-flushes
returns-clause-flushes g c =
    then-flushed c.args.out.now c.write_report-outcome.new.out c.finish.new.out c.write_report-outcome.ensures.flushes c.finish.ensures.flushes

pub returns-in-Err-clause-work : goal.returns-in-Err-clause-work
returns-in-Err-clause-work g c rs ts er et = ([], Appends-nothing _, refused-tally rs ts c.in-Err.fault _ (c.in-Err.ensures.err rs er) c.none.ensures)

pub returns-in-Err-read-clause-work : goal.returns-in-Err-read-clause-work
returns-in-Err-read-clause-work g c rs ts er et = ([], Appends-nothing _, cut-tally rs ts c.feed_fault.result _ c.feed_fault.ensures.kinds c.none.ensures)

pub returns-clause-work : goal.returns-clause-work
returns-clause-work g c rs ts er et =
    let conf = c.in-Ok.config in
    let given = lent-gives ts _ _ _ _ _ et c.in-Ok-read.ensures.bytes.0 (c.lend.ensures.bytes g.T.Read.remaining) c.chain-lent.ensures.bytes in
    let (t, grown, is) = c.write_report-outcome.ensures.tallies ts given in
    (t, Appends-kept _ _ _ t grown c.finish.ensures.kept, run-tally conf rs ts t _ c.finish.result _ (c.in-Ok.ensures.ok rs er) c.finish.ensures.answers is)
