-- Answers of replay_joined: what is written is the report of the two parts of the joined text (`reports`), with its tally (`work`), and refused rules have their fault
-- (`refused`).
use Rattle.std.proofs.Common.{◌≡◌, ◌<◌, ◌∙◌, [], arith}
use Rattle.pfs_streams.specs.Joined.{split_joined}
use Rattle.pfs_cli.specs.declared.faults.ReplayFault.TheVariants as fault
use Rattle.pfs_cli.proofs.Telling.{Appends-nothing, Appends-kept}
use Rattle.pfs_cli.proofs.Replaying.{cut-tally, lent-gives, refused-tally, rules-cut, run-tally, text-refused, told-refused}
use Rattle.pfs_cli.proofs.Checking.{unwritten-shows}
use Rattle.pfs_streams.proofs.Flushing.{never-flushed, then-flushed, unwritten-flushed}
use Rattle.pfs_cli.proofs.joined.replay_joined.Goals as goal

pub returns-in-Err-clause-reports : goal.returns-in-Err-clause-reports
returns-in-Err-clause-reports g c xs e = ([], Appends-nothing _, rules-cut (split_joined xs).0 (split_joined xs).1 c.feed_fault.result c.feed_fault.ensures.kinds)

pub returns-in-Ok-told-clause-reports : goal.returns-in-Ok-told-clause-reports
returns-in-Ok-told-clause-reports g c xs e =
    let given = lent-gives xs _ _ _ _ _ e c.in-Ok.ensures.bytes.0 (c.lend.ensures.bytes g.R.Read.remaining) c.chain-lent.ensures.bytes in
    let (t, grown, (conf, known, told)) = c.in-Ok-told.ensures.tells xs given in
    (t, Appends-kept _ _ _ t grown c.finish.ensures.kept, c.finish.ensures.told conf (split_joined xs).0 (split_joined xs).1 t known told)

pub returns-in-Err-Fault-clause-reports : goal.returns-in-Err-Fault-clause-reports
returns-in-Err-Fault-clause-reports g c xs e =
    let given = lent-gives xs _ _ _ _ _ e c.in-Ok.ensures.bytes.0 (c.lend.ensures.bytes g.R.Read.remaining) c.chain-lent.ensures.bytes in
    let refused = rw c.in-Err-Fault.is at c.tell_joined-told.ensures.refuses in
    let fault_is = rw c.in-Err-Fault.is at c.in-Err-Fault.field-0-is in
    let told = c.rules_fault.ensures.told (split_joined xs).0 (rw fault_is at (refused xs given)) in
    let same = rw c.in-Err-Fault.is at c.tell_joined-told.ensures.unwritten in
    ([], rw same (Appends-nothing _), text-refused (split_joined xs).0 (split_joined xs).1 c.rules_fault.result told)

pub returns-in-Err-Fault-clause-refused : goal.returns-in-Err-Fault-clause-refused
returns-in-Err-Fault-clause-refused g c xs f e is =
    let given = lent-gives xs _ _ _ _ _ e c.in-Ok.ensures.bytes.0 (c.lend.ensures.bytes g.R.Read.remaining) c.chain-lent.ensures.bytes in
    let refused = rw c.in-Err-Fault.is at c.tell_joined-told.ensures.refuses in
    let fault_is = rw c.in-Err-Fault.is at c.in-Err-Fault.field-0-is in
    let told = c.rules_fault.ensures.told (split_joined xs).0 (rw fault_is at (refused xs given)) in
    let same : c.rules_fault.result ≡ fault.Rules f = cc in
    told-refused (split_joined xs).0 c.rules_fault.result f told same

pub returns-in-Err-clause-shows : goal.returns-in-Err-clause-shows
returns-in-Err-clause-shows g c = unwritten-shows c.args.out.now c.feed_fault.result c.requires

pub returns-in-Ok-told-clause-waits : goal.returns-in-Ok-told-clause-waits
returns-in-Ok-told-clause-waits g c fresh failed once = let more : 1 < 1 = rw once at (c.resume.ensures.begun.1 failed) in absurd (omega arith)

pub returns-in-Err-clause-flushes : goal.returns-in-Err-clause-flushes
returns-in-Err-clause-flushes g c = unwritten-flushed c.args.out.now

pub returns-in-Ok-told-clause-flushes : goal.returns-in-Ok-told-clause-flushes
returns-in-Ok-told-clause-flushes g c =
    then-flushed c.args.out.now c.tell_joined-told.new.out c.finish.new.out c.tell_joined-told.ensures.flushes c.finish.ensures.flushes

pub returns-in-Err-Source-clause-flushes : goal.returns-in-Err-Source-clause-flushes
returns-in-Err-Source-clause-flushes g c = never-flushed c.args.out.now c.tell_joined-told.new.out c.tell_joined-told.ensures.flushes

pub returns-in-Err-Fault-clause-flushes : goal.returns-in-Err-Fault-clause-flushes
returns-in-Err-Fault-clause-flushes g c = never-flushed c.args.out.now c.tell_joined-told.new.out c.tell_joined-told.ensures.flushes

pub returns-in-Err-clause-work : goal.returns-in-Err-clause-work
returns-in-Err-clause-work g c xs e = ([], Appends-nothing _, cut-tally (split_joined xs).0 (split_joined xs).1 c.feed_fault.result _ c.feed_fault.ensures.kinds c.none.ensures)

pub returns-in-Ok-told-clause-work : goal.returns-in-Ok-told-clause-work
returns-in-Ok-told-clause-work g c xs e =
    let given = lent-gives xs _ _ _ _ _ e c.in-Ok.ensures.bytes.0 (c.lend.ensures.bytes g.R.Read.remaining) c.chain-lent.ensures.bytes in
    let (t, grown, (conf, known, is)) = c.in-Ok-told.ensures.tallies xs given in
    (t, Appends-kept _ _ _ t grown c.finish.ensures.kept, run-tally conf (split_joined xs).0 (split_joined xs).1 t _ c.finish.result _ known c.finish.ensures.answers is)

pub returns-in-Err-Source-clause-work : goal.returns-in-Err-Source-clause-work
returns-in-Err-Source-clause-work g c xs e =
    let same = rw c.in-Err-Source.is at c.tell_joined-told.ensures.unwritten in
    let none = rw c.in-Err-Source.is at c.tell_joined-told.ensures.untallied in (
      [],
      rw same (Appends-nothing _),
      cut-tally (split_joined xs).0 (split_joined xs).1 c.feed_fault-in-Err-Source.result _ c.feed_fault-in-Err-Source.ensures.kinds (none ∙ c.none.ensures),
    )

pub returns-in-Err-Fault-clause-work : goal.returns-in-Err-Fault-clause-work
returns-in-Err-Fault-clause-work g c xs e =
    let given = lent-gives xs _ _ _ _ _ e c.in-Ok.ensures.bytes.0 (c.lend.ensures.bytes g.R.Read.remaining) c.chain-lent.ensures.bytes in
    let refused = rw c.in-Err-Fault.is at c.tell_joined-told.ensures.refuses in
    let fault_is = rw c.in-Err-Fault.is at c.in-Err-Fault.field-0-is in
    let told = c.rules_fault.ensures.told (split_joined xs).0 (rw fault_is at (refused xs given)) in
    let same = rw c.in-Err-Fault.is at c.tell_joined-told.ensures.unwritten in
    let none = rw c.in-Err-Fault.is at c.tell_joined-told.ensures.untallied in
    ([], rw same (Appends-nothing _), refused-tally (split_joined xs).0 (split_joined xs).1 c.rules_fault.result _ told (none ∙ c.none.ensures))
