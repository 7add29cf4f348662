-- Answer of write_text: where writing failed, what was written is a front of the text (`err`).
use Rattle.std.proofs.Common.{sym, take, drop}
use Rattle.std.proofs.lemmas.List.{take-append-drop}
use Rattle.pfs_streams.proofs.Flushing.{never-flushed, then-flushed}
use Rattle.pfs_cli.proofs.checks.write_text.Goals as goal

pub returns-in-Err-clause-err : goal.returns-in-Err-clause-err
returns-in-Err-clause-err g c =
    let e = c.in-Err.ensures.err in
    (take e.0 c.args.bytes.now, e.2, (drop e.0 c.args.bytes.now, sym (take-append-drop e.0 c.args.bytes.now)))

pub returns-in-Err-clause-flushes : goal.returns-in-Err-clause-flushes
returns-in-Err-clause-flushes g c = never-flushed c.args.out.now c.write_whole.new.out c.write_whole.ensures.flushes

pub returns-in-Ok-clause-flushes : goal.returns-in-Ok-clause-flushes
returns-in-Ok-clause-flushes g c = then-flushed c.args.out.now c.write_whole.new.out c.flushed.new.out c.write_whole.ensures.flushes c.flushed.ensures.flushes
