-- Answers of finish: a run that ended, one whose flush failed, and one that stopped, as replays (`told`).
use Rattle.pfs_streams.proofs.Flushing.{unwritten-flushed}
use Rattle.pfs_cli.proofs.Checking.{asked-once}
use Rattle.pfs_cli.proofs.Replaying.{run-done, run-unflushed}
use Rattle.pfs_cli.proofs.endings.finish.Goals as goal

pub returns-then-is_err-clause-told : goal.returns-then-is_err-clause-told
returns-then-is_err-clause-told g c d rs ts t rules told = run-unflushed d rs ts t rules (rw c.in-Ok.is at told)

pub returns-else-is_err-clause-told : goal.returns-else-is_err-clause-told
returns-else-is_err-clause-told g c d rs ts t rules told = run-done d rs ts t rules (rw c.in-Ok.is at told)

pub returns-in-Err-clause-told : goal.returns-in-Err-clause-told
returns-in-Err-clause-told g c d rs ts t rules told = c.fault_at.ensures.told d rs ts t rules (rw c.in-Err.is at told)

pub returns-then-is_err-clause-flushes : goal.returns-then-is_err-clause-flushes
returns-then-is_err-clause-flushes g c = asked-once c.args.out.now c.flush.new.self c.flush.ensures.flushes

pub returns-else-is_err-clause-flushes : goal.returns-else-is_err-clause-flushes
returns-else-is_err-clause-flushes g c = asked-once c.args.out.now c.flush.new.self c.flush.ensures.flushes

pub returns-in-Err-clause-flushes : goal.returns-in-Err-clause-flushes
returns-in-Err-clause-flushes g c = unwritten-flushed c.args.out.now
