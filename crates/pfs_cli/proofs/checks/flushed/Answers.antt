-- Answers of flushed: one flush is counted (`flushes`).
use Rattle.pfs_cli.proofs.Checking.{asked-once}
use Rattle.pfs_cli.proofs.checks.flushed.Goals as goal

pub returns-in-Ok-clause-flushes : goal.returns-in-Ok-clause-flushes
returns-in-Ok-clause-flushes g c = asked-once c.args.out.now c.flush.new.self c.flush.ensures.flushes

pub returns-in-Err-clause-flushes : goal.returns-in-Err-clause-flushes
returns-in-Err-clause-flushes g c = asked-once c.args.out.now c.flush.new.self c.flush.ensures.flushes
