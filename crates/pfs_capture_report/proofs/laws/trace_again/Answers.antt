-- Answer of trace_again: the law, of every configuration.
use Rattle.pfs_capture_report.proofs.Framed.{trace-read}
use Rattle.pfs_capture_report.proofs.laws.trace_again.Goals as goal

pub returns : goal.returns
returns c = trace-read c.args.config.now
