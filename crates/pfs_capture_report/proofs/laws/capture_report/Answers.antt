-- Answer of capture_report: the law, of every configuration.
use Rattle.pfs_capture_report.proofs.Framed.{capture-reported}
use Rattle.pfs_capture_report.proofs.laws.capture_report.Goals as goal

pub returns : goal.returns
returns c = capture-reported c.args.config.now
