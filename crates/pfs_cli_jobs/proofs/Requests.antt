-- What a subcommand asks for, whatever stands before it.
use Rattle.std.proofs.Common.{List, [], Some, Bool}
use Rattle.clap.specs.Words.{Row, Text}
use Rattle.pfs_cli_jobs.specs.declared.tasks.Job.{Job}
use Rattle.pfs_cli_jobs.specs.declared.tasks.Job.TheVariants as job
use Rattle.pfs_cli_jobs.specs.Jobs.{ByLines, JobIs}

-- a job by a subcommand is one of no entries before it as of any
pub behind-any : (rows : List Row) (p : Text × List Row) (j : Job) (given : Bool) → JobIs (Some p) j → ByLines [] (Some p) j given → ByLines rows (Some p) j given
behind-any rows p job.Joined given is by = absurd cc
behind-any rows p (job.Check name) given is by = by
behind-any rows p (job.Show name) given is by = by
behind-any rows p (job.Replay name other) given is by = by
