-- Answer of matches: the command is simple, so the rows are those that clap defines.
use Rattle.pfs_capture_jobs.proofs.CommandLaws.{rows-found}
use Rattle.pfs_capture_jobs.proofs.asking.matches.Goals as goal

pub returns-in-Ok-clause-found : goal.returns-in-Ok-clause-found
returns-in-Ok-clause-found c = rows-found _ _ c.in-Ok.found c.in_ok-pfstrace.ensures.app c.in-Ok.ensures.matches
