-- Answers of listed: the values that clap gives are those in the rows of what it found.
use Rattle.std.proofs.Common.{rules}
use Rattle.clap.specs.Words.{found_of}
use Rattle.clap.proofs.WalkLemmas.{raw_values-rows}
use Rattle.pfs_capture_jobs.proofs.asking.listed.Goals as goal

pub returns-in-None : goal.returns-in-None
returns-in-None c = rw (← raw_values-rows (found_of c.args.found.now) c.args.id.now, ← c.in-None.ensures) (search rules)

pub returns-in-Some : goal.returns-in-Some
returns-in-Some c = rw (← raw_values-rows (found_of c.args.found.now) c.args.id.now, ← c.in-Some.ensures) (search rules)
