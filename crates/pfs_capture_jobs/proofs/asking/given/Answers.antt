-- Answer of given: the value that clap gives under a name is the first in the rows of what it found.
use Rattle.std.proofs.Common.{◌∙◌}
use Rattle.clap.specs.Words.{found_of}
use Rattle.clap.proofs.WalkLemmas.{first_value-rows}
use Rattle.pfs_capture_jobs.proofs.asking.given.Goals as goal

pub returns : goal.returns
returns c = c.get_str.ensures ∙ first_value-rows (found_of c.args.found.now) c.args.id.now
