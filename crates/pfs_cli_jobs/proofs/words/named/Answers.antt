-- Answer of named: the value that clap gives under a name is the first in the rows of what it found.
use Rattle.std.proofs.Common.{sym, ◌∙◌}
use Rattle.clap.specs.Words.{found_of}
use Rattle.clap.proofs.WalkLemmas.{first_value-rows}
use Rattle.pfs_cli_jobs.proofs.words.named.Goals as goal

pub returns-in-Some : goal.returns-in-Some
returns-in-Some c = sym (first_value-rows (found_of c.args.found.now) c.args.id.now) ∙ sym c.in-Some.ensures
