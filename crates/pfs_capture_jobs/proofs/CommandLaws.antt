-- What clap finds in the words of the program's command line.
use Rattle.std.proofs.Common.{◌≡◌, List, refl, subst}
use Rattle.clap.specs.Words.{App, HasMatchesOf, Text, found_of, matches_of, rows_of}
use Rattle.clap.specs.declared.parser.matches.ArgMatches.{ArgMatches}
use Rattle.pfs_capture_jobs.specs.Asked.{pfstrace_app}

pub rows-found : (a : App) (words : List Text) (m : ArgMatches) → a ≡ pfstrace_app → HasMatchesOf a words m → rows_of (found_of m) ≡ matches_of pfstrace_app words
rows-found a words m e h = (subst (λ (b : App). HasMatchesOf b words m) e h refl).0
