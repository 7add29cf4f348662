-- Invariant of options: reading on gives what reading from the start gives; fewer tokens are left each time.
use Rattle.std.proofs.Common.{◌≡◌, length}
use Rattle.pfs_conf_tokens.specs.Reading.{closes_parens, until_all, next_of, list_all}
use Rattle.pfs_conf_options.specs.Reading.{option_at}
use Rattle.pfs_conf_options.proofs.reading.options.Given as goal

abbrev pub invariant-loop-cursor : goal.invariant-loop-cursor
invariant-loop-cursor l = until_all closes_parens (next_of option_at) l.options l.cursor ≡ list_all closes_parens option_at l.fn.given l.fn.cursor

abbrev pub decreases-loop-cursor : goal.decreases-loop-cursor
decreases-loop-cursor l = length l.cursor
