-- Invariant of skip_lines: skipping on leads where skipping from the start leads.
use Rattle.std.proofs.Common.{◌≡◌, length}
use Rattle.pfs_conf_tokens.specs.Grammar.{skip_lines}
use Rattle.pfs_conf_tokens.proofs.numbers.skip_lines.Given as goal

abbrev pub invariant-loop-cursor : goal.invariant-loop-cursor
invariant-loop-cursor l = skip_lines l.cursor ≡ skip_lines l.fn.cursor

abbrev pub decreases-loop-cursor : goal.decreases-loop-cursor
decreases-loop-cursor l = length l.cursor
