-- Invariant of first_token: the bytes left have the tokens of all, and no more lines than bytes were passed.
use Rattle.std.proofs.Common.{◌≡◌, ◌+◌, ◌≤◌, length}
use Rattle.pfs_conf_tokens.specs.Lexis.{tokens}
use Rattle.pfs_conf_tokens.proofs.lexer.first_token.Given as goal

abbrev pub invariant-loop-b : goal.invariant-loop-b
invariant-loop-b l = record { same : tokens 0 l.busy l.line l.rest ≡ tokens 0 l.busy l.fn.line l.bytes; room : l.line + length l.rest ≤ l.fn.line + length l.bytes }

abbrev pub decreases-loop-b : goal.decreases-loop-b
decreases-loop-b l = length l.rest
