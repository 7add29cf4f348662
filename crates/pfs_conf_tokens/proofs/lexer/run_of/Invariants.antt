-- Invariant of run_of: the bytes counted so far and the run in those left make the whole run.
use Rattle.std.proofs.Common.{◌≡◌, ◌+◌, drop}
use Rattle.pfs_conf_tokens.specs.Lexis.{run_of}
use Rattle.pfs_conf_tokens.proofs.lexer.run_of.Given as goal

abbrev pub invariant-loop-b : goal.invariant-loop-b
invariant-loop-b l = record { value : l.n + run_of l.run (drop l.b-index l.bytes) ≡ run_of l.run l.bytes; index : l.n ≡ l.b-index }
