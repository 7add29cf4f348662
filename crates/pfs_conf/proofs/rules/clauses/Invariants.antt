-- Invariant of clauses: reading on gives what reading from the start gives; fewer tokens are left each time.
use Rattle.std.proofs.Common.{◌≡◌, length}
use Rattle.pfs_conf_tokens.specs.Keys.{ends_line}
use Rattle.pfs_conf_tokens.specs.Reading.{until_all}
use Rattle.pfs_conf.specs.Statements.{no_clauses}
use Rattle.pfs_conf.specs.Reading.{clause_at}
use Rattle.pfs_conf.proofs.rules.clauses.Given as goal

abbrev pub invariant-loop-verb : goal.invariant-loop-verb
invariant-loop-verb l = until_all ends_line (clause_at l.fn.verb l.fn.parameters) l.clauses l.cursor ≡ until_all ends_line (clause_at l.fn.verb l.fn.parameters) no_clauses l.fn.cursor

abbrev pub decreases-loop-verb : goal.decreases-loop-verb
decreases-loop-verb l = length l.cursor
