-- Invariants of enter_and_delete: there is a table to add to.
use Rattle.std.proofs.Common.{◌<◌, length}
use Rattle.pfs_tests_memory.proofs.tables.enter_and_delete.Given as goal

-- the table is there
abbrev pub invariant-loop-text : goal.invariant-loop-text
invariant-loop-text l = 0 < length l.tables.entries

abbrev pub invariant-loop-number : goal.invariant-loop-number
invariant-loop-number l = 0 < length l.tables.entries
