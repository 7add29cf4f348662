-- Invariant of delete_each: there is a table to take out of.
use Rattle.std.proofs.Common.{◌<◌, length}
use Rattle.pfs_tests_memory.proofs.tables.delete_each.Given as goal

-- the table is there
abbrev pub invariant-loop-text : goal.invariant-loop-text
invariant-loop-text l = 0 < length l.tables.entries
