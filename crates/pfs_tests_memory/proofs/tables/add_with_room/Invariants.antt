-- Invariant of add_with_room: there is a table to add to.
use Rattle.std.proofs.Common.{◌<◌, length}
use Rattle.pfs_tests_memory.proofs.tables.add_with_room.Given as goal

-- the table is there
abbrev pub invariant-loop-number : goal.invariant-loop-number
invariant-loop-number l = 0 < length l.tables.entries
