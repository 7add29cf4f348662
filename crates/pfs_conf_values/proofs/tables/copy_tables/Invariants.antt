-- Invariant of copy_tables: the copies are the tables so far.
use Rattle.std.proofs.Common.{◌≡◌, take}
use Rattle.pfs_conf_values.proofs.tables.copy_tables.Given as goal

abbrev pub invariant-loop-table : goal.invariant-loop-table
invariant-loop-table l = l.copies.items ≡ take l.table-index l.tables
