-- Invariant of feed_tables: the hasher was fed with the tables so far.
use Rattle.std.proofs.Common.{◌≡◌, fold, take}
use Rattle.pfs_conf_values.specs.Hashing.{after_table}
use Rattle.pfs_conf_values.proofs.tables.feed_tables.Given as goal

abbrev pub invariant-loop-table : goal.invariant-loop-table
invariant-loop-table l = l.state ≡ fold after_table l.initial.state (take l.table-index l.tables)
