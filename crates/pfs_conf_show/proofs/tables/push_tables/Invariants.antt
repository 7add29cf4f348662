-- Invariant of push_tables: the tables so far are written, one after the other.
use Rattle.std.proofs.Common.{◌≡◌, ◌++◌, take}
use Rattle.std.specs.List.{flat_map}
use Rattle.pfs_conf_show.specs.Tables.{table_text}
use Rattle.pfs_conf_show.proofs.tables.push_tables.Given as goal

abbrev pub invariant-loop-number : goal.invariant-loop-number
invariant-loop-number l = l.out.items ≡ l.initial.out.items ++ flat_map table_text (take l.number l.config.tables)
