-- Invariant of count_entries: the count is that of the tables so far, as far as it fits.
use Rattle.std.proofs.Common.{◌≡◌, ◌-◌, ◌^◌, min, take}
use Rattle.pfs_conf_values.specs.Configs.{entries_in}
use Rattle.pfs_conf_values.proofs.configs.count_entries.Given as goal

abbrev pub invariant-loop-table : goal.invariant-loop-table
invariant-loop-table l = l.count ≡ min (entries_in (take l.table-index l.tables)) (2 ^ 64 - 1)
