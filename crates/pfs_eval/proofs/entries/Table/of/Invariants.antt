-- Invariant of Table::of: the table has the entries of the text so far.
use Rattle.std.proofs.Common.{◌≡◌, map, take}
use Rattle.pfs_eval.specs.Entries.{entry_of_text}
use Rattle.pfs_eval.proofs.entries.Table.of.Given as goal

abbrev pub invariant-loop-place : goal.invariant-loop-place
invariant-loop-place l = l.table.entries ≡ map entry_of_text (take l.place l.entries)
