-- Invariant of push_entry_list: the entries so far are written as a list.
use Rattle.std.proofs.Common.{◌≡◌, ◌++◌, take, map, false}
use Rattle.std.specs.Prelude.{codes}
use Rattle.pfs_conf_show.specs.Pieces.{begun_after, going_on}
use Rattle.pfs_conf_show.specs.Tables.{entry_text}
use Rattle.pfs_conf_show.proofs.tables.push_entry_list.Given as goal

abbrev pub invariant-loop-place : goal.invariant-loop-place
invariant-loop-place l = record {
  text : l.out.items ≡ l.initial.out.items ++ going_on (codes " { ") false (map entry_text (take l.place l.entries));
  begun : l.begun ≡ begun_after false (map entry_text (take l.place l.entries));
}
