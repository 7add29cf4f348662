-- Invariant of push_timeout_list: the timeouts so far are written as a list.
use Rattle.std.proofs.Common.{◌≡◌, ◌++◌, take, map, false}
use Rattle.std.specs.Prelude.{codes}
use Rattle.pfs_conf_values.specs.Timeouts.{timeout_names}
use Rattle.pfs_conf_show.specs.Pieces.{begun_after, going_on}
use Rattle.pfs_conf_show.specs.Settings.{timeout_text}
use Rattle.pfs_conf_show.proofs.settings.push_timeout_list.Given as goal

abbrev pub invariant-loop-name : goal.invariant-loop-name
invariant-loop-name l = record {
  text : l.out.items ≡ l.initial.out.items ++ going_on (codes " { ") false (map (timeout_text l.config.timeouts) (take l.name-index timeout_names));
  begun : l.begun ≡ begun_after false (map (timeout_text l.config.timeouts) (take l.name-index timeout_names));
}
