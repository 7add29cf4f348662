-- Invariant of push_rule_timeouts: the list goes on with those of the timeouts so far that are given.
use Rattle.std.proofs.Common.{◌≡◌, ◌++◌, take}
use Rattle.std.specs.Prelude.{codes}
use Rattle.std.specs.List.{flat_map}
use Rattle.pfs_conf_values.specs.Timeouts.{timeout_names}
use Rattle.pfs_conf_show.specs.Pieces.{begun_after, going_on}
use Rattle.pfs_conf_show.specs.Options.{rule_timeout_text}
use Rattle.pfs_conf_show.proofs.options.push_rule_timeouts.Given as goal

abbrev pub invariant-loop-name : goal.invariant-loop-name
invariant-loop-name l = record {
  text : l.out.items ≡ l.initial.out.items ++ going_on (codes " (") l.begun (flat_map (rule_timeout_text l.timeouts) (take l.name-index timeout_names));
  begun : l.going ≡ begun_after l.begun (flat_map (rule_timeout_text l.timeouts) (take l.name-index timeout_names));
}
