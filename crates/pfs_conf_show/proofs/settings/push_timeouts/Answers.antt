-- Answer of push_timeouts: `set timeout`, the list and its end are the line of the timeouts.
use Rattle.std.proofs.Common.{false, map}
use Rattle.std.specs.Prelude.{codes}
use Rattle.pfs_conf_values.specs.Timeouts.{timeout_names}
use Rattle.pfs_conf_show.specs.Pieces.{going_on}
use Rattle.pfs_conf_show.specs.Settings.{timeout_text}
use Rattle.pfs_conf_show.proofs.ListLaws.{line}
use Rattle.pfs_conf_show.proofs.settings.push_timeouts.Goals as goal

pub returns : goal.returns
returns c =
    line c.args.out.now.items c.extend_from_slice.new.self.items c.push_timeout_list.new.out.items c.extend_from_slice-2.new.self.items
    (codes "set timeout") (going_on (codes " { ") false (map (timeout_text c.args.config.now.timeouts) timeout_names))
    c.in_ok-extend_from_slice.ensures.items c.in_ok-push_timeout_list.ensures c.in_ok-extend_from_slice-2.ensures.items
