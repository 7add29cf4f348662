-- Answer of push_limits: `set limit`, the list and its end are the line of the limits.
use Rattle.std.proofs.Common.{false}
use Rattle.std.specs.Prelude.{codes}
use Rattle.pfs_conf_show.specs.Pieces.{going_on}
use Rattle.pfs_conf_show.specs.Settings.{limit_texts}
use Rattle.pfs_conf_show.proofs.ListLaws.{line}
use Rattle.pfs_conf_show.proofs.settings.push_limits.Goals as goal

pub returns : goal.returns
returns c =
    line c.args.out.now.items c.extend_from_slice.new.self.items c.push_limit_list.new.out.items c.extend_from_slice-2.new.self.items
    (codes "set limit") (going_on (codes " { ") false (limit_texts c.args.config.now.limits))
    c.in_ok-extend_from_slice.ensures.items c.in_ok-push_limit_list.ensures c.in_ok-extend_from_slice-2.ensures.items
