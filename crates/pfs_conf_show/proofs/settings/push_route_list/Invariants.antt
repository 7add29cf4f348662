-- Invariant of push_route_list: the routes so far are written as a list.
use Rattle.std.proofs.Common.{◌≡◌, ◌++◌, take, map, false}
use Rattle.std.specs.Prelude.{codes}
use Rattle.pfs_conf_show.specs.Pieces.{begun_after, going_on}
use Rattle.pfs_conf_show.specs.Settings.{route_text}
use Rattle.pfs_conf_show.proofs.settings.push_route_list.Given as goal

abbrev pub invariant-loop-route : goal.invariant-loop-route
invariant-loop-route l = record {
  text : l.out.items ≡ l.initial.out.items ++ going_on (codes " { ") false (map route_text (take l.route-index l.routes));
  begun : l.begun ≡ begun_after false (map route_text (take l.route-index l.routes));
}
