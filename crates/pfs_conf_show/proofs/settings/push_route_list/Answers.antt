-- Answer of push_route_list: one route more goes on with the list.
use Rattle.std.proofs.Common.{◌<◌, ap, length}
use Rattle.std.specs.Prelude.{codes}
use Rattle.pfs_conf_show.specs.Settings.{route_text}
use Rattle.pfs_conf_show.proofs.ListLaws.{begun_step, behind, list_step}
use Rattle.pfs_conf_show.specs.Pieces.{separator}
use Rattle.pfs_conf_show.proofs.settings.push_route_list.Goals as goal

pub loop-route-preserved : goal.loop-route-preserved
loop-route-preserved c =
    let routes = c.args.routes.now in
    let i = c.loop-route.route-index in
    let r = c.route-item.result in
    let within : i < length routes = c.loop-route-test.true in
    record {
      text = list_step (codes " { ") route_text routes i r c.args.out.now.items c.loop-route.out.items c.push_route.new.out.items c.loop-route.begun (route_text r) within
          c.loop-route.invariant.text c.loop-route.invariant.begun (ap route_text c.route-item.is)
          (behind c.loop-route.out.items (separator (codes " { ") c.loop-route.begun) (route_text r) c.in_ok-push_separator.ensures c.in_ok-push_route.ensures);
      begun = begun_step route_text routes i r within;
    }
