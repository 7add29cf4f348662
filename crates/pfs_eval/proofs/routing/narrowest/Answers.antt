-- Answers of narrowest: one route more.
use Rattle.std.proofs.Common.{arith}
use Rattle.pfs_eval.proofs.Routes.{route-next}
use Rattle.pfs_eval.proofs.routing.narrowest.Goals as goal

pub loop-route-preserved : goal.loop-route-preserved
loop-route-preserved c =
    rw c.longer-found.ensures (route-next c.loop-route.found c.args.routes.now c.loop-route.route-index _ c.route-item.result c.args.addr _ (omega arith) c.route-item.is c.loop-route.invariant)
