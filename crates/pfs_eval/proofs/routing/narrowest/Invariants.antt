-- What was found so far, with what the other routes have, is what all have.
use Rattle.std.proofs.Common.{◌≡◌, drop, map}
use Rattle.std.specs.Prelude.{option_map}
use Rattle.pfs_eval.specs.Covering.{narrowest}
use Rattle.pfs_eval.specs.Routing.{entry_of_route}
use Rattle.pfs_eval.proofs.Routes.{with_further}
use Rattle.pfs_eval.proofs.routing.narrowest.Given as goal

abbrev pub invariant-loop-route : goal.invariant-loop-route
invariant-loop-route l =
    with_further (option_map entry_of_route l.found) (narrowest (map entry_of_route (drop l.route-index l.routes)) l.addr)
    ≡ narrowest (map entry_of_route l.routes) l.addr
