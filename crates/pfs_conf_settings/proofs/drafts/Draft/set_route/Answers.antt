-- Answer of Draft::set_route: a draft stays one where a route is set.
use Rattle.pfs_conf_settings.proofs.RouteDrafts.{IsDraft_routed}
use Rattle.pfs_conf_settings.proofs.drafts.Draft.set_route.Goals as goal

pub invariant_of-self : goal.invariant_of-self
invariant_of-self c = IsDraft_routed _ c.args.route c.put_route.new.routes.items c.put_route.result c.self.invariant c.requires c.put_route.ensures.ok c.put_route.ensures.err
