-- Answer of read_route: what is read keeps the load rules of a route (`within`).
use Rattle.pfs_conf_settings.proofs.RoutePhrases.{gives_route}
use Rattle.pfs_conf_settings.proofs.routes.read_route.Goals as goal

pub returns-clause-within : goal.returns-clause-within
returns-clause-within c = gives_route c.args.inside c.route.result c.route.new.cursor c.args.cursor.now c.route.ensures
