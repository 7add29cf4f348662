-- Answer of put_route: those with another prefix are kept, and the route is last.
use Rattle.std.proofs.Common.{rules, ◌∙◌, ◌++◌, [], ◌∷◌, List, ap}
use Rattle.std.specs.Prelude.{filter}
use Rattle.std.proofs.lemmas.Fn.{filter_same}
use Rattle.pfs_conf_values.specs.declared.routes.Route.{Route}
use Rattle.pfs_conf_settings.specs.Drafts.{has_other_prefix}
use Rattle.pfs_conf_settings.proofs.drafts.put_route.Goals as goal

pub returns-clause-ok : goal.returns-clause-ok
returns-clause-ok c =
    let kept = filter_same _ (has_other_prefix c.args.route) _ (λ x b f k. search rules) c.reserve.new.self.items c.retain.new.self.items c.retain.ensures.filtered in
    c.push_reserved.ensures.items ∙ ap (λ (z : List Route). z ++ c.args.route ∷ []) (kept ∙ ap (filter (has_other_prefix c.args.route)) c.reserve.ensures.items)
