-- Routes of a draft: one more, in place of the one with the same prefix.
use Rattle.std.proofs.Common.{◌≡◌, Bool, true, false, cond, List, [], ◌∷◌, ◌++◌, Ok, Err, OnOk, OnErr, refl, subst, sym}
use Rattle.std.specs.Prelude.{Result, filter}
use Rattle.std.specs.List.{AllByRecursion, IsDistinct}
use Rattle.std.proofs.lemmas.Bool.{not-true}
use Rattle.std.proofs.lemmas.List.Elements.{All-filter, All-nil, All-push}
use Rattle.std.proofs.lemmas.Map.Keys.{IsDistinct-cons, IsDistinct-head, IsDistinct-tail}
use Rattle.pfs_addr_values.specs.Prefixes.{Network}
use Rattle.pfs_conf_values.specs.Entries.{same_network}
use Rattle.pfs_conf_values.specs.Routes.{AreRoutes, IsRoute, route_prefixes}
use Rattle.pfs_conf_values.specs.declared.routes.Route.{Route}
use Rattle.pfs_conf_settings.specs.Drafts.{Drafted, has_other_prefix, routes_with}
use Rattle.pfs_conf_settings.specs.Invariants.{IsDraft}

-- what holds of the prefixes of some routes, and of one more
still : (P : Network → Type 0) (p : Route → Bool) (r : Route) (routes : List Route) → AllByRecursion P (route_prefixes routes) → P r.prefix → AllByRecursion P (route_prefixes (filter p routes ++ r ∷ []))
still P p r [] h k = (k, tt)
still P p r (x ∷ routes) h k = go (p x) (still P p r routes h.1 k)
  where
    go : (b : Bool) → AllByRecursion P (route_prefixes (filter p routes ++ r ∷ [])) → AllByRecursion P (route_prefixes (cond b (x ∷ filter p routes) (filter p routes) ++ r ∷ []))
    go true rest = (h.0, rest)
    go false rest = rest

-- no two prefixes are the same
apart : (r : Route) (routes : List Route) → IsDistinct same_network (route_prefixes routes) → IsDistinct same_network (route_prefixes (routes_with r routes))
apart r [] h = IsDistinct-cons same_network r.prefix [] tt h
apart r (x ∷ routes) h = go (has_other_prefix r x) refl (apart r routes (IsDistinct-tail same_network x.prefix (route_prefixes routes) h))
  where
    go : (b : Bool) → has_other_prefix r x ≡ b → IsDistinct same_network (route_prefixes (routes_with r routes))
        → IsDistinct same_network (route_prefixes (cond b (x ∷ filter (has_other_prefix r) routes) (filter (has_other_prefix r) routes) ++ r ∷ []))
    go true e rest =
        IsDistinct-cons same_network x.prefix (route_prefixes (routes_with r routes))
        (still (λ y. same_network x.prefix y ≡ false) (has_other_prefix r) r routes (IsDistinct-head same_network x.prefix (route_prefixes routes) h) (not-true (same_network x.prefix r.prefix) e)) rest
    go false e rest = rest

pub AreRoutes_with : (r : Route) (routes : List Route) → AreRoutes routes → IsRoute r → AreRoutes (routes_with r routes)
AreRoutes_with r routes h k = record {
  each = All-push IsRoute (filter (has_other_prefix r) routes) r (All-filter (has_other_prefix r) IsRoute routes h.each) k;
  distinct = apart r routes h.distinct;
}

pub AreRoutes_none : AreRoutes []
unfolding IsDistinct
AreRoutes_none = record { each = All-nil IsRoute; distinct = tt }

-- a draft with other routes
abbrev pub with_routes : List Route → Drafted → Drafted
with_routes routes d = record d { routes = routes }

-- so the routes after one is set leave a draft, whether it was refused or not
pub IsDraft_routed : {E : Type 0} (d : Drafted) (r : Route) (after : List Route) (x : Result (Unit {0}) E) → IsDraft d → IsRoute r → OnOk x (after ≡ routes_with r d.routes) → OnErr x (after ≡ d.routes) → IsDraft (with_routes after d)
IsDraft_routed d r after (Ok u) k good put kept =
    let more : AreRoutes after = subst AreRoutes (sym put) (AreRoutes_with r d.routes k.routes good) in
    record { syncookies = k.syncookies; routes = more; limits = k.limits; timeouts = k.timeouts; items = k.items; few_items = k.few_items; preorder = k.preorder; anchors = k.anchors }
IsDraft_routed d r after (Err e) k good put kept = subst (λ (z : List Route). IsDraft (with_routes z d)) (sym kept) k
