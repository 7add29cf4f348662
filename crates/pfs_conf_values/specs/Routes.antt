-- Routes of a rules text: what its load rules ask of them.
use Rattle.std.specs.Prelude.{◌≡◌, Bool, true, false, All, List, [], ◌∷◌, codes, map}
use Rattle.std.specs.List.{IsDistinct}
use Rattle.std.specs.Str.{bytes_eq}
use Rattle.pfs_addr_values.specs.Names.{is_name}
use Rattle.pfs_addr_values.specs.Prefixes.{IsNetwork, Network}
use Rattle.pfs_conf_values.specs.Entries.{same_network}
use Rattle.pfs_conf_values.specs.declared.profiles.Profile.{Profile}
use Rattle.pfs_conf_values.specs.declared.profiles.Profile.TheVariants as profile
use Rattle.pfs_conf_values.specs.declared.routes.Route.{Route}

-- a route: a prefix, and the name of an interface, which is any but `any` and `rdomain`, which are words
pub record IsRoute (r : Route) : Type 0 where
  pub network : IsNetwork r.prefix
  pub interface : is_name 15 r.interface ≡ true
  pub not_any : bytes_eq r.interface (codes "any") ≡ false
  pub not_rdomain : bytes_eq r.interface (codes "rdomain") ≡ false

-- the prefixes of routes
abbrev pub route_prefixes : List Route → List Network
route_prefixes routes = map (λ (r : Route). r.prefix) routes

-- no two routes have the same prefix
pub record AreRoutes (routes : List Route) : Type 0 where
  pub each : All IsRoute routes
  pub distinct : IsDistinct same_network (route_prefixes routes)

-- whether routes need the profile of OpenBSD 7.4, and the text has it not
abbrev pub routes_need_profile : Profile → List Route → Bool
routes_need_profile profile.Own [] = false
routes_need_profile profile.Own (r ∷ rs) = true
routes_need_profile profile.OpenBsd74 routes = false
