-- How a route is read; made of the parts of pfs_conf_tokens' specs/Reading.antt alone. (not promised)
use Rattle.std.specs.Prelude.{ℕ, Bool, true, false, List}
use Rattle.pfs_conf_tokens.specs.declared.refusals.Why.TheVariants as why
use Rattle.pfs_conf_tokens.specs.Reading.{Reader, chain, done, skipping}
use Rattle.pfs_conf_tokens.specs.Values.{in_word, value_at}
use Rattle.pfs_addr_values.specs.Prefixes.{Network}
use Rattle.pfs_addr.specs.Texts.{prefix_of}
use Rattle.pfs_conf_values.specs.declared.routes.Route.{Route}
use Rattle.pfs_conf_settings.specs.Drafts.{Drafted, with_route}
use Rattle.pfs_conf_settings.specs.RouteGrammar.{interface_named}

-- the addresses
unfoldable pub prefix_at : Reader Network
prefix_at ts = value_at why.Host (in_word prefix_of) ts

-- the interface
unfoldable pub leaving_name_at : Reader (List ℕ)
leaving_name_at ts = value_at why.Plain (in_word interface_named) ts

-- the same, in braces after any line ends
unfoldable pub leaving_at : Bool → Reader (List ℕ)
leaving_at true ts = skipping leaving_name_at ts
leaving_at false ts = leaving_name_at ts

-- the route of a prefix by an interface
abbrev pub route_by : Network → List ℕ → Route
route_by p name = record { prefix = p; interface = name }

unfoldable pub route_at : Bool → Reader Route
route_at inside ts = chain prefix_at (λ p. chain (leaving_at inside) (λ name. done (route_by p name))) ts

-- a route is set
unfoldable pub routed_at : Bool → Drafted → Reader Drafted
routed_at inside d ts = chain (route_at inside) (λ r. done (with_route r d)) ts
