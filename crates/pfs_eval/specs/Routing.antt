-- Where packets leave: by the route with the longest prefix that covers their destination. (route(8))
use Rattle.std.specs.Prelude.{ℕ, if◌then◌else◌, codes, Option, Some, None, List, map}
use Rattle.std.specs.Str.{bytes_eq}
use Rattle.pfs_addr_values.specs.declared.addresses.Addr.{Addr}
use Rattle.pfs_addr_values.specs.Prefixes.{Network}
use Rattle.pfs_conf_values.specs.declared.routes.Route.{Route}
use Rattle.pfs_eval.specs.Covering.{narrowest}

-- a route as its prefix, and the interface beside it
abbrev pub entry_of_route : Route → Network × List ℕ
entry_of_route r = (r.prefix, r.interface)

-- no interface where there is no route, or where it is by `lo0`: such packets are for the firewall itself
abbrev pub unless_itself : Option (Network × List ℕ) → Option (List ℕ)
unless_itself None = None
unless_itself (Some r) = if bytes_eq r.1 (codes "lo0") then None else Some r.1

-- the interface by which packets to an address leave; none where they are for the firewall itself
abbrev pub interface_to : List Route → Addr → Option (List ℕ)
interface_to routes a = unless_itself (narrowest (map entry_of_route routes) a)
