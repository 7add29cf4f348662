-- How the longest route is found, one by one. (not promised)
use Rattle.std.specs.Prelude.{◌&&◌, nat_lt, Bool, true, if◌then◌else◌, Option, Some, None}
use Rattle.pfs_addr_values.specs.declared.addresses.Addr.{Addr}
use Rattle.pfs_addr_values.specs.Prefixes.{covers}
use Rattle.pfs_conf_values.specs.declared.routes.Route.{Route}

-- whether a route has more bits than the one that was found before it, if there is one
abbrev pub has_more_bits : Route → Option Route → Bool
has_more_bits r None = true
has_more_bits r (Some f) = nat_lt f.prefix.bits r.prefix.bits

-- a route, where it covers an address with more bits than that one; else that one
abbrev pub longer : Option Route → Route → Addr → Option Route
longer found r a = if has_more_bits r found && covers r.prefix a then Some r else found
