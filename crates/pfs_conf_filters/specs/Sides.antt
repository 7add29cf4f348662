-- What is asked of parameters that have been read. (own)
use Rattle.std.specs.Prelude.{ℕ, Bool, not, ◌&&◌, ◌||◌, List, None, is_some, unwrap_or}
use Rattle.pfs_conf_values.specs.Bounds.{asks_ports}
use Rattle.pfs_conf_values.specs.declared.filters.Host.TheVariants as host
use Rattle.pfs_conf_values.specs.declared.filters.Side.{Side}
use Rattle.pfs_conf_filters.specs.declared.phrases.Hosts.{Hosts}
use Rattle.pfs_conf_filters.specs.declared.phrases.Parameters.{Parameters}

-- a side that is not given is any host at any port
abbrev pub side_not_given : Side (List ℕ)
side_not_given = record { host = host.Any; ports = None }

abbrev pub source_of : Hosts → Side (List ℕ)
source_of h = unwrap_or h.from side_not_given

abbrev pub destination_of : Hosts → Side (List ℕ)
destination_of h = unwrap_or h.to side_not_given

-- whether a side gives ports
abbrev pub names_port : Side (List ℕ) → Bool
names_port s = is_some s.ports

abbrev pub gives_ports : Hosts → Bool
gives_ports h = names_port (source_of h) || names_port (destination_of h)

-- a port without `proto tcp` or `proto udp` in the same statement
abbrev pub lacks_proto : Parameters → Bool
lacks_proto p = gives_ports p.hosts && not (asks_ports p.head.proto)
