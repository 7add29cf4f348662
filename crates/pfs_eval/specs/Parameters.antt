-- The nine parameters of an item, one by one.
use Rattle.std.specs.Prelude.{◌≡◌, Bool, true, false, not, ◌&&◌, ◌==◌, Option, List, [], ◌∷◌}
use Rattle.std.specs.List.{find}
use Rattle.std.specs.Option.{option_eq}
use Rattle.std.specs.Str.{bytes_eq}
use Rattle.std.proofs.Math.Bool.{beq}
use Rattle.pfs_addr_values.specs.Packets.{PacketView}
use Rattle.pfs_addr_values.specs.Sameness.{same_prefix}
use Rattle.pfs_conf_values.specs.declared.filters.Family.{Family}
use Rattle.pfs_conf_values.specs.declared.filters.Family.TheVariants.{Inet, Inet6}
use Rattle.pfs_conf_values.specs.declared.filters.Filter.{Filter}
use Rattle.pfs_conf_values.specs.declared.filters.FlagTest.{FlagTest}
use Rattle.pfs_conf_values.specs.declared.filters.FlagTest.TheVariants.{Any, Exactly}
use Rattle.pfs_conf_values.specs.declared.filters.Host.{Host}
use Rattle.pfs_conf_values.specs.declared.filters.Host.TheVariants as host
use Rattle.pfs_conf_values.specs.declared.filters.Interface.{Interface}
use Rattle.pfs_conf_values.specs.declared.filters.Ports.{Ports}
use Rattle.pfs_conf_values.specs.declared.filters.TableNo.{TableNo}
use Rattle.pfs_eval.specs.Entries.{Entry}
use Rattle.pfs_eval.specs.Matching.{dir_holds, interface_holds, family_holds, proto_holds, host_holds, ports_hold, flags_hold, same_dir, is_same_proto, same_flags}
use Rattle.pfs_eval.specs.declared.comparing.Parameter.{Parameter}
use Rattle.pfs_eval.specs.declared.comparing.Parameter.TheVariants as parameter

-- whether what is asked at one parameter holds of a packet
abbrev pub holds_at : List (List Entry) → PacketView → Parameter → Filter → Bool
holds_at tables p parameter.Interface f = interface_holds f.on p.ifname
holds_at tables p parameter.Direction f = dir_holds f.dir p.dir
holds_at tables p parameter.Family f = family_holds f.family p.source.addr p.destination.addr
holds_at tables p parameter.Protocol f = proto_holds f.proto p.proto
holds_at tables p parameter.SourceHost f = host_holds tables f.from.host p.source.addr
holds_at tables p parameter.DestinationHost f = host_holds tables f.to.host p.destination.addr
holds_at tables p parameter.SourcePort f = ports_hold f.from.ports p.source.port
holds_at tables p parameter.DestinationPort f = ports_hold f.to.ports p.destination.port
holds_at tables p parameter.Flags f = flags_hold f.flags p.proto p.flags

-- the parameters, in the order in which they are compared (own)
abbrev pub parameters : List Parameter
parameters =
    parameter.Interface ∷ parameter.Direction ∷ parameter.Family ∷ parameter.Protocol ∷ parameter.SourceHost
    ∷ parameter.DestinationHost ∷ parameter.SourcePort ∷ parameter.DestinationPort ∷ parameter.Flags ∷ []

-- the first parameter that does not hold of a packet, if one does not
unfoldable pub failing_at : List (List Entry) → PacketView → Filter → Option Parameter
failing_at tables p f = find (λ k. not (holds_at tables p k f)) parameters

-- the same is asked at a parameter: it is written the same, negation included
abbrev pub IsSame : Parameter → Filter → Filter → Type 0
IsSame parameter.Interface f g = f.on ≡ g.on
IsSame parameter.Direction f g = f.dir ≡ g.dir
IsSame parameter.Family f g = f.family ≡ g.family
IsSame parameter.Protocol f g = f.proto ≡ g.proto
IsSame parameter.SourceHost f g = f.from.host ≡ g.from.host
IsSame parameter.DestinationHost f g = f.to.host ≡ g.to.host
IsSame parameter.SourcePort f g = f.from.ports ≡ g.from.ports
IsSame parameter.DestinationPort f g = f.to.ports ≡ g.to.ports
IsSame parameter.Flags f g = f.flags ≡ g.flags

-- two tests of flags are written the same
abbrev pub same_test : FlagTest → FlagTest → Bool
same_test Any Any = true
same_test (Exactly a b) (Exactly c d) = same_flags a c && same_flags b d
same_test _ _ = false

-- the same, as tests: two interfaces, families, hosts or ports are written the same
abbrev pub same_interface : Interface → Interface → Bool
same_interface i j = bytes_eq i.name j.name && beq i.negated j.negated

abbrev pub is_same_family : Family → Family → Bool
is_same_family Inet Inet = true
is_same_family Inet6 Inet6 = true
is_same_family _ _ = false

abbrev pub same_host : Host TableNo → Host TableNo → Bool
same_host host.Any host.Any = true
same_host (host.Prefix a m) (host.Prefix b n) = same_prefix a b && beq m n
same_host (host.Table s m) (host.Table t n) = (s.0 == t.0) && beq m n
same_host _ _ = false

abbrev pub same_ports : Ports → Ports → Bool
same_ports p q = (p.low == q.low) && (p.high == q.high)

-- whether the same is asked at a parameter
unfoldable pub asks_same : Parameter → Filter → Filter → Bool
asks_same parameter.Interface f g = option_eq same_interface f.on g.on
asks_same parameter.Direction f g = option_eq same_dir f.dir g.dir
asks_same parameter.Family f g = option_eq is_same_family f.family g.family
asks_same parameter.Protocol f g = option_eq is_same_proto f.proto g.proto
asks_same parameter.SourceHost f g = same_host f.from.host g.from.host
asks_same parameter.DestinationHost f g = same_host f.to.host g.to.host
asks_same parameter.SourcePort f g = option_eq same_ports f.from.ports g.from.ports
asks_same parameter.DestinationPort f g = option_eq same_ports f.to.ports g.to.ports
asks_same parameter.Flags f g = same_test f.flags g.flags
