-- When an item matches a packet: what each parameter of its filter asks, and all of them together.
use Rattle.std.specs.Prelude.{ℕ, Bool, true, false, not, ◌&&◌, ◌==◌, nat_le, if◌then◌else◌, Option, Some, None, List}
use Rattle.std.specs.Str.{bytes_eq}
use Rattle.std.proofs.Math.Bool.{beq}
use Rattle.pfs_addr_values.specs.declared.addresses.Addr.{Addr}
use Rattle.pfs_addr_values.specs.Addresses.{is_ipv6, same_family}
use Rattle.pfs_addr_values.specs.declared.flag_sets.Flags.{Flags}
use Rattle.pfs_addr_values.specs.declared.packets.Dir.{Dir}
use Rattle.pfs_addr_values.specs.declared.packets.Dir.TheVariants.{In, Out}
use Rattle.pfs_addr_values.specs.declared.protocols.Proto.{Proto}
use Rattle.pfs_addr_values.specs.declared.protocols.Proto.TheVariants as proto
use Rattle.pfs_addr_values.specs.Packets.{PacketView}
use Rattle.pfs_addr_values.specs.Prefixes.{Network, covers}
use Rattle.pfs_conf_values.specs.declared.filters.Family.{Family}
use Rattle.pfs_conf_values.specs.declared.filters.Family.TheVariants.{Inet, Inet6}
use Rattle.pfs_conf_values.specs.declared.filters.Filter.{Filter}
use Rattle.pfs_conf_values.specs.declared.filters.FlagTest.{FlagTest}
use Rattle.pfs_conf_values.specs.declared.filters.FlagTest.TheVariants as flag_test
use Rattle.pfs_conf_values.specs.declared.filters.Host.{Host}
use Rattle.pfs_conf_values.specs.declared.filters.Host.TheVariants as host
use Rattle.pfs_conf_values.specs.declared.filters.Interface.{Interface}
use Rattle.pfs_conf_values.specs.declared.filters.Ports.{Ports}
use Rattle.pfs_conf_values.specs.declared.filters.TableNo.{TableNo}
use Rattle.pfs_conf_values.specs.declared.items.Item.{Item}
use Rattle.pfs_conf_values.specs.declared.items.ItemKind.{ItemKind}
use Rattle.pfs_conf_values.specs.declared.items.ItemKind.TheVariants.{Rule, Anchor}
use Rattle.pfs_eval.specs.Entries.{Entry}
use Rattle.pfs_eval.specs.Tables.{table_answer}

-- A parameter that is given has to hold of the packet; one that is not given holds of every packet. (pf.conf(5), PARAMETERS)

-- a `!` in front of a test turns its answer
abbrev pub turned_if : Bool → Bool → Bool
turned_if negated b = if negated then not b else b

-- `in` and `out`
abbrev pub same_dir : Dir → Dir → Bool
same_dir In In = true
same_dir Out Out = true
same_dir _ _ = false

abbrev pub dir_holds : Option Dir → Dir → Bool
dir_holds None d = true
dir_holds (Some wanted) d = same_dir wanted d

-- `on em0` and `on ! em0`: the interface of the packet has the name that is written
abbrev pub interface_holds : Option Interface → List ℕ → Bool
interface_holds None name = true
interface_holds (Some i) name = turned_if i.negated (bytes_eq i.name name)

-- `inet` and `inet6`: the packet's addresses are IPv4, or IPv6
abbrev pub family_holds : Option Family → Addr → Addr → Bool
family_holds None a b = true
family_holds (Some Inet) a b = not (is_ipv6 a) && not (is_ipv6 b)
family_holds (Some Inet6) a b = is_ipv6 a && is_ipv6 b

-- `proto`: the protocol of the packet is the one that is written
abbrev pub is_same_proto : Proto → Proto → Bool
is_same_proto proto.Tcp proto.Tcp = true
is_same_proto proto.Udp proto.Udp = true
is_same_proto (proto.Other m) (proto.Other n) = m == n
is_same_proto _ _ = false

abbrev pub proto_holds : Option Proto → Proto → Bool
proto_holds None p = true
proto_holds (Some wanted) p = is_same_proto wanted p

-- a prefix covers the address, or with a `!` it does not; it holds of addresses of its own family alone (own)
abbrev pub prefix_holds : Network → Bool → Addr → Bool
prefix_holds prefix negated a = same_family prefix.addr a && turned_if negated (covers prefix a)

-- `from` and `to`: the prefix holds of the address, or the table answers yes for it, or no where a `!` is before it
abbrev pub host_holds : List (List Entry) → Host TableNo → Addr → Bool
host_holds tables host.Any a = true
host_holds tables (host.Prefix prefix negated) a = prefix_holds prefix negated a
host_holds tables (host.Table table negated) a = turned_if negated (table_answer tables table.0 a)

-- `port`: the port is one of these
abbrev pub ports_hold : Option Ports → ℕ → Bool
ports_hold None p = true
ports_hold (Some ports) p = nat_le ports.low p && nat_le p ports.high

-- those flags of one set that are in another
abbrev pub common_flags : Flags → Flags → Flags
common_flags f g = record {
  fin = f.fin && g.fin;
  syn = f.syn && g.syn;
  rst = f.rst && g.rst;
  psh = f.psh && g.psh;
  ack = f.ack && g.ack;
  urg = f.urg && g.urg;
  ece = f.ece && g.ece;
  cwr = f.cwr && g.cwr;
}

-- two sets have the same flags
abbrev pub same_flags : Flags → Flags → Bool
same_flags f g =
    beq f.fin g.fin && (beq f.syn g.syn && (beq f.rst g.rst && (beq f.psh g.psh
    && (beq f.ack g.ack && (beq f.urg g.urg && (beq f.ece g.ece && beq f.cwr g.cwr))))))

-- `flags a/b`, tested on TCP alone: the packet's flags that are in b are exactly those in a
abbrev pub flags_hold : FlagTest → Proto → Flags → Bool
flags_hold (flag_test.Exactly set among) proto.Tcp f = same_flags (common_flags f among) set
flags_hold _ _ f = true

-- all that is asked of a packet holds
abbrev pub filter_holds : List (List Entry) → PacketView → Filter → Bool
filter_holds tables p f =
    dir_holds f.dir p.dir && interface_holds f.on p.ifname && family_holds f.family p.source.addr p.destination.addr && proto_holds f.proto p.proto
    && host_holds tables f.from.host p.source.addr && ports_hold f.from.ports p.source.port
    && host_holds tables f.to.host p.destination.addr && ports_hold f.to.ports p.destination.port
    && flags_hold f.flags p.proto p.flags

-- what an item asks of a packet
abbrev pub filter_of : ItemKind → Filter
filter_of (Rule r) = r.filter
filter_of (Anchor a) = a.filter

-- an item matches a packet when each parameter that it gives holds
unfoldable pub matches_item : List (List Entry) → PacketView → Item → Bool
matches_item tables p i = filter_holds tables p (filter_of i.what)
