-- The parameters of rules and anchors. (pf.conf(5), PARAMETERS; their order and form are own)
use Rattle.std.specs.Prelude.{ℕ, Bool, true, false, if◌then◌else◌, ◌==◌, ◌&&◌, List, [], ◌++◌, Option, Some, None, codes, decimal}
use Rattle.pfs_addr_values.specs.Addresses.{addr_text}
use Rattle.pfs_addr_values.specs.FlagSets.{letters_text}
use Rattle.pfs_addr_values.specs.declared.packets.Dir.{Dir}
use Rattle.pfs_addr_values.specs.declared.packets.Dir.TheVariants as dir
use Rattle.pfs_addr_values.specs.declared.protocols.Proto.{Proto}
use Rattle.pfs_addr_values.specs.declared.protocols.Proto.TheVariants as proto
use Rattle.pfs_conf_values.specs.declared.filters.Came.{Came}
use Rattle.pfs_conf_values.specs.declared.filters.Family.{Family}
use Rattle.pfs_conf_values.specs.declared.filters.Family.TheVariants as family
use Rattle.pfs_conf_values.specs.declared.filters.Filter.{Filter}
use Rattle.pfs_conf_values.specs.declared.filters.FlagTest.{FlagTest}
use Rattle.pfs_conf_values.specs.declared.filters.FlagTest.TheVariants as flag_test
use Rattle.pfs_conf_values.specs.declared.filters.Host.{Host}
use Rattle.pfs_conf_values.specs.declared.filters.Host.TheVariants as host
use Rattle.pfs_conf_values.specs.declared.filters.Interface.{Interface}
use Rattle.pfs_conf_values.specs.declared.filters.Ports.{Ports}
use Rattle.pfs_conf_values.specs.declared.filters.Side.{Side}
use Rattle.pfs_conf_values.specs.declared.filters.TableNo.{TableNo}
use Rattle.pfs_conf_values.specs.declared.filters.Tagged.{Tagged}
use Rattle.pfs_conf_values.specs.declared.tables.TableDef.{TableDef}
use Rattle.pfs_conf_values.specs.declared.translations.NatPorts.{NatPorts}
use Rattle.pfs_conf_values.specs.declared.translations.NatPorts.TheVariants as nat_ports
use Rattle.pfs_conf_values.specs.declared.translations.NatTo.{NatTo}
use Rattle.pfs_conf_values.specs.declared.translations.RdrTo.{RdrTo}
use Rattle.pfs_conf_values.specs.declared.translations.Translation.{Translation}
use Rattle.pfs_conf_show.specs.Pieces.{not_text, prefix_text}
use Rattle.pfs_conf_show.specs.Tables.{table_ref}

abbrev pub dir_text : Option Dir → List ℕ
dir_text None = []
dir_text (Some dir.In) = codes " in"
dir_text (Some dir.Out) = codes " out"

abbrev pub quick_text : Bool → List ℕ
quick_text true = codes " quick"
quick_text false = []

-- `on IF`, or `on !IF`
abbrev pub on_text : Option Interface → List ℕ
on_text None = []
on_text (Some i) = codes " on " ++ (not_text i.negated ++ i.name)

abbrev pub family_text : Option Family → List ℕ
family_text None = []
family_text (Some family.Inet) = codes " inet"
family_text (Some family.Inet6) = codes " inet6"

-- tcp and udp by name, every other protocol by its number
abbrev pub proto_text : Option Proto → List ℕ
proto_text None = []
proto_text (Some proto.Tcp) = codes " proto tcp"
proto_text (Some proto.Udp) = codes " proto udp"
proto_text (Some (proto.Other n)) = codes " proto " ++ decimal n

-- ---- hosts

-- `any`, a prefix or `<t>`, with `!` directly before what is negated
abbrev pub host_text : List TableDef → Host TableNo → List ℕ
host_text tables host.Any = codes "any"
host_text tables (host.Prefix p negated) = not_text negated ++ prefix_text p
host_text tables (host.Table t negated) = not_text negated ++ table_ref tables t

-- the end of a range of ports, which is left out where it is its start
abbrev pub range_text : Ports → List ℕ
range_text p = if p.low == p.high then [] else codes ":" ++ decimal p.high

-- P, or P:Q
abbrev pub ports_text : Option Ports → List ℕ
ports_text None = []
ports_text (Some p) = codes " port " ++ (decimal p.low ++ range_text p)

abbrev pub side_text : List TableDef → Side TableNo → List ℕ
side_text tables s = host_text tables s.host ++ ports_text s.ports

-- whether a side is any host at any port
abbrev pub is_any_host : Host TableNo → Bool
is_any_host host.Any = true
is_any_host _ = false

abbrev pub has_no_ports : Option Ports → Bool
has_no_ports None = true
has_no_ports (Some p) = false

abbrev pub is_every_side : Side TableNo → Bool
is_every_side s = is_any_host s.host && has_no_ports s.ports

-- `all`, or both sides
abbrev pub hosts_text : List TableDef → Side TableNo → Side TableNo → List ℕ
hosts_text tables from to =
    if is_every_side from && is_every_side to then codes " all"
    else codes " from " ++ (side_text tables from ++ (codes " to " ++ side_text tables to))

-- ---- flags

-- `flags any`, or `flags a/b`
abbrev pub flags_text : FlagTest → List ℕ
flags_text flag_test.Any = codes " flags any"
flags_text (flag_test.Exactly set among) = codes " flags " ++ (letters_text set ++ (codes "/" ++ letters_text among))

-- all parameters, and `quick` among them
abbrev pub parameters_text : List TableDef → Bool → Filter → List ℕ
parameters_text tables quick f =
    dir_text f.dir ++ (quick_text quick ++ (on_text f.on ++ (family_text f.family ++ (proto_text f.proto
    ++ (hosts_text tables f.from f.to ++ flags_text f.flags)))))

-- ---- what a rule has behind its parameters

abbrev pub tag_text : Option (List ℕ) → List ℕ
tag_text None = []
tag_text (Some name) = codes " tag " ++ name

-- a word and a name that is asked for, with `!` directly before the word where it must not be
abbrev pub asked_text : Bool → List ℕ → List ℕ → List ℕ
asked_text negated word name = codes " " ++ (not_text negated ++ (word ++ name))

-- `tagged NAME`, or `!tagged NAME`
abbrev pub tagged_text : Option Tagged → List ℕ
tagged_text None = []
tagged_text (Some t) = asked_text t.negated (codes "tagged ") t.name

-- `received-on IF`, or `!received-on IF`
abbrev pub received_on_text : Option Interface → List ℕ
received_on_text None = []
received_on_text (Some i) = asked_text i.negated (codes "received-on ") i.name

-- all of it, in this order
abbrev pub extras_text : Option (List ℕ) → Came → List ℕ
extras_text tag came = tag_text tag ++ (tagged_text came.tagged ++ received_on_text came.received_on)

-- ---- translation (pf.conf(5), TRANSLATION)

-- `port P` or `port P:Q`, `static-port`, or nothing
abbrev pub nat_ports_text : NatPorts → List ℕ
nat_ports_text nat_ports.Usual = []
nat_ports_text (nat_ports.Given p) = ports_text (Some p)
nat_ports_text nat_ports.Static = codes " static-port"

abbrev pub nat_to_text : Option NatTo → List ℕ
nat_to_text None = []
nat_to_text (Some n) = codes " nat-to " ++ (addr_text n.addr ++ nat_ports_text n.ports)

abbrev pub rdr_port_text : Option ℕ → List ℕ
rdr_port_text None = []
rdr_port_text (Some p) = codes " port " ++ decimal p

abbrev pub rdr_to_text : Option RdrTo → List ℕ
rdr_to_text None = []
rdr_to_text (Some r) = codes " rdr-to " ++ (addr_text r.addr ++ rdr_port_text r.port)

-- both, in this order
abbrev pub translation_text : Translation → List ℕ
translation_text t = nat_to_text t.nat_to ++ rdr_to_text t.rdr_to
