-- The load rules of single items: values of limits and timeouts, filters, options, rules and anchors.
use Rattle.std.specs.Prelude.{ℕ, List, ◌≡◌, ◌≢◌, ◌<◌, ◌≤◌, ◌&&◌, ◌||◌, not, Bool, true, false, None, is_some, is_none, IfSome, length, codes, slice_index_or}
use Rattle.std.specs.Str.{bytes_eq}
use Rattle.pfs_addr_values.specs.Addresses.{IsAddr}
use Rattle.pfs_addr_values.specs.Names.{is_name}
use Rattle.pfs_addr_values.specs.Prefixes.{IsNetwork}
use Rattle.pfs_addr_values.specs.declared.flag_sets.Flags.{Flags}
use Rattle.pfs_addr_values.specs.declared.protocols.Proto.{Proto}
use Rattle.pfs_addr_values.specs.declared.protocols.Proto.TheVariants as proto
use Rattle.pfs_conf_values.specs.Bounds.{IsRate, asks_ports, broken_rule_pair, greatest_timeout, is_global, least_timeout}
use Rattle.pfs_conf_values.specs.Timeouts.{place_of}
use Rattle.pfs_conf_values.specs.Translations.{family_of_host, given_family, lacks_way, mixes_families, translates_by}
use Rattle.pfs_conf_values.specs.declared.timeouts.TimeoutName.TheVariants as timeout
use Rattle.pfs_conf_values.specs.declared.actions.Action.{Action}
use Rattle.pfs_conf_values.specs.declared.actions.Action.TheVariants as action
use Rattle.pfs_conf_values.specs.declared.actions.StateOptions.{StateOptions}
use Rattle.pfs_conf_values.specs.declared.filters.Came.{Came}
use Rattle.pfs_conf_values.specs.declared.filters.Filter.{Filter}
use Rattle.pfs_conf_values.specs.declared.filters.FlagTest.{FlagTest}
use Rattle.pfs_conf_values.specs.declared.filters.FlagTest.TheVariants as flag_test
use Rattle.pfs_conf_values.specs.declared.filters.Host.{Host}
use Rattle.pfs_conf_values.specs.declared.filters.Host.TheVariants as host
use Rattle.pfs_conf_values.specs.declared.filters.Interface.{Interface}
use Rattle.pfs_conf_values.specs.declared.filters.Ports.{Ports}
use Rattle.pfs_conf_values.specs.declared.filters.Side.{Side}
use Rattle.pfs_conf_values.specs.declared.filters.TableNo.{TableNo}
use Rattle.pfs_conf_values.specs.declared.items.Anchor.{Anchor}
use Rattle.pfs_conf_values.specs.declared.items.Item.{Item}
use Rattle.pfs_conf_values.specs.declared.items.Rule.{Rule}
use Rattle.pfs_conf_values.specs.declared.items.ItemKind.{ItemKind}
use Rattle.pfs_conf_values.specs.declared.items.ItemKind.TheVariants as what
use Rattle.pfs_conf_values.specs.declared.translations.NatPorts.{NatPorts}
use Rattle.pfs_conf_values.specs.declared.translations.NatPorts.TheVariants as nat_ports
use Rattle.pfs_conf_values.specs.declared.translations.NatTo.{NatTo}
use Rattle.pfs_conf_values.specs.declared.translations.RdrTo.{RdrTo}
use Rattle.pfs_conf_values.specs.declared.translations.Translation.{Translation}

-- ---- numbers

-- a limit or a maximum: 1 to 4294967295
abbrev pub IsCount : ℕ → Type 0
IsCount n = (1 ≤ n) × (n ≤ 4294967295)

-- what can be given for the timeout at this place
abbrev pub IsTimeout : ℕ → ℕ → Type 0
IsTimeout place n = (least_timeout place ≤ n) × (n ≤ greatest_timeout place)

-- ---- filters (pf.conf(5), PARAMETERS)

-- every interface but `any` and `rdomain`, which are words
pub record IsInterface (i : Interface) : Type 0 where
  pub name : is_name 15 i.name ≡ true
  pub not_any : bytes_eq i.name (codes "any") ≡ false
  pub not_rdomain : bytes_eq i.name (codes "rdomain") ≡ false

-- the number of every other protocol is that of no TCP or UDP
abbrev pub IsProto : Proto → Type 0
IsProto proto.Tcp = Unit {0}
IsProto proto.Udp = Unit {0}
IsProto (proto.Other n) = (n < 256) × (n ≢ 6) × (n ≢ 17)

-- ports from the least to the greatest
abbrev pub ArePorts : Ports → Type 0
ArePorts p = (p.low ≤ p.high) × (p.high < 65536)

-- a host, of whose table something is known
abbrev pub IsHost : {T : Type 0} → (T → Type 0) → Host T → Type 0
IsHost Known host.Any = Unit {0}
IsHost Known (host.Prefix prefix negated) = IsNetwork prefix
IsHost Known (host.Table table negated) = Known table

-- a host with its ports
pub record IsSide {T : Type 0} (Known : T → Type 0) (side : Side T) : Type 0 where
  pub host : IsHost Known side.host
  pub ports : IfSome side.ports ArePorts

-- some flag is in the set
abbrev pub has_a_flag : Flags → Bool
has_a_flag f = f.fin || f.syn || f.rst || f.psh || f.ack || f.urg || f.ece || f.cwr

-- of `flags a/b`, b is not empty
abbrev pub IsFlagTest : FlagTest → Type 0
IsFlagTest flag_test.Any = Unit {0}
IsFlagTest (flag_test.Exactly flags among) = has_a_flag among ≡ true

-- a port is asked for without `proto tcp` or `proto udp`
abbrev pub port_without_proto : Filter → Bool
port_without_proto f = (is_some f.from.ports || is_some f.to.ports) && not (asks_ports f.proto)

-- one of the first tables
abbrev pub IsTableNo : ℕ → TableNo → Type 0
IsTableNo tables table = table.0 < tables

-- a filter, where there are so many tables
pub record IsFilter (tables : ℕ) (f : Filter) : Type 0 where
  pub on : IfSome f.on IsInterface
  pub proto : IfSome f.proto IsProto
  pub source : IsSide (IsTableNo tables) f.from
  pub destination : IsSide (IsTableNo tables) f.to
  pub flags : IsFlagTest f.flags
  pub ports : port_without_proto f ≡ false

-- ---- options (pf.conf(5), STATEFUL TRACKING OPTIONS)

-- whether connections of a source are counted: `max-src-conn` or `max-src-conn-rate`
abbrev pub limits_connections : StateOptions → Bool
limits_connections o = is_some o.max_src_conn || is_some o.max_src_conn_rate

-- whether an option is about the sources of a rule
abbrev pub limits_sources : StateOptions → Bool
limits_sources o = is_some o.max_src_nodes || is_some o.max_src_states || limits_connections o

-- `overload` without an option that counts connections
abbrev pub overload_alone : StateOptions → Bool
overload_alone o = is_some o.overload && not (limits_connections o)

-- shared source nodes, of which connections are counted
abbrev pub global_conn : StateOptions → Bool
global_conn o = is_global o.scope && limits_connections o

-- shared source nodes with a retention of the rule's own
abbrev pub global_retention : StateOptions → Bool
global_retention o = is_global o.scope && is_some (slice_index_or o.timeouts (place_of timeout.SrcTrack) None)

-- the same of the options of a rule
abbrev pub adaptive_pair : StateOptions → Bool
adaptive_pair o =
    broken_rule_pair (slice_index_or o.timeouts (place_of timeout.AdaptiveStart) None)
    (slice_index_or o.timeouts (place_of timeout.AdaptiveEnd) None)

-- the options of a rule that keeps state, where there are so many tables
pub record AreOptions (tables : ℕ) (o : StateOptions) : Type 0 where
  pub max : IfSome o.max IsCount
  pub max_src_nodes : IfSome o.max_src_nodes IsCount
  pub max_src_states : IfSome o.max_src_states IsCount
  pub max_src_conn : IfSome o.max_src_conn IsCount
  pub max_src_conn_rate : IfSome o.max_src_conn_rate IsRate
  pub overload : IfSome o.overload (λ v. IsTableNo tables v.table)
  pub tracked : is_none o.scope && limits_sources o ≡ false
  pub connections : overload_alone o ≡ false
  pub rule_connections : global_conn o ≡ false
  pub rule_retention : global_retention o ≡ false
  pub adaptive : adaptive_pair o ≡ false
  pub no_interval : slice_index_or o.timeouts (place_of timeout.Interval) None ≡ None
  pub timeouts : (place : ℕ) → IfSome (slice_index_or o.timeouts place None) (IsTimeout place)
  pub size : length o.timeouts ≡ 16

-- ---- items

-- what a rule does, where there are so many tables
abbrev pub IsAction : ℕ → Action → Type 0
IsAction tables action.Match = Unit {0}
IsAction tables action.Block = Unit {0}
IsAction tables action.Pass = Unit {0}
IsAction tables (action.Keep o) = AreOptions tables o

-- the name of a tag
abbrev pub IsTag : List ℕ → Type 0
IsTag name = is_name 63 name ≡ true

-- what a rule asks of how a packet came
pub record IsCame (c : Came) : Type 0 where
  pub tagged : IfSome c.tagged (λ t. IsTag t.name)
  pub received_on : IfSome c.received_on IsInterface

-- a `match` rule has no `quick`
abbrev pub IsQuick : Action → Bool → Type 0
IsQuick action.Match quick = quick ≡ false
IsQuick _ quick = Unit {0}

-- ports that `nat-to` gives
abbrev pub AreNatPorts : NatPorts → Type 0
AreNatPorts nat_ports.Usual = Unit {0}
AreNatPorts (nat_ports.Given ports) = ArePorts ports
AreNatPorts nat_ports.Static = Unit {0}

-- what is put in place of a source, and of a destination
pub record IsNatTo (n : NatTo) : Type 0 where
  pub addr : IsAddr n.addr
  pub ports : AreNatPorts n.ports

pub record IsRdrTo (r : RdrTo) : Type 0 where
  pub addr : IsAddr r.addr
  pub port : IfSome r.port (λ p. p < 65536)

-- a translation
pub record IsTranslation (t : Translation) : Type 0 where
  pub nat_to : IfSome t.nat_to IsNatTo
  pub rdr_to : IfSome t.rdr_to IsRdrTo

-- a `block` rule translates nothing
abbrev pub MayTranslate : Action → Translation → Type 0
MayTranslate action.Block t = translates_by t ≡ false
MayTranslate _ t = Unit {0}

-- what a rule translates: it has a way, and the family of its addresses, which is also that of its hosts
pub record IsTranslating (r : Rule) : Type 0 where
  pub translation : IsTranslation r.translation
  pub may : MayTranslate r.action r.translation
  pub way : lacks_way r.filter.dir r.translation ≡ false
  pub given : given_family r.filter.family r.translation ≡ r.filter.family
  pub families : mixes_families r.filter.family (family_of_host r.filter.from.host) (family_of_host r.filter.to.host) r.translation ≡ false

-- a rule that keeps the load rules, where there are so many tables
pub record IsRule (tables : ℕ) (r : Rule) : Type 0 where
  pub filter : IsFilter tables r.filter
  pub came : IsCame r.came
  pub tag : IfSome r.tag IsTag
  pub translating : IsTranslating r
  pub action : IsAction tables r.action
  pub quick : IsQuick r.action r.quick

-- an anchor that keeps the load rules
pub record IsAnchor (tables : ℕ) (a : Anchor) : Type 0 where
  pub filter : IsFilter tables a.filter
  pub name : IfSome a.name (λ name. is_name 63 name ≡ true)

-- an item inside so many anchors: a rule inside at most 16, an anchor inside at most 15
abbrev pub IsItemAt : ℕ → ℕ → ItemKind → Type 0
IsItemAt tables depth (what.Rule r) = (depth ≤ 16) × IsRule tables r
IsItemAt tables depth (what.Anchor a) = (depth ≤ 15) × IsAnchor tables a

-- an item that keeps the load rules, where there are so many tables
abbrev pub IsItem : ℕ → Item → Type 0
IsItem tables i = IsItemAt tables i.depth i.what
