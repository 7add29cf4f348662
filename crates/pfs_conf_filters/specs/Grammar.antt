-- The grammar of the parameters: a phrase begins these tokens, has a value, and leaves the tokens after it.
-- (pf.conf(5), PARAMETERS and GRAMMAR)
use Rattle.std.specs.Prelude.{◌≡◌, ℕ, Bool, true, false, List, ◌∷◌, Option, Some, None}
use Rattle.pfs_conf_tokens.specs.Tokens.{Tok}
use Rattle.pfs_conf_tokens.specs.Grammar.{Word, Perhaps, ListOf}
use Rattle.pfs_conf_tokens.specs.declared.keys.Key.{Key}
use Rattle.pfs_conf_tokens.specs.declared.keys.Key.TheVariants as key
use Rattle.pfs_addr_values.specs.Prefixes.{Network}
use Rattle.pfs_addr_values.specs.declared.packets.Dir.{Dir}
use Rattle.pfs_addr_values.specs.declared.packets.Dir.TheVariants as dir
use Rattle.pfs_conf_values.specs.declared.filters.Family.{Family}
use Rattle.pfs_conf_values.specs.declared.filters.Family.TheVariants as family
use Rattle.pfs_conf_values.specs.declared.filters.Interface.{Interface}
use Rattle.pfs_conf_values.specs.declared.filters.Host.{Host}
use Rattle.pfs_conf_values.specs.declared.filters.Host.TheVariants as host
use Rattle.pfs_conf_values.specs.declared.filters.Ports.{Ports}
use Rattle.pfs_conf_values.specs.declared.filters.Side.{Side}
use Rattle.pfs_conf_values.specs.declared.filters.FlagTest.{FlagTest}
use Rattle.pfs_conf_filters.specs.declared.phrases.Verb.{Verb}
use Rattle.pfs_conf_filters.specs.declared.phrases.Verb.TheVariants as verb
use Rattle.pfs_conf_filters.specs.declared.phrases.Statement.{Statement}
use Rattle.pfs_conf_filters.specs.declared.phrases.Statement.TheVariants as statement
use Rattle.pfs_conf_filters.specs.declared.phrases.Marks.{Marks}
use Rattle.pfs_conf_filters.specs.declared.phrases.Head.{Head}
use Rattle.pfs_conf_filters.specs.declared.phrases.Hosts.{Hosts}
use Rattle.pfs_conf_filters.specs.declared.phrases.Parameters.{Parameters}
use Rattle.pfs_conf_filters.specs.declared.phrases.Extras.{Extras}
use Rattle.pfs_addr.specs.Texts.{addr_of, prefix_of}
use Rattle.pfs_addr_values.specs.Protocols.{proto_in}
use Rattle.pfs_conf_values.specs.declared.translations.NatPorts.{NatPorts}
use Rattle.pfs_conf_values.specs.declared.translations.NatPorts.TheVariants as nat_ports
use Rattle.pfs_conf_values.specs.declared.translations.NatTo.{NatTo}
use Rattle.pfs_conf_values.specs.declared.translations.RdrTo.{RdrTo}
use Rattle.pfs_conf_values.specs.declared.translations.Translation.{Translation}
use Rattle.pfs_conf_filters.specs.Values.{in_plain_word, interface_name, tag_name, port_of, ports_of, flag_test}
use Rattle.pfs_conf_tokens.specs.Values.{in_word, table_name}

-- a token that says a value
abbrev pub Says : {A : Type 0} → (Tok → Option A) → List Tok → A → List Tok → Type 0
Says value ts x left = (t : Tok) × (ts ≡ t ∷ left) × (value t ≡ Some x)

-- a word, and a phrase after it
abbrev pub Behind : {A : Type 0} → Key → (List Tok → A → List Tok → Type 0) → List Tok → A → List Tok → Type 0
Behind k P ts x left = (mid : List Tok) × Word k ts mid × P mid x left

-- how a packet is blocked: a word that is read without effect, or none
pub data PolicyOf : List Tok → Bool → List Tok → Type 0 where
  none : {ts : List Tok} → PolicyOf ts false ts
  drop : {ts left : List Tok} → Word key.Drop ts left → PolicyOf ts true left
  return : {ts left : List Tok} → Word key.Return ts left → PolicyOf ts true left
  return_rst : {ts left : List Tok} → Word key.ReturnRst ts left → PolicyOf ts true left
  return_icmp : {ts left : List Tok} → Word key.ReturnIcmp ts left → PolicyOf ts true left
  return_icmp6 : {ts left : List Tok} → Word key.ReturnIcmp6 ts left → PolicyOf ts true left

-- what a rule begins with
pub data VerbOf : List Tok → Verb → List Tok → Type 0 where
  pass : {ts left : List Tok} → Word key.Pass ts left → VerbOf ts verb.Pass left
  block : {ts mid left : List Tok} {p : Bool} → Word key.Block ts mid → PolicyOf mid p left → VerbOf ts (verb.Block p) left
  matching : {ts left : List Tok} → Word key.Match ts left → VerbOf ts verb.Match left

-- what the parameters behind it belong to
abbrev pub statement_of : Verb → Statement
statement_of verb.Match = statement.Match
statement_of _ = statement.Rule

-- a match rule has no state clause
abbrev pub takes_state : Verb → Bool
takes_state verb.Match = false
takes_state _ = true

-- a block rule translates nothing
abbrev pub may_translate : Verb → Bool
may_translate (verb.Block has_policy) = false
may_translate _ = true

pub data DirOf : List Tok → Dir → List Tok → Type 0 where
  inward : {ts left : List Tok} → Word key.In ts left → DirOf ts dir.In left
  outward : {ts left : List Tok} → Word key.Out ts left → DirOf ts dir.Out left

-- what is logged is read without effect, and may be repeated
pub data LogItemOf : Unit {0} → List Tok → Unit {0} → List Tok → Type 0 where
  all : {ts left : List Tok} → Word key.All ts left → LogItemOf tt ts tt left
  matches : {ts left : List Tok} → Word key.Matches ts left → LogItemOf tt ts tt left
  user : {ts left : List Tok} → Word key.User ts left → LogItemOf tt ts tt left
  to : {ts mid left : List Tok} {n : List ℕ} → Word key.To ts mid → Says interface_name mid n left → LogItemOf tt ts tt left

-- after `log`: nothing, or a list in parentheses
pub data LogListOf : List Tok → List Tok → Type 0 where
  bare : {ts : List Tok} → LogListOf ts ts
  listed : {ts mid left : List Tok} → Word key.OpenParen ts mid → ListOf key.CloseParen LogItemOf tt mid tt left → LogListOf ts left

pub data LogOf : List Tok → Bool → List Tok → Type 0 where
  silent : {ts : List Tok} → LogOf ts false ts
  logs : {ts mid left : List Tok} → Word key.Log ts mid → LogListOf mid left → LogOf ts true left

pub data QuickOf : List Tok → Bool → List Tok → Type 0 where
  slow : {ts : List Tok} → QuickOf ts false ts
  quick : {ts left : List Tok} → Word key.Quick ts left → QuickOf ts true left

-- `log` and `quick` of a rule, in either order; a match rule has no `quick`, an anchor no `log`
pub data MarksOf : Statement → List Tok → Marks → List Tok → Type 0 where
  log_first : {ts mid left : List Tok} {l q : Bool} → LogOf ts l mid → QuickOf mid q left → MarksOf statement.Rule ts (record { log = l; quick = q }) left
  quick_first : {ts mid left : List Tok} → Word key.Quick ts mid → LogOf mid true left → MarksOf statement.Rule ts (record { log = true; quick = true }) left
  of_match : {ts left : List Tok} {l : Bool} → LogOf ts l left → MarksOf statement.Match ts (record { log = l; quick = false }) left
  of_anchor : {ts left : List Tok} {q : Bool} → QuickOf ts q left → MarksOf statement.Anchor ts (record { log = false; quick = q }) left

pub data NegationOf : List Tok → Bool → List Tok → Type 0 where
  affirmed : {ts : List Tok} → NegationOf ts false ts
  negated : {ts left : List Tok} → Word key.Not ts left → NegationOf ts true left

-- after `on`
pub data OnOf : List Tok → Interface → List Tok → Type 0 where
  on : {ts mid left : List Tok} {b : Bool} {n : List ℕ} → NegationOf ts b mid → Says interface_name mid n left → OnOf ts (record { name = n; negated = b }) left

pub data FamilyOf : List Tok → Family → List Tok → Type 0 where
  inet : {ts left : List Tok} → Word key.Inet ts left → FamilyOf ts family.Inet left
  inet6 : {ts left : List Tok} → Word key.Inet6 ts left → FamilyOf ts family.Inet6 left

-- the parameters before the hosts
pub record HeadOf (s : Statement) (ts : List Tok) (h : Head) (left : List Tok) : Type 0 where
  pub a : List Tok
  pub b : List Tok
  pub c : List Tok
  pub d : List Tok
  pub dir : Perhaps DirOf ts h.dir a
  pub marks : MarksOf s a h.marks b
  pub on : Perhaps (Behind key.On OnOf) b h.on c
  pub family : Perhaps FamilyOf c h.family d
  pub proto : Perhaps (Behind key.Proto (Says (in_word proto_in))) d h.proto left

pub data HostOf : List Tok → Host (List ℕ) → List Tok → Type 0 where
  any : {ts left : List Tok} → Word key.Any ts left → HostOf ts host.Any left
  prefix : {ts mid left : List Tok} {b : Bool} {p : Network} → NegationOf ts b mid → Says (in_plain_word prefix_of) mid p left → HostOf ts (host.Prefix p b) left
  table : {ts mid name close left : List Tok} {b : Bool} {n : List ℕ} → NegationOf ts b mid → Word key.OpenAngle mid name → Says table_name name n close → Word key.CloseAngle close left → HostOf ts (host.Table n b) left

-- after `port`
pub data PortsOf : List Tok → Ports → List Tok → Type 0 where
  plainly : {ts left : List Tok} {p : Ports} → Says (in_word ports_of) ts p left → PortsOf ts p left
  equals : {ts mid left : List Tok} {p : Ports} → Word key.Equals ts mid → Says (in_word ports_of) mid p left → PortsOf ts p left

-- after `from` and `to`: a host, with ports or without, or ports alone
pub data SideOf : List Tok → Side (List ℕ) → List Tok → Type 0 where
  hosted : {ts mid left : List Tok} {h : Host (List ℕ)} {p : Option Ports} → HostOf ts h mid → Perhaps (Behind key.Port PortsOf) mid p left → SideOf ts (record { host = h; ports = p }) left
  ported : {ts left : List Tok} {p : Ports} → Behind key.Port PortsOf ts p left → SideOf ts (record { host = host.Any; ports = Some p }) left

pub data HostsOf : List Tok → Hosts → List Tok → Type 0 where
  every : {ts left : List Tok} → Word key.All ts left → HostsOf ts (record { all = true; from = None; to = None }) left
  sides : {ts mid left : List Tok} {f t : Option (Side (List ℕ))} → Perhaps (Behind key.From SideOf) ts f mid → Perhaps (Behind key.To SideOf) mid t left → HostsOf ts (record { all = false; from = f; to = t }) left

-- the parameters of a rule or an anchor, up to its hosts
pub record ParametersOf (s : Statement) (ts : List Tok) (p : Parameters) (left : List Tok) : Type 0 where
  pub mid : List Tok
  pub head : HeadOf s ts p.head mid
  pub hosts : HostsOf mid p.hosts left

-- which TCP flags are asked for
abbrev pub FlagsOf : List Tok → FlagTest → List Tok → Type 0
FlagsOf ts x left = Behind key.Flags (Says flag_test) ts x left

-- none of what a rule may have behind its parameters
abbrev pub no_extras : Extras
no_extras = record { tag = None; tagged = None; received_on = None }

-- one part of it is added to those that a rule has: one that it has not yet
pub data ExtraOf : Extras → List Tok → Extras → List Tok → Type 0 where
  tag : {e : Extras} {ts mid left : List Tok} {n : List ℕ} → e.tag ≡ None → Word key.Tag ts mid → Says tag_name mid n left → ExtraOf e ts (record e { tag = Some n }) left
  tagged : {e : Extras} {ts word mid left : List Tok} {b : Bool} {n : List ℕ} → e.tagged ≡ None → NegationOf ts b word → Word key.Tagged word mid → Says tag_name mid n left
      → ExtraOf e ts (record e { tagged = Some (record { name = n; negated = b }) }) left
  received_on : {e : Extras} {ts word mid left : List Tok} {b : Bool} {n : List ℕ} → e.received_on ≡ None → NegationOf ts b word → Word key.ReceivedOn word mid → Says interface_name mid n left
      → ExtraOf e ts (record e { received_on = Some (record { name = n; negated = b }) }) left

-- ---- translation (pf.conf(5), TRANSLATION)

-- the ports behind the address of `nat-to`, or none
pub data NatPortsOf : List Tok → NatPorts → List Tok → Type 0 where
  usual : {ts : List Tok} → NatPortsOf ts nat_ports.Usual ts
  given : {ts mid left : List Tok} {p : Ports} → Word key.Port ts mid → Says (in_word ports_of) mid p left → NatPortsOf ts (nat_ports.Given p) left
  same : {ts left : List Tok} → Word key.StaticPort ts left → NatPortsOf ts nat_ports.Static left

-- after `nat-to`
pub record NatToOf (ts : List Tok) (n : NatTo) (left : List Tok) : Type 0 where
  pub mid : List Tok
  pub addr : Says (in_plain_word addr_of) ts n.addr mid
  pub ports : NatPortsOf mid n.ports left

-- after `rdr-to`
pub record RdrToOf (ts : List Tok) (r : RdrTo) (left : List Tok) : Type 0 where
  pub mid : List Tok
  pub addr : Says (in_plain_word addr_of) ts r.addr mid
  pub port : Perhaps (Behind key.Port (Says (in_word port_of))) mid r.port left

-- one part is added to those that a rule has: one that it has not yet
pub data TranslationOf : Translation → List Tok → Translation → List Tok → Type 0 where
  nat_to : {t : Translation} {ts mid left : List Tok} {n : NatTo} → t.nat_to ≡ None → Word key.NatTo ts mid → NatToOf mid n left → TranslationOf t ts (record t { nat_to = Some n }) left
  rdr_to : {t : Translation} {ts mid left : List Tok} {r : RdrTo} → t.rdr_to ≡ None → Word key.RdrTo ts mid → RdrToOf mid r left → TranslationOf t ts (record t { rdr_to = Some r }) left
