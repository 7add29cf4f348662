-- Reading the parameters from left to right: one definition for each reader of the code, made of the parts of pfs_conf_tokens
-- alone, so that each looks no further than the token in front of what it leaves. (own) (not promised)
use Rattle.std.specs.Prelude.{ℕ, Bool, true, false, ◌&&◌, List, Option, Some, None, is_some, if◌then◌else◌}
use Rattle.pfs_conf_tokens.specs.Reading.{closes_parens, Reader, Act, take, stay, refuse, on_front, done, chain, once, perhaps, list_all}
use Rattle.pfs_conf_tokens.specs.declared.keys.Key.{Key}
use Rattle.pfs_conf_tokens.specs.declared.keys.Key.TheVariants as key
use Rattle.pfs_conf_tokens.specs.declared.refusals.Why.TheVariants as why
use Rattle.pfs_addr_values.specs.declared.packets.Dir.{Dir}
use Rattle.pfs_addr_values.specs.declared.packets.Dir.TheVariants as dir
use Rattle.pfs_addr_values.specs.declared.protocols.Proto.{Proto}
use Rattle.pfs_conf_values.specs.declared.filters.Family.{Family}
use Rattle.pfs_conf_values.specs.declared.filters.Family.TheVariants as family
use Rattle.pfs_conf_values.specs.declared.filters.Interface.{Interface}
use Rattle.pfs_conf_values.specs.declared.filters.Tagged.{Tagged}
use Rattle.pfs_conf_values.specs.declared.filters.Host.{Host}
use Rattle.pfs_conf_values.specs.declared.filters.Host.TheVariants as host
use Rattle.pfs_conf_values.specs.declared.filters.Ports.{Ports}
use Rattle.pfs_conf_values.specs.declared.filters.Side.{Side}
use Rattle.pfs_conf_values.specs.declared.filters.FlagTest.{FlagTest}
use Rattle.pfs_conf_filters.specs.declared.phrases.Verb.{Verb}
use Rattle.pfs_conf_filters.specs.declared.phrases.Verb.TheVariants as verb
use Rattle.pfs_conf_filters.specs.declared.phrases.Statement.{Statement}
use Rattle.pfs_conf_filters.specs.declared.phrases.Statement.TheVariants as statement
use Rattle.pfs_conf_filters.specs.declared.phrases.Marks.{Marks}
use Rattle.pfs_conf_filters.specs.declared.phrases.Head.{Head}
use Rattle.pfs_conf_filters.specs.declared.phrases.Hosts.{Hosts}
use Rattle.pfs_conf_filters.specs.declared.phrases.Parameters.{Parameters}
use Rattle.pfs_conf_filters.specs.declared.phrases.Extras.{Extras}
use Rattle.pfs_addr.specs.Texts.{addr_of, prefix_of}
use Rattle.pfs_addr_values.specs.Protocols.{proto_in}
use Rattle.pfs_addr_values.specs.declared.addresses.Addr.{Addr}
use Rattle.pfs_conf_values.specs.declared.translations.NatPorts.{NatPorts}
use Rattle.pfs_conf_values.specs.declared.translations.NatPorts.TheVariants as nat_ports
use Rattle.pfs_conf_values.specs.declared.translations.NatTo.{NatTo}
use Rattle.pfs_conf_values.specs.declared.translations.RdrTo.{RdrTo}
use Rattle.pfs_conf_values.specs.declared.translations.Translation.{Translation}
use Rattle.pfs_conf_filters.specs.Values.{in_plain_word, interface_name, tag_name, port_of, ports_of, flag_test}
use Rattle.pfs_conf_tokens.specs.Values.{in_word, table_name_at, value_at}

-- a part that one word begins, and what follows the word
abbrev pub behind : {A : Type 0} → Bool → Reader A → Act A
behind true f = take f
behind false f = refuse why.Plain

abbrev pub clause : {A : Type 0} → (Key → Bool) → Reader A → Reader A
clause begins f ts = on_front (λ t. behind (begins t.key) f) ts

-- the same where it may be absent
abbrev pub part : {A : Type 0} → (Key → Bool) → Reader A → Reader (Option A)
part begins f ts = perhaps begins (clause begins f) ts

-- ---- words that begin parts

abbrev pub begins_dir : Key → Bool
begins_dir key.In = true
begins_dir key.Out = true
begins_dir _ = false

abbrev pub begins_on : Key → Bool
begins_on key.On = true
begins_on _ = false

abbrev pub begins_family : Key → Bool
begins_family key.Inet = true
begins_family key.Inet6 = true
begins_family _ = false

abbrev pub begins_proto : Key → Bool
begins_proto key.Proto = true
begins_proto _ = false

abbrev pub begins_from : Key → Bool
begins_from key.From = true
begins_from _ = false

abbrev pub begins_to : Key → Bool
begins_to key.To = true
begins_to _ = false

abbrev pub begins_port : Key → Bool
begins_port key.Port = true
begins_port _ = false

abbrev pub begins_flags : Key → Bool
begins_flags key.Flags = true
begins_flags _ = false

-- ---- names

unfoldable pub interface_at : Reader (List ℕ)
interface_at ts = value_at why.Plain interface_name ts

unfoldable pub tag_name_at : Reader (List ℕ)
tag_name_at ts = value_at why.Plain tag_name ts

-- ---- the action

-- a word that says how a packet is blocked
abbrev pub policy_by : Key → Act Bool
policy_by key.Drop = take (done true)
policy_by key.Return = take (done true)
policy_by key.ReturnRst = take (done true)
policy_by key.ReturnIcmp = take (done true)
policy_by key.ReturnIcmp6 = take (done true)
policy_by _ = stay (done false)

unfoldable pub policy_at : Reader Bool
policy_at ts = on_front (λ t. policy_by t.key) ts

abbrev pub verb_by : Key → Act Verb
verb_by key.Pass = take (done verb.Pass)
verb_by key.Block = take (chain policy_at (λ p. done (verb.Block p)))
verb_by key.Match = take (done verb.Match)
verb_by _ = refuse why.Statement

unfoldable pub verb_at : Reader Verb
verb_at ts = on_front (λ t. verb_by t.key) ts

-- ---- direction, log and quick

abbrev pub dir_by : Key → Act Dir
dir_by key.In = take (done dir.In)
dir_by key.Out = take (done dir.Out)
dir_by _ = refuse why.Plain

unfoldable pub dir_at : Reader (Option Dir)
dir_at ts = perhaps begins_dir (on_front (λ t. dir_by t.key)) ts

-- what is logged, which has no effect
abbrev pub log_item_by : Key → Act (Unit {0})
log_item_by key.All = take (done tt)
log_item_by key.Matches = take (done tt)
log_item_by key.User = take (done tt)
log_item_by key.To = take (chain interface_at (λ name. done tt))
log_item_by _ = refuse why.Plain

unfoldable pub log_item_at : Unit {0} → Reader (Unit {0})
log_item_at u ts = on_front (λ t. log_item_by t.key) ts

-- the list after `log`, if there is one
abbrev pub log_list_by : Key → Act (Unit {0})
log_list_by key.OpenParen = take (list_all closes_parens log_item_at tt)
log_list_by _ = stay (done tt)

unfoldable pub log_list_at : Reader (Unit {0})
log_list_at ts = on_front (λ t. log_list_by t.key) ts

abbrev pub log_by : Key → Act Bool
log_by key.Log = take (chain log_list_at (λ u. done true))
log_by _ = stay (done false)

unfoldable pub log_at : Reader Bool
log_at ts = on_front (λ t. log_by t.key) ts

abbrev pub quick_by : Key → Act Bool
quick_by key.Quick = take (done true)
quick_by _ = stay (done false)

unfoldable pub quick_at : Reader Bool
quick_at ts = on_front (λ t. quick_by t.key) ts

abbrev pub marks_of : Bool → Bool → Marks
marks_of l q = record { log = l; quick = q }

-- of a rule, `log` and `quick` in either order; a match rule is not quick; an anchor logs nothing
abbrev pub rule_marks_by : Key → Act Marks
rule_marks_by key.Quick = take (chain log_at (λ l. done (marks_of l true)))
rule_marks_by _ = stay (chain log_at (λ l. chain quick_at (λ q. done (marks_of l q))))

abbrev pub marks_by : Statement → Key → Act Marks
marks_by statement.Rule k = rule_marks_by k
marks_by statement.Match k = stay (chain log_at (λ l. done (marks_of l false)))
marks_by statement.Anchor k = stay (chain quick_at (λ q. done (marks_of false q)))

unfoldable pub marks_at : Statement → Reader Marks
marks_at s ts = on_front (λ t. marks_by s t.key) ts

-- ---- interface, family and protocol

-- `!` says that a name, or a host, is the one that must not be
abbrev pub negation_by : Key → Act Bool
negation_by key.Not = take (done true)
negation_by _ = stay (done false)

unfoldable pub negation_at : Reader Bool
negation_at ts = on_front (λ t. negation_by t.key) ts

abbrev pub interface : List ℕ → Bool → Interface
interface n b = record { name = n; negated = b }

unfoldable pub on_at : Reader Interface
on_at ts = chain negation_at (λ b. chain interface_at (λ n. done (interface n b))) ts

unfoldable pub on_part_at : Reader (Option Interface)
on_part_at ts = part begins_on on_at ts

abbrev pub family_by : Key → Act Family
family_by key.Inet = take (done family.Inet)
family_by key.Inet6 = take (done family.Inet6)
family_by _ = refuse why.Plain

unfoldable pub family_part_at : Reader (Option Family)
family_part_at ts = perhaps begins_family (on_front (λ t. family_by t.key)) ts

unfoldable pub proto_at : Reader Proto
proto_at ts = value_at why.Service (in_word proto_in) ts

unfoldable pub proto_part_at : Reader (Option Proto)
proto_part_at ts = part begins_proto proto_at ts

-- the parameters before the hosts
unfoldable pub head_at : Statement → Reader Head
head_at s ts = chain dir_at (λ d. chain (marks_at s) (λ m. chain on_part_at (λ o. chain family_part_at (λ f. chain proto_part_at (λ p.
    done (record { dir = d; marks = m; on = o; family = f; proto = p })))))) ts

-- ---- hosts

abbrev pub close_by : Key → Act (Unit {0})
close_by key.CloseAngle = take (done tt)
close_by _ = refuse why.Plain

unfoldable pub close_at : Reader (Unit {0})
close_at ts = on_front (λ t. close_by t.key) ts

-- a table or a prefix, after its `!` if it has one
abbrev pub place_by : Bool → Key → Act (Host (List ℕ))
place_by b key.OpenAngle = take (chain table_name_at (λ n. chain close_at (λ u. done (host.Table n b))))
place_by b _ = stay (chain (value_at why.Host (in_plain_word prefix_of)) (λ p. done (host.Prefix p b)))

unfoldable pub place_at : Bool → Reader (Host (List ℕ))
place_at b ts = on_front (λ t. place_by b t.key) ts

abbrev pub host_by : Key → Act (Host (List ℕ))
host_by key.Any = take (done host.Any)
host_by _ = stay (chain negation_at place_at)

unfoldable pub host_at : Reader (Host (List ℕ))
host_at ts = on_front (λ t. host_by t.key) ts

abbrev pub equals_by : Key → Act Bool
equals_by key.Equals = take (done true)
equals_by _ = stay (done false)

unfoldable pub equals_at : Reader Bool
equals_at ts = on_front (λ t. equals_by t.key) ts

unfoldable pub ports_at : Reader Ports
ports_at ts = chain equals_at (λ e. value_at why.Service (in_word ports_of)) ts

unfoldable pub ports_part_at : Reader (Option Ports)
ports_part_at ts = part begins_port ports_at ts

-- a side may begin with its ports: its host is any then
abbrev pub side_host_by : Key → Act (Host (List ℕ))
side_host_by key.Port = stay (done host.Any)
side_host_by _ = stay host_at

unfoldable pub side_host_at : Reader (Host (List ℕ))
side_host_at ts = on_front (λ t. side_host_by t.key) ts

abbrev pub side : Host (List ℕ) → Option Ports → Side (List ℕ)
side h p = record { host = h; ports = p }

unfoldable pub side_at : Reader (Side (List ℕ))
side_at ts = chain side_host_at (λ h. chain ports_part_at (λ p. done (side h p))) ts

unfoldable pub from_part_at : Reader (Option (Side (List ℕ)))
from_part_at ts = part begins_from side_at ts

unfoldable pub to_part_at : Reader (Option (Side (List ℕ)))
to_part_at ts = part begins_to side_at ts

abbrev pub all_hosts : Hosts
all_hosts = record { all = true; from = None; to = None }

abbrev pub given_hosts : Option (Side (List ℕ)) → Option (Side (List ℕ)) → Hosts
given_hosts f t = record { all = false; from = f; to = t }

abbrev pub hosts_by : Key → Act Hosts
hosts_by key.All = take (done all_hosts)
hosts_by _ = stay (chain from_part_at (λ f. chain to_part_at (λ t. done (given_hosts f t))))

unfoldable pub hosts_at : Reader Hosts
hosts_at ts = on_front (λ t. hosts_by t.key) ts

-- ---- the parameters of a rule or an anchor, and its flags

unfoldable pub parameters_at : Statement → Reader Parameters
parameters_at s ts = chain (head_at s) (λ h. chain hosts_at (λ o. done (record { head = h; hosts = o }))) ts

unfoldable pub flags_at : Reader FlagTest
flags_at ts = clause begins_flags (value_at why.Plain flag_test) ts

-- ---- what a rule has behind its parameters

abbrev pub tag_test : List ℕ → Bool → Tagged
tag_test n b = record { name = n; negated = b }

unfoldable pub tag_at : Extras → Reader Extras
tag_at e ts = chain tag_name_at (λ n. done (record e { tag = Some n })) ts

unfoldable pub tagged_at : Extras → Bool → Reader Extras
tagged_at e b ts = chain tag_name_at (λ n. done (record e { tagged = Some (tag_test n b) })) ts

unfoldable pub received_on_at : Extras → Bool → Reader Extras
received_on_at e b ts = chain interface_at (λ n. done (record e { received_on = Some (interface n b) })) ts

-- what is asked of how a packet came, after its `!` if it has one
abbrev pub asked_by : Extras → Bool → Key → Act Extras
asked_by e b key.Tagged = once e.tagged (take (tagged_at e b))
asked_by e b key.ReceivedOn = once e.received_on (take (received_on_at e b))
asked_by e b _ = refuse why.Plain

-- both parts are given that a `!` may begin
abbrev pub asks_both : Extras → Bool
asks_both e = is_some e.tagged && is_some e.received_on

-- a `!` is repeated where both are
abbrev pub extra_by : Extras → Key → Act Extras
extra_by e key.Tag = once e.tag (take (tag_at e))
extra_by e key.Not = if asks_both e then refuse why.Again else take (on_front (λ t. asked_by e true t.key))
extra_by e k = asked_by e false k

unfoldable pub extra_at : Extras → Reader Extras
extra_at e ts = on_front (λ t. extra_by e t.key) ts

-- ---- translation

unfoldable pub address_at : Reader Addr
address_at ts = value_at why.Host (in_plain_word addr_of) ts

-- the ports behind the address of `nat-to`
unfoldable pub given_ports_at : Reader NatPorts
given_ports_at ts = chain (value_at why.Service (in_word ports_of)) (λ p. done (nat_ports.Given p)) ts

abbrev pub nat_ports_by : Key → Act NatPorts
nat_ports_by key.Port = take given_ports_at
nat_ports_by key.StaticPort = take (done nat_ports.Static)
nat_ports_by _ = stay (done nat_ports.Usual)

unfoldable pub nat_ports_at : Reader NatPorts
nat_ports_at ts = on_front (λ t. nat_ports_by t.key) ts

abbrev pub natted : Addr → NatPorts → NatTo
natted a p = record { addr = a; ports = p }

unfoldable pub nat_to_at : Reader NatTo
nat_to_at ts = chain address_at (λ a. chain nat_ports_at (λ p. done (natted a p))) ts

-- the port behind the address of `rdr-to`
unfoldable pub port_at : Reader ℕ
port_at ts = value_at why.Service (in_word port_of) ts

unfoldable pub port_part_at : Reader (Option ℕ)
port_part_at ts = part begins_port port_at ts

abbrev pub redirected : Addr → Option ℕ → RdrTo
redirected a p = record { addr = a; port = p }

unfoldable pub rdr_to_at : Reader RdrTo
rdr_to_at ts = chain address_at (λ a. chain port_part_at (λ p. done (redirected a p))) ts

unfoldable pub with_nat_at : Translation → Reader Translation
with_nat_at t ts = chain nat_to_at (λ n. done (record t { nat_to = Some n })) ts

unfoldable pub with_rdr_at : Translation → Reader Translation
with_rdr_at t ts = chain rdr_to_at (λ r. done (record t { rdr_to = Some r })) ts

abbrev pub translation_by : Translation → Key → Act Translation
translation_by t key.NatTo = once t.nat_to (take (with_nat_at t))
translation_by t key.RdrTo = once t.rdr_to (take (with_rdr_at t))
translation_by t _ = refuse why.Plain

unfoldable pub translation_at : Translation → Reader Translation
translation_at t ts = on_front (λ u. translation_by t u.key) ts
