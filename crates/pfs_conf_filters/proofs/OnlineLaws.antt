-- Each reader of parameters looks no further than the token in front of what it leaves, and goes over tokens of one line.
--
-- A crate above imports them as `use Rattle.pfs_conf_filters.proofs.OnlineLaws.{online_verb, ..}`.
use Rattle.std.proofs.Common.{◌≡◌, ℕ, Bool, true, false, List, Option, Some, refl, cond}
use Rattle.pfs_conf_tokens.specs.Tokens.{Tok}
use Rattle.pfs_conf_tokens.specs.Keys.{in_line}
use Rattle.pfs_conf_tokens.specs.Reading.{closes_parens, Reader, on_front, done, chain, next_of, take, refuse}
use Rattle.pfs_conf_tokens.specs.declared.keys.Key.{Key}
use Rattle.pfs_conf_tokens.specs.declared.keys.Key.TheVariants as key
use Rattle.pfs_conf_tokens.specs.declared.refusals.Why.TheVariants as why
use Rattle.pfs_conf_tokens.proofs.Laws.{Online, OnlineAct, Taking, Shrinks, inside, online_done, online_chain, online_front, online_taking, online_perhaps, front_shrinks, chain_shrinks, chain_shrinks_behind, once_taking}
use Rattle.pfs_conf_tokens.proofs.ReaderLaws.{passes_in_line, closes_parens_in_line, online_list, next_shrinks}
use Rattle.pfs_addr_values.specs.declared.packets.Dir.TheVariants as dir
use Rattle.pfs_conf_values.specs.declared.filters.Family.TheVariants as family
use Rattle.pfs_conf_values.specs.declared.filters.FlagTest.{FlagTest}
use Rattle.pfs_conf_values.specs.declared.filters.Host.TheVariants as host
use Rattle.pfs_conf_filters.specs.declared.phrases.Verb.TheVariants as verb
use Rattle.pfs_conf_filters.specs.declared.phrases.Statement.{Statement}
use Rattle.pfs_conf_filters.specs.declared.phrases.Statement.TheVariants as statement
use Rattle.pfs_addr.specs.Texts.{addr_of, prefix_of}
use Rattle.pfs_addr_values.specs.Protocols.{proto_in}
use Rattle.pfs_conf_filters.specs.Values.{is_plain_word, in_plain_word, may_name_interface, interface_name, port_of, ports_of, flag_test_by, flag_test, tag_name}
use Rattle.pfs_conf_filters.specs.Reading.{behind, clause, part, begins_dir, begins_on, begins_family, begins_proto, begins_from, begins_to, begins_port, begins_flags, interface_at, policy_by, policy_at, verb_by, verb_at, dir_by, dir_at, log_item_by, log_item_at, log_list_by, log_list_at, log_by, log_at, quick_by, quick_at, marks_of, marks_by, marks_at, negation_by, negation_at, interface, on_at, on_part_at, family_by, family_part_at, proto_at, proto_part_at, head_at, close_by, close_at, place_by, place_at, host_by, host_at, equals_by, equals_at, ports_at, ports_part_at, side_host_by, side_host_at, side, side_at, from_part_at, to_part_at, all_hosts, given_hosts, hosts_by, hosts_at, parameters_at, flags_at, tag_name_at, tag_test, tag_at, tagged_at, received_on_at, asked_by, asks_both, extra_by, extra_at, address_at, given_ports_at, nat_ports_by, nat_ports_at, natted, nat_to_at, port_at, port_part_at, redirected, rdr_to_at, with_nat_at, with_rdr_at, translation_by, translation_at}
use Rattle.pfs_conf_tokens.specs.Values.{in_word, table_name_at, value_at}
use Rattle.pfs_conf_tokens.proofs.ValueLaws.{passed, in_word_in_line, online_value, value_shrinks, online_table_name}
use Rattle.pfs_conf_filters.specs.declared.phrases.Extras.{Extras}
use Rattle.pfs_conf_values.specs.declared.translations.NatPorts.TheVariants as nat_ports
use Rattle.pfs_conf_values.specs.declared.translations.Translation.{Translation}

-- ---- words that say a value

plain_in_line : (k : Key) → is_plain_word k ≡ true → in_line k ≡ true
plain_in_line = passes_in_line is_plain_word refl refl

pub in_plain_word_in_line : {A : Type 0} (value : List ℕ → Option A) (t : Tok) (x : A) → in_plain_word value t ≡ Some x → in_line t.key ≡ true
in_plain_word_in_line value t x e = plain_in_line t.key (passed (is_plain_word t.key) (value t.text) x e)

name_in_line : (k : Key) → may_name_interface k ≡ true → in_line k ≡ true
name_in_line = passes_in_line may_name_interface refl refl

pub interface_in_line : (t : Tok) (x : List ℕ) → interface_name t ≡ Some x → in_line t.key ≡ true
interface_in_line t x e = name_in_line t.key (passed (may_name_interface t.key) _ x e)

pub flags_in_line : (text : List ℕ) (k : Key) (x : FlagTest) → flag_test_by text k ≡ Some x → in_line k ≡ true
flags_in_line text key.LineEnd x e = absurd cc
flags_in_line text key.End x e = absurd cc
flags_in_line text _ x e = refl

-- ---- parts that a word begins

behind_taking : {A : Type 0} (k : Key) (b : Bool) (f : Reader A) → (b ≡ true → in_line k ≡ true) → Online inside f → Taking inside k (behind b f)
behind_taking k true f h g = (h refl, g)
behind_taking k false f h g = tt

pub online_clause : {A : Type 0} (begins : Key → Bool) (f : Reader A) → begins key.LineEnd ≡ false → begins key.End ≡ false → Online inside f → Online inside (clause begins f)
online_clause begins f l n g = online_taking (λ t. behind (begins t.key) f) (λ t. behind_taking t.key (begins t.key) f (passes_in_line begins l n t.key) g)

pub clause_shrinks : {A : Type 0} (begins : Key → Bool) (f : Reader A) → begins key.LineEnd ≡ false → begins key.End ≡ false → Online inside f → Shrinks (clause begins f)
clause_shrinks begins f l n g = front_shrinks inside (λ t. behind (begins t.key) f) (λ t. behind_taking t.key (begins t.key) f (passes_in_line begins l n t.key) g)

pub online_part : {A : Type 0} (begins : Key → Bool) (f : Reader A) → begins key.LineEnd ≡ false → begins key.End ≡ false → Online inside f → Online inside (part begins f)
online_part begins f l n g = online_perhaps begins (clause begins f) (online_clause begins f l n g)

-- ---- names

pub online_interface_name : Online inside interface_at
unfolding interface_at
online_interface_name = online_value why.Plain interface_name interface_in_line

pub online_tag_name : Online inside tag_name_at
unfolding tag_name_at
online_tag_name = online_value why.Plain tag_name (in_word_in_line _)

-- ---- the action

policy_acts : (k : Key) → OnlineAct inside k (policy_by k)
policy_acts key.Drop = (refl, online_done true)
policy_acts key.Return = (refl, online_done true)
policy_acts key.ReturnRst = (refl, online_done true)
policy_acts key.ReturnIcmp = (refl, online_done true)
policy_acts key.ReturnIcmp6 = (refl, online_done true)
policy_acts _ = online_done false

pub online_policy : Online inside policy_at
unfolding policy_at
online_policy = online_front (λ t. policy_by t.key) (λ t. policy_acts t.key)

verb_taking : (k : Key) → Taking inside k (verb_by k)
verb_taking key.Pass = (refl, online_done verb.Pass)
verb_taking key.Match = (refl, online_done verb.Match)
verb_taking key.Block = (refl, online_chain policy_at (λ p. done (verb.Block p)) online_policy (λ p. online_done (verb.Block p)))
verb_taking _ = tt

pub online_verb : Online inside verb_at
unfolding verb_at
online_verb = online_taking (λ t. verb_by t.key) (λ t. verb_taking t.key)

pub verb_shrinks : Shrinks verb_at
unfolding verb_at
verb_shrinks = front_shrinks inside (λ t. verb_by t.key) (λ t. verb_taking t.key)

-- ---- direction, log and quick

dir_taking : (k : Key) → Taking inside k (dir_by k)
dir_taking key.In = (refl, online_done dir.In)
dir_taking key.Out = (refl, online_done dir.Out)
dir_taking _ = tt

pub online_dir : Online inside dir_at
unfolding dir_at
online_dir = online_perhaps begins_dir (on_front (λ t. dir_by t.key)) (online_taking (λ t. dir_by t.key) (λ t. dir_taking t.key))

log_item_taking : (k : Key) → Taking inside k (log_item_by k)
log_item_taking key.All = (refl, online_done tt)
log_item_taking key.Matches = (refl, online_done tt)
log_item_taking key.User = (refl, online_done tt)
log_item_taking key.To = (refl, online_chain interface_at (λ n. done tt) online_interface_name (λ n. online_done tt))
log_item_taking _ = tt

pub online_log_item : (u : Unit {0}) → Online inside (log_item_at u)
unfolding log_item_at
online_log_item u = online_taking (λ t. log_item_by t.key) (λ t. log_item_taking t.key)

pub log_item_shrinks : (u : Unit {0}) → Shrinks (log_item_at u)
unfolding log_item_at
log_item_shrinks u = front_shrinks inside (λ t. log_item_by t.key) (λ t. log_item_taking t.key)

pub next_log_item_shrinks : (u : Unit {0}) → Shrinks (next_of log_item_at u)
next_log_item_shrinks u = next_shrinks log_item_at log_item_shrinks u

log_list_acts : (k : Key) → OnlineAct inside k (log_list_by k)
log_list_acts key.OpenParen = (refl, online_list closes_parens log_item_at closes_parens_in_line log_item_shrinks online_log_item tt)
log_list_acts _ = online_done tt

pub online_log_list : Online inside log_list_at
unfolding log_list_at
online_log_list = online_front (λ t. log_list_by t.key) (λ t. log_list_acts t.key)

log_acts : (k : Key) → OnlineAct inside k (log_by k)
log_acts key.Log = (refl, online_chain log_list_at (λ u. done true) online_log_list (λ u. online_done true))
log_acts _ = online_done false

pub online_log : Online inside log_at
unfolding log_at
online_log = online_front (λ t. log_by t.key) (λ t. log_acts t.key)

quick_acts : (k : Key) → OnlineAct inside k (quick_by k)
quick_acts key.Quick = (refl, online_done true)
quick_acts _ = online_done false

pub online_quick : Online inside quick_at
unfolding quick_at
online_quick = online_front (λ t. quick_by t.key) (λ t. quick_acts t.key)

marks_acts : (s : Statement) (k : Key) → OnlineAct inside k (marks_by s k)
marks_acts statement.Rule key.Quick = (refl, online_chain log_at (λ l. done (marks_of l true)) online_log (λ l. online_done (marks_of l true)))
marks_acts statement.Rule _ = online_chain log_at (λ l. chain quick_at (λ q. done (marks_of l q))) online_log (λ l. online_chain quick_at (λ q. done (marks_of l q)) online_quick (λ q. online_done (marks_of l q)))
marks_acts statement.Match k = online_chain log_at (λ l. done (marks_of l false)) online_log (λ l. online_done (marks_of l false))
marks_acts statement.Anchor k = online_chain quick_at (λ q. done (marks_of false q)) online_quick (λ q. online_done (marks_of false q))

pub online_marks : (s : Statement) → Online inside (marks_at s)
unfolding marks_at
online_marks s = online_front (λ t. marks_by s t.key) (λ t. marks_acts s t.key)

-- ---- interface, family and protocol

negation_acts : (k : Key) → OnlineAct inside k (negation_by k)
negation_acts key.Not = (refl, online_done true)
negation_acts _ = online_done false

pub online_negation : Online inside negation_at
unfolding negation_at
online_negation = online_front (λ t. negation_by t.key) (λ t. negation_acts t.key)

pub online_on : Online inside on_at
unfolding on_at
online_on = online_chain negation_at (λ b. chain interface_at (λ n. done (interface n b))) online_negation (λ b. online_chain interface_at (λ n. done (interface n b)) online_interface_name (λ n. online_done (interface n b)))

pub online_on_part : Online inside on_part_at
unfolding on_part_at
online_on_part = online_part begins_on on_at refl refl online_on

family_taking : (k : Key) → Taking inside k (family_by k)
family_taking key.Inet = (refl, online_done family.Inet)
family_taking key.Inet6 = (refl, online_done family.Inet6)
family_taking _ = tt

pub online_family_part : Online inside family_part_at
unfolding family_part_at
online_family_part = online_perhaps begins_family (on_front (λ t. family_by t.key)) (online_taking (λ t. family_by t.key) (λ t. family_taking t.key))

pub online_proto : Online inside proto_at
unfolding proto_at
online_proto = online_value why.Service (in_word proto_in) (in_word_in_line proto_in)

pub online_proto_part : Online inside proto_part_at
unfolding proto_part_at
online_proto_part = online_part begins_proto proto_at refl refl online_proto

pub online_head : (s : Statement) → Online inside (head_at s)
unfolding head_at
online_head s =
    online_chain dir_at _ online_dir (λ d. online_chain (marks_at s) _ (online_marks s) (λ m. online_chain on_part_at _ online_on_part (λ o.
    online_chain family_part_at _ online_family_part (λ f. online_chain proto_part_at _ online_proto_part (λ p.
    online_done (record { dir = d; marks = m; on = o; family = f; proto = p }))))))

-- ---- hosts

close_taking : (k : Key) → Taking inside k (close_by k)
close_taking key.CloseAngle = (refl, online_done tt)
close_taking _ = tt

pub online_close : Online inside close_at
unfolding close_at
online_close = online_taking (λ t. close_by t.key) (λ t. close_taking t.key)

place_taking : (b : Bool) (k : Key) → Taking inside k (place_by b k)
place_taking b key.OpenAngle = (refl, online_chain table_name_at _ online_table_name (λ n. online_chain close_at _ online_close (λ u. online_done (host.Table n b))))
place_taking b _ = (
  online_chain (value_at why.Host (in_plain_word prefix_of)) (λ p. done (host.Prefix p b)) (online_value why.Host (in_plain_word prefix_of) (in_plain_word_in_line prefix_of)) (λ p. online_done (host.Prefix p b)),
  chain_shrinks inside (value_at why.Host (in_plain_word prefix_of)) (λ p. done (host.Prefix p b)) (value_shrinks why.Host (in_plain_word prefix_of) (in_plain_word_in_line prefix_of)) (λ p. online_done (host.Prefix p b)),
)

pub online_place : (b : Bool) → Online inside (place_at b)
unfolding place_at
online_place b = online_taking (λ t. place_by b t.key) (λ t. place_taking b t.key)

pub place_shrinks : (b : Bool) → Shrinks (place_at b)
unfolding place_at
place_shrinks b = front_shrinks inside (λ t. place_by b t.key) (λ t. place_taking b t.key)

host_taking : (k : Key) → Taking inside k (host_by k)
host_taking key.Any = (refl, online_done host.Any)
host_taking _ = (online_chain negation_at place_at online_negation online_place, chain_shrinks_behind inside negation_at place_at online_negation place_shrinks)

pub online_host : Online inside host_at
unfolding host_at
online_host = online_taking (λ t. host_by t.key) (λ t. host_taking t.key)

equals_acts : (k : Key) → OnlineAct inside k (equals_by k)
equals_acts key.Equals = (refl, online_done true)
equals_acts _ = online_done false

pub online_equals : Online inside equals_at
unfolding equals_at
online_equals = online_front (λ t. equals_by t.key) (λ t. equals_acts t.key)

pub online_ports : Online inside ports_at
unfolding ports_at
online_ports = online_chain equals_at (λ e. value_at why.Service (in_word ports_of)) online_equals (λ e. online_value why.Service (in_word ports_of) (in_word_in_line ports_of))

pub online_ports_part : Online inside ports_part_at
unfolding ports_part_at
online_ports_part = online_part begins_port ports_at refl refl online_ports

side_host_acts : (k : Key) → OnlineAct inside k (side_host_by k)
side_host_acts key.Port = online_done host.Any
side_host_acts _ = online_host

pub online_side_host : Online inside side_host_at
unfolding side_host_at
online_side_host = online_front (λ t. side_host_by t.key) (λ t. side_host_acts t.key)

pub online_side : Online inside side_at
unfolding side_at
online_side = online_chain side_host_at (λ h. chain ports_part_at (λ p. done (side h p))) online_side_host (λ h. online_chain ports_part_at (λ p. done (side h p)) online_ports_part (λ p. online_done (side h p)))

pub online_from_part : Online inside from_part_at
unfolding from_part_at
online_from_part = online_part begins_from side_at refl refl online_side

pub online_to_part : Online inside to_part_at
unfolding to_part_at
online_to_part = online_part begins_to side_at refl refl online_side

hosts_acts : (k : Key) → OnlineAct inside k (hosts_by k)
hosts_acts key.All = (refl, online_done all_hosts)
hosts_acts _ = online_chain from_part_at (λ f. chain to_part_at (λ t. done (given_hosts f t))) online_from_part (λ f. online_chain to_part_at (λ t. done (given_hosts f t)) online_to_part (λ t. online_done (given_hosts f t)))

pub online_hosts : Online inside hosts_at
unfolding hosts_at
online_hosts = online_front (λ t. hosts_by t.key) (λ t. hosts_acts t.key)

-- ---- parameters and flags

pub online_parameters : (s : Statement) → Online inside (parameters_at s)
unfolding parameters_at
online_parameters s = online_chain (head_at s) (λ h. chain hosts_at (λ o. done (record { head = h; hosts = o }))) (online_head s) (λ h. online_chain hosts_at (λ o. done (record { head = h; hosts = o })) online_hosts (λ o. online_done (record { head = h; hosts = o })))

pub online_flags : Online inside flags_at
unfolding flags_at
online_flags = online_clause begins_flags (value_at why.Plain flag_test) refl refl (online_value why.Plain flag_test (λ t x e. flags_in_line t.text t.key x e))

pub flags_shrinks : Shrinks flags_at
unfolding flags_at
flags_shrinks = clause_shrinks begins_flags (value_at why.Plain flag_test) refl refl (online_value why.Plain flag_test (λ t x e. flags_in_line t.text t.key x e))

-- ---- what a rule has behind its parameters

online_tag : (e : Extras) → Online inside (tag_at e)
unfolding tag_at
online_tag e = online_chain tag_name_at (λ n. done (record e { tag = Some n })) online_tag_name (λ n. online_done (record e { tag = Some n }))

online_tagged : (e : Extras) (b : Bool) → Online inside (tagged_at e b)
unfolding tagged_at
online_tagged e b = online_chain tag_name_at (λ n. done (record e { tagged = Some (tag_test n b) })) online_tag_name (λ n. online_done (record e { tagged = Some (tag_test n b) }))

online_received_on : (e : Extras) (b : Bool) → Online inside (received_on_at e b)
unfolding received_on_at
online_received_on e b = online_chain interface_at (λ n. done (record e { received_on = Some (interface n b) })) online_interface_name (λ n. online_done (record e { received_on = Some (interface n b) }))

asked_taking : (e : Extras) (b : Bool) (k : Key) → Taking inside k (asked_by e b k)
asked_taking e b key.Tagged = once_taking inside key.Tagged e.tagged (take (tagged_at e b)) (refl, online_tagged e b)
asked_taking e b key.ReceivedOn = once_taking inside key.ReceivedOn e.received_on (take (received_on_at e b)) (refl, online_received_on e b)
asked_taking e b _ = tt

negated_taking : (e : Extras) (both : Bool) → Taking inside key.Not (cond both (refuse why.Again) (take (on_front (λ t. asked_by e true t.key))))
negated_taking e true = tt
negated_taking e false = (refl, online_taking (λ t. asked_by e true t.key) (λ t. asked_taking e true t.key))

extra_taking : (e : Extras) (k : Key) → Taking inside k (extra_by e k)
extra_taking e key.Tag = once_taking inside key.Tag e.tag (take (tag_at e)) (refl, online_tag e)
extra_taking e key.Not = negated_taking e (asks_both e)
extra_taking e k = asked_taking e false k

pub online_extra : (e : Extras) → Online inside (extra_at e)
unfolding extra_at
online_extra e = online_taking (λ t. extra_by e t.key) (λ t. extra_taking e t.key)

pub extra_shrinks : (e : Extras) → Shrinks (extra_at e)
unfolding extra_at
extra_shrinks e = front_shrinks inside (λ t. extra_by e t.key) (λ t. extra_taking e t.key)

-- ---- translation

online_address : Online inside address_at
unfolding address_at
online_address = online_value why.Host (in_plain_word addr_of) (in_plain_word_in_line addr_of)

online_given_ports : Online inside given_ports_at
unfolding given_ports_at
online_given_ports =
    online_chain (value_at why.Service (in_word ports_of)) (λ p. done (nat_ports.Given p)) (online_value why.Service (in_word ports_of) (in_word_in_line ports_of)) (λ p. online_done (nat_ports.Given p))

nat_ports_act : (k : Key) → OnlineAct inside k (nat_ports_by k)
nat_ports_act key.Port = (refl, online_given_ports)
nat_ports_act key.StaticPort = (refl, online_done nat_ports.Static)
nat_ports_act _ = online_done nat_ports.Usual

online_nat_ports : Online inside nat_ports_at
unfolding nat_ports_at
online_nat_ports = online_front (λ t. nat_ports_by t.key) (λ t. nat_ports_act t.key)

online_nat_to : Online inside nat_to_at
unfolding nat_to_at
online_nat_to = online_chain address_at (λ a. chain nat_ports_at (λ p. done (natted a p))) online_address (λ a. online_chain nat_ports_at (λ p. done (natted a p)) online_nat_ports (λ p. online_done (natted a p)))

online_port : Online inside port_at
unfolding port_at
online_port = online_value why.Service (in_word port_of) (in_word_in_line port_of)

online_port_part : Online inside port_part_at
unfolding port_part_at
online_port_part = online_part begins_port port_at refl refl online_port

online_rdr_to : Online inside rdr_to_at
unfolding rdr_to_at
online_rdr_to = online_chain address_at (λ a. chain port_part_at (λ p. done (redirected a p))) online_address (λ a. online_chain port_part_at (λ p. done (redirected a p)) online_port_part (λ p. online_done (redirected a p)))

online_with_nat : (t : Translation) → Online inside (with_nat_at t)
unfolding with_nat_at
online_with_nat t = online_chain nat_to_at (λ n. done (record t { nat_to = Some n })) online_nat_to (λ n. online_done (record t { nat_to = Some n }))

online_with_rdr : (t : Translation) → Online inside (with_rdr_at t)
unfolding with_rdr_at
online_with_rdr t = online_chain rdr_to_at (λ r. done (record t { rdr_to = Some r })) online_rdr_to (λ r. online_done (record t { rdr_to = Some r }))

translation_taking : (t : Translation) (k : Key) → Taking inside k (translation_by t k)
translation_taking t key.NatTo = once_taking inside key.NatTo t.nat_to (take (with_nat_at t)) (refl, online_with_nat t)
translation_taking t key.RdrTo = once_taking inside key.RdrTo t.rdr_to (take (with_rdr_at t)) (refl, online_with_rdr t)
translation_taking t _ = tt

pub online_translation : (t : Translation) → Online inside (translation_at t)
unfolding translation_at
online_translation t = online_taking (λ u. translation_by t u.key) (λ u. translation_taking t u.key)

pub translation_shrinks : (t : Translation) → Shrinks (translation_at t)
unfolding translation_at
translation_shrinks t = front_shrinks inside (λ u. translation_by t u.key) (λ u. translation_taking t u.key)
