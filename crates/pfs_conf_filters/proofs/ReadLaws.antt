-- Each phrase of the grammar of parameters is read, if what follows it does not continue it.
--
-- A crate above imports them as `use Rattle.pfs_conf_filters.proofs.ReadLaws.{verb_reads, parameters_read, flags_read}`.
use Rattle.std.proofs.Common.{◌≡◌, ℕ, Bool, true, false, not, ◌&&◌, ◌||◌, List, Option, Some, Ok, refl, ap, ◌∙◌, None, is_some}
use Rattle.std.proofs.lemmas.Bool.{and_parts}
use Rattle.pfs_conf_tokens.specs.Tokens.{Tok, head}
use Rattle.pfs_conf_tokens.specs.Keys.{is_word_key}
use Rattle.pfs_conf_tokens.specs.Reading.{closes_parens, Reader, Act, stay, on_front, done, chain}
use Rattle.pfs_conf_tokens.specs.Grammar.{Word, Perhaps, absent, present}
use Rattle.pfs_conf_tokens.specs.declared.keys.Key.{Key}
use Rattle.pfs_conf_tokens.specs.declared.keys.Key.TheVariants as key
use Rattle.pfs_conf_tokens.specs.declared.refusals.Why.{Why}
use Rattle.pfs_conf_tokens.specs.declared.refusals.Why.TheVariants as why
use Rattle.pfs_conf_tokens.proofs.ReaderLaws.{word_head, perhaps_reads, perhaps_reads_before, no_comma, ReadsList, list_reads}
use Rattle.pfs_addr_values.specs.Protocols.{proto_in}
use Rattle.pfs_addr_values.specs.Prefixes.{Network}
use Rattle.pfs_addr.specs.Texts.{addr_of, prefix_of}
use Rattle.pfs_addr_values.specs.declared.packets.Dir.{Dir}
use Rattle.pfs_addr_values.specs.declared.protocols.Proto.{Proto}
use Rattle.pfs_conf_values.specs.declared.filters.Family.{Family}
use Rattle.pfs_conf_values.specs.declared.filters.Interface.{Interface}
use Rattle.pfs_conf_values.specs.declared.filters.Host.{Host}
use Rattle.pfs_conf_values.specs.declared.filters.Host.TheVariants as host
use Rattle.pfs_conf_values.specs.declared.filters.Ports.{Ports}
use Rattle.pfs_conf_values.specs.declared.filters.Side.{Side}
use Rattle.pfs_conf_values.specs.declared.filters.FlagTest.{FlagTest}
use Rattle.pfs_conf_filters.specs.declared.phrases.Verb.{Verb}
use Rattle.pfs_conf_filters.specs.declared.phrases.Statement.{Statement}
use Rattle.pfs_conf_filters.specs.declared.phrases.Statement.TheVariants as statement
use Rattle.pfs_conf_filters.specs.declared.phrases.Marks.{Marks}
use Rattle.pfs_conf_filters.specs.declared.phrases.Head.{Head}
use Rattle.pfs_conf_filters.specs.declared.phrases.Hosts.{Hosts}
use Rattle.pfs_conf_filters.specs.declared.phrases.Parameters.{Parameters}
use Rattle.pfs_conf_filters.specs.Values.{is_plain_word, in_plain_word, may_name_interface, interface_name, port_of, ports_of, flag_test, tag_name}
use Rattle.pfs_conf_filters.specs.Reading.{clause, part, begins_dir, begins_on, begins_family, begins_proto, begins_from, begins_to, begins_port, begins_flags, interface_at, policy_by, policy_at, verb_at, dir_by, dir_at, log_item_at, log_list_by, log_list_at, log_by, log_at, quick_by, quick_at, marks_of, rule_marks_by, marks_at, negation_by, negation_at, on_at, on_part_at, family_by, family_part_at, proto_at, proto_part_at, head_at, close_at, place_by, place_at, host_by, host_at, equals_by, equals_at, ports_at, ports_part_at, side_host_by, side_host_at, side_at, from_part_at, to_part_at, given_hosts, hosts_by, hosts_at, parameters_at, flags_at, tag_name_at, tag_at, tagged_at, received_on_at, asks_both, extra_at, address_at, given_ports_at, nat_ports_by, nat_ports_at, nat_to_at, port_at, port_part_at, rdr_to_at, with_nat_at, with_rdr_at, translation_at}
use Rattle.pfs_conf_filters.specs.Grammar.{Says, Behind, PolicyOf, none, drop, return, return_rst, return_icmp, return_icmp6, VerbOf, pass, block, DirOf, inward, outward, LogItemOf, all, matches, user, to, LogListOf, bare, listed, LogOf, silent, logs, QuickOf, slow, quick, MarksOf, log_first, quick_first, of_anchor, NegationOf, affirmed, negated, OnOf, on, FamilyOf, inet, inet6, HeadOf, HostOf, any, prefix, table, PortsOf, plainly, equals, SideOf, hosted, ported, HostsOf, every, sides, ParametersOf, FlagsOf, matching, of_match, ExtraOf, tag, tagged, received_on, NatPortsOf, usual, given, same, NatToOf, RdrToOf, TranslationOf, nat_to, rdr_to}
use Rattle.pfs_conf_filters.proofs.OnlineLaws.{log_item_shrinks}
use Rattle.pfs_conf_tokens.proofs.ValueLaws.{passed}
use Rattle.pfs_conf_tokens.specs.Values.{in_word, table_name, table_name_at, value_at}
use Rattle.pfs_conf_filters.specs.declared.phrases.Extras.{Extras}
use Rattle.pfs_addr_values.specs.declared.addresses.Addr.{Addr}
use Rattle.pfs_conf_values.specs.declared.translations.NatPorts.{NatPorts}
use Rattle.pfs_conf_values.specs.declared.translations.NatPorts.TheVariants as nat_ports
use Rattle.pfs_conf_values.specs.declared.translations.NatTo.{NatTo}
use Rattle.pfs_conf_values.specs.declared.translations.RdrTo.{RdrTo}
use Rattle.pfs_conf_values.specs.declared.translations.Translation.{Translation}
use Rattle.pfs_conf_values.specs.declared.filters.Tagged.{Tagged}

-- ---- what may follow

-- all but the words that say how a packet is blocked
abbrev pub no_policy : Key → Bool
no_policy key.Drop = false
no_policy key.Return = false
no_policy key.ReturnRst = false
no_policy key.ReturnIcmp = false
no_policy key.ReturnIcmp6 = false
no_policy _ = true

-- all but what goes on with log and quick
abbrev ends_marks : Key → Bool
ends_marks key.Log = false
ends_marks key.OpenParen = false
ends_marks key.Quick = false
ends_marks _ = true

-- all but what goes on with the parameters before the hosts
abbrev ends_head : Key → Bool
ends_head k = ends_marks k && not (begins_dir k || begins_on k || begins_family k || begins_proto k)

-- all but what goes on with the hosts
abbrev ends_hosts : Key → Bool
ends_hosts key.All = false
ends_hosts key.From = false
ends_hosts key.To = false
ends_hosts key.Port = false
ends_hosts _ = true

-- all but what goes on with the parameters
abbrev pub ends_parameters : Key → Bool
ends_parameters k = ends_head k && ends_hosts k

abbrev no_port : Key → Bool
no_port k = not (begins_port k)

anything : Key → Bool
anything k = true

-- at the key, the reader of a word that may be absent says that it is
abbrev SaysNo : (Key → Act Bool) → Key → Type 0
SaysNo by k = by k ≡ stay (done false)

-- ---- forms

pub value_reads : {A : Type 0} (w : Why) (value : Tok → Option A) {ts : List Tok} {x : A} {left : List Tok} → Says value ts x left → value_at w value ts ≡ Ok (x, left)
value_reads w value s = rw (s.1, s.2) refl

-- the key of a token that says a value
says_head : {A : Type 0} (value : Tok → Option A) (Q : Key → Type 0) → ((t : Tok) (x : A) → value t ≡ Some x → Q t.key)
    → {ts : List Tok} {x : A} {left : List Tok} → Says value ts x left → Q (head ts).key
says_head value Q h {x = x} s = rw s.1 (h s.0 x s.2)

behind_reads : {A : Type 0} (k : Key) (begins : Key → Bool) (f : Reader A) → begins k ≡ true
    → {ts mid : List Tok} {x : A} {left : List Tok} → Word k ts mid → f mid ≡ Ok (x, left) → (begins (head ts).key ≡ true) × (clause begins f ts ≡ Ok (x, left))
behind_reads k begins f begun w r = let h = word_head w in (ap begins h.0 ∙ begun, rw (h.0, begun, h.1) r)

part_reads : {A : Type 0} (k : Key) (begins follow : Key → Bool) (f : Reader A) (P : List Tok → A → List Tok → Type 0) → begins k ≡ true
    → ((ts : List Tok) (x : A) (left : List Tok) → P ts x left → follow (head left).key ≡ true → f ts ≡ Ok (x, left))
    → {ts : List Tok} {o : Option A} {left : List Tok} → Perhaps (Behind k P) ts o left → begins (head left).key ≡ false → follow (head left).key ≡ true → part begins f ts ≡ Ok (o, left)
part_reads k begins follow f P begun reads p s g =
    perhaps_reads_before begins follow (clause begins f) (Behind k P) (λ ts x left b e. behind_reads k begins f begun b.1 (reads b.0 x left b.2 e)) p s g

-- what is in front of a part that may be absent: its first key, or what follows it
perhaps_head : {A : Type 0} (P : List Tok → A → List Tok → Type 0) (Q : Key → Type 0) → ((ts : List Tok) (x : A) (left : List Tok) → P ts x left → Q (head ts).key)
    → {ts : List Tok} {o : Option A} {left : List Tok} → Perhaps P ts o left → Q (head left).key → Q (head ts).key
perhaps_head P Q first absent h = h
perhaps_head P Q first (present {ts} {left} {x} p) h = first ts x left p

word_key : (k : Key) (Q : Key → Type 0) → Q k → {ts left : List Tok} → Word k ts left → Q (head ts).key
word_key k Q h w = rw (word_head w).0 h

-- ---- names

interface_name_reads : {ts : List Tok} {x : List ℕ} {left : List Tok} → Says interface_name ts x left → interface_at ts ≡ Ok (x, left)
unfolding interface_at
interface_name_reads s = value_reads why.Plain interface_name s

tag_name_reads : {ts : List Tok} {x : List ℕ} {left : List Tok} → Says tag_name ts x left → tag_name_at ts ≡ Ok (x, left)
unfolding tag_name_at
tag_name_reads s = value_reads why.Plain tag_name s

table_name_reads : {ts : List Tok} {x : List ℕ} {left : List Tok} → Says table_name ts x left → table_name_at ts ≡ Ok (x, left)
unfolding table_name_at
table_name_reads s = value_reads why.Plain table_name s

-- ---- the action

policy_stays : (k : Key) → no_policy k ≡ true → policy_by k ≡ stay (done false)
policy_stays key.Drop e = absurd cc
policy_stays key.Return e = absurd cc
policy_stays key.ReturnRst e = absurd cc
policy_stays key.ReturnIcmp e = absurd cc
policy_stays key.ReturnIcmp6 e = absurd cc
policy_stays _ e = refl

policy_reads : {ts : List Tok} {x : Bool} {left : List Tok} → PolicyOf ts x left → no_policy (head left).key ≡ true → policy_at ts ≡ Ok (x, left)
unfolding policy_at
policy_reads {ts = ts} none f = rw (policy_stays (head ts).key f) refl
policy_reads (drop w) f = let h = word_head w in rw (h.0, h.1) refl
policy_reads (return w) f = let h = word_head w in rw (h.0, h.1) refl
policy_reads (return_rst w) f = let h = word_head w in rw (h.0, h.1) refl
policy_reads (return_icmp w) f = let h = word_head w in rw (h.0, h.1) refl
policy_reads (return_icmp6 w) f = let h = word_head w in rw (h.0, h.1) refl

pub verb_reads : {ts : List Tok} {x : Verb} {left : List Tok} → VerbOf ts x left → no_policy (head left).key ≡ true → verb_at ts ≡ Ok (x, left)
unfolding verb_at
verb_reads (pass w) f = let h = word_head w in rw (h.0, h.1) refl
verb_reads (matching w) f = let h = word_head w in rw (h.0, h.1) refl
verb_reads (block w p) f = let h = word_head w in rw (h.0, h.1, policy_reads p f) refl

-- ---- direction, log and quick

dir_word_reads : (ts : List Tok) (x : Dir) (left : List Tok) → DirOf ts x left → (begins_dir (head ts).key ≡ true) × (on_front (λ t. dir_by t.key) ts ≡ Ok (x, left))
dir_word_reads ts x left (inward w) = let h = word_head w in (rw h.0 refl, rw (h.0, h.1) refl)
dir_word_reads ts x left (outward w) = let h = word_head w in (rw h.0 refl, rw (h.0, h.1) refl)

dir_reads : {ts : List Tok} {o : Option Dir} {left : List Tok} → Perhaps DirOf ts o left → begins_dir (head left).key ≡ false → dir_at ts ≡ Ok (o, left)
unfolding dir_at
dir_reads p s = perhaps_reads begins_dir (on_front (λ t. dir_by t.key)) DirOf dir_word_reads p s

log_item_reads : {u v : Unit {0}} {ts left : List Tok} → LogItemOf u ts v left → log_item_at u ts ≡ Ok (v, left)
unfolding log_item_at
log_item_reads (all w) = let h = word_head w in rw (h.0, h.1) refl
log_item_reads (matches w) = let h = word_head w in rw (h.0, h.1) refl
log_item_reads (user w) = let h = word_head w in rw (h.0, h.1) refl
log_item_reads (to w s) = let h = word_head w in rw (h.0, h.1, interface_name_reads s) refl

log_item_begins : {u v : Unit {0}} {ts left : List Tok} → LogItemOf u ts v left → (closes_parens (head ts).key ≡ false) × (anything (head ts).key ≡ true) × (no_comma (head ts).key ≡ true)
unfolding anything
log_item_begins (all w) = rw (word_head w).0 (refl, refl, refl)
log_item_begins (matches w) = rw (word_head w).0 (refl, refl, refl)
log_item_begins (user w) = rw (word_head w).0 (refl, refl, refl)
log_item_begins (to w s) = rw (word_head w).0 (refl, refl, refl)

log_items_readable : ReadsList key.CloseParen closes_parens anything LogItemOf log_item_at
unfolding anything
log_items_readable = record { closes = refl; close_follows = refl; comma_goes = refl; comma_follows = refl; begins = log_item_begins; reads = λ q f. log_item_reads q; shrinks = log_item_shrinks }

-- a key at which the list of what is logged is absent
abbrev NoLogList : Key → Type 0
NoLogList k = log_list_by k ≡ stay (done tt)

log_list_reads : {ts left : List Tok} → LogListOf ts left → NoLogList (head left).key → log_list_at ts ≡ Ok (tt, left)
unfolding log_list_at
log_list_reads bare f = rw f refl
log_list_reads (listed w q) f = let h = word_head w in rw (h.0, h.1) (list_reads log_items_readable q)

log_reads : {ts : List Tok} {x : Bool} {left : List Tok} → LogOf ts x left → SaysNo log_by (head left).key → NoLogList (head left).key → log_at ts ≡ Ok (x, left)
unfolding log_at
log_reads silent f g = rw f refl
log_reads (logs w l) f g = let h = word_head w in rw (h.0, h.1, log_list_reads l g) refl

quick_reads : {ts : List Tok} {x : Bool} {left : List Tok} → QuickOf ts x left → SaysNo quick_by (head left).key → quick_at ts ≡ Ok (x, left)
unfolding quick_at
quick_reads slow f = rw f refl
quick_reads (quick w) f = let h = word_head w in rw (h.0, h.1) refl

quick_head : (Q : Key → Type 0) → Q key.Quick → {ts : List Tok} {x : Bool} {left : List Tok} → QuickOf ts x left → Q (head left).key → Q (head ts).key
quick_head Q h slow f = f
quick_head Q h (quick w) f = word_key key.Quick Q h w

log_head : (Q : Key → Type 0) → Q key.Log → {ts : List Tok} {x : Bool} {left : List Tok} → LogOf ts x left → Q (head left).key → Q (head ts).key
log_head Q h silent f = f
log_head Q h (logs w l) f = word_key key.Log Q h w

marks_head : (Q : Key → Type 0) → Q key.Quick → Q key.Log → {s : Statement} {ts : List Tok} {m : Marks} {left : List Tok} → MarksOf s ts m left → Q (head left).key → Q (head ts).key
marks_head Q q l (log_first a b) f = log_head Q l a (quick_head Q q b f)
marks_head Q q l (quick_first w a) f = word_key key.Quick Q q w
marks_head Q q l (of_match a) f = log_head Q l a f
marks_head Q q l (of_anchor b) f = quick_head Q q b f

rule_marks_stay : (k : Key) → SaysNo quick_by k → rule_marks_by k ≡ stay (chain log_at (λ l. chain quick_at (λ q. done (marks_of l q))))
rule_marks_stay key.Quick e = absurd cc
rule_marks_stay _ e = refl

-- log first, or neither
rule_marks_read : {ts mid : List Tok} {l q : Bool} {left : List Tok} → SaysNo quick_by (head ts).key → LogOf ts l mid → QuickOf mid q left → SaysNo log_by (head mid).key → NoLogList (head mid).key → SaysNo quick_by (head left).key
    → marks_at statement.Rule ts ≡ Ok (marks_of l q, left)
unfolding marks_at
rule_marks_read {ts = ts} n a b f g h = rw (rule_marks_stay (head ts).key n, log_reads a f g, quick_reads b h) refl

pub marks_read : {s : Statement} {ts : List Tok} {m : Marks} {left : List Tok} → MarksOf s ts m left → SaysNo log_by (head left).key → NoLogList (head left).key → SaysNo quick_by (head left).key
    → marks_at s ts ≡ Ok (m, left)
unfolding marks_at
marks_read (log_first silent slow) f g h = rule_marks_read h silent slow f g h
marks_read {left = left} (log_first silent (quick w)) f g h = let v = word_head w in let r : log_at left ≡ Ok (false, left) = log_reads silent f g in rw (v.0, v.1, r) refl
marks_read (log_first (logs w l) b) f g h =
    rule_marks_read (word_key key.Log (SaysNo quick_by) refl w) (logs w l) b (quick_head (SaysNo log_by) refl b f) (quick_head NoLogList refl b g) h
marks_read (quick_first w a) f g h = let v = word_head w in rw (v.0, v.1, log_reads a f g) refl
marks_read (of_match a) f g h = rw (log_reads a f g) refl
marks_read (of_anchor b) f g h = rw (quick_reads b h) refl

-- ---- interface, family and protocol

negation_reads : {ts : List Tok} {x : Bool} {left : List Tok} → NegationOf ts x left → SaysNo negation_by (head left).key → negation_at ts ≡ Ok (x, left)
unfolding negation_at
negation_reads affirmed f = rw f refl
negation_reads (negated w) f = let h = word_head w in rw (h.0, h.1) refl

negation_head : (Q : Key → Type 0) → Q key.Not → {ts : List Tok} {x : Bool} {left : List Tok} → NegationOf ts x left → Q (head left).key → Q (head ts).key
negation_head Q h affirmed f = f
negation_head Q h (negated w) f = word_key key.Not Q h w

name_is_no_not : (k : Key) → may_name_interface k ≡ true → SaysNo negation_by k
name_is_no_not key.Not e = absurd cc
name_is_no_not _ e = refl

interface_reads : {ts : List Tok} {x : Interface} {left : List Tok} → OnOf ts x left → on_at ts ≡ Ok (x, left)
unfolding on_at
interface_reads (on n s) =
    let f = says_head interface_name (SaysNo negation_by) (λ t x e. name_is_no_not t.key (passed (may_name_interface t.key) _ x e)) s in
    rw (negation_reads n f, interface_name_reads s) refl

on_part_reads : {ts : List Tok} {o : Option Interface} {left : List Tok} → Perhaps (Behind key.On OnOf) ts o left → begins_on (head left).key ≡ false → on_part_at ts ≡ Ok (o, left)
unfolding on_part_at anything
on_part_reads p f = part_reads key.On begins_on anything on_at OnOf refl (λ ts x left q g. interface_reads q) p f refl

family_word_reads : (ts : List Tok) (x : Family) (left : List Tok) → FamilyOf ts x left → (begins_family (head ts).key ≡ true) × (on_front (λ t. family_by t.key) ts ≡ Ok (x, left))
family_word_reads ts x left (inet w) = let h = word_head w in (rw h.0 refl, rw (h.0, h.1) refl)
family_word_reads ts x left (inet6 w) = let h = word_head w in (rw h.0 refl, rw (h.0, h.1) refl)

family_part_reads : {ts : List Tok} {o : Option Family} {left : List Tok} → Perhaps FamilyOf ts o left → begins_family (head left).key ≡ false → family_part_at ts ≡ Ok (o, left)
unfolding family_part_at
family_part_reads p f = perhaps_reads begins_family (on_front (λ t. family_by t.key)) FamilyOf family_word_reads p f

family_head : (Q : Key → Type 0) → Q key.Inet → Q key.Inet6 → {ts : List Tok} {o : Option Family} {left : List Tok} → Perhaps FamilyOf ts o left → Q (head left).key → Q (head ts).key
family_head Q i j p f = perhaps_head FamilyOf Q family_key p f
  where
    family_key : (us : List Tok) (x : Family) (vs : List Tok) → FamilyOf us x vs → Q (head us).key
    family_key us x vs (inet w) = word_key key.Inet Q i w
    family_key us x vs (inet6 w) = word_key key.Inet6 Q j w

proto_reads : {ts : List Tok} {x : Proto} {left : List Tok} → Says (in_word proto_in) ts x left → proto_at ts ≡ Ok (x, left)
unfolding proto_at
proto_reads s = value_reads why.Service (in_word proto_in) s

proto_part_reads : {ts : List Tok} {o : Option Proto} {left : List Tok} → Perhaps (Behind key.Proto (Says (in_word proto_in))) ts o left → begins_proto (head left).key ≡ false → proto_part_at ts ≡ Ok (o, left)
unfolding proto_part_at anything
proto_part_reads p f = part_reads key.Proto begins_proto anything proto_at (Says (in_word proto_in)) refl (λ ts x left q g. proto_reads q) p f refl

behind_head : {A : Type 0} (k : Key) (P : List Tok → A → List Tok → Type 0) (Q : Key → Type 0) → Q k → {ts : List Tok} {o : Option A} {left : List Tok} → Perhaps (Behind k P) ts o left → Q (head left).key → Q (head ts).key
behind_head k P Q h p f = perhaps_head (Behind k P) Q (λ ts x left b. word_key k Q h b.1) p f

-- what ends the parameters before the hosts begins none of them
record EndsHead (k : Key) : Type 0 where
  dir : begins_dir k ≡ false
  log : SaysNo log_by k
  log_list : NoLogList k
  quick : SaysNo quick_by k
  on : begins_on k ≡ false
  family : begins_family k ≡ false
  proto : begins_proto k ≡ false

head_ends : (k : Key) → ends_head k ≡ true → EndsHead k
head_ends key.In e = absurd cc
head_ends key.Out e = absurd cc
head_ends key.Log e = absurd cc
head_ends key.OpenParen e = absurd cc
head_ends key.Quick e = absurd cc
head_ends key.On e = absurd cc
head_ends key.Inet e = absurd cc
head_ends key.Inet6 e = absurd cc
head_ends key.Proto e = absurd cc
head_ends _ e = record { dir = refl; log = refl; log_list = refl; quick = refl; on = refl; family = refl; proto = refl }

module _ (s : Statement) (ts : List Tok) (h : Head) (left : List Tok) (w : HeadOf s ts h left) where
  from_d : (Q : Key → Type 0) → Q key.Proto → Q (head left).key → Q (head w.d).key
  from_d Q p f = behind_head key.Proto (Says (in_word proto_in)) Q p w.proto f

  from_c : (Q : Key → Type 0) → Q key.Inet → Q key.Inet6 → Q key.Proto → Q (head left).key → Q (head w.c).key
  from_c Q i j p f = family_head Q i j w.family (from_d Q p f)

  from_b : (Q : Key → Type 0) → Q key.On → Q key.Inet → Q key.Inet6 → Q key.Proto → Q (head left).key → Q (head w.b).key
  from_b Q o i j p f = behind_head key.On OnOf Q o w.on (from_c Q i j p f)

  from_a : (Q : Key → Type 0) → Q key.Quick → Q key.Log → Q key.On → Q key.Inet → Q key.Inet6 → Q key.Proto → Q (head left).key → Q (head w.a).key
  from_a Q q l o i j p f = marks_head Q q l w.marks (from_b Q o i j p f)

  pub head_reads : ends_head (head left).key ≡ true → head_at s ts ≡ Ok (h, left)
  unfolding head_at
  head_reads f =
      let n = head_ends (head left).key f in
      rw (
        dir_reads w.dir (from_a (λ k. begins_dir k ≡ false) refl refl refl refl refl refl n.dir),
        marks_read w.marks (from_b (SaysNo log_by) refl refl refl refl n.log) (from_b NoLogList refl refl refl refl n.log_list) (from_b (SaysNo quick_by) refl refl refl refl n.quick),
        on_part_reads w.on (from_c (λ k. begins_on k ≡ false) refl refl refl n.on),
        family_part_reads w.family (from_d (λ k. begins_family k ≡ false) refl n.family),
        proto_part_reads w.proto n.proto,
      ) refl

-- ---- hosts

close_reads : {ts left : List Tok} → Word key.CloseAngle ts left → close_at ts ≡ Ok (tt, left)
unfolding close_at
close_reads w = let h = word_head w in rw (h.0, h.1) refl

-- a key at which the name of a table, and one at which `any` is absent
abbrev NoTable : Key → Type 0
NoTable k = (b : Bool) → place_by b k ≡ stay (chain (value_at why.Host (in_plain_word prefix_of)) (λ p. done (host.Prefix p b)))

abbrev NoAny : Key → Type 0
NoAny k = host_by k ≡ stay (chain negation_at place_at)

-- a plain word is no other first word of a host
record BeginsPrefix (k : Key) : Type 0 where
  no_table : NoTable k
  no_not : SaysNo negation_by k
  no_any : NoAny k
  no_port : begins_port k ≡ false

begins_prefix : (k : Key) → is_plain_word k ≡ true → BeginsPrefix k
begins_prefix key.OpenAngle e = absurd cc
begins_prefix key.Not e = absurd cc
begins_prefix key.Any e = absurd cc
begins_prefix key.Port e = absurd cc
begins_prefix _ e = record { no_table = λ b. refl; no_not = refl; no_any = refl; no_port = refl }

prefix_head : (Q : Key → Type 0) → ((k : Key) → BeginsPrefix k → Q k) → {ts : List Tok} {x : Network} {left : List Tok} → Says (in_plain_word prefix_of) ts x left → Q (head ts).key
prefix_head Q h s = says_head (in_plain_word prefix_of) Q (λ t x e. h t.key (begins_prefix t.key (passed (is_plain_word t.key) (prefix_of t.text) x e))) s

pub host_reads : {ts : List Tok} {x : Host (List ℕ)} {left : List Tok} → HostOf ts x left → host_at ts ≡ Ok (x, left)
unfolding host_at place_at
host_reads (any w) = let h = word_head w in rw (h.0, h.1) refl
host_reads (prefix {b = b} n s) =
    rw (
      negation_head NoAny refl n (prefix_head NoAny (λ k p. p.no_any) s),
      negation_reads n (prefix_head (SaysNo negation_by) (λ k p. p.no_not) s),
      prefix_head NoTable (λ k p. p.no_table) s b,
      value_reads why.Host (in_plain_word prefix_of) s,
    ) refl
host_reads (table n w s v) =
    let h = word_head w in
    rw (
      negation_head NoAny refl n (word_key key.OpenAngle NoAny refl w),
      negation_reads n (word_key key.OpenAngle (SaysNo negation_by) refl w),
      h.0,
      h.1,
      table_name_reads s,
      close_reads v,
    ) refl

host_begins : {ts : List Tok} {x : Host (List ℕ)} {left : List Tok} → HostOf ts x left → begins_port (head ts).key ≡ false
host_begins (any w) = word_key key.Any (λ k. begins_port k ≡ false) refl w
host_begins (prefix n s) = negation_head (λ k. begins_port k ≡ false) refl n (prefix_head (λ k. begins_port k ≡ false) (λ k p. p.no_port) s)
host_begins (table n w s v) = negation_head (λ k. begins_port k ≡ false) refl n (word_key key.OpenAngle (λ k. begins_port k ≡ false) refl w)

equals_reads : {ts left : List Tok} → Word key.Equals ts left → equals_at ts ≡ Ok (true, left)
unfolding equals_at
equals_reads w = let h = word_head w in rw (h.0, h.1) refl

no_equals : (ts : List Tok) → SaysNo equals_by (head ts).key → equals_at ts ≡ Ok (false, ts)
unfolding equals_at
no_equals ts f = rw f refl

word_is_no_equals : (k : Key) → is_word_key k ≡ true → SaysNo equals_by k
word_is_no_equals key.Equals e = absurd cc
word_is_no_equals _ e = refl

ports_read : {ts : List Tok} {x : Ports} {left : List Tok} → PortsOf ts x left → ports_at ts ≡ Ok (x, left)
unfolding ports_at
ports_read {ts = ts} (plainly s) =
    let f = says_head (in_word ports_of) (SaysNo equals_by) (λ t x e. word_is_no_equals t.key (passed (is_word_key t.key) (ports_of t.text) x e)) s in
    rw (no_equals ts f) (value_reads why.Service (in_word ports_of) s)
ports_read (equals w s) = rw (equals_reads w) (value_reads why.Service (in_word ports_of) s)

ports_part_reads : {ts : List Tok} {o : Option Ports} {left : List Tok} → Perhaps (Behind key.Port PortsOf) ts o left → begins_port (head left).key ≡ false → ports_part_at ts ≡ Ok (o, left)
unfolding ports_part_at anything
ports_part_reads p f = part_reads key.Port begins_port anything ports_at PortsOf refl (λ ts x left q g. ports_read q) p f refl

side_host_stays : (k : Key) → begins_port k ≡ false → side_host_by k ≡ stay host_at
side_host_stays key.Port e = absurd cc
side_host_stays _ e = refl

side_host_reads : {ts : List Tok} {h : Host (List ℕ)} {left : List Tok} → HostOf ts h left → side_host_at ts ≡ Ok (h, left)
unfolding side_host_at
side_host_reads {ts = ts} h = rw (side_host_stays (head ts).key (host_begins h)) (host_reads h)

side_host_lacks : {ts left : List Tok} → Word key.Port ts left → side_host_at ts ≡ Ok (host.Any, ts)
unfolding side_host_at
side_host_lacks w = rw (word_head w).0 refl

no_port_begins : (k : Key) → no_port k ≡ true → begins_port k ≡ false
no_port_begins key.Port e = absurd cc
no_port_begins _ e = refl

pub side_reads : {ts : List Tok} {x : Side (List ℕ)} {left : List Tok} → SideOf ts x left → no_port (head left).key ≡ true → side_at ts ≡ Ok (x, left)
unfolding side_at
side_reads {left = left} (hosted h p) f = rw (side_host_reads h, ports_part_reads p (no_port_begins (head left).key f)) refl
side_reads {left = left} (ported b) f = rw (side_host_lacks b.1, ports_part_reads (present b) (no_port_begins (head left).key f)) refl

from_part_reads : {ts : List Tok} {o : Option (Side (List ℕ))} {left : List Tok} → Perhaps (Behind key.From SideOf) ts o left → begins_from (head left).key ≡ false → no_port (head left).key ≡ true → from_part_at ts ≡ Ok (o, left)
unfolding from_part_at
from_part_reads p f g = part_reads key.From begins_from no_port side_at SideOf refl (λ ts x left q e. side_reads q e) p f g

to_part_reads : {ts : List Tok} {o : Option (Side (List ℕ))} {left : List Tok} → Perhaps (Behind key.To SideOf) ts o left → begins_to (head left).key ≡ false → no_port (head left).key ≡ true → to_part_at ts ≡ Ok (o, left)
unfolding to_part_at
to_part_reads p f g = part_reads key.To begins_to no_port side_at SideOf refl (λ ts x left q e. side_reads q e) p f g

-- a key at which `all` is absent
abbrev NoAll : Key → Type 0
NoAll k = hosts_by k ≡ stay (chain from_part_at (λ f. chain to_part_at (λ t. done (given_hosts f t))))

-- what ends the hosts begins none of their parts
record EndsHosts (k : Key) : Type 0 where
  all : NoAll k
  from : begins_from k ≡ false
  to : begins_to k ≡ false
  port : no_port k ≡ true

hosts_end : (k : Key) → ends_hosts k ≡ true → EndsHosts k
hosts_end key.All e = absurd cc
hosts_end key.From e = absurd cc
hosts_end key.To e = absurd cc
hosts_end key.Port e = absurd cc
hosts_end _ e = record { all = refl; from = refl; to = refl; port = refl }

pub hosts_read : {ts : List Tok} {x : Hosts} {left : List Tok} → HostsOf ts x left → ends_hosts (head left).key ≡ true → hosts_at ts ≡ Ok (x, left)
unfolding hosts_at
hosts_read (every w) e = let h = word_head w in rw (h.0, h.1) refl
hosts_read {left = left} (sides f t) e =
    let n = hosts_end (head left).key e in
    rw (
      behind_head key.From SideOf NoAll refl f (behind_head key.To SideOf NoAll refl t n.all),
      from_part_reads f (behind_head key.To SideOf (λ k. begins_from k ≡ false) refl t n.from) (behind_head key.To SideOf (λ k. no_port k ≡ true) refl t n.port),
      to_part_reads t n.to n.port,
    ) refl

-- what hosts begin with
pub hosts_head : (Q : Key → Type 0) → Q key.All → Q key.From → Q key.To → {ts : List Tok} {x : Hosts} {left : List Tok} → HostsOf ts x left → Q (head left).key → Q (head ts).key
hosts_head Q a f t (every w) h = word_key key.All Q a w
hosts_head Q a f t (sides p q) h = behind_head key.From SideOf Q f p (behind_head key.To SideOf Q t q h)

-- ---- parameters and flags

pub parameters_read : (s : Statement) {ts : List Tok} {p : Parameters} {left : List Tok} → ParametersOf s ts p left → ends_parameters (head left).key ≡ true → parameters_at s ts ≡ Ok (p, left)
unfolding parameters_at
parameters_read s {ts = ts} {p = p} {left = left} w e =
    let b = and_parts (ends_head (head left).key) (ends_hosts (head left).key) e in
    let f = hosts_head (λ k. ends_head k ≡ true) refl refl refl w.hosts b.0 in
    rw (head_reads s ts p.head w.mid w.head f, hosts_read w.hosts b.1) refl

-- what parameters begin with, or where they are absent, what follows them
pub parameters_head : (Q : Key → Type 0) → Q key.In → Q key.Out → Q key.Log → Q key.Quick → Q key.On → Q key.Inet → Q key.Inet6 → Q key.Proto → Q key.All → Q key.From → Q key.To
    → {s : Statement} {ts : List Tok} {p : Parameters} {left : List Tok} → ParametersOf s ts p left → Q (head left).key → Q (head ts).key
parameters_head Q i o l q n f g p a r t {s = s} {ts = ts} {p = x} w e =
    perhaps_head DirOf Q dir_key w.head.dir (from_a s ts x.head w.mid w.head Q q l n f g p (hosts_head Q a r t w.hosts e))
  where
    dir_key : (us : List Tok) (d : Dir) (vs : List Tok) → DirOf us d vs → Q (head us).key
    dir_key us d vs (inward w) = word_key key.In Q i w
    dir_key us d vs (outward w) = word_key key.Out Q o w

pub flags_read : {ts : List Tok} {x : FlagTest} {left : List Tok} → FlagsOf ts x left → flags_at ts ≡ Ok (x, left)
unfolding flags_at
flags_read b = (behind_reads key.Flags begins_flags (value_at why.Plain flag_test) refl b.1 (value_reads why.Plain flag_test b.2)).1

-- flags begin with their word
pub flags_head : (Q : Key → Type 0) → Q key.Flags → {ts : List Tok} {x : FlagTest} {left : List Tok} → FlagsOf ts x left → Q (head ts).key
flags_head Q h b = word_key key.Flags Q h b.1

-- ---- what a rule has behind its parameters

-- where one part is not given yet, a `!` may begin it
tagged_missing : (e : Extras) → e.tagged ≡ None → asks_both e ≡ false
tagged_missing e n = ap (λ (o : Option Tagged). is_some o && is_some e.received_on) n

received_on_missing : (e : Extras) → e.received_on ≡ None → asks_both e ≡ false
received_on_missing e n = ap (λ (o : Option Interface). is_some e.tagged && is_some o) n ∙ none (is_some e.tagged)
  where
    none : (b : Bool) → (b && false) ≡ false
    none true = refl
    none false = refl

pub extra_reads : {e d : Extras} {ts left : List Tok} → ExtraOf e ts d left → extra_at e ts ≡ Ok (d, left)
unfolding extra_at tag_at tagged_at received_on_at
extra_reads (tag n w s) = let h = word_head w in rw (h.0, n, h.1, tag_name_reads s) refl
extra_reads (tagged n affirmed w s) = let h = word_head w in rw (h.0, n, h.1, tag_name_reads s) refl
extra_reads {e = e} (tagged n (negated v) w s) = let g = word_head v in let h = word_head w in rw (g.0, tagged_missing e n, g.1, h.0, n, h.1, tag_name_reads s) refl
extra_reads (received_on n affirmed w s) = let h = word_head w in rw (h.0, n, h.1, interface_name_reads s) refl
extra_reads {e = e} (received_on n (negated v) w s) = let g = word_head v in let h = word_head w in rw (g.0, received_on_missing e n, g.1, h.0, n, h.1, interface_name_reads s) refl

-- what each part begins with
pub extra_head : (Q : Key → Type 0) → Q key.Tag → Q key.Not → Q key.Tagged → Q key.ReceivedOn → {e d : Extras} {ts left : List Tok} → ExtraOf e ts d left → Q (head ts).key
extra_head Q a b c d (tag n w s) = word_key key.Tag Q a w
extra_head Q a b c d (tagged n m w s) = negation_head Q b m (word_key key.Tagged Q c w)
extra_head Q a b c d (received_on n m w s) = negation_head Q b m (word_key key.ReceivedOn Q d w)

-- ---- translation

-- all but what goes on with the ports of a translation
abbrev pub ends_translation : Key → Bool
ends_translation key.Port = false
ends_translation key.StaticPort = false
ends_translation _ = true

-- what ends a translation begins none of its ports
record EndsTranslation (k : Key) : Type 0 where
  nat : nat_ports_by k ≡ stay (done nat_ports.Usual)
  rdr : begins_port k ≡ false

translation_ends : (k : Key) → ends_translation k ≡ true → EndsTranslation k
translation_ends key.Port e = absurd cc
translation_ends key.StaticPort e = absurd cc
translation_ends _ e = record { nat = refl; rdr = refl }

address_reads : {ts : List Tok} {x : Addr} {left : List Tok} → Says (in_plain_word addr_of) ts x left → address_at ts ≡ Ok (x, left)
unfolding address_at
address_reads s = value_reads why.Host (in_plain_word addr_of) s

nat_ports_read : {ts : List Tok} {x : NatPorts} {left : List Tok} → NatPortsOf ts x left → ends_translation (head left).key ≡ true → nat_ports_at ts ≡ Ok (x, left)
unfolding nat_ports_at given_ports_at
nat_ports_read {left = left} usual e = rw ((translation_ends (head left).key e).nat) refl
nat_ports_read (given w s) e = let h = word_head w in rw (h.0, h.1, value_reads why.Service (in_word ports_of) s) refl
nat_ports_read (same w) e = let h = word_head w in rw (h.0, h.1) refl

nat_to_reads : {ts : List Tok} {x : NatTo} {left : List Tok} → NatToOf ts x left → ends_translation (head left).key ≡ true → nat_to_at ts ≡ Ok (x, left)
unfolding nat_to_at
nat_to_reads w e = rw (address_reads w.addr, nat_ports_read w.ports e) refl

port_reads : {ts : List Tok} {x : ℕ} {left : List Tok} → Says (in_word port_of) ts x left → port_at ts ≡ Ok (x, left)
unfolding port_at
port_reads s = value_reads why.Service (in_word port_of) s

port_part_reads : {ts : List Tok} {o : Option ℕ} {left : List Tok} → Perhaps (Behind key.Port (Says (in_word port_of))) ts o left → begins_port (head left).key ≡ false → port_part_at ts ≡ Ok (o, left)
unfolding port_part_at anything
port_part_reads p f = part_reads key.Port begins_port anything port_at (Says (in_word port_of)) refl (λ ts x left q g. port_reads q) p f refl

rdr_to_reads : {ts : List Tok} {x : RdrTo} {left : List Tok} → RdrToOf ts x left → ends_translation (head left).key ≡ true → rdr_to_at ts ≡ Ok (x, left)
unfolding rdr_to_at
rdr_to_reads {left = left} w e = rw (address_reads w.addr, port_part_reads w.port (translation_ends (head left).key e).rdr) refl

pub translation_reads : {t d : Translation} {ts left : List Tok} → TranslationOf t ts d left → ends_translation (head left).key ≡ true → translation_at t ts ≡ Ok (d, left)
unfolding translation_at with_nat_at with_rdr_at
translation_reads (nat_to n w s) e = let h = word_head w in rw (h.0, n, h.1, nat_to_reads s e) refl
translation_reads (rdr_to n w s) e = let h = word_head w in rw (h.0, n, h.1, rdr_to_reads s e) refl

-- what each part begins with
pub translation_head : (Q : Key → Type 0) → Q key.NatTo → Q key.RdrTo → {t d : Translation} {ts left : List Tok} → TranslationOf t ts d left → Q (head ts).key
translation_head Q a b (nat_to n w s) = word_key key.NatTo Q a w
translation_head Q a b (rdr_to n w s) = word_key key.RdrTo Q b w
