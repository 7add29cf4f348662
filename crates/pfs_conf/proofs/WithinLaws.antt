-- What is read of single words and of parameters is within its bounds.
use Rattle.std.proofs.Common.{◌≡◌, ℕ, ◌<◌, ◌==◌, ◌||◌, Bool, true, false, cond, ltb, leb, List, [], ◌∷◌, length, codes, Option, Some, None, IfSome, refl, sym, ap, subst, ◌∙◌, arith, bytes_eq}
use Rattle.std.specs.List.{list_all}
use Rattle.std.proofs.lemmas.Bool.{eqb-false, ltb-true, leb-true, and_parts}
use Rattle.std.proofs.lemmas.Slice.Eq.{bytes_eq-Decides}
use Rattle.pfs_conf_tokens.specs.Tokens.{Tok}
use Rattle.pfs_conf_tokens.specs.declared.keys.Key.{Key}
use Rattle.pfs_conf_tokens.specs.declared.keys.Key.TheVariants as key
use Rattle.pfs_conf_tokens.specs.Keys.{is_word_key}
use Rattle.pfs_conf_tokens.specs.Words.{key_of_text}
use Rattle.pfs_conf_tokens.specs.Numbers.{split_around}
use Rattle.pfs_conf_tokens.specs.Grammar.{Word, Perhaps, absent, present, Until, ends, goes, NextOf, plain, comma, Passes, stays, over}
use Rattle.pfs_conf_tokens.proofs.WordKeys.{key_of_Any, key_of_Rdomain}
use Rattle.pfs_addr_values.specs.Names.{is_name, name_of}
use Rattle.pfs_addr_values.specs.Numbers.{number_of}
use Rattle.pfs_conf_tokens.specs.Numbers as text_numbers
use Rattle.pfs_addr_values.specs.Protocols.{proto_of, proto_numbered, proto_in}
use Rattle.pfs_addr_values.specs.Prefixes.{Network, IsNetwork}
use Rattle.pfs_addr.specs.Texts.{addr_of, prefix_of}
use Rattle.pfs_addr.proofs.PieceLaws.{addr_of_parts}
use Rattle.pfs_addr_values.specs.FlagSets.{flags_of, is_flag_letter, names_letter}
use Rattle.pfs_addr_values.specs.declared.protocols.Proto.{Proto}
use Rattle.pfs_addr_values.specs.declared.protocols.Proto.TheVariants as proto
use Rattle.pfs_addr_values.specs.declared.flag_sets.Flags.{Flags}
use Rattle.pfs_conf_values.specs.LoadRules.{IsInterface, IsProto, ArePorts, IsHost, IsSide, IsFlagTest, has_a_flag, IsTag}
use Rattle.pfs_conf_values.specs.declared.filters.FlagTest.{FlagTest}
use Rattle.pfs_conf_values.specs.declared.filters.Host.{Host}
use Rattle.pfs_conf_values.specs.declared.filters.Interface.{Interface}
use Rattle.pfs_conf_values.specs.declared.filters.Ports.{Ports}
use Rattle.pfs_conf_values.specs.declared.filters.Side.{Side}
use Rattle.pfs_conf_filters.specs.declared.phrases.Hosts.{Hosts}
use Rattle.pfs_conf_filters.specs.declared.phrases.Parameters.{Parameters}
use Rattle.pfs_conf_filters.specs.declared.phrases.Statement.{Statement}
use Rattle.pfs_conf_filters.specs.Values.{is_plain_word, in_plain_word, may_name_interface, interface_name, port_numbered, port_by, port_of, one_port, port_range, ports_around, ports_of, exactly, flags_around, flag_test_of, flag_test_by, flag_test, tag_name}
use Rattle.pfs_conf_tokens.specs.Values.{in_word}
use Rattle.pfs_conf_filters.specs.Grammar.{Says, Behind, NegationOf, affirmed, negated, OnOf, on, HostOf, any, prefix, table, PortsOf, plainly, equals, SideOf, hosted, ported, HostsOf, every, sides, ParametersOf, FlagsOf, DirOf, inward, outward, LogItemOf, all, matches, user, to, bare, listed, LogOf, silent, logs, QuickOf, slow, quick, MarksOf, log_first, quick_first, of_anchor, of_match, ExtraOf, tag, tagged, received_on, NatPortsOf, usual, given, same, NatToOf, RdrToOf, TranslationOf, nat_to, rdr_to}
use Rattle.pfs_conf_filters.specs.Sides.{side_not_given, source_of, destination_of}
use Rattle.pfs_addr_values.specs.declared.packets.Dir.{Dir}
use Rattle.pfs_conf_filters.specs.declared.phrases.Marks.{Marks}
use Rattle.pfs_conf_settings.proofs.RoutePhrases.{network_within}
use Rattle.pfs_conf.specs.PhraseBounds.{IsLexed, AreLexed, more, IsTableName, AreParameters, AreExtras, MayBeQuick}
use Rattle.pfs_conf_values.specs.LoadRules.{AreNatPorts, IsNatTo, IsRdrTo, IsTranslation}
use Rattle.pfs_conf_values.specs.declared.translations.NatPorts.{NatPorts}
use Rattle.pfs_conf_values.specs.declared.translations.NatTo.{NatTo}
use Rattle.pfs_conf_values.specs.declared.translations.RdrTo.{RdrTo}
use Rattle.pfs_conf_values.specs.declared.translations.Translation.{Translation}
use Rattle.pfs_addr_values.specs.Addresses.{IsAddr}
use Rattle.pfs_addr_values.specs.declared.addresses.Addr.{Addr}
use Rattle.pfs_conf_filters.specs.declared.phrases.Extras.{Extras}

-- ---- forms

if_some : {A : Type 0} (b : Bool) (x y : Option A) (P : A → Type 0) → (b ≡ true → IfSome x P) → (b ≡ false → IfSome y P) → IfSome (cond b x y) P
if_some true x y P p q = p refl
if_some false x y P p q = q refl

-- a value that is there
held : {A : Type 0} (o : Option A) (x : A) (P : A → Type 0) → o ≡ Some x → IfSome o P → P x
held {A} o x P e h = subst (λ (z : Option A). IfSome z P) e h

-- ---- names

name_good : (most : ℕ) (text : List ℕ) → IfSome (name_of most text) (λ name. is_name most name ≡ true)
name_good most text = if_some (is_name most text) (Some text) None (λ name. is_name most name ≡ true) (λ e. e) (λ e. tt)

pub name_is : (most : ℕ) (text name : List ℕ) → name_of most text ≡ Some name → is_name most name ≡ true
name_is most text name e = held (name_of most text) name (λ name. is_name most name ≡ true) e (name_good most text)

-- a name is its text
same_good : (most : ℕ) (text : List ℕ) → IfSome (name_of most text) (λ name. name ≡ text)
same_good most text = if_some (is_name most text) (Some text) None (λ name. name ≡ text) (λ e. refl) (λ e. tt)

may_is_word : (k : Key) → may_name_interface k ≡ true → is_word_key k ≡ true
may_is_word key.Any e = absurd cc
may_is_word key.Rdomain e = absurd cc
may_is_word _ e = e

-- a word that may name an interface is not one of the two that may not
other_word : (t : Tok) (text : List ℕ) (k : Key) → IsLexed t → may_name_interface t.key ≡ true → may_name_interface k ≡ false → key_of_text text ≡ k → bytes_eq t.text text ≡ false
other_word t text k l may not_k e = choose (bytes_eq t.text text) refl
  where
    choose : (b : Bool) → bytes_eq t.text text ≡ b → bytes_eq t.text text ≡ false
    choose false g = g
    choose true g =
        let same : t.text ≡ text = (bytes_eq-Decides t.text text).0 g in
        let keyed : t.key ≡ k = l (may_is_word t.key may) ∙ ap key_of_text same ∙ e in
        let bad : true ≡ false = sym may ∙ ap may_name_interface keyed ∙ not_k in
        absurd cc

interface_good : (t : Tok) (b : Bool) → IsLexed t → IfSome (interface_name t) (λ n. IsInterface (record { name = n; negated = b }))
interface_good t b l = if_some (may_name_interface t.key) (name_of 15 t.text) None (λ n. IsInterface (record { name = n; negated = b }))
    (λ may. if_some (is_name 15 t.text) (Some t.text) None (λ n. IsInterface (record { name = n; negated = b }))
    (λ good. record { name = good; not_any = other_word t (codes "any") key.Any l may refl key_of_Any; not_rdomain = other_word t (codes "rdomain") key.Rdomain l may refl key_of_Rdomain })
    (λ e. tt))
    (λ e. tt)

-- ---- protocols, ports and flags

numbered_good : (n : ℕ) → n < 256 → IsProto (proto_of n)
numbered_good n small = choose (n == 6) refl (n == 17) refl
  where
    choose : (a : Bool) → (n == 6) ≡ a → (b : Bool) → (n == 17) ≡ b → IsProto (cond a proto.Tcp (cond b proto.Udp (proto.Other n)))
    choose true e b g = tt
    choose false e true g = tt
    choose false e false g = (small, eqb-false n 6 e, eqb-false n 17 g)

text_numbered_good : (o : Option ℕ) → IfSome (proto_numbered o) IsProto
text_numbered_good None = tt
text_numbered_good (Some n) = if_some (ltb n 256) (Some (proto_of n)) None IsProto (λ e. numbered_good n (ltb-true n 256 e)) (λ e. tt)

proto_good : (text : List ℕ) → IfSome (proto_in text) IsProto
unfolding proto_in
proto_good text =
    if_some (bytes_eq text (codes "tcp")) _ _ IsProto (λ e. tt) (λ e.
    if_some (bytes_eq text (codes "udp")) _ _ IsProto (λ e. tt) (λ e.
    if_some (bytes_eq text (codes "icmp")) _ _ IsProto (λ e. numbered_good 1 (omega arith)) (λ e.
    if_some (bytes_eq text (codes "icmp6")) _ _ IsProto (λ e. numbered_good 58 (omega arith)) (λ e.
    if_some (bytes_eq text (codes "esp")) _ _ IsProto (λ e. numbered_good 50 (omega arith)) (λ e.
    if_some (bytes_eq text (codes "ah")) _ _ IsProto (λ e. numbered_good 51 (omega arith)) (λ e.
    if_some (bytes_eq text (codes "gre")) _ _ IsProto (λ e. numbered_good 47 (omega arith)) (λ e.
    text_numbered_good (number_of text))))))))

abbrev IsPort : ℕ → Type 0
IsPort n = n < 65536

port_numbered_good : (o : Option ℕ) → IfSome (port_numbered o) IsPort
port_numbered_good None = tt
port_numbered_good (Some n) = if_some (ltb n 65536) (Some n) None IsPort (λ e. ltb-true n 65536 e) (λ e. tt)

port_by_good : (text : List ℕ) (k : Key) → IfSome (port_by text k) IsPort
port_by_good text key.Ssh = omega arith
port_by_good text key.Smtp = omega arith
port_by_good text key.Domain = omega arith
port_by_good text key.Www = omega arith
port_by_good text key.Http = omega arith
port_by_good text key.Https = omega arith
port_by_good text key.Number = port_numbered_good (text_numbers.number_written text)
port_by_good text _ = tt

port_good : (text : List ℕ) → IfSome (port_of text) IsPort
unfolding port_of
port_good text = port_by_good text (key_of_text text)

one_good : (o : Option ℕ) → IfSome o IsPort → IfSome (one_port o) ArePorts
one_good None h = tt
one_good (Some n) h = (omega arith, h)

range_good : (o p : Option ℕ) → IfSome p IsPort → IfSome (port_range o p) ArePorts
range_good None p h = tt
range_good (Some n) None h = tt
range_good (Some n) (Some m) h = if_some (leb n m) _ None ArePorts (λ e. (leb-true n m e, h)) (λ e. tt)

ports_good : (text : List ℕ) → IfSome (ports_of text) ArePorts
unfolding ports_of
ports_good text = around (split_around 58 text)
  where
    around : (o : Option (List ℕ × List ℕ)) → IfSome (ports_around text o) ArePorts
    around None = one_good (port_of text) (port_good text)
    around (Some parts) = range_good (port_of parts.0) (port_of parts.1) (port_good parts.1)

-- some letter of flags is there, so some flag is
or_step : (a x r s : Bool) → (r ≡ true → s ≡ true) → r || a ≡ true → s || (a || x) ≡ true
or_step a x true s h e = let k : s ≡ true = h refl in rw k refl
or_step true x false true h e = refl
or_step true x false false h e = refl
or_step false x false s h e = absurd cc

letter_flag : (c : ℕ) (cs : List ℕ) → is_flag_letter c ≡ true
    → names_letter 70 (c ∷ cs) || names_letter 83 (c ∷ cs) || names_letter 82 (c ∷ cs) || names_letter 80 (c ∷ cs) || names_letter 65 (c ∷ cs) || names_letter 85 (c ∷ cs) || names_letter 69 (c ∷ cs) || names_letter 87 (c ∷ cs) ≡ true
letter_flag c cs e = eight (c == 70) (c == 83) (c == 82) (c == 80) (c == 65) (c == 85) (c == 69) (c == 87) _ _ _ _ _ _ _ _ e
  where
    eight : (a b d f g h i j x1 x2 x3 x4 x5 x6 x7 x8 : Bool) → a || b || d || f || g || h || i || j ≡ true
        → (a || x1) || (b || x2) || (d || x3) || (f || x4) || (g || x5) || (h || x6) || (i || x7) || (j || x8) ≡ true
    eight a b d f g h i j x1 x2 x3 x4 x5 x6 x7 x8 e = grind (arith, e)

flags_good : (b : List ℕ) → (length b == 0) ≡ false → IfSome (flags_of b) (λ f. has_a_flag f ≡ true)
flags_good [] e = absurd cc
flags_good (c ∷ cs) e = if_some (list_all is_flag_letter (c ∷ cs)) _ None (λ f. has_a_flag f ≡ true) (λ h. letter_flag c cs (and_parts (is_flag_letter c) (list_all is_flag_letter cs) h).0) (λ h. tt)

exactly_good : (x y : Option Flags) → IfSome y (λ f. has_a_flag f ≡ true) → IfSome (exactly x y) IsFlagTest
exactly_good None y h = tt
exactly_good (Some s) None h = tt
exactly_good (Some s) (Some a) h = h

flag_test_of_good : (text : List ℕ) → IfSome (flag_test_of text) IsFlagTest
unfolding flag_test_of
flag_test_of_good text = around (split_around 47 text)
  where
    around : (o : Option (List ℕ × List ℕ)) → IfSome (flags_around o) IsFlagTest
    around None = tt
    around (Some parts) = if_some (length parts.1 == 0) None (exactly (flags_of parts.0) (flags_of parts.1)) IsFlagTest (λ e. tt) (λ e. exactly_good (flags_of parts.0) (flags_of parts.1) (flags_good parts.1 e))

flag_test_by_good : (text : List ℕ) (k : Key) → IfSome (flag_test_by text k) IsFlagTest
flag_test_by_good text key.Any = tt
flag_test_by_good text k = if_some (is_word_key k) (flag_test_of text) None IsFlagTest (λ e. flag_test_of_good text) (λ e. tt)

pub flags_within : {ts left : List Tok} {f : FlagTest} → FlagsOf ts f left → IsFlagTest f
flags_within {f = f} q = held (flag_test q.2.0) f IsFlagTest q.2.2 (flag_test_by_good q.2.0.text q.2.0.key)

-- ---- words

in_word_good : {A : Type 0} (value : List ℕ → Option A) (P : A → Type 0) → ((text : List ℕ) → IfSome (value text) P) → (t : Tok) → IfSome (in_word value t) P
in_word_good value P h t = if_some (is_word_key t.key) (value t.text) None P (λ e. h t.text) (λ e. tt)

says_word : {A : Type 0} (value : List ℕ → Option A) (P : A → Type 0) → ((text : List ℕ) → IfSome (value text) P) → {ts left : List Tok} {x : A} → Says (in_word value) ts x left → P x
says_word value P h {x = x} q = held (in_word value q.0) x P q.2 (in_word_good value P h q.0)

network_good : (text : List ℕ) → IfSome (prefix_of text) IsNetwork
network_good text = by_value (prefix_of text) refl
  where
    by_value : (o : Option Network) → prefix_of text ≡ o → IfSome o IsNetwork
    by_value None e = tt
    by_value (Some p) e = network_within text p e

says_network : {ts left : List Tok} {p : Network} → Says (in_plain_word prefix_of) ts p left → IsNetwork p
says_network {p = p} q = held (in_plain_word prefix_of q.0) p IsNetwork q.2 (if_some (is_plain_word q.0.key) (prefix_of q.0.text) None IsNetwork (λ e. network_good q.0.text) (λ e. tt))

-- ---- hosts

host_within : {ts left : List Tok} {h : Host (List ℕ)} → HostOf ts h left → IsHost IsTableName h
host_within (any w) = tt
host_within (prefix n q) = says_network q
host_within (table n o q c) = says_word (name_of 31) IsTableName (name_good 31) q

ports_within : {ts left : List Tok} {p : Ports} → PortsOf ts p left → ArePorts p
ports_within (plainly q) = says_word ports_of ArePorts ports_good q
ports_within (equals w q) = says_word ports_of ArePorts ports_good q

ports_part_within : {ts left : List Tok} {p : Option Ports} → Perhaps (Behind key.Port PortsOf) ts p left → IfSome p ArePorts
ports_part_within absent = tt
ports_part_within (present q) = ports_within q.2

side_within : {ts left : List Tok} {s : Side (List ℕ)} → SideOf ts s left → IsSide IsTableName s
side_within (hosted h p) = record { host = host_within h; ports = ports_part_within p }
side_within (ported q) = record { host = tt; ports = ports_within q.2 }

any_side_within : IsSide IsTableName side_not_given
any_side_within = record { host = tt; ports = tt }

from_within : {ts left : List Tok} {f : Option (Side (List ℕ))} (t : Option (Side (List ℕ))) (a : Bool) → Perhaps (Behind key.From SideOf) ts f left → IsSide IsTableName (source_of (record { all = a; from = f; to = t }))
from_within t a absent = any_side_within
from_within t a (present q) = side_within q.2

to_within : {ts left : List Tok} (f : Option (Side (List ℕ))) {t : Option (Side (List ℕ))} (a : Bool) → Perhaps (Behind key.To SideOf) ts t left → IsSide IsTableName (destination_of (record { all = a; from = f; to = t }))
to_within f a absent = any_side_within
to_within f a (present q) = side_within q.2

hosts_within : {ts left : List Tok} {h : Hosts} → HostsOf ts h left → (IsSide IsTableName (source_of h)) × (IsSide IsTableName (destination_of h))
hosts_within (every w) = (any_side_within, any_side_within)
hosts_within (sides {f = f} {t = t} p q) = (from_within t false p, to_within f false q)

-- ---- parameters

proto_part_within : {ts left : List Tok} {o : Option Proto} → Perhaps (Behind key.Proto (Says (in_word proto_in))) ts o left → IfSome o IsProto
proto_part_within absent = tt
proto_part_within (present q) = says_word proto_in IsProto proto_good q.2

pub word_lexed : {k : Key} {ts left : List Tok} → Word k ts left → AreLexed ts → AreLexed left
word_lexed {left = left} w l = behind (subst AreLexed w.1 l)
  where
    behind : AreLexed (w.0 ∷ left) → AreLexed left
    behind (more x m) = m

negation_lexed : {ts left : List Tok} {b : Bool} → NegationOf ts b left → AreLexed ts → AreLexed left
negation_lexed affirmed l = l
negation_lexed (negated w) l = word_lexed w l

says_interface : {ts left : List Tok} {n : List ℕ} (b : Bool) → Says interface_name ts n left → AreLexed ts → IsInterface (record { name = n; negated = b })
says_interface {left = left} {n = n} b q l = front (subst AreLexed q.1 l)
  where
    front : AreLexed (q.0 ∷ left) → IsInterface (record { name = n; negated = b })
    front (more x m) = held (interface_name q.0) n (λ z. IsInterface (record { name = z; negated = b })) q.2 (interface_good q.0 b x)

on_within : {ts left : List Tok} {i : Interface} → OnOf ts i left → AreLexed ts → IsInterface i
on_within (on {b = b} n q) l = says_interface b q (negation_lexed n l)

on_part_within : {ts left : List Tok} {o : Option Interface} → Perhaps (Behind key.On OnOf) ts o left → AreLexed ts → IfSome o IsInterface
on_part_within absent l = tt
on_part_within (present q) l = on_within q.2 (word_lexed q.1 l)

-- the tokens after direction, `log` and `quick`
says_lexed : {A : Type 0} {value : Tok → Option A} {ts left : List Tok} {x : A} → Says value ts x left → AreLexed ts → AreLexed left
says_lexed {left = left} q l = behind (subst AreLexed q.1 l)
  where
    behind : AreLexed (q.0 ∷ left) → AreLexed left
    behind (more x m) = m

dir_lexed : {ts left : List Tok} {o : Option Dir} → Perhaps DirOf ts o left → AreLexed ts → AreLexed left
dir_lexed absent l = l
dir_lexed (present (inward w)) l = word_lexed w l
dir_lexed (present (outward w)) l = word_lexed w l

log_item_lexed : {ts left : List Tok} {u v : Unit {0}} → LogItemOf u ts v left → AreLexed ts → AreLexed left
log_item_lexed (all w) l = word_lexed w l
log_item_lexed (matches w) l = word_lexed w l
log_item_lexed (user w) l = word_lexed w l
log_item_lexed (to w q) l = says_lexed q (word_lexed w l)

log_items_lexed : {ts left : List Tok} {u v : Unit {0}} → Until key.CloseParen (NextOf LogItemOf) u ts v left → AreLexed ts → AreLexed left
log_items_lexed (ends w) l = word_lexed w l
log_items_lexed (goes (plain q) u) l = log_items_lexed u (log_item_lexed q l)
log_items_lexed (goes (comma w q) u) l = log_items_lexed u (log_item_lexed q (word_lexed w l))

log_lexed : {ts left : List Tok} {b : Bool} → LogOf ts b left → AreLexed ts → AreLexed left
log_lexed silent l = l
log_lexed (logs w bare) l = word_lexed w l
log_lexed (logs w (listed o q)) l = log_items_lexed q.others (log_item_lexed q.begins (word_lexed o (word_lexed w l)))

quick_lexed : {ts left : List Tok} {b : Bool} → QuickOf ts b left → AreLexed ts → AreLexed left
quick_lexed slow l = l
quick_lexed (quick w) l = word_lexed w l

marks_lexed : {s : Statement} {ts left : List Tok} {m : Marks} → MarksOf s ts m left → AreLexed ts → AreLexed left
marks_lexed (log_first p q) l = quick_lexed q (log_lexed p l)
marks_lexed (quick_first w p) l = log_lexed p (word_lexed w l)
marks_lexed (of_match p) l = log_lexed p l
marks_lexed (of_anchor q) l = quick_lexed q l

pub parameters_within : {s : Statement} {ts left : List Tok} {p : Parameters} → ParametersOf s ts p left → AreLexed ts → AreParameters p
parameters_within q l =
    let hosts = hosts_within q.hosts in
    record {
      on = on_part_within q.head.on (marks_lexed q.head.marks (dir_lexed q.head.dir l));
      proto = proto_part_within q.head.proto;
      source = hosts.0;
      destination = hosts.1;
    }

-- a match rule has no `quick`
pub marks_within : {s : Statement} {ts left : List Tok} {m : Marks} → MarksOf s ts m left → MayBeQuick s m.quick
marks_within (log_first p q) = tt
marks_within (quick_first w p) = tt
marks_within (of_match p) = refl
marks_within (of_anchor q) = tt

-- ---- what a rule has behind its parameters

says_tag : {ts left : List Tok} {n : List ℕ} → Says tag_name ts n left → IsTag n
says_tag q = says_word (name_of 63) IsTag (name_good 63) q

pub extra_within : {e d : Extras} {ts left : List Tok} → ExtraOf e ts d left → AreLexed ts → AreExtras e → AreExtras d
extra_within (tag n w q) l k = record { tag = says_tag q; tagged = k.tagged; received_on = k.received_on }
extra_within (tagged n m w q) l k = record { tag = k.tag; tagged = says_tag q; received_on = k.received_on }
extra_within (received_on {b = b} n m w q) l k = record { tag = k.tag; tagged = k.tagged; received_on = says_interface b q (word_lexed w (negation_lexed m l)) }

-- ---- translation

address_good : (text : List ℕ) → IfSome (addr_of text) IsAddr
address_good text = by_value (addr_of text) refl
  where
    by_value : (o : Option Addr) → addr_of text ≡ o → IfSome o IsAddr
    by_value None e = tt
    by_value (Some a) e = (addr_of_parts text a e).0

says_address : {ts left : List Tok} {a : Addr} → Says (in_plain_word addr_of) ts a left → IsAddr a
says_address {a = a} q = held (in_plain_word addr_of q.0) a IsAddr q.2 (if_some (is_plain_word q.0.key) (addr_of q.0.text) None IsAddr (λ e. address_good q.0.text) (λ e. tt))

nat_ports_within : {ts left : List Tok} {p : NatPorts} → NatPortsOf ts p left → AreNatPorts p
nat_ports_within usual = tt
nat_ports_within (given w q) = says_word ports_of ArePorts ports_good q
nat_ports_within (same w) = tt

nat_to_within : {ts left : List Tok} {n : NatTo} → NatToOf ts n left → IsNatTo n
nat_to_within q = record { addr = says_address q.addr; ports = nat_ports_within q.ports }

port_part_within : {ts left : List Tok} {o : Option ℕ} → Perhaps (Behind key.Port (Says (in_word port_of))) ts o left → IfSome o IsPort
port_part_within absent = tt
port_part_within (present q) = says_word port_of IsPort port_good q.2

rdr_to_within : {ts left : List Tok} {r : RdrTo} → RdrToOf ts r left → IsRdrTo r
rdr_to_within q = record { addr = says_address q.addr; port = port_part_within q.port }

pub translation_within : {t d : Translation} {ts left : List Tok} → TranslationOf t ts d left → IsTranslation t → IsTranslation d
translation_within (nat_to n w q) k = record { nat_to = nat_to_within q; rdr_to = k.rdr_to }
translation_within (rdr_to n w q) k = record { nat_to = k.nat_to; rdr_to = rdr_to_within q }

-- tokens that are gone over leave tokens of the text
pub passes_lexed : {p : Key → Bool} {ts left : List Tok} → Passes p ts left → AreLexed ts → AreLexed left
passes_lexed stays l = l
passes_lexed (over e q) (more x m) = passes_lexed q m
