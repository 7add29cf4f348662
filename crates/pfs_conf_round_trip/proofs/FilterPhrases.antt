-- The parameters of rules and anchors in a canonical text are read again: after any tokens of the line, and before any
-- text that ends a word.
use Rattle.std.proofs.Common.{◌≡◌, ◌<◌, ℕ, zero, suc, Bool, true, false, All, List, [], ◌∷◌, ◌++◌, length, Option, Some, None, IfSome, refl, sym, ap, subst, ◌∙◌, arith, append_assoc}
use Rattle.std.specs.Prelude.{codes, decimal, slice_get, ◌&&◌, ◌==◌, not, if◌then◌else◌}
use Rattle.std.specs.List.{list_all}
use Rattle.std.specs.Str.{bytes_eq}
use Rattle.std.proofs.lemmas.Bool.{cond-true, cond-false}
use Rattle.std.proofs.lemmas.List.Elements.{All-head, All-tail}
use Rattle.pfs_conf_tokens.specs.declared.keys.Key.{Key}
use Rattle.pfs_conf_tokens.specs.declared.keys.Key.TheVariants as key
use Rattle.pfs_conf_tokens.specs.Grammar.{Perhaps, Word, absent, present}
use Rattle.pfs_conf_tokens.specs.Keys.{is_word_key}
use Rattle.pfs_conf_tokens.specs.Lexis.{is_word_byte, tokens}
use Rattle.pfs_conf_tokens.specs.Tokens.{Tok, token}
use Rattle.pfs_conf_tokens.specs.Words.{key_of_text}
use Rattle.pfs_conf_tokens.proofs.ShownLaws.{breaks, decimal_text, is_word_text, mark_then, split_around_append, word_then}
use Rattle.pfs_conf_tokens.proofs.WordKeys.{key_of_All, key_of_Any, key_of_Flags, key_of_From, key_of_In, key_of_Inet, key_of_Inet6, key_of_On, key_of_Out, key_of_Port, key_of_Proto, key_of_Quick, key_of_To}
use Rattle.pfs_addr_values.specs.FlagSets.{flags_of, letters_text}
use Rattle.pfs_addr_values.specs.Names.{is_name, name_of}
use Rattle.pfs_addr_values.specs.Prefixes.{IsNetwork, Network}
use Rattle.pfs_addr_values.specs.Protocols.{proto_in}
use Rattle.pfs_addr.specs.Texts.{addr_of, prefix_of}
use Rattle.pfs_addr_values.specs.Addresses.{IsAddr, addr_text}
use Rattle.pfs_addr_values.specs.declared.addresses.Addr.{Addr}
use Rattle.pfs_addr_values.specs.declared.flag_sets.Flags.{Flags}
use Rattle.pfs_addr_values.specs.declared.packets.Dir.{Dir}
use Rattle.pfs_addr_values.specs.declared.packets.Dir.TheVariants as dir
use Rattle.pfs_addr_values.specs.declared.protocols.Proto.{Proto}
use Rattle.pfs_addr_values.specs.declared.protocols.Proto.TheVariants as proto
use Rattle.pfs_conf_values.specs.Invariants.{IsTable}
use Rattle.pfs_conf_values.specs.LoadRules.{ArePorts, IsFilter, IsFlagTest, IsHost, IsInterface, IsProto, IsSide, IsTableNo, has_a_flag, IsTag}
use Rattle.pfs_conf_values.specs.declared.filters.Family.{Family}
use Rattle.pfs_conf_values.specs.declared.filters.Family.TheVariants as family
use Rattle.pfs_conf_values.specs.declared.filters.Filter.{Filter}
use Rattle.pfs_conf_values.specs.declared.filters.FlagTest.{FlagTest}
use Rattle.pfs_conf_values.specs.declared.filters.FlagTest.TheVariants as flag_test
use Rattle.pfs_conf_values.specs.declared.filters.Host.{Host}
use Rattle.pfs_conf_values.specs.declared.filters.Host.TheVariants as host
use Rattle.pfs_conf_values.specs.declared.filters.Interface.{Interface}
use Rattle.pfs_conf_values.specs.declared.filters.Ports.{Ports}
use Rattle.pfs_conf_values.specs.declared.filters.Side.{Side}
use Rattle.pfs_conf_values.specs.declared.filters.TableNo.{TableNo}
use Rattle.pfs_conf_values.specs.declared.tables.TableDef.{TableDef}
use Rattle.pfs_conf_filters.specs.Grammar.{Behind, DirOf, FamilyOf, FlagsOf, HostOf, HostsOf, MarksOf, OnOf, ParametersOf, PortsOf, QuickOf, Says, SideOf, inward, outward, slow, quick, silent, log_first, of_anchor, affirmed, negated, on, inet, inet6, any, prefix, table, plainly, hosted, every, sides, of_match}
use Rattle.pfs_conf_filters.specs.Reading.{all_hosts, given_hosts, interface, marks_of}
use Rattle.pfs_conf_filters.specs.Values.{is_plain_word, exactly, flag_test, flag_test_by, flag_test_of, flags_around, in_plain_word, interface_name, may_name_interface, ports_of, tag_name}
use Rattle.pfs_conf_tokens.specs.Values.{in_word, table_name}
use Rattle.pfs_conf_filters.specs.declared.phrases.Statement.{Statement}
use Rattle.pfs_conf_filters.specs.declared.phrases.Statement.TheVariants as statement
use Rattle.pfs_conf_show.specs.Filters.{dir_text, family_text, flags_text, host_text, hosts_text, is_every_side, on_text, ports_text, proto_text, quick_text, range_text, side_text}
use Rattle.pfs_conf_show.specs.Pieces.{not_text, prefix_text}
use Rattle.pfs_conf_show.specs.Tables.{angled_name, name_in}
use Rattle.pfs_conf_round_trip.proofs.Said.{host_said, hosts_said, parameters_said, side_said, table_said}
use Rattle.pfs_addr.proofs.LetterTexts.{flags_again, letters_all, letters_some}
use Rattle.pfs_conf_round_trip.proofs.Names.{is_other, key_of_word, may_name, name_again, name_text, not_any}
use Rattle.pfs_conf_round_trip.proofs.Numbers.{ports_again, ports_word}
use Rattle.pfs_conf_round_trip.proofs.PrefixWords.{address_again, address_plain, address_word, prefix_again, prefix_plain, prefix_word}
use Rattle.pfs_addr.proofs.ProtocolLaws.{no_word, proto_again, proto_known}
use Rattle.pfs_conf_round_trip.proofs.Pieces.{all_append, at, mark, text_append, word, word_between}
use Rattle.pfs_conf.specs.PhraseBounds.{MayBeQuick}

-- a word that says a value
says : {A : Type 0} (value : Tok → Option A) (line : ℕ) (w more : List ℕ) (x : A) → is_word_text w ≡ true → breaks more ≡ true → value (token line (key_of_text w) w) ≡ Some x
    → Says value (at line (w ++ more)) x (at line more)
says value line w more x h b e = (token line (key_of_text w) w, word_then true line w more h b, e)

-- ---- direction, quick, interface, family, protocol

pub dir_reads : (d : Option Dir) (line : ℕ) (more : List ℕ) → breaks more ≡ true → Perhaps DirOf (at line (dir_text d ++ more)) d (at line more)
dir_reads None line more b = absent
dir_reads (Some dir.In) line more b = present (inward (word line (codes "in") more refl b key_of_In))
dir_reads (Some dir.Out) line more b = present (outward (word line (codes "out") more refl b key_of_Out))

pub quick_reads : (q : Bool) (line : ℕ) (more : List ℕ) → breaks more ≡ true → QuickOf (at line (quick_text q ++ more)) q (at line more)
quick_reads false line more b = slow
quick_reads true line more b = quick (word line (codes "quick") more refl b key_of_Quick)

pub marks_read : (s : Statement) (q : Bool) (line : ℕ) (more : List ℕ) → MayBeQuick s q → breaks more ≡ true → MarksOf s (at line (quick_text q ++ more)) (marks_of false q) (at line more)
marks_read statement.Rule q line more m b = log_first silent (quick_reads q line more b)
marks_read statement.Match false line more m b = of_match silent
marks_read statement.Match true line more m b = absurd (cc m)
marks_read statement.Anchor q line more m b = of_anchor (quick_reads q line more b)

pub interface_says : (n : List ℕ) (line : ℕ) (more : List ℕ) → is_name 15 n ≡ true → bytes_eq n (codes "any") ≡ false → bytes_eq n (codes "rdomain") ≡ false → breaks more ≡ true
    → Says interface_name (at line (n ++ more)) n (at line more)
interface_says n line more h a r b =
    says interface_name line n more n (name_text 15 n h) b
    (cond-true (may_name_interface (key_of_text n)) (name_of 15 n) None (may_name n a r) ∙ name_again 15 n h)

on_behind : (n : List ℕ) (negation : Bool) (line : ℕ) (more : List ℕ) → is_name 15 n ≡ true → bytes_eq n (codes "any") ≡ false → bytes_eq n (codes "rdomain") ≡ false → breaks more ≡ true
    → OnOf (at line ((not_text negation ++ n) ++ more)) (interface n negation) (at line more)
on_behind n true line more h a r b = on (negated (mark true line 33 (n ++ more) refl)) (interface_says n line more h a r b)
on_behind n false line more h a r b = on affirmed (interface_says n line more h a r b)

pub on_reads : (i : Option Interface) (line : ℕ) (more : List ℕ) → IfSome i IsInterface → breaks more ≡ true → Perhaps (Behind key.On OnOf) (at line (on_text i ++ more)) i (at line more)
on_reads None line more h b = absent
on_reads (Some i) line more h b =
    present (
      at line ((not_text i.negated ++ i.name) ++ more),
      word_between line (codes "on") ((not_text i.negated ++ i.name) ++ more) refl key_of_On,
      on_behind i.name i.negated line more h.name h.not_any h.not_rdomain b,
    )

pub family_reads : (f : Option Family) (line : ℕ) (more : List ℕ) → breaks more ≡ true → Perhaps FamilyOf (at line (family_text f ++ more)) f (at line more)
family_reads None line more b = absent
family_reads (Some family.Inet) line more b = present (inet (word line (codes "inet") more refl b key_of_Inet))
family_reads (Some family.Inet6) line more b = present (inet6 (word line (codes "inet6") more refl b key_of_Inet6))

pub word_says : {A : Type 0} (value : List ℕ → Option A) (line : ℕ) (w more : List ℕ) (x : A) → is_word_text w ≡ true → breaks more ≡ true → value w ≡ Some x
    → Says (in_word value) (at line (w ++ more)) x (at line more)
word_says value line w more x h b e = says (in_word value) line w more x h b (cond-true (is_word_key (key_of_text w)) (value w) None (key_of_word w) ∙ e)

proto_behind : {A : Type 0} (P : List Tok → A → List Tok → Type 0) (x : A) (line : ℕ) (w more : List ℕ) → P (at line (w ++ more)) x (at line more)
    → Behind key.Proto P (at line (32 ∷ 112 ∷ 114 ∷ 111 ∷ 116 ∷ 111 ∷ 32 ∷ (w ++ more))) x (at line more)
proto_behind P x line w more p = (at line (w ++ more), word_between line (codes "proto") (w ++ more) refl key_of_Proto, p)

pub proto_reads : (p : Option Proto) (line : ℕ) (more : List ℕ) → IfSome p IsProto → breaks more ≡ true → Perhaps (Behind key.Proto (Says (in_word proto_in))) (at line (proto_text p ++ more)) p (at line more)
proto_reads None line more h b = absent
proto_reads (Some proto.Tcp) line more h b = present (proto_behind (Says (in_word proto_in)) proto.Tcp line (codes "tcp") more (word_says proto_in line (codes "tcp") more proto.Tcp refl b proto_known.0))
proto_reads (Some proto.Udp) line more h b = present (proto_behind (Says (in_word proto_in)) proto.Udp line (codes "udp") more (word_says proto_in line (codes "udp") more proto.Udp refl b proto_known.1))
proto_reads (Some (proto.Other n)) line more h b = present (proto_behind (Says (in_word proto_in)) (proto.Other n) line (decimal n) more (word_says proto_in line (decimal n) more (proto.Other n) (decimal_text n (omega (arith, h.0))) b (proto_again n h.0 h.1 h.2)))

pub tag_says : (line : ℕ) (n more : List ℕ) → IsTag n → breaks more ≡ true → Says tag_name (at line (n ++ more)) n (at line more)
tag_says line n more h b = word_says (name_of 63) line n more n (name_text 63 n h) b (name_again 63 n h)

-- ---- hosts

-- a table of the configuration has a name
pub table_named : (tables : List TableDef) (t : TableNo) → All IsTable tables → IsTableNo (length tables) t → is_name 31 (table_said tables t) ≡ true
table_named tables t h lt = go tables t.0 h lt
  where
    go : (ts : List TableDef) (i : ℕ) → All IsTable ts → i < length ts → is_name 31 (name_in (slice_get ts i)) ≡ true
    go [] i g k = absurd (omega arith)
    go (x ∷ ts) zero g k = (All-head IsTable x ts g).name
    go (x ∷ ts) (suc i) g k = go ts i (All-tail IsTable x ts g) (omega arith)

-- a name in angle brackets: its three tokens
pub angle_opens : (busy : Bool) (line : ℕ) (n more : List ℕ) → Word key.OpenAngle (tokens 0 busy line (angled_name n ++ more)) (at line (n ++ 62 ∷ more))
angle_opens busy line n more = (
  token line key.OpenAngle (60 ∷ []),
  mark_then busy line 60 ((n ++ 62 ∷ []) ++ more) refl
      ∙ ap (λ (z : List ℕ). token line key.OpenAngle (60 ∷ []) ∷ at line z) (append_assoc n (62 ∷ []) more),
  refl,
)

pub angle_names : (line : ℕ) (n more : List ℕ) → is_name 31 n ≡ true → at line (n ++ 62 ∷ more) ≡ token line (key_of_text n) n ∷ at line (62 ∷ more)
angle_names line n more h = word_then true line n (62 ∷ more) (name_text 31 n h) refl

pub angle_closes : (line : ℕ) (more : List ℕ) → Word key.CloseAngle (at line (62 ∷ more)) (at line more)
angle_closes line more = mark true line 62 more refl

table_says : (line : ℕ) (n more : List ℕ) → is_name 31 n ≡ true → Says table_name (at line (n ++ 62 ∷ more)) n (at line (62 ∷ more))
table_says line n more h = (token line (key_of_text n) n, angle_names line n more h, cond-true (is_word_key (key_of_text n)) (name_of 31 n) None (key_of_word n) ∙ name_again 31 n h)

prefix_says : (line : ℕ) (p : Network) (more : List ℕ) → IsNetwork p → breaks more ≡ true → Says (in_plain_word prefix_of) (at line (prefix_text p ++ more)) p (at line more)
prefix_says line p more h b =
    says (in_plain_word prefix_of) line (prefix_text p) more p (prefix_word p h) b
    (cond-true (is_plain_word (key_of_text (prefix_text p))) (prefix_of (prefix_text p)) None (prefix_plain p h) ∙ prefix_again p h)

prefix_reads : (p : Network) (negation : Bool) (line : ℕ) (more : List ℕ) → IsNetwork p → breaks more ≡ true
    → HostOf (at line ((not_text negation ++ prefix_text p) ++ more)) (host.Prefix p negation) (at line more)
prefix_reads p true line more h b = prefix (negated (mark true line 33 (prefix_text p ++ more) refl)) (prefix_says line p more h b)
prefix_reads p false line more h b = prefix affirmed (prefix_says line p more h b)

table_reads : (n : List ℕ) (negation : Bool) (line : ℕ) (more : List ℕ) → is_name 31 n ≡ true
    → HostOf (at line ((not_text negation ++ angled_name n) ++ more)) (host.Table n negation) (at line more)
table_reads n true line more h = table (negated (mark true line 33 (angled_name n ++ more) refl)) (angle_opens true line n more) (table_says line n more h) (angle_closes line more)
table_reads n false line more h = table affirmed (angle_opens true line n more) (table_says line n more h) (angle_closes line more)

pub host_reads : (tables : List TableDef) (h : Host TableNo) (line : ℕ) (more : List ℕ) → All IsTable tables → IsHost (IsTableNo (length tables)) h → breaks more ≡ true
    → HostOf (at line (host_text tables h ++ more)) (host_said tables h) (at line more)
host_reads tables host.Any line more t h b = any (token line (key_of_text (codes "any")) (codes "any"), word_then true line (codes "any") more refl b, key_of_Any)
host_reads tables (host.Prefix p negation) line more t h b = prefix_reads p negation line more h b
host_reads tables (host.Table n negation) line more t h b = table_reads (table_said tables n) negation line more (table_named tables n t h)

pub address_says : (line : ℕ) (a : Addr) (more : List ℕ) → IsAddr a → breaks more ≡ true → Says (in_plain_word addr_of) (at line (addr_text a ++ more)) a (at line more)
address_says line a more h b =
    says (in_plain_word addr_of) line (addr_text a) more a (address_word a h) b
    (cond-true (is_plain_word (key_of_text (addr_text a))) (addr_of (addr_text a)) None (address_plain a h) ∙ address_again a h)

pub ports_read : (p : Option Ports) (line : ℕ) (more : List ℕ) → IfSome p ArePorts → breaks more ≡ true → Perhaps (Behind key.Port PortsOf) (at line (ports_text p ++ more)) p (at line more)
ports_read None line more h b = absent
ports_read (Some p) line more h b =
    let w = decimal p.low ++ range_text p in
    present (at line (w ++ more), word_between line (codes "port") (w ++ more) refl key_of_Port, plainly (word_says ports_of line w more p (ports_word p h) b (ports_again p h)))

ports_break : (p : Option Ports) (more : List ℕ) → breaks more ≡ true → breaks (ports_text p ++ more) ≡ true
ports_break None more b = b
ports_break (Some p) more b = refl

pub side_reads : (tables : List TableDef) (s : Side TableNo) (line : ℕ) (more : List ℕ) → All IsTable tables → IsSide (IsTableNo (length tables)) s → breaks more ≡ true
    → SideOf (at line (side_text tables s ++ more)) (side_said tables s) (at line more)
side_reads tables s line more t h b =
    let P : List ℕ → Type 0 = λ z. SideOf (at line z) (side_said tables s) (at line more) in
    subst P (sym (append_assoc (host_text tables s.host) (ports_text s.ports) more))
    (hosted (host_reads tables s.host line (ports_text s.ports ++ more) t h.host (ports_break s.ports more b)) (ports_read s.ports line more h.ports b))

pub hosts_read : (tables : List TableDef) (from to : Side TableNo) (line : ℕ) (more : List ℕ) → All IsTable tables → IsSide (IsTableNo (length tables)) from → IsSide (IsTableNo (length tables)) to
    → breaks more ≡ true → HostsOf (at line (hosts_text tables from to ++ more)) (hosts_said tables from to) (at line more)
hosts_read tables from to line more t h g b = go (is_every_side from && is_every_side to)
  where
    first : List ℕ
    first = side_text tables from

    second : List ℕ
    second = side_text tables to

    both : HostsOf (at line ((codes " from " ++ (first ++ (codes " to " ++ second))) ++ more)) (given_hosts (Some (side_said tables from)) (Some (side_said tables to))) (at line more)
    both =
        let behind = codes " to " ++ (second ++ more) in
        let P : List ℕ → Type 0 = λ z. HostsOf (at line (codes " from " ++ z)) (given_hosts (Some (side_said tables from)) (Some (side_said tables to))) (at line more) in
        subst P (sym (append_assoc first (codes " to " ++ second) more))
        (sides (present (at line (first ++ behind), word_between line (codes "from") (first ++ behind) refl key_of_From, side_reads tables from line behind t h refl))
        (present (at line (second ++ more), word_between line (codes "to") (second ++ more) refl key_of_To, side_reads tables to line more t g b)))

    go : (c : Bool) → HostsOf (at line ((if c then codes " all" else codes " from " ++ (first ++ (codes " to " ++ second))) ++ more))
        (if c then all_hosts else given_hosts (Some (side_said tables from)) (Some (side_said tables to))) (at line more)
    go true = every (word line (codes "all") more refl b key_of_All)
    go false = both

-- ---- flags

letter_word : (f : Flags) → list_all is_word_byte (letters_text f) ≡ true
letter_word f = letters_all is_word_byte f refl

-- a/b: the letters of both sets around a slash
abbrev pair_text : Flags → Flags → List ℕ
pair_text set among = letters_text set ++ 47 ∷ letters_text among

pair_word : (set among : Flags) → is_word_text (pair_text set among) ≡ true
pair_word set among = go (letters_text set) (letter_word set)
  where
    go : (w : List ℕ) → list_all is_word_byte w ≡ true → is_word_text (w ++ 47 ∷ letters_text among) ≡ true
    go [] h = letter_word among
    go (b ∷ w) h = text_append (b ∷ w) (47 ∷ letters_text among) h (letter_word among)

pair_not_any : (set among : Flags) → bytes_eq (pair_text set among) (codes "any") ≡ false
pair_not_any set among =
    no_word 97 (codes "ny") (pair_text set among) (all_append (λ b. not (b == 97)) (letters_text set) (47 ∷ letters_text among) (letters_all (λ b. not (b == 97)) set refl) (letters_all (λ b. not (b == 97)) among refl))

pair_again : (set among : Flags) → has_a_flag among ≡ true → flag_test_of (pair_text set among) ≡ Some (flag_test.Exactly set among)
unfolding flag_test_of
pair_again set among h =
    ap flags_around (split_around_append 47 (letters_text set) (letters_text among) (letters_all (λ b. not (b == 47)) set refl))
    ∙ (cond-false (length (letters_text among) == 0) None (exactly (flags_of (letters_text set)) (flags_of (letters_text among))) (letters_some among h)
    ∙ (ap (λ (o : Option Flags). exactly o (flags_of (letters_text among))) (flags_again set) ∙ ap (exactly (Some set)) (flags_again among)))

by_other : (text : List ℕ) (k : Key) → is_other k ≡ true → is_word_key k ≡ true → flag_test_by text k ≡ flag_test_of text
by_other text key.Any h g = absurd (cc h)
by_other text k h g = cond-true (is_word_key k) (flag_test_of text) None g

pair_says : (set among : Flags) → has_a_flag among ≡ true → flag_test_by (pair_text set among) (key_of_text (pair_text set among)) ≡ Some (flag_test.Exactly set among)
pair_says set among h =
    let w = pair_text set among in
    by_other w (key_of_text w) (not_any w (pair_not_any set among)) (key_of_word w) ∙ pair_again set among h

any_says : flag_test_by (codes "any") (key_of_text (codes "any")) ≡ Some flag_test.Any
any_says = ap (flag_test_by (codes "any")) key_of_Any

pub flags_read : (f : FlagTest) (line : ℕ) (more : List ℕ) → IsFlagTest f → breaks more ≡ true → FlagsOf (at line (flags_text f ++ more)) f (at line more)
flags_read flag_test.Any line more h b =
    (at line (codes "any" ++ more), word_between line (codes "flags") (codes "any" ++ more) refl key_of_Flags, says flag_test line (codes "any") more flag_test.Any refl b any_says)
flags_read (flag_test.Exactly set among) line more h b =
    let w = pair_text set among in
    (at line (w ++ more), word_between line (codes "flags") (w ++ more) refl key_of_Flags, says flag_test line w more (flag_test.Exactly set among) (pair_word set among) b (pair_says set among h))

-- ---- all parameters

dir_break : (d : Option Dir) (more : List ℕ) → breaks more ≡ true → breaks (dir_text d ++ more) ≡ true
dir_break None more b = b
dir_break (Some dir.In) more b = refl
dir_break (Some dir.Out) more b = refl

quick_break : (q : Bool) (more : List ℕ) → breaks more ≡ true → breaks (quick_text q ++ more) ≡ true
quick_break true more b = refl
quick_break false more b = b

on_break : (i : Option Interface) (more : List ℕ) → breaks more ≡ true → breaks (on_text i ++ more) ≡ true
on_break None more b = b
on_break (Some i) more b = refl

family_break : (f : Option Family) (more : List ℕ) → breaks more ≡ true → breaks (family_text f ++ more) ≡ true
family_break None more b = b
family_break (Some family.Inet) more b = refl
family_break (Some family.Inet6) more b = refl

proto_break : (p : Option Proto) (more : List ℕ) → breaks more ≡ true → breaks (proto_text p ++ more) ≡ true
proto_break None more b = b
proto_break (Some proto.Tcp) more b = refl
proto_break (Some proto.Udp) more b = refl
proto_break (Some (proto.Other n)) more b = refl

hosts_break : (tables : List TableDef) (from to : Side TableNo) (more : List ℕ) → breaks (hosts_text tables from to ++ more) ≡ true
hosts_break tables from to more = go (is_every_side from && is_every_side to)
  where
    go : (c : Bool) → breaks ((if c then codes " all" else codes " from " ++ (side_text tables from ++ (codes " to " ++ side_text tables to))) ++ more) ≡ true
    go true = refl
    go false = refl

pub flags_break : (f : FlagTest) (more : List ℕ) → breaks (flags_text f ++ more) ≡ true
flags_break flag_test.Any more = refl
flags_break (flag_test.Exactly set among) more = refl

-- the parameters before `flags` begin with no byte of a word
pub head_break : (tables : List TableDef) (q : Bool) (f : Filter) (more : List ℕ)
    → breaks (dir_text f.dir ++ (quick_text q ++ (on_text f.on ++ (family_text f.family ++ (proto_text f.proto ++ (hosts_text tables f.from f.to ++ more)))))) ≡ true
head_break tables q f more =
    dir_break f.dir _ (quick_break q _ (on_break f.on _ (family_break f.family _ (proto_break f.proto _ (hosts_break tables f.from f.to more)))))

-- the parameters before `flags`
pub head_reads : (s : Statement) (tables : List TableDef) (q : Bool) (f : Filter) (line : ℕ) (more : List ℕ) → All IsTable tables → IsFilter (length tables) f → MayBeQuick s q → breaks more ≡ true
    → ParametersOf s (at line (dir_text f.dir ++ (quick_text q ++ (on_text f.on ++ (family_text f.family ++ (proto_text f.proto ++ (hosts_text tables f.from f.to ++ more)))))))
    (parameters_said tables q f) (at line more)
head_reads s tables q f line more t h m b =
    let after_hosts = more in
    let after_proto = hosts_text tables f.from f.to ++ after_hosts in
    let after_family = proto_text f.proto ++ after_proto in
    let after_on = family_text f.family ++ after_family in
    let after_quick = on_text f.on ++ after_on in
    let after_dir = quick_text q ++ after_quick in
    let b_proto : breaks after_proto ≡ true = hosts_break tables f.from f.to after_hosts in
    let b_family : breaks after_family ≡ true = proto_break f.proto after_proto b_proto in
    let b_on : breaks after_on ≡ true = family_break f.family after_family b_family in
    let b_quick : breaks after_quick ≡ true = on_break f.on after_on b_on in
    let b_dir : breaks after_dir ≡ true = quick_break q after_quick b_quick in
    record {
      mid = at line after_proto;
      head = record {
        a = at line after_dir;
        b = at line after_quick;
        c = at line after_on;
        d = at line after_family;
        dir = dir_reads f.dir line after_dir b_dir;
        marks = marks_read s q line after_quick m b_quick;
        on = on_reads f.on line after_on h.on b_on;
        family = family_reads f.family line after_family b_family;
        proto = proto_reads f.proto line after_proto h.proto b_proto;
      };
      hosts = hosts_read tables f.from f.to line more t h.source h.destination b;
    }
