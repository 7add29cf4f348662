-- What is read as parameters is a phrase of their grammar.
--
-- A crate above imports them as `use Rattle.pfs_conf_filters.proofs.PhraseLaws.{verb_is, parameters_are, flags_are}`.
use Rattle.std.proofs.Common.{◌≡◌, ℕ, Bool, true, false, cond, List, [], ◌∷◌, Option, Some, None, Ok, refl, sym, ap, subst, ◌∙◌}
use borrow.Author.Tests.{clash}
use Rattle.pfs_conf_tokens.specs.Tokens.{Tok, head}
use Rattle.pfs_conf_tokens.specs.Reading.{rest, closes_parens, Reader, stay, act, on_front, done, chain, take, refuse, once}
use Rattle.pfs_conf_tokens.specs.Keys.{in_line}
use Rattle.pfs_conf_tokens.specs.Grammar.{Word, Perhaps}
use Rattle.pfs_conf_tokens.specs.declared.keys.Key.{Key}
use Rattle.pfs_conf_tokens.specs.declared.keys.Key.TheVariants as key
use Rattle.pfs_conf_tokens.specs.declared.refusals.Why.{Why}
use Rattle.pfs_conf_tokens.specs.declared.refusals.Why.TheVariants as why
use Rattle.pfs_conf_tokens.proofs.Laws.{ok_parts, chain_ok, not_refused}
use Rattle.pfs_conf_tokens.proofs.ReaderLaws.{closes_parens_key, word_is, perhaps_is, list_is}
use Rattle.pfs_addr_values.specs.Protocols.{proto_in}
use Rattle.pfs_addr.specs.Texts.{addr_of, prefix_of}
use Rattle.pfs_addr_values.specs.declared.packets.Dir.{Dir}
use Rattle.pfs_addr_values.specs.declared.packets.Dir.TheVariants as dir
use Rattle.pfs_addr_values.specs.declared.protocols.Proto.{Proto}
use Rattle.pfs_conf_values.specs.declared.filters.Family.{Family}
use Rattle.pfs_conf_values.specs.declared.filters.Family.TheVariants as family
use Rattle.pfs_conf_values.specs.declared.filters.Interface.{Interface}
use Rattle.pfs_conf_values.specs.declared.filters.Host.{Host}
use Rattle.pfs_conf_values.specs.declared.filters.Host.TheVariants as host
use Rattle.pfs_conf_values.specs.declared.filters.Ports.{Ports}
use Rattle.pfs_conf_values.specs.declared.filters.Side.{Side}
use Rattle.pfs_conf_values.specs.declared.filters.FlagTest.{FlagTest}
use Rattle.pfs_conf_filters.specs.declared.phrases.Verb.{Verb}
use Rattle.pfs_conf_filters.specs.declared.phrases.Verb.TheVariants as verb
use Rattle.pfs_conf_filters.specs.declared.phrases.Statement.{Statement}
use Rattle.pfs_conf_filters.specs.declared.phrases.Statement.TheVariants as statement
use Rattle.pfs_conf_filters.specs.declared.phrases.Marks.{Marks}
use Rattle.pfs_conf_filters.specs.declared.phrases.Head.{Head}
use Rattle.pfs_conf_filters.specs.declared.phrases.Hosts.{Hosts}
use Rattle.pfs_conf_filters.specs.declared.phrases.Parameters.{Parameters}
use Rattle.pfs_conf_filters.specs.Values.{in_plain_word, interface_name, port_of, ports_of, flag_test, tag_name}
use Rattle.pfs_conf_filters.specs.Reading.{behind, clause, part, begins_dir, begins_on, begins_family, begins_proto, begins_from, begins_to, begins_port, begins_flags, interface_at, policy_by, policy_at, verb_by, verb_at, dir_by, dir_at, log_item_by, log_item_at, log_list_by, log_list_at, log_by, log_at, quick_by, quick_at, marks_of, marks_by, marks_at, negation_by, negation_at, interface, on_at, on_part_at, family_by, family_part_at, proto_at, proto_part_at, head_at, close_by, close_at, place_by, place_at, host_by, host_at, equals_by, equals_at, ports_at, ports_part_at, side_host_by, side_host_at, side, side_at, from_part_at, to_part_at, all_hosts, given_hosts, hosts_by, hosts_at, parameters_at, flags_at, tag_name_at, tag_test, tag_at, tagged_at, received_on_at, asked_by, asks_both, extra_by, extra_at, address_at, given_ports_at, nat_ports_by, nat_ports_at, natted, nat_to_at, port_at, port_part_at, redirected, rdr_to_at, with_nat_at, with_rdr_at, translation_by, translation_at}
use Rattle.pfs_conf_filters.specs.Grammar.{Says, Behind, PolicyOf, none, drop, return, return_rst, return_icmp, return_icmp6, VerbOf, pass, block, DirOf, inward, outward, LogItemOf, all, matches, user, to, LogListOf, bare, listed, LogOf, silent, logs, QuickOf, slow, quick, MarksOf, log_first, quick_first, of_anchor, NegationOf, affirmed, negated, OnOf, on, FamilyOf, inet, inet6, HeadOf, HostOf, any, prefix, table, PortsOf, plainly, equals, SideOf, hosted, ported, HostsOf, every, sides, ParametersOf, FlagsOf, matching, of_match, ExtraOf, tag, tagged, received_on, NatPortsOf, usual, given, same, NatToOf, RdrToOf, TranslationOf, nat_to, rdr_to}
use Rattle.pfs_conf_filters.proofs.OnlineLaws.{in_plain_word_in_line, interface_in_line, flags_in_line}
use Rattle.pfs_conf_tokens.proofs.ValueLaws.{in_word_in_line}
use Rattle.pfs_conf_tokens.specs.Values.{in_word, table_name, table_name_at, value_at, valued}
use Rattle.pfs_conf_filters.specs.declared.phrases.Extras.{Extras}
use Rattle.pfs_addr_values.specs.declared.addresses.Addr.{Addr}
use Rattle.pfs_conf_values.specs.declared.translations.NatPorts.{NatPorts}
use Rattle.pfs_conf_values.specs.declared.translations.NatPorts.TheVariants as nat_ports
use Rattle.pfs_conf_values.specs.declared.translations.NatTo.{NatTo}
use Rattle.pfs_conf_values.specs.declared.translations.RdrTo.{RdrTo}
use Rattle.pfs_conf_values.specs.declared.translations.Translation.{Translation}
use Rattle.pfs_conf_values.specs.declared.filters.Tagged.{Tagged}

-- ---- forms

-- the same phrase, where the value and the tokens left are written otherwise
moved : {A : Type 0} (P : List Tok → A → List Tok → Type 0) (ts : List Tok) {x y : A} {l m : List Tok} → (x ≡ y) × (l ≡ m) → P ts x l → P ts y m
moved {A} P ts {x} {y} {l} {m} p h = subst (λ (z : A). P ts z m) p.0 (subst (λ (z : List Tok). P ts x z) p.1 h)

pub value_is : {A : Type 0} (w : Why) (value : Tok → Option A) → ((t : Tok) (x : A) → value t ≡ Some x → in_line t.key ≡ true)
    → (ts : List Tok) (x : A) (left : List Tok) → value_at w value ts ≡ Ok (x, left) → Says value ts x left
value_is {A} w value h [] x left e = within (value (head [])) refl e
  where
    within : (o : Option A) → value (head []) ≡ o → act (valued w o) [] ≡ Ok (x, left) → Says value [] x left
    within None g k = absurd cc
    within (Some y) g k = let p : in_line key.End ≡ true = h (head []) y g in absurd cc
value_is {A} w value h (t ∷ ts) x left e = within (value t) refl e
  where
    within : (o : Option A) → value t ≡ o → act (valued w o) (t ∷ ts) ≡ Ok (x, left) → Says value (t ∷ ts) x left
    within None g k = absurd cc
    within (Some y) g k = let p = ok_parts y x ts left k in (t, ap (λ (z : List Tok). t ∷ z) p.1, g ∙ ap (λ (z : A). Some z) p.0)

pub clause_is : {A : Type 0} (k : Key) (begins : Key → Bool) (f : Reader A) (P : List Tok → A → List Tok → Type 0)
    → ((j : Key) → begins j ≡ true → j ≡ k) → (key.End ≡ k → ⊥)
    → ((ts : List Tok) (x : A) (left : List Tok) → f ts ≡ Ok (x, left) → P ts x left)
    → (ts : List Tok) (x : A) (left : List Tok) → clause begins f ts ≡ Ok (x, left) → Behind k P ts x left
clause_is k begins f P only no_end is ts x left e = within (begins (head ts).key) refl e
  where
    within : (b : Bool) → begins (head ts).key ≡ b → act (behind b f) ts ≡ Ok (x, left) → Behind k P ts x left
    within true g h = (rest ts, word_is k ts (only (head ts).key g) no_end, is (rest ts) x left h)
    within false g h = absurd cc

pub part_is : {A : Type 0} (k : Key) (begins : Key → Bool) (f : Reader A) (P : List Tok → A → List Tok → Type 0)
    → ((j : Key) → begins j ≡ true → j ≡ k) → (key.End ≡ k → ⊥)
    → ((ts : List Tok) (x : A) (left : List Tok) → f ts ≡ Ok (x, left) → P ts x left)
    → (ts : List Tok) (o : Option A) (left : List Tok) → part begins f ts ≡ Ok (o, left) → Perhaps (Behind k P) ts o left
part_is k begins f P only no_end is ts o left e = perhaps_is begins (clause begins f) (Behind k P) (clause_is k begins f P only no_end is) ts o left e

-- where a part begins, it is there
started : {A : Type 0} (begins : Key → Bool) (f : Reader A) (ts : List Tok) (o : Option A) (left : List Tok) → begins (head ts).key ≡ true → part begins f ts ≡ Ok (o, left)
    → (x : A) × (o ≡ Some x) × (clause begins f ts ≡ Ok (x, left))
started {A} begins f ts o left b e = within (begins (head ts).key) b e
  where
    within : (v : Bool) → v ≡ true → act (cond v (stay (chain (clause begins f) (λ x. done (Some x)))) (stay (done None))) ts ≡ Ok (o, left) → (x : A) × (o ≡ Some x) × (clause begins f ts ≡ Ok (x, left))
    within true g h =
        let c = chain_ok (clause begins f) (λ x. done (Some x)) ts o left h in
        let p = ok_parts (Some c.0) o c.1 left c.3 in
        (c.0, sym p.0, c.2 ∙ ap (λ (z : List Tok). Ok (c.0, z)) p.1)
    within false g h = absurd cc

on_only : (k : Key) → begins_on k ≡ true → k ≡ key.On
on_only key.On e = refl
on_only _ e = absurd (clash e)

proto_only : (k : Key) → begins_proto k ≡ true → k ≡ key.Proto
proto_only key.Proto e = refl
proto_only _ e = absurd (clash e)

from_only : (k : Key) → begins_from k ≡ true → k ≡ key.From
from_only key.From e = refl
from_only _ e = absurd (clash e)

to_only : (k : Key) → begins_to k ≡ true → k ≡ key.To
to_only key.To e = refl
to_only _ e = absurd (clash e)

port_only : (k : Key) → begins_port k ≡ true → k ≡ key.Port
port_only key.Port e = refl
port_only _ e = absurd (clash e)

flags_only : (k : Key) → begins_flags k ≡ true → k ≡ key.Flags
flags_only key.Flags e = refl
flags_only _ e = absurd (clash e)

-- ---- names

interface_name_is : (ts : List Tok) (x : List ℕ) (left : List Tok) → interface_at ts ≡ Ok (x, left) → Says interface_name ts x left
unfolding interface_at
interface_name_is ts x left e = value_is why.Plain interface_name interface_in_line ts x left e

tag_name_is : (ts : List Tok) (x : List ℕ) (left : List Tok) → tag_name_at ts ≡ Ok (x, left) → Says tag_name ts x left
unfolding tag_name_at
tag_name_is ts x left e = value_is why.Plain tag_name (in_word_in_line _) ts x left e

table_name_is : (ts : List Tok) (x : List ℕ) (left : List Tok) → table_name_at ts ≡ Ok (x, left) → Says table_name ts x left
unfolding table_name_at
table_name_is ts x left e = value_is why.Plain table_name (in_word_in_line _) ts x left e

-- ---- the action

policy_is : (ts : List Tok) (x : Bool) (left : List Tok) → policy_at ts ≡ Ok (x, left) → PolicyOf ts x left
unfolding policy_at
policy_is ts x left e = by_key (head ts).key refl e
  where
    not_there : act (stay (done false)) ts ≡ Ok (x, left) → PolicyOf ts x left
    not_there h = moved PolicyOf ts (ok_parts false x ts left h) none

    by_key : (k : Key) → (head ts).key ≡ k → act (policy_by k) ts ≡ Ok (x, left) → PolicyOf ts x left
    by_key key.Drop g h = moved PolicyOf ts (ok_parts true x (rest ts) left h) (drop (word_is key.Drop ts g (λ q. cc)))
    by_key key.Return g h = moved PolicyOf ts (ok_parts true x (rest ts) left h) (return (word_is key.Return ts g (λ q. cc)))
    by_key key.ReturnRst g h = moved PolicyOf ts (ok_parts true x (rest ts) left h) (return_rst (word_is key.ReturnRst ts g (λ q. cc)))
    by_key key.ReturnIcmp g h = moved PolicyOf ts (ok_parts true x (rest ts) left h) (return_icmp (word_is key.ReturnIcmp ts g (λ q. cc)))
    by_key key.ReturnIcmp6 g h = moved PolicyOf ts (ok_parts true x (rest ts) left h) (return_icmp6 (word_is key.ReturnIcmp6 ts g (λ q. cc)))
    by_key _ g h = not_there h

pub verb_is : (ts : List Tok) (x : Verb) (left : List Tok) → verb_at ts ≡ Ok (x, left) → VerbOf ts x left
unfolding verb_at
verb_is ts x left e = by_key (head ts).key refl e
  where
    by_key : (k : Key) → (head ts).key ≡ k → act (verb_by k) ts ≡ Ok (x, left) → VerbOf ts x left
    by_key key.Pass g h = moved VerbOf ts (ok_parts verb.Pass x (rest ts) left h) (pass (word_is key.Pass ts g (λ q. cc)))
    by_key key.Match g h = moved VerbOf ts (ok_parts verb.Match x (rest ts) left h) (matching (word_is key.Match ts g (λ q. cc)))
    by_key key.Block g h =
        let c = chain_ok policy_at (λ p. done (verb.Block p)) (rest ts) x left h in
        moved VerbOf ts (ok_parts (verb.Block c.0) x c.1 left c.3) (block (word_is key.Block ts g (λ q. cc)) (policy_is (rest ts) c.0 c.1 c.2))
    by_key _ g h = absurd (not_refused _ _ _ h)

-- ---- direction, log and quick

dir_word_is : (ts : List Tok) (x : Dir) (left : List Tok) → on_front (λ t. dir_by t.key) ts ≡ Ok (x, left) → DirOf ts x left
dir_word_is ts x left e = by_key (head ts).key refl e
  where
    by_key : (k : Key) → (head ts).key ≡ k → act (dir_by k) ts ≡ Ok (x, left) → DirOf ts x left
    by_key key.In g h = moved DirOf ts (ok_parts dir.In x (rest ts) left h) (inward (word_is key.In ts g (λ q. cc)))
    by_key key.Out g h = moved DirOf ts (ok_parts dir.Out x (rest ts) left h) (outward (word_is key.Out ts g (λ q. cc)))
    by_key _ g h = absurd (not_refused _ _ _ h)

pub dir_is : (ts : List Tok) (o : Option Dir) (left : List Tok) → dir_at ts ≡ Ok (o, left) → Perhaps DirOf ts o left
unfolding dir_at
dir_is ts o left e = perhaps_is begins_dir (on_front (λ t. dir_by t.key)) DirOf dir_word_is ts o left e

log_item_is : (u : Unit {0}) (ts : List Tok) (v : Unit {0}) (left : List Tok) → log_item_at u ts ≡ Ok (v, left) → LogItemOf u ts v left
unfolding log_item_at
log_item_is u ts v left e = by_key (head ts).key refl e
  where
    by_key : (k : Key) → (head ts).key ≡ k → act (log_item_by k) ts ≡ Ok (v, left) → LogItemOf u ts v left
    by_key key.All g h = moved (LogItemOf u) ts (ok_parts tt v (rest ts) left h) (all (word_is key.All ts g (λ q. cc)))
    by_key key.Matches g h = moved (LogItemOf u) ts (ok_parts tt v (rest ts) left h) (matches (word_is key.Matches ts g (λ q. cc)))
    by_key key.User g h = moved (LogItemOf u) ts (ok_parts tt v (rest ts) left h) (user (word_is key.User ts g (λ q. cc)))
    by_key key.To g h =
        let c = chain_ok interface_at (λ n. done tt) (rest ts) v left h in
        moved (LogItemOf u) ts (ok_parts tt v c.1 left c.3) (to (word_is key.To ts g (λ q. cc)) (interface_name_is (rest ts) c.0 c.1 c.2))
    by_key _ g h = absurd (not_refused _ _ _ h)

log_list_is : (ts : List Tok) (u : Unit {0}) (left : List Tok) → log_list_at ts ≡ Ok (u, left) → LogListOf ts left
unfolding log_list_at
log_list_is ts u left e = by_key (head ts).key refl e
  where
    not_there : act (stay (done tt)) ts ≡ Ok (u, left) → LogListOf ts left
    not_there h = let p = ok_parts tt u ts left h in subst (λ (z : List Tok). LogListOf ts z) p.1 bare

    by_key : (k : Key) → (head ts).key ≡ k → act (log_list_by k) ts ≡ Ok (u, left) → LogListOf ts left
    by_key key.OpenParen g h = listed (word_is key.OpenParen ts g (λ q. cc)) (list_is key.CloseParen closes_parens LogItemOf log_item_at closes_parens_key (λ q. cc) log_item_is tt (rest ts) u left h)
    by_key _ g h = not_there h

log_is : (ts : List Tok) (x : Bool) (left : List Tok) → log_at ts ≡ Ok (x, left) → LogOf ts x left
unfolding log_at
log_is ts x left e = by_key (head ts).key refl e
  where
    not_there : act (stay (done false)) ts ≡ Ok (x, left) → LogOf ts x left
    not_there h = moved LogOf ts (ok_parts false x ts left h) silent

    by_key : (k : Key) → (head ts).key ≡ k → act (log_by k) ts ≡ Ok (x, left) → LogOf ts x left
    by_key key.Log g h =
        let c = chain_ok log_list_at (λ u. done true) (rest ts) x left h in
        moved LogOf ts (ok_parts true x c.1 left c.3) (logs (word_is key.Log ts g (λ q. cc)) (log_list_is (rest ts) c.0 c.1 c.2))
    by_key _ g h = not_there h

quick_is : (ts : List Tok) (x : Bool) (left : List Tok) → quick_at ts ≡ Ok (x, left) → QuickOf ts x left
unfolding quick_at
quick_is ts x left e = by_key (head ts).key refl e
  where
    not_there : act (stay (done false)) ts ≡ Ok (x, left) → QuickOf ts x left
    not_there h = moved QuickOf ts (ok_parts false x ts left h) slow

    by_key : (k : Key) → (head ts).key ≡ k → act (quick_by k) ts ≡ Ok (x, left) → QuickOf ts x left
    by_key key.Quick g h = moved QuickOf ts (ok_parts true x (rest ts) left h) (quick (word_is key.Quick ts g (λ q. cc)))
    by_key _ g h = not_there h

-- a `quick` in front, with or without `log` after it
quick_then : {ts mid left : List Tok} {l : Bool} → Word key.Quick ts mid → LogOf mid l left → MarksOf statement.Rule ts (marks_of l true) left
quick_then w silent = log_first silent (quick w)
quick_then w (logs v list) = quick_first w (logs v list)

pub marks_are : (s : Statement) (ts : List Tok) (m : Marks) (left : List Tok) → marks_at s ts ≡ Ok (m, left) → MarksOf s ts m left
unfolding marks_at
marks_are s ts m left e = by_key s (head ts).key refl e
  where
    log_in_front : act (stay (chain log_at (λ l. chain quick_at (λ q. done (marks_of l q))))) ts ≡ Ok (m, left) → MarksOf statement.Rule ts m left
    log_in_front h =
        let c = chain_ok log_at (λ l. chain quick_at (λ q. done (marks_of l q))) ts m left h in
        let d = chain_ok quick_at (λ q. done (marks_of c.0 q)) c.1 m left c.3 in
        moved (MarksOf statement.Rule) ts (ok_parts (marks_of c.0 d.0) m d.1 left d.3) (log_first (log_is ts c.0 c.1 c.2) (quick_is c.1 d.0 d.1 d.2))

    by_key : (s : Statement) (k : Key) → (head ts).key ≡ k → act (marks_by s k) ts ≡ Ok (m, left) → MarksOf s ts m left
    by_key statement.Rule key.Quick g h =
        let c = chain_ok log_at (λ l. done (marks_of l true)) (rest ts) m left h in
        moved (MarksOf statement.Rule) ts (ok_parts (marks_of c.0 true) m c.1 left c.3) (quick_then (word_is key.Quick ts g (λ q. cc)) (log_is (rest ts) c.0 c.1 c.2))
    by_key statement.Rule _ g h = log_in_front h
    by_key statement.Match k g h =
        let c = chain_ok log_at (λ l. done (marks_of l false)) ts m left h in
        moved (MarksOf statement.Match) ts (ok_parts (marks_of c.0 false) m c.1 left c.3) (of_match (log_is ts c.0 c.1 c.2))
    by_key statement.Anchor k g h =
        let c = chain_ok quick_at (λ q. done (marks_of false q)) ts m left h in
        moved (MarksOf statement.Anchor) ts (ok_parts (marks_of false c.0) m c.1 left c.3) (of_anchor (quick_is ts c.0 c.1 c.2))

-- ---- interface, family and protocol

negation_is : (ts : List Tok) (x : Bool) (left : List Tok) → negation_at ts ≡ Ok (x, left) → NegationOf ts x left
unfolding negation_at
negation_is ts x left e = by_key (head ts).key refl e
  where
    not_there : act (stay (done false)) ts ≡ Ok (x, left) → NegationOf ts x left
    not_there h = moved NegationOf ts (ok_parts false x ts left h) affirmed

    by_key : (k : Key) → (head ts).key ≡ k → act (negation_by k) ts ≡ Ok (x, left) → NegationOf ts x left
    by_key key.Not g h = moved NegationOf ts (ok_parts true x (rest ts) left h) (negated (word_is key.Not ts g (λ q. cc)))
    by_key _ g h = not_there h

interface_is : (ts : List Tok) (x : Interface) (left : List Tok) → on_at ts ≡ Ok (x, left) → OnOf ts x left
unfolding on_at
interface_is ts x left e =
    let c = chain_ok negation_at (λ b. chain interface_at (λ n. done (interface n b))) ts x left e in
    let d = chain_ok interface_at (λ n. done (interface n c.0)) c.1 x left c.3 in
    moved OnOf ts (ok_parts (interface d.0 c.0) x d.1 left d.3) (on (negation_is ts c.0 c.1 c.2) (interface_name_is c.1 d.0 d.1 d.2))

on_part_is : (ts : List Tok) (o : Option Interface) (left : List Tok) → on_part_at ts ≡ Ok (o, left) → Perhaps (Behind key.On OnOf) ts o left
unfolding on_part_at
on_part_is ts o left e = part_is key.On begins_on on_at OnOf on_only (λ q. cc) interface_is ts o left e

family_word_is : (ts : List Tok) (x : Family) (left : List Tok) → on_front (λ t. family_by t.key) ts ≡ Ok (x, left) → FamilyOf ts x left
family_word_is ts x left e = by_key (head ts).key refl e
  where
    by_key : (k : Key) → (head ts).key ≡ k → act (family_by k) ts ≡ Ok (x, left) → FamilyOf ts x left
    by_key key.Inet g h = moved FamilyOf ts (ok_parts family.Inet x (rest ts) left h) (inet (word_is key.Inet ts g (λ q. cc)))
    by_key key.Inet6 g h = moved FamilyOf ts (ok_parts family.Inet6 x (rest ts) left h) (inet6 (word_is key.Inet6 ts g (λ q. cc)))
    by_key _ g h = absurd (not_refused _ _ _ h)

family_part_is : (ts : List Tok) (o : Option Family) (left : List Tok) → family_part_at ts ≡ Ok (o, left) → Perhaps FamilyOf ts o left
unfolding family_part_at
family_part_is ts o left e = perhaps_is begins_family (on_front (λ t. family_by t.key)) FamilyOf family_word_is ts o left e

proto_is : (ts : List Tok) (x : Proto) (left : List Tok) → proto_at ts ≡ Ok (x, left) → Says (in_word proto_in) ts x left
unfolding proto_at
proto_is ts x left e = value_is why.Service (in_word proto_in) (in_word_in_line proto_in) ts x left e

proto_part_is : (ts : List Tok) (o : Option Proto) (left : List Tok) → proto_part_at ts ≡ Ok (o, left) → Perhaps (Behind key.Proto (Says (in_word proto_in))) ts o left
unfolding proto_part_at
proto_part_is ts o left e = part_is key.Proto begins_proto proto_at (Says (in_word proto_in)) proto_only (λ q. cc) proto_is ts o left e

abbrev headed : Option Dir → Marks → Option Interface → Option Family → Option Proto → Head
headed d m o f p = record { dir = d; marks = m; on = o; family = f; proto = p }

pub head_is : (s : Statement) (ts : List Tok) (h : Head) (left : List Tok) → head_at s ts ≡ Ok (h, left) → HeadOf s ts h left
unfolding head_at
head_is s ts h left e =
    let a = chain_ok dir_at (λ d. chain (marks_at s) (λ m. chain on_part_at (λ o. chain family_part_at (λ f. chain proto_part_at (λ p. done (headed d m o f p)))))) ts h left e in
    let b = chain_ok (marks_at s) (λ m. chain on_part_at (λ o. chain family_part_at (λ f. chain proto_part_at (λ p. done (headed a.0 m o f p))))) a.1 h left a.3 in
    let c = chain_ok on_part_at (λ o. chain family_part_at (λ f. chain proto_part_at (λ p. done (headed a.0 b.0 o f p)))) b.1 h left b.3 in
    let d = chain_ok family_part_at (λ f. chain proto_part_at (λ p. done (headed a.0 b.0 c.0 f p))) c.1 h left c.3 in
    let f = chain_ok proto_part_at (λ p. done (headed a.0 b.0 c.0 d.0 p)) d.1 h left d.3 in
    moved (HeadOf s) ts {x = headed a.0 b.0 c.0 d.0 f.0} {l = f.1} (ok_parts (headed a.0 b.0 c.0 d.0 f.0) h f.1 left f.3) (record {
      a = a.1;
      b = b.1;
      c = c.1;
      d = d.1;
      dir = dir_is ts a.0 a.1 a.2;
      marks = marks_are s a.1 b.0 b.1 b.2;
      on = on_part_is b.1 c.0 c.1 c.2;
      family = family_part_is c.1 d.0 d.1 d.2;
      proto = proto_part_is d.1 f.0 f.1 f.2;
    })

-- ---- hosts

close_is : (ts : List Tok) (u : Unit {0}) (left : List Tok) → close_at ts ≡ Ok (u, left) → Word key.CloseAngle ts left
unfolding close_at
close_is ts u left e = by_key (head ts).key refl e
  where
    by_key : (k : Key) → (head ts).key ≡ k → act (close_by k) ts ≡ Ok (u, left) → Word key.CloseAngle ts left
    by_key key.CloseAngle g h = let p = ok_parts tt u (rest ts) left h in subst (λ (z : List Tok). Word key.CloseAngle ts z) p.1 (word_is key.CloseAngle ts g (λ q. cc))
    by_key _ g h = absurd (not_refused _ _ _ h)

place_is : (whole : List Tok) (b : Bool) (ts : List Tok) → NegationOf whole b ts → (x : Host (List ℕ)) (left : List Tok) → place_at b ts ≡ Ok (x, left) → HostOf whole x left
unfolding place_at
place_is whole b ts n x left e = by_key (head ts).key refl e
  where
    a_prefix : act (stay (chain (value_at why.Host (in_plain_word prefix_of)) (λ p. done (host.Prefix p b)))) ts ≡ Ok (x, left) → HostOf whole x left
    a_prefix h =
        let c = chain_ok (value_at why.Host (in_plain_word prefix_of)) (λ p. done (host.Prefix p b)) ts x left h in
        moved HostOf whole (ok_parts (host.Prefix c.0 b) x c.1 left c.3) (prefix n (value_is why.Host (in_plain_word prefix_of) (in_plain_word_in_line prefix_of) ts c.0 c.1 c.2))

    by_key : (k : Key) → (head ts).key ≡ k → act (place_by b k) ts ≡ Ok (x, left) → HostOf whole x left
    by_key key.OpenAngle g h =
        let c = chain_ok table_name_at (λ n. chain close_at (λ u. done (host.Table n b))) (rest ts) x left h in
        let d = chain_ok close_at (λ u. done (host.Table c.0 b)) c.1 x left c.3 in
        moved HostOf whole (ok_parts (host.Table c.0 b) x d.1 left d.3) (table n (word_is key.OpenAngle ts g (λ q. cc)) (table_name_is (rest ts) c.0 c.1 c.2) (close_is c.1 d.0 d.1 d.2))
    by_key _ g h = a_prefix h

pub host_is : (ts : List Tok) (x : Host (List ℕ)) (left : List Tok) → host_at ts ≡ Ok (x, left) → HostOf ts x left
unfolding host_at
host_is ts x left e = by_key (head ts).key refl e
  where
    a_place : act (stay (chain negation_at place_at)) ts ≡ Ok (x, left) → HostOf ts x left
    a_place h =
        let c = chain_ok negation_at place_at ts x left h in
        place_is ts c.0 c.1 (negation_is ts c.0 c.1 c.2) x left c.3

    by_key : (k : Key) → (head ts).key ≡ k → act (host_by k) ts ≡ Ok (x, left) → HostOf ts x left
    by_key key.Any g h = moved HostOf ts (ok_parts host.Any x (rest ts) left h) (any (word_is key.Any ts g (λ q. cc)))
    by_key _ g h = a_place h

ports_are : (ts : List Tok) (x : Ports) (left : List Tok) → ports_at ts ≡ Ok (x, left) → PortsOf ts x left
unfolding ports_at equals_at
ports_are ts x left e =
    let c = chain_ok (on_front (λ t. equals_by t.key)) (λ b. value_at why.Service (in_word ports_of)) ts x left e in
    by_key (head ts).key refl c.0 c.1 c.2 (value_is why.Service (in_word ports_of) (in_word_in_line ports_of) c.1 x left c.3)
  where
    bare_ports : (b : Bool) (mid : List Tok) → act (stay (done false)) ts ≡ Ok (b, mid) → Says (in_word ports_of) mid x left → PortsOf ts x left
    bare_ports b mid h s = let p = ok_parts false b ts mid h in subst (λ (z : List Tok). PortsOf z x left) (sym p.1) (plainly s)

    by_key : (k : Key) → (head ts).key ≡ k → (b : Bool) (mid : List Tok) → act (equals_by k) ts ≡ Ok (b, mid) → Says (in_word ports_of) mid x left → PortsOf ts x left
    by_key key.Equals g b mid h s = let p = ok_parts true b (rest ts) mid h in equals (subst (λ (z : List Tok). Word key.Equals ts z) p.1 (word_is key.Equals ts g (λ q. cc))) s
    by_key _ g b mid h s = bare_ports b mid h s

ports_part_is : (ts : List Tok) (o : Option Ports) (left : List Tok) → ports_part_at ts ≡ Ok (o, left) → Perhaps (Behind key.Port PortsOf) ts o left
unfolding ports_part_at
ports_part_is ts o left e = part_is key.Port begins_port ports_at PortsOf port_only (λ q. cc) ports_are ts o left e

-- ports alone
alone : (ts : List Tok) (o : Option Ports) (left : List Tok) → (head ts).key ≡ key.Port → ports_part_at ts ≡ Ok (o, left) → SideOf ts (side host.Any o) left
unfolding ports_part_at
alone ts o left g e =
    let q = started begins_port ports_at ts o left (ap begins_port g) e in
    subst (λ (z : Option Ports). SideOf ts (side host.Any z) left) (sym q.1) (ported (clause_is key.Port begins_port ports_at PortsOf port_only (λ r. cc) ports_are ts q.0 left q.2))

pub side_is : (ts : List Tok) (x : Side (List ℕ)) (left : List Tok) → side_at ts ≡ Ok (x, left) → SideOf ts x left
unfolding side_at side_host_at
side_is ts x left e =
    let c = chain_ok (on_front (λ t. side_host_by t.key)) (λ h. chain ports_part_at (λ p. done (side h p))) ts x left e in
    let d = chain_ok ports_part_at (λ p. done (side c.0 p)) c.1 x left c.3 in
    moved SideOf ts (ok_parts (side c.0 d.0) x d.1 left d.3) (by_key (head ts).key refl c.0 c.1 c.2 d.0 d.1 d.2)
  where
    by_key : (k : Key) → (head ts).key ≡ k → (h : Host (List ℕ)) (mid : List Tok) → act (side_host_by k) ts ≡ Ok (h, mid) → (p : Option Ports) (end : List Tok) → ports_part_at mid ≡ Ok (p, end) → SideOf ts (side h p) end
    by_key key.Port g h mid r p end s =
        let q = ok_parts host.Any h ts mid r in
        subst (λ (z : Host (List ℕ)). SideOf ts (side z p) end) q.0 (alone ts p end g (ap ports_part_at q.1 ∙ s))
    by_key _ g h mid r p end s = hosted (host_is ts h mid r) (ports_part_is mid p end s)

from_part_is : (ts : List Tok) (o : Option (Side (List ℕ))) (left : List Tok) → from_part_at ts ≡ Ok (o, left) → Perhaps (Behind key.From SideOf) ts o left
unfolding from_part_at
from_part_is ts o left e = part_is key.From begins_from side_at SideOf from_only (λ q. cc) side_is ts o left e

to_part_is : (ts : List Tok) (o : Option (Side (List ℕ))) (left : List Tok) → to_part_at ts ≡ Ok (o, left) → Perhaps (Behind key.To SideOf) ts o left
unfolding to_part_at
to_part_is ts o left e = part_is key.To begins_to side_at SideOf to_only (λ q. cc) side_is ts o left e

pub hosts_are : (ts : List Tok) (x : Hosts) (left : List Tok) → hosts_at ts ≡ Ok (x, left) → HostsOf ts x left
unfolding hosts_at
hosts_are ts x left e = by_key (head ts).key refl e
  where
    both_sides : act (stay (chain from_part_at (λ f. chain to_part_at (λ t. done (given_hosts f t))))) ts ≡ Ok (x, left) → HostsOf ts x left
    both_sides h =
        let c = chain_ok from_part_at (λ f. chain to_part_at (λ t. done (given_hosts f t))) ts x left h in
        let d = chain_ok to_part_at (λ t. done (given_hosts c.0 t)) c.1 x left c.3 in
        moved HostsOf ts (ok_parts (given_hosts c.0 d.0) x d.1 left d.3) (sides (from_part_is ts c.0 c.1 c.2) (to_part_is c.1 d.0 d.1 d.2))

    by_key : (k : Key) → (head ts).key ≡ k → act (hosts_by k) ts ≡ Ok (x, left) → HostsOf ts x left
    by_key key.All g h = moved HostsOf ts (ok_parts all_hosts x (rest ts) left h) (every (word_is key.All ts g (λ q. cc)))
    by_key _ g h = both_sides h

-- ---- parameters and flags

abbrev joined : Head → Hosts → Parameters
joined h o = record { head = h; hosts = o }

pub parameters_are : (s : Statement) (ts : List Tok) (p : Parameters) (left : List Tok) → parameters_at s ts ≡ Ok (p, left) → ParametersOf s ts p left
unfolding parameters_at
parameters_are s ts p left e =
    let c = chain_ok (head_at s) (λ h. chain hosts_at (λ o. done (joined h o))) ts p left e in
    let d = chain_ok hosts_at (λ o. done (joined c.0 o)) c.1 p left c.3 in
    moved (ParametersOf s) ts (ok_parts (joined c.0 d.0) p d.1 left d.3) (record { mid = c.1; head = head_is s ts c.0 c.1 c.2; hosts = hosts_are c.1 d.0 d.1 d.2 })

pub flags_are : (ts : List Tok) (x : FlagTest) (left : List Tok) → flags_at ts ≡ Ok (x, left) → FlagsOf ts x left
unfolding flags_at
flags_are ts x left e = clause_is key.Flags begins_flags (value_at why.Plain flag_test) (Says flag_test) flags_only (λ q. cc) (value_is why.Plain flag_test (λ t y h. flags_in_line t.text t.key y h)) ts x left e

-- ---- what a rule has behind its parameters

tag_is : (e : Extras) (ts : List Tok) → (head ts).key ≡ key.Tag → (o : Option (List ℕ)) → e.tag ≡ o → (x : Extras) (left : List Tok) → act (once o (take (tag_at e))) ts ≡ Ok (x, left) → ExtraOf e ts x left
unfolding tag_at
tag_is e ts g None n x left h =
    let c = chain_ok tag_name_at (λ m. done (record e { tag = Some m })) (rest ts) x left h in
    moved (ExtraOf e) ts (ok_parts (record e { tag = Some c.0 }) x c.1 left c.3) (tag n (word_is key.Tag ts g (λ q. cc)) (tag_name_is (rest ts) c.0 c.1 c.2))
tag_is e ts g (Some y) n x left h = absurd cc

tagged_is : (e : Extras) (b : Bool) (whole ts : List Tok) → NegationOf whole b ts → (head ts).key ≡ key.Tagged → (o : Option Tagged) → e.tagged ≡ o
    → (x : Extras) (left : List Tok) → act (once o (take (tagged_at e b))) ts ≡ Ok (x, left) → ExtraOf e whole x left
unfolding tagged_at
tagged_is e b whole ts m g None n x left h =
    let c = chain_ok tag_name_at (λ t. done (record e { tagged = Some (tag_test t b) })) (rest ts) x left h in
    moved (ExtraOf e) whole (ok_parts (record e { tagged = Some (tag_test c.0 b) }) x c.1 left c.3) (tagged n m (word_is key.Tagged ts g (λ q. cc)) (tag_name_is (rest ts) c.0 c.1 c.2))
tagged_is e b whole ts m g (Some y) n x left h = absurd cc

received_on_is : (e : Extras) (b : Bool) (whole ts : List Tok) → NegationOf whole b ts → (head ts).key ≡ key.ReceivedOn → (o : Option Interface) → e.received_on ≡ o
    → (x : Extras) (left : List Tok) → act (once o (take (received_on_at e b))) ts ≡ Ok (x, left) → ExtraOf e whole x left
unfolding received_on_at
received_on_is e b whole ts m g None n x left h =
    let c = chain_ok interface_at (λ i. done (record e { received_on = Some (interface i b) })) (rest ts) x left h in
    moved (ExtraOf e) whole (ok_parts (record e { received_on = Some (interface c.0 b) }) x c.1 left c.3) (received_on n m (word_is key.ReceivedOn ts g (λ q. cc)) (interface_name_is (rest ts) c.0 c.1 c.2))
received_on_is e b whole ts m g (Some y) n x left h = absurd cc

asked_is : (e : Extras) (b : Bool) (whole ts : List Tok) → NegationOf whole b ts → (x : Extras) (left : List Tok) → on_front (λ t. asked_by e b t.key) ts ≡ Ok (x, left) → ExtraOf e whole x left
asked_is e b whole ts m x left e' = by_key (head ts).key refl e'
  where
    by_key : (k : Key) → (head ts).key ≡ k → act (asked_by e b k) ts ≡ Ok (x, left) → ExtraOf e whole x left
    by_key key.Tagged g h = tagged_is e b whole ts m g e.tagged refl x left h
    by_key key.ReceivedOn g h = received_on_is e b whole ts m g e.received_on refl x left h
    by_key _ g h = absurd (not_refused _ _ _ h)

pub extra_is : (e : Extras) (ts : List Tok) (x : Extras) (left : List Tok) → extra_at e ts ≡ Ok (x, left) → ExtraOf e ts x left
unfolding extra_at
extra_is e ts x left e' = by_key (head ts).key refl e'
  where
    after_not : (head ts).key ≡ key.Not → (both : Bool) → act (cond both (refuse why.Again) (take (on_front (λ t. asked_by e true t.key)))) ts ≡ Ok (x, left) → ExtraOf e ts x left
    after_not g true h = absurd (not_refused _ _ _ h)
    after_not g false h = asked_is e true ts (rest ts) (negated (word_is key.Not ts g (λ q. cc))) x left h

    affirmed_is : (k : Key) → (head ts).key ≡ k → act (asked_by e false k) ts ≡ Ok (x, left) → ExtraOf e ts x left
    affirmed_is k g h = asked_is e false ts ts affirmed x left (ap (λ (z : Key). act (asked_by e false z) ts) g ∙ h)

    by_key : (k : Key) → (head ts).key ≡ k → act (extra_by e k) ts ≡ Ok (x, left) → ExtraOf e ts x left
    by_key key.Tag g h = tag_is e ts g e.tag refl x left h
    by_key key.Not g h = after_not g (asks_both e) h
    by_key k g h = affirmed_is k g h

-- ---- translation

address_is : (ts : List Tok) (x : Addr) (left : List Tok) → address_at ts ≡ Ok (x, left) → Says (in_plain_word addr_of) ts x left
unfolding address_at
address_is ts x left e = value_is why.Host (in_plain_word addr_of) (in_plain_word_in_line addr_of) ts x left e

nat_ports_are : (ts : List Tok) (x : NatPorts) (left : List Tok) → nat_ports_at ts ≡ Ok (x, left) → NatPortsOf ts x left
unfolding nat_ports_at given_ports_at
nat_ports_are ts x left e = by_key (head ts).key refl e
  where
    by_key : (k : Key) → (head ts).key ≡ k → act (nat_ports_by k) ts ≡ Ok (x, left) → NatPortsOf ts x left
    by_key key.Port g h =
        let c = chain_ok (value_at why.Service (in_word ports_of)) (λ p. done (nat_ports.Given p)) (rest ts) x left h in
        moved NatPortsOf ts (ok_parts (nat_ports.Given c.0) x c.1 left c.3)
        (given (word_is key.Port ts g (λ q. cc)) (value_is why.Service (in_word ports_of) (in_word_in_line ports_of) (rest ts) c.0 c.1 c.2))
    by_key key.StaticPort g h = moved NatPortsOf ts (ok_parts nat_ports.Static x (rest ts) left h) (same (word_is key.StaticPort ts g (λ q. cc)))
    by_key _ g h = moved NatPortsOf ts (ok_parts nat_ports.Usual x ts left h) usual

nat_to_is : (ts : List Tok) (x : NatTo) (left : List Tok) → nat_to_at ts ≡ Ok (x, left) → NatToOf ts x left
unfolding nat_to_at
nat_to_is ts x left e =
    let c = chain_ok address_at (λ a. chain nat_ports_at (λ p. done (natted a p))) ts x left e in
    let d = chain_ok nat_ports_at (λ p. done (natted c.0 p)) c.1 x left c.3 in
    moved NatToOf ts (ok_parts (natted c.0 d.0) x d.1 left d.3) (record { mid = c.1; addr = address_is ts c.0 c.1 c.2; ports = nat_ports_are c.1 d.0 d.1 d.2 })

port_is : (ts : List Tok) (x : ℕ) (left : List Tok) → port_at ts ≡ Ok (x, left) → Says (in_word port_of) ts x left
unfolding port_at
port_is ts x left e = value_is why.Service (in_word port_of) (in_word_in_line port_of) ts x left e

port_part_is : (ts : List Tok) (o : Option ℕ) (left : List Tok) → port_part_at ts ≡ Ok (o, left) → Perhaps (Behind key.Port (Says (in_word port_of))) ts o left
unfolding port_part_at
port_part_is ts o left e = part_is key.Port begins_port port_at (Says (in_word port_of)) port_only (λ q. cc) port_is ts o left e

rdr_to_is : (ts : List Tok) (x : RdrTo) (left : List Tok) → rdr_to_at ts ≡ Ok (x, left) → RdrToOf ts x left
unfolding rdr_to_at
rdr_to_is ts x left e =
    let c = chain_ok address_at (λ a. chain port_part_at (λ p. done (redirected a p))) ts x left e in
    let d = chain_ok port_part_at (λ p. done (redirected c.0 p)) c.1 x left c.3 in
    moved RdrToOf ts (ok_parts (redirected c.0 d.0) x d.1 left d.3) (record { mid = c.1; addr = address_is ts c.0 c.1 c.2; port = port_part_is c.1 d.0 d.1 d.2 })

with_nat_is : (t : Translation) (ts : List Tok) → (head ts).key ≡ key.NatTo → (o : Option NatTo) → t.nat_to ≡ o → (x : Translation) (left : List Tok)
    → act (once o (take (with_nat_at t))) ts ≡ Ok (x, left) → TranslationOf t ts x left
unfolding with_nat_at
with_nat_is t ts g None n x left h =
    let c = chain_ok nat_to_at (λ m. done (record t { nat_to = Some m })) (rest ts) x left h in
    moved (TranslationOf t) ts (ok_parts (record t { nat_to = Some c.0 }) x c.1 left c.3) (nat_to n (word_is key.NatTo ts g (λ q. cc)) (nat_to_is (rest ts) c.0 c.1 c.2))
with_nat_is t ts g (Some y) n x left h = absurd cc

with_rdr_is : (t : Translation) (ts : List Tok) → (head ts).key ≡ key.RdrTo → (o : Option RdrTo) → t.rdr_to ≡ o → (x : Translation) (left : List Tok)
    → act (once o (take (with_rdr_at t))) ts ≡ Ok (x, left) → TranslationOf t ts x left
unfolding with_rdr_at
with_rdr_is t ts g None n x left h =
    let c = chain_ok rdr_to_at (λ m. done (record t { rdr_to = Some m })) (rest ts) x left h in
    moved (TranslationOf t) ts (ok_parts (record t { rdr_to = Some c.0 }) x c.1 left c.3) (rdr_to n (word_is key.RdrTo ts g (λ q. cc)) (rdr_to_is (rest ts) c.0 c.1 c.2))
with_rdr_is t ts g (Some y) n x left h = absurd cc

pub translation_is : (t : Translation) (ts : List Tok) (x : Translation) (left : List Tok) → translation_at t ts ≡ Ok (x, left) → TranslationOf t ts x left
unfolding translation_at
translation_is t ts x left e = by_key (head ts).key refl e
  where
    by_key : (k : Key) → (head ts).key ≡ k → act (translation_by t k) ts ≡ Ok (x, left) → TranslationOf t ts x left
    by_key key.NatTo g h = with_nat_is t ts g t.nat_to refl x left h
    by_key key.RdrTo g h = with_rdr_is t ts g t.rdr_to refl x left h
    by_key _ g h = absurd (not_refused _ _ _ h)
