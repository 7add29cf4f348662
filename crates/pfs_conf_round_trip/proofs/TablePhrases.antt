-- The lines of tables are read again, after the name of the table.
use Rattle.std.proofs.Common.{◌≡◌, ℕ, Bool, true, false, All, List, [], ◌∷◌, ◌++◌, map, Some, None, refl, sym, ap, subst, ◌∙◌, arith, append_assoc, append-nil}
use Rattle.std.specs.Prelude.{codes, ◌&&◌, ◌==◌}
use Rattle.std.specs.List.{AllByRecursion, IsDistinct}
use Rattle.std.specs.Str.{bytes_eq}
use Rattle.std.proofs.lemmas.Bool.{cond-false}
use Rattle.std.proofs.lemmas.Bool.Decides.{nat_tests}
use Rattle.std.proofs.lemmas.List.Elements.{All-head, All-tail}
use Rattle.std.proofs.lemmas.Map.Keys.{IsDistinct-head, IsDistinct-tail}
use Rattle.pfs_conf_tokens.specs.declared.keys.Key.{Key}
use Rattle.pfs_conf_tokens.specs.declared.keys.Key.TheVariants as key
use Rattle.pfs_conf_filters.specs.Values.{is_plain_word}
use Rattle.pfs_addr.specs.Texts.{prefix_of}
use Rattle.pfs_conf_tokens.specs.Grammar.{WordOf, ListOf, UpTo, stands, steps, skip_lines}
use Rattle.pfs_conf_tokens.specs.Keys.{ends_line}
use Rattle.pfs_conf_tokens.specs.Tokens.{Tok, head, token}
use Rattle.pfs_conf_tokens.specs.Words.{key_of_text}
use Rattle.pfs_conf_tokens.proofs.ShownLaws.{breaks, line_then, mark_then, word_then}
use Rattle.pfs_conf_tokens.proofs.WordKeys.{key_of_Const}
use Rattle.pfs_addr_values.specs.Prefixes.{IsNetwork, Network}
use Rattle.pfs_addr_values.specs.declared.addresses.Addr.{Addr}
use Rattle.pfs_addr_values.specs.declared.addresses.Addr.TheVariants.{V4, V6}
use Rattle.pfs_conf_values.specs.Entries.{TextEntry, are_same_addr, same_network, sign_of}
use Rattle.pfs_conf_settings.specs.TableGrammar.{EntryOf, PartOf, PartsOf, SignOf, comes, constant, entries, negated, plain, some, no_parts}
use Rattle.pfs_conf_show.specs.Pieces.{bracketed_list, going_on, prefix_text}
use Rattle.pfs_conf_show.specs.Tables.{const_text, entry_text}
use Rattle.pfs_conf_round_trip.proofs.Said.{parts_said}
use Rattle.pfs_conf_round_trip.proofs.Lists.{Chain, bracketed_more, done, listed_again, next}
use Rattle.pfs_conf_round_trip.proofs.Names.{key_of_word}
use Rattle.pfs_conf_round_trip.proofs.PrefixWords.{prefix_again, prefix_plain, prefix_word}
use Rattle.pfs_conf_round_trip.proofs.Pieces.{at, mark, mark_between, word}
use Rattle.pfs_conf_round_trip.proofs.SettingPhrases.{Lined, braces, stays}

-- ---- entries

plain_no_end : (k : Key) → is_plain_word k ≡ true → ends_line k ≡ false
plain_no_end key.LineEnd e = absurd cc
plain_no_end _ e = refl

prefix_front : (line : ℕ) (p : Network) (more : List ℕ) → IsNetwork p → breaks more ≡ true → skip_lines (at line (prefix_text p ++ more)) ≡ at line (prefix_text p ++ more)
prefix_front line p more h b =
    stays (at line (prefix_text p ++ more)) (token line (key_of_text (prefix_text p)) (prefix_text p)) (at line more) (word_then true line (prefix_text p) more (prefix_word p h) b)
    (plain_no_end (key_of_text (prefix_text p)) (prefix_plain p h))

not_front : (line : ℕ) (more : List ℕ) → skip_lines (at line (33 ∷ more)) ≡ at line (33 ∷ more)
not_front line more = stays (at line (33 ∷ more)) (token line key.Not (33 ∷ [])) (at line more) (mark_then true line 33 more refl) refl

-- no line end is in front of an entry
entry_front : (line : ℕ) (p : Network) (negation : Bool) (more : List ℕ) → IsNetwork p → breaks more ≡ true
    → skip_lines (at line (entry_text (p, negation) ++ more)) ≡ at line (entry_text (p, negation) ++ more)
entry_front line p true more h b = not_front line (prefix_text p ++ more)
entry_front line p false more h b = prefix_front line p more h b

prefix_reads : (line : ℕ) (p : Network) (more : List ℕ) → IsNetwork p → breaks more ≡ true → WordOf prefix_of (skip_lines (at line (prefix_text p ++ more))) p (at line more)
prefix_reads line p more h b =
    let w = prefix_text p in
    (token line (key_of_text w) w, prefix_front line p more h b ∙ word_then true line w more (prefix_word p h) b, key_of_word w, prefix_again p h)

sign_reads : (line : ℕ) (p : Network) (negation : Bool) (more : List ℕ) → IsNetwork p → breaks more ≡ true
    → SignOf (skip_lines (at line (entry_text (p, negation) ++ more))) negation (at line (prefix_text p ++ more))
sign_reads line p true more h b =
    let P : List Tok → Type 0 = λ z. SignOf z true (at line (prefix_text p ++ more)) in
    subst P (sym (not_front line (prefix_text p ++ more))) (negated (mark true line 33 (prefix_text p ++ more) refl))
sign_reads line p false more h b =
    let P : List Tok → Type 0 = λ z. SignOf z false (at line (prefix_text p ++ more)) in
    subst P (sym (prefix_front line p more h b)) plain

give_entry : (before : List TextEntry) (p : Network) (negation : Bool) → IsNetwork p → sign_of before p ≡ None → (line : ℕ) (more : List ℕ) → Lined line more
    → EntryOf before (at line (entry_text (p, negation) ++ more)) (before ++ (p, negation) ∷ []) (at line more)
give_entry before p negation h new line more f =
    record {
      negated = negation;
      p = p;
      a = at line (prefix_text p ++ more);
      b = at line more;
      sign = sign_reads line p negation more h f.0;
      prefix = prefix_reads line p more h f.0;
      enters = comes new;
      behind = sym f.1;
    }

-- ---- that no prefix occurs twice

pub bytes_sym : (a b : List ℕ) → bytes_eq a b ≡ bytes_eq b a
bytes_sym [] [] = refl
bytes_sym [] (y ∷ ys) = refl
bytes_sym (x ∷ xs) [] = refl
bytes_sym (x ∷ xs) (y ∷ ys) =
    let one : (x == y) ≡ (y == x) = grind (arith, nat_tests) in
    ap (λ (z : Bool). z && bytes_eq xs ys) one ∙ ap (λ (z : Bool). (y == x) && z) (bytes_sym xs ys)

addr_sym : (a b : Addr) → are_same_addr a b ≡ are_same_addr b a
addr_sym (V4 a) (V4 b) = bytes_sym a b
addr_sym (V4 a) (V6 b) = refl
addr_sym (V6 a) (V4 b) = refl
addr_sym (V6 a) (V6 b) = bytes_sym a b

network_sym : (p q : Network) → same_network p q ≡ same_network q p
network_sym p q =
    let one : (p.bits == q.bits) ≡ (q.bits == p.bits) = grind (arith, nat_tests) in
    ap (λ (z : Bool). z && (p.bits == q.bits)) (addr_sym p.addr q.addr) ∙ ap (λ (z : Bool). are_same_addr q.addr p.addr && z) one

prefixes : List TextEntry → List Network
prefixes es = map (λ (e : TextEntry). e.0) es

-- what holds of the prefixes of all that follow, holds of that of this one
pub of_this : {A : Type 0} (prefix : A → Network) (P : Network → Type 0) (before rest : List A) (e : A) → AllByRecursion P (map prefix (before ++ e ∷ rest)) → P (prefix e)
of_this prefix P [] rest e h = h.0
of_this prefix P (x ∷ before) rest e h = of_this prefix P before rest e h.1

-- a prefix that differs from all before has no sign yet
is_new : (before rest : List TextEntry) (e : TextEntry) → IsDistinct same_network (map (λ (x : TextEntry). x.0) (before ++ e ∷ rest)) → sign_of before e.0 ≡ None
is_new [] rest e h = refl
is_new (x ∷ before) rest e h =
    let names = map (λ (y : TextEntry). y.0) (before ++ e ∷ rest) in
    let apart : same_network x.0 e.0 ≡ false = of_this (λ (z : TextEntry). z.0) (λ y. same_network x.0 y ≡ false) before rest e (IsDistinct-head same_network x.0 names h) in
    cond-false (same_network e.0 x.0) (Some x.1) (sign_of before e.0) (network_sym e.0 x.0 ∙ apart) ∙ is_new before rest e (IsDistinct-tail same_network x.0 names h)

entries_chain : (before rest : List TextEntry) → All (λ (e : TextEntry). IsNetwork e.0) rest → IsDistinct same_network (map (λ (e : TextEntry). e.0) (before ++ rest))
    → Chain EntryOf Lined (map entry_text rest) before (before ++ rest)
entries_chain before [] h d =
    let P : List TextEntry → Type 0 = λ z. Chain EntryOf Lined [] before z in
    subst P (sym (append-nil before)) done
entries_chain before (e ∷ rest) h d =
    let P : List TextEntry → Type 0 = λ z. Chain EntryOf Lined (map entry_text (e ∷ rest)) before z in
    let D : List TextEntry → Type 0 = λ z. IsDistinct same_network (map (λ (x : TextEntry). x.0) z) in
    let joined : (before ++ e ∷ []) ++ rest ≡ before ++ e ∷ rest = append_assoc before (e ∷ []) rest in
    subst P joined
    (next (give_entry before e.0 e.1 (All-head (λ (x : TextEntry). IsNetwork x.0) e rest h) (is_new before rest e d))
    (entries_chain (before ++ e ∷ []) rest (All-tail (λ (x : TextEntry). IsNetwork x.0) e rest h) (subst D (sym joined) d)))

-- ---- the parts of a definition

list_break : (xs : List (List ℕ)) (more : List ℕ) → breaks (going_on (codes " { ") true xs ++ (codes " }" ++ more)) ≡ true
list_break [] more = refl
list_break (x ∷ xs) more = refl

-- the entries in braces, if there are any, up to the line end
entries_parts : (c : Bool) (es : List TextEntry) (line : ℕ) (more : List ℕ) → All (λ (e : TextEntry). IsNetwork e.0) es → IsDistinct same_network (map (λ (e : TextEntry). e.0) es)
    → UpTo key.LineEnd PartOf (record no_parts { is_const = c }) (at line (bracketed_list (codes " { ") (codes " }") (map entry_text es) ++ 10 ∷ more)) (parts_said c es) (at line (10 ∷ more))
entries_parts c [] line more h d = stands (ap (λ (z : List Tok). (head z).key) (line_then true line more))
entries_parts c (e ∷ es) line more h d =
    let texts = map entry_text es in
    let left = 10 ∷ more in
    let P : List ℕ → Type 0 = λ z. UpTo key.LineEnd PartOf (record no_parts { is_const = c }) (at line z) (parts_said c (e ∷ es)) (at line left) in
    let inside = listed_again EntryOf Lined key.CloseBrace (codes " { ") (codes " }") (braces EntryOf) (entry_text e) texts [] (e ∷ es) line left (entries_chain [] (e ∷ es) h d) in
    let L : List Tok → Type 0 = λ z. ListOf key.CloseBrace EntryOf [] z (e ∷ es) (at line left) in
    subst P (sym (bracketed_more (codes " { ") (codes " }") (entry_text e) texts left))
    (steps (entries (mark_between line 123 _ refl) refl (some (subst L (sym (entry_front line e.0 e.1 _ (All-head (λ (x : TextEntry). IsNetwork x.0) e es h) (list_break texts left))) inside)))
    (stands (ap (λ (z : List Tok). (head z).key) (line_then true line more))))

parts_break : (es : List TextEntry) (more : List ℕ) → breaks (bracketed_list (codes " { ") (codes " }") (map entry_text es) ++ 10 ∷ more) ≡ true
parts_break [] more = refl
parts_break (e ∷ es) more = refl

-- `const` and the entries, after the name of a table
pub parts_read : (c : Bool) (es : List TextEntry) (line : ℕ) (more : List ℕ) → All (λ (e : TextEntry). IsNetwork e.0) es → IsDistinct same_network (map (λ (e : TextEntry). e.0) es)
    → PartsOf (at line (const_text c ++ (bracketed_list (codes " { ") (codes " }") (map entry_text es) ++ 10 ∷ more))) (parts_said c es) (at line (10 ∷ more))
parts_read false es line more h d = entries_parts false es line more h d
parts_read true es line more h d =
    steps (constant (word line (codes "const") (bracketed_list (codes " { ") (codes " }") (map entry_text es) ++ 10 ∷ more) refl (parts_break es more) key_of_Const) refl) (entries_parts true es line more h d)
