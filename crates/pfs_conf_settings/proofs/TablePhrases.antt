-- What is read as the parts of a table is parts of the grammar, and these are read.
use Rattle.std.proofs.Common.{◌≡◌, Bool, true, false, List, [], ◌∷◌, ◌++◌, Option, Some, None, Ok, refl, sym, ap, subst, ◌∙◌, if◌then◌else◌}
use Rattle.std.proofs.lemmas.Bool.{cond-true}
use Rattle.pfs_conf_tokens.specs.declared.keys.Key.{Key}
use Rattle.pfs_conf_tokens.specs.declared.keys.Key.TheVariants as key
use Rattle.pfs_conf_tokens.specs.declared.refusals.Why.TheVariants as why
use Rattle.pfs_conf_tokens.specs.Tokens.{Tok, head}
use Rattle.pfs_conf_tokens.specs.Reading.{rest, closes_braces, Act, take, stay, refuse, act, chain, done, once, list_all, skipping}
use Rattle.pfs_conf_tokens.specs.Keys.{ends_line, is_word_key}
use Rattle.pfs_conf_tokens.specs.Grammar.{WordOf, Word, skip_lines}
use Rattle.pfs_conf_tokens.proofs.Laws.{ok_parts, chain_ok, not_refused}
use Rattle.pfs_conf_tokens.proofs.ReaderLaws.{closes_braces_key, line_end_key, word_head, word_is, list_is, list_reads, ReadsList, no_comma, skip_head, up_to_is, up_to_reads, ReadsSteps}
use Rattle.pfs_conf_tokens.proofs.LineLaws.{skip_stays}
use Rattle.pfs_addr_values.specs.Prefixes.{Network}
use Rattle.pfs_addr.specs.Texts.{prefix_of}
use Rattle.pfs_conf_values.specs.Entries.{TextEntry, sign_of}
use Rattle.pfs_conf_settings.specs.declared.tables.Parts.{Parts}
use Rattle.pfs_conf_settings.specs.Tables.{sign_by, sign_at, again, entry_joined, entries_with, entry_by, entry_at, lined_entry_at, entries_by, braced_entries_at, unless, part_by, part_at, parts_at}
use Rattle.pfs_conf_settings.specs.TableGrammar.{no_parts, SignOf, plain, negated, Enters, comes, stands, EntryOf, EntriesOf, none, some, PartOf, persist, constant, counters, entries, PartsOf}
use Rattle.pfs_conf_settings.proofs.TableLaws.{lined_entry_shrinks, part_shrinks}

-- ---- is

sign_is : (ts : List Tok) (x : Bool) (left : List Tok) → sign_at ts ≡ Ok (x, left) → SignOf ts x left
unfolding sign_at
sign_is ts x left e = by_key (head ts).key refl e
  where
    by_key : (k : Key) → (head ts).key ≡ k → act (sign_by k) ts ≡ Ok (x, left) → SignOf ts x left
    by_key key.Not g h =
        let q = ok_parts true x (rest ts) left h in
        subst (λ (b : Bool). SignOf ts b left) q.0 (negated (subst (λ (z : List Tok). Word key.Not ts z) q.1 (word_is key.Not ts g (λ r. cc))))
    by_key _ g h =
        let q = ok_parts false x ts left h in
        subst (λ (b : Bool). SignOf ts b left) q.0 (subst (λ (z : List Tok). SignOf ts false z) q.1 plain)

-- what an entry's word did, taken apart
record EntryRead (es : List TextEntry) (negated : Bool) (t : Tok) (ts : List Tok) (more : List TextEntry) (left : List Tok) : Type 0 where
  pub is_word : is_word_key t.key ≡ true
  pub p : Network
  pub says : prefix_of t.text ≡ Some p
  pub enters : Enters es negated p more
  pub behind : rest ts ≡ left

again_is : (es : List TextEntry) (n h : Bool) (ts : List Tok) (more : List TextEntry) (left : List Tok) → act (again es n h) ts ≡ Ok (more, left) → (n ≡ h) × (es ≡ more) × (rest ts ≡ left)
again_is es true true ts more left e = let q = ok_parts es more (rest ts) left e in (refl, q.0, q.1)
again_is es false false ts more left e = let q = ok_parts es more (rest ts) left e in (refl, q.0, q.1)
again_is es true false ts more left e = absurd cc
again_is es false true ts more left e = absurd cc

joined_is : (es : List TextEntry) (n : Bool) (p : Network) (o : Option Bool) → sign_of es p ≡ o → (ts : List Tok) (more : List TextEntry) (left : List Tok)
    → act (entry_joined es n p o) ts ≡ Ok (more, left) → Enters es n p more × (rest ts ≡ left)
joined_is es n p None f ts more left e =
    let q = ok_parts (es ++ (p, n) ∷ []) more (rest ts) left e in
    (subst (λ (z : List TextEntry). Enters es n p z) q.0 (comes f), q.1)
joined_is es n p (Some h) f ts more left e =
    let q = again_is es n h ts more left e in
    (subst (λ (z : List TextEntry). Enters es n p z) q.1 (stands (f ∙ ap (λ (b : Bool). Some b) (sym q.0))), q.2)

entered_is : (es : List TextEntry) (n : Bool) (o : Option Network) (ts : List Tok) (more : List TextEntry) (left : List Tok)
    → act (entries_with es n o) ts ≡ Ok (more, left) → (p : Network) × (o ≡ Some p) × Enters es n p more × (rest ts ≡ left)
entered_is es n None ts more left e = absurd cc
entered_is es n (Some p) ts more left e = let q = joined_is es n p (sign_of es p) refl ts more left e in (p, refl, q.0, q.1)

entry_is : (es : List TextEntry) (n : Bool) (ts : List Tok) (more : List TextEntry) (left : List Tok) → entry_at es n ts ≡ Ok (more, left) → EntryRead es n (head ts) ts more left
unfolding entry_at
entry_is es n ts more left e = go (is_word_key (head ts).key) refl e
  where
    go : (b : Bool) → is_word_key (head ts).key ≡ b → act (if b then entries_with es n (prefix_of (head ts).text) else refuse why.Host) ts ≡ Ok (more, left) → EntryRead es n (head ts) ts more left
    go true g h =
        let q = entered_is es n (prefix_of (head ts).text) ts more left h in
        record { is_word = g; p = q.0; says = q.1; enters = q.2; behind = q.3 }
    go false g h = absurd cc

-- a word is in front
word_front : (ts : List Tok) → is_word_key (head ts).key ≡ true → ts ≡ head ts ∷ rest ts
word_front [] e = absurd cc
word_front (t ∷ ts) e = refl

pub lined_entry_is : (es : List TextEntry) (ts : List Tok) (more : List TextEntry) (left : List Tok) → lined_entry_at es ts ≡ Ok (more, left) → EntryOf es ts more left
unfolding lined_entry_at
lined_entry_is es ts more left e =
    let c = chain_ok sign_at (λ n. skipping (chain (entry_at es n) (λ m. skipping (done m)))) (skip_lines ts) more left e in
    let d = chain_ok (entry_at es c.0) (λ m. skipping (done m)) (skip_lines c.1) more left c.3 in
    let q = ok_parts d.0 more (skip_lines d.1) left d.3 in
    let r = entry_is es c.0 (skip_lines c.1) d.0 d.1 d.2 in
    record {
      negated = c.0;
      p = r.p;
      a = c.1;
      b = d.1;
      sign = sign_is (skip_lines ts) c.0 c.1 c.2;
      prefix = (head (skip_lines c.1), word_front (skip_lines c.1) r.is_word ∙ ap (λ (z : List Tok). head (skip_lines c.1) ∷ z) r.behind, r.is_word, r.says);
      enters = subst (λ (z : List TextEntry). Enters es c.0 r.p z) q.0 r.enters;
      behind = sym q.1;
    }

pub entries_are : (ts : List Tok) (es : List TextEntry) (left : List Tok) → braced_entries_at ts ≡ Ok (es, left) → EntriesOf ts es left
unfolding braced_entries_at
entries_are ts es left e = by_key (head (skip_lines ts)).key refl e
  where
    listed : list_all closes_braces lined_entry_at [] (skip_lines ts) ≡ Ok (es, left) → EntriesOf ts es left
    listed h = some (list_is key.CloseBrace closes_braces EntryOf lined_entry_at closes_braces_key (λ q. cc) lined_entry_is [] (skip_lines ts) es left h)

    by_key : (k : Key) → (head (skip_lines ts)).key ≡ k → act (entries_by k) (skip_lines ts) ≡ Ok (es, left) → EntriesOf ts es left
    by_key key.CloseBrace g h =
        let q = ok_parts [] es (rest (skip_lines ts)) left h in
        subst (λ (z : List TextEntry). EntriesOf ts z left) q.0 (none (subst (λ (z : List Tok). Word key.CloseBrace (skip_lines ts) z) q.1 (word_is key.CloseBrace (skip_lines ts) g (λ r. cc))))
    by_key _ g h = listed h

part_once_is : (p q : Parts) (k : Key) (ts left : List Tok) (b : Bool) → (head ts).key ≡ k → (key.End ≡ k → ⊥) → act (unless b (take (done q))) ts ≡ Ok (p, left) → (b ≡ false) × (q ≡ p) × Word k ts left
part_once_is p q k ts left true g n e = absurd cc
part_once_is p q k ts left false g n e =
    let r = ok_parts q p (rest ts) left e in
    (refl, r.0, subst (λ (z : List Tok). Word k ts z) r.1 (word_is k ts g n))

braces_are : (p q : Parts) (ts left : List Tok) (o : Option (List TextEntry)) → p.entries ≡ o → (head ts).key ≡ key.OpenBrace
    → act (once o (take (chain braced_entries_at (λ es. done (record p { entries = Some es }))))) ts ≡ Ok (q, left) → PartOf p ts q left
braces_are p q ts left (Some x) f g e = absurd cc
braces_are p q ts left None f g e =
    let c = chain_ok braced_entries_at (λ es. done (record p { entries = Some es })) (rest ts) q left e in
    let r = ok_parts (record p { entries = Some c.0 }) q c.1 left c.3 in
    subst (λ (z : Parts). PartOf p ts z left) r.0
    (entries (word_is key.OpenBrace ts g (λ s. cc)) f (subst (λ (z : List Tok). EntriesOf (rest ts) c.0 z) r.1 (entries_are (rest ts) c.0 c.1 c.2)))

pub part_is : (p : Parts) (ts : List Tok) (q : Parts) (left : List Tok) → part_at p ts ≡ Ok (q, left) → PartOf p ts q left
unfolding part_at
part_is p ts q left e = by_key (head ts).key refl e
  where
    by_key : (k : Key) → (head ts).key ≡ k → act (part_by p k) ts ≡ Ok (q, left) → PartOf p ts q left
    by_key key.Persist g h =
        let r = part_once_is q (record p { persist = true }) key.Persist ts left p.persist g (λ s. cc) h in
        subst (λ (z : Parts). PartOf p ts z left) r.1 (persist r.2 r.0)
    by_key key.Const g h =
        let r = part_once_is q (record p { is_const = true }) key.Const ts left p.is_const g (λ s. cc) h in
        subst (λ (z : Parts). PartOf p ts z left) r.1 (constant r.2 r.0)
    by_key key.Counters g h =
        let r = part_once_is q (record p { counters = true }) key.Counters ts left p.counters g (λ s. cc) h in
        subst (λ (z : Parts). PartOf p ts z left) r.1 (counters r.2 r.0)
    by_key key.OpenBrace g h = braces_are p q ts left p.entries refl g h
    by_key _ g h = absurd (not_refused _ _ _ h)

pub parts_are : (ts : List Tok) (p : Parts) (left : List Tok) → parts_at ts ≡ Ok (p, left) → PartsOf ts p left
unfolding parts_at
parts_are ts p left e = up_to_is key.LineEnd ends_line PartOf part_at line_end_key part_is no_parts ts p left e

-- ---- reads

-- a word is no sign
word_no_sign : (k : Key) → is_word_key k ≡ true → sign_by k ≡ stay (done false)
word_no_sign key.Not e = absurd cc
word_no_sign _ e = refl

again_reads : (es : List TextEntry) (n : Bool) → again es n n ≡ take (done es)
again_reads es true = refl
again_reads es false = refl

entered_reads : {es : List TextEntry} {n : Bool} {p : Network} {more : List TextEntry} → Enters es n p more → entry_joined es n p (sign_of es p) ≡ take (done more)
entered_reads {es = es} {n = n} {p = p} (comes f) = ap (entry_joined es n p) f
entered_reads {es = es} {n = n} {p = p} (stands f) = ap (entry_joined es n p) f ∙ again_reads es n

entry_reads : {es : List TextEntry} {n : Bool} {p : Network} {ts : List Tok} {more : List TextEntry} {left : List Tok} → WordOf prefix_of ts p left → Enters es n p more → entry_at es n ts ≡ Ok (more, left)
unfolding entry_at
entry_reads {es = es} {n = n} {p = p} {ts = ts} {more = more} {left = left} w en =
    ap (λ (z : List Tok). act (entry_by es n (head z)) z) w.1
    ∙ (ap (λ (b : Act (List TextEntry)). act b (w.0 ∷ left)) (cond-true (is_word_key w.0.key) _ _ w.2 ∙ (ap (entries_with es n) w.3 ∙ entered_reads en)))

-- after line ends there are none
skip_twice : (ts : List Tok) → skip_lines (skip_lines ts) ≡ skip_lines ts
skip_twice ts = sym (skip_stays (skip_lines ts) (skip_head ts))

signed_reads : (ts : List Tok) {a b : List Tok} {n : Bool} {p : Network} → SignOf (skip_lines ts) n a → WordOf prefix_of (skip_lines a) p b → sign_at (skip_lines ts) ≡ Ok (n, a)
unfolding sign_at
signed_reads ts plain w =
    let front : (head (skip_lines ts)).key ≡ w.0.key = ap (λ (z : List Tok). (head z).key) (sym (skip_twice ts) ∙ w.1) in
    ap (λ (d : Act Bool). act d (skip_lines ts)) (ap sign_by front ∙ word_no_sign w.0.key w.2)
signed_reads ts (negated s) w = let h = word_head s in rw (h.0, h.1) refl

pub lined_entry_reads : {es : List TextEntry} {ts : List Tok} {more : List TextEntry} {left : List Tok} → EntryOf es ts more left → lined_entry_at es ts ≡ Ok (more, left)
unfolding lined_entry_at
lined_entry_reads {es = es} {ts = ts} {more = more} q =
    rw (signed_reads ts q.sign q.prefix) (rw (entry_reads q.prefix q.enters) (ap (λ (z : List Tok). Ok (more, z)) (sym q.behind)))

-- what begins an entry, after line ends or not
abbrev Begins : Key → Type 0
Begins k = (closes_braces k ≡ false) × (true ≡ true) × (no_comma k ≡ true)

line_end_begins : (k : Key) → ends_line k ≡ true → Begins k
line_end_begins k e = subst Begins (sym (line_end_key k e)) (refl, refl, refl)

word_begins : (k : Key) → is_word_key k ≡ true → Begins k
word_begins key.CloseBrace e = absurd cc
word_begins key.Comma e = absurd cc
word_begins _ e = (refl, refl, refl)

sign_begins : (ts : List Tok) {a b : List Tok} {n : Bool} {p : Network} → SignOf (skip_lines ts) n a → WordOf prefix_of (skip_lines a) p b → Begins (head (skip_lines ts)).key
sign_begins ts plain w = rw (ap (λ (z : List Tok). (head z).key) (sym (skip_twice ts) ∙ w.1)) (word_begins w.0.key w.2)
sign_begins ts (negated s) w = rw (word_head s).0 (refl, refl, refl)

lined_entry_begins : {es : List TextEntry} {ts : List Tok} {more : List TextEntry} {left : List Tok} → EntryOf es ts more left → Begins (head ts).key
lined_entry_begins {ts = ts} q = go (ends_line (head ts).key) refl
  where
    go : (b : Bool) → ends_line (head ts).key ≡ b → Begins (head ts).key
    go true g = line_end_begins (head ts).key g
    go false g = subst (λ (z : List Tok). Begins (head z).key) (sym (skip_stays ts g)) (sign_begins ts q.sign q.prefix)

anything : Key → Bool
anything k = true

entries_readable : ReadsList key.CloseBrace closes_braces anything EntryOf lined_entry_at
unfolding anything
entries_readable = record { closes = refl; close_follows = refl; comma_goes = refl; comma_follows = refl; begins = lined_entry_begins; reads = λ q f. lined_entry_reads q; shrinks = lined_entry_shrinks }

-- what begins an entry is no closing brace
entries_stay : (k : Key) → closes_braces k ≡ false → entries_by k ≡ stay (list_all closes_braces lined_entry_at [])
entries_stay key.CloseBrace e = absurd cc
entries_stay _ e = refl

pub entries_read : {ts : List Tok} {es : List TextEntry} {left : List Tok} → EntriesOf ts es left → braced_entries_at ts ≡ Ok (es, left)
unfolding braced_entries_at
entries_read (none w) = let h = word_head w in rw (h.0, h.1) refl
entries_read {ts = ts} (some q) = rw (entries_stay (head (skip_lines ts)).key (lined_entry_begins q.begins).0) (list_reads entries_readable q)

part_begins : {p q : Parts} {ts left : List Tok} → PartOf p ts q left → (ends_line (head ts).key ≡ false) × (true ≡ true)
part_begins (persist w f) = rw (word_head w).0 (refl, refl)
part_begins (constant w f) = rw (word_head w).0 (refl, refl)
part_begins (counters w f) = rw (word_head w).0 (refl, refl)
part_begins (entries w f es) = rw (word_head w).0 (refl, refl)

pub part_reads : {p q : Parts} {ts left : List Tok} → PartOf p ts q left → part_at p ts ≡ Ok (q, left)
unfolding part_at
part_reads (persist w f) = let h = word_head w in rw (h.0, f, h.1) refl
part_reads (constant w f) = let h = word_head w in rw (h.0, f, h.1) refl
part_reads (counters w f) = let h = word_head w in rw (h.0, f, h.1) refl
part_reads (entries w f es) = let h = word_head w in rw (h.0, f, h.1, entries_read es) refl

parts_readable : ReadsSteps key.LineEnd ends_line anything PartOf part_at
unfolding anything
parts_readable = record { closes = refl; close_follows = refl; begins = part_begins; reads = λ q f. part_reads q; shrinks = part_shrinks }

pub parts_read : {ts : List Tok} {p : Parts} {left : List Tok} → PartsOf ts p left → parts_at ts ≡ Ok (p, left)
unfolding parts_at
parts_read q = up_to_reads parts_readable q
