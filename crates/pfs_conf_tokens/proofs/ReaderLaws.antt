-- Laws of the readers that others are made of: lists, line ends, numbers; and what is read against the grammar.
--
-- A crate above imports them as `use Rattle.pfs_conf_tokens.proofs.ReaderLaws.{online_number, ..}`. Each production has two laws
-- beside its `online`: `x_is`, that what is read is a phrase of the grammar, and `x_reads`, that each phrase is read.
use Rattle.std.proofs.Common.{◌≡◌, ℕ, zero, suc, ◌≤◌, Bool, true, false, cond, List, [], ◌∷◌, length, Option, Some, None, Result, Ok, refl, sym, ap, subst, ◌∙◌, arith, leb, ◌&&◌}
use Rattle.std.proofs.lemmas.Bool.{and_parts, leb-true, le-leb}
use borrow.Author.Tests.{clash}
use Rattle.pfs_conf_tokens.specs.Tokens.{Tok, head}
use Rattle.pfs_conf_tokens.specs.Reading.{rest, ends_text, closes_parens, closes_braces, Refused, Reader, take, stay, refuse, act, done, chain, perhaps, turns, taken, left_there, until_all, up_to_all, comma_by, comma_at, next_of, list_all, ended_by, ended, skipping, number_between, number_by, number_at}
use Rattle.pfs_conf_tokens.specs.declared.keys.Key.{Key}
use Rattle.pfs_conf_tokens.specs.declared.keys.Key.TheVariants as key
use Rattle.pfs_conf_tokens.specs.declared.refusals.Why.TheVariants as why
use Rattle.pfs_conf_tokens.specs.Keys.{in_line, before_end, ends_line, is_word_key, timeout_place}
use Rattle.pfs_conf_tokens.specs.Numbers.{number_written}
use Rattle.pfs_conf_tokens.specs.Grammar.{Word, Number, Perhaps, absent, present, Until, ends, goes, UpTo, stands, steps, NextOf, plain, comma, ListOf, Passes, stays, over, skip_lines}
use Rattle.pfs_conf_tokens.proofs.LineLaws.{skip_stays}
use Rattle.pfs_conf_tokens.proofs.Laws.{passes_then, passes_less, bind_ok, ok_parts, chain_ok, Reach, inside, line, across, stopping, taking, first, Share, here, next, Online, online_done, online_chain, online_front, online_taking, OnlineAct, Taking, Shrinks, chain_shrinks_behind, front_shrinks, online_until_all, until_goes_on, until_stops, up_to_goes_on, up_to_stops, not_refused}

-- ---- keys

-- what a test passes is a token of a line, if it passes neither a line end nor the end of the text
pub passes_in_line : (test : Key → Bool) → test key.LineEnd ≡ false → test key.End ≡ false → (k : Key) → test k ≡ true → in_line k ≡ true
passes_in_line test l n key.LineEnd e = absurd (clash (sym l ∙ e))
passes_in_line test l n key.End e = absurd (clash (sym n ∙ e))
passes_in_line test l n _ e = refl

-- and is before the end of the text, if it does not pass that
passes_before_end : (test : Key → Bool) → test key.End ≡ false → (k : Key) → test k ≡ true → before_end k ≡ true
passes_before_end test n key.End e = absurd (clash (sym n ∙ e))
passes_before_end test n _ e = refl

-- a word is a token of a line
pub word_in_line : (k : Key) → is_word_key k ≡ true → in_line k ≡ true
word_in_line = passes_in_line is_word_key refl refl

-- and so does a timeout's name
pub timeout_in_line : (k : Key) (place : ℕ) → timeout_place k ≡ Some place → in_line k ≡ true
timeout_in_line key.LineEnd place e = absurd cc
timeout_in_line key.End place e = absurd cc
timeout_in_line _ place e = refl

-- what stops a loop is within its reach, and is one key
pub closes_parens_in_line : (k : Key) → closes_parens k ≡ true → in_line k ≡ true
closes_parens_in_line = passes_in_line closes_parens refl refl

pub closes_braces_before_end : (k : Key) → closes_braces k ≡ true → before_end k ≡ true
closes_braces_before_end = passes_before_end closes_braces refl

pub closes_parens_key : (k : Key) → closes_parens k ≡ true → k ≡ key.CloseParen
closes_parens_key key.CloseParen e = refl
closes_parens_key _ e = absurd (clash e)

pub closes_braces_key : (k : Key) → closes_braces k ≡ true → k ≡ key.CloseBrace
closes_braces_key key.CloseBrace e = refl
closes_braces_key _ e = absurd (clash e)

pub ends_text_key : (k : Key) → ends_text k ≡ true → k ≡ key.End
ends_text_key key.End e = refl
ends_text_key _ e = absurd (clash e)

pub line_end_before_end : (k : Key) → ends_line k ≡ true → before_end k ≡ true
line_end_before_end = passes_before_end ends_line refl

pub line_end_key : (k : Key) → ends_line k ≡ true → k ≡ key.LineEnd
line_end_key key.LineEnd e = refl
line_end_key _ e = absurd (clash e)

-- the key in front of a word, and what is after it
pub word_head : {k : Key} {ts left : List Tok} → Word k ts left → ((head ts).key ≡ k) × (rest ts ≡ left)
word_head {k} {ts} {left} w = rw w.1 (w.2, refl)

-- ---- numbers

choose_number : (low high n : ℕ) (b : Bool) → Taking inside key.Number (cond b (take (done n)) (refuse why.Number))
choose_number low high n true = (refl, online_done n)
choose_number low high n false = tt

number_taking : (low high : ℕ) (text : List ℕ) (k : Key) → Taking inside k (number_by low high text k)
number_taking low high text key.Number = within (number_written text)
  where
    within : (o : Option ℕ) → Taking inside key.Number (number_between low high o)
    within None = tt
    within (Some n) = choose_number low high n (leb low n && leb n high)
number_taking low high text _ = tt

pub online_number : (low high : ℕ) → Online inside (number_at low high)
unfolding number_at
online_number low high = online_taking (λ t. number_by low high t.text t.key) (λ t. number_taking low high t.text t.key)

pub number_shrinks : (low high : ℕ) → Shrinks (number_at low high)
unfolding number_at
number_shrinks low high = front_shrinks inside (λ t. number_by low high t.text t.key) (λ t. number_taking low high t.text t.key)

-- ---- lists

comma_acts : (r : Reach) (k : Key) → stopping r key.Comma ≡ true → OnlineAct r k (comma_by k)
comma_acts r key.Comma e = (e, online_done true)
comma_acts r _ e = online_done false

pub comma_stopping : (r : Reach) → stopping r key.Comma ≡ true
comma_stopping inside = refl
comma_stopping line = refl
comma_stopping across = refl

pub online_comma : (r : Reach) → Online r comma_at
online_comma r = online_front (λ t. comma_by t.key) (λ t. comma_acts r t.key (comma_stopping r))

pub online_next : {A : Type 0} {r : Reach} (item : A → Reader A) → ((a : A) → Online r (item a)) → (a : A) → Online r (next_of item a)
online_next {r = r} item h a = online_chain comma_at (λ c. item a) (online_comma (first r)) (λ c. h a)

pub next_shrinks : {A : Type 0} (item : A → Reader A) → ((a : A) → Shrinks (item a)) → (a : A) → Shrinks (next_of item a)
next_shrinks item s a = chain_shrinks_behind inside comma_at (λ c. item a) (online_comma inside) (λ c. s a)

-- a list is online, if its items are and take tokens
pub online_list : {A : Type 0} {r : Reach} (stops : Key → Bool) (item : A → Reader A) → ((k : Key) → stops k ≡ true → taking r k ≡ true) → ((a : A) → Shrinks (item a)) → ((a : A) → Online (first r) (item a)) → (a : A) → Online r (list_all stops item a)
online_list stops item closing s h a =
    online_chain (item a) (until_all stops (next_of item)) (h a) (λ b. online_until_all stops (next_of item) closing (next_shrinks item s) (online_next item h) b)

-- ---- line ends

lines_passes : (ts : List Tok) → Passes before_end ts (skip_lines ts)
unfolding skip_lines
lines_passes [] = stays
lines_passes (t ∷ ts) = turn (lines_passes ts) (ends_line t.key) refl
  where
    turn : Passes before_end ts (skip_lines ts) → (b : Bool) → ends_line t.key ≡ b → Passes before_end (t ∷ ts) (cond b (skip_lines ts) (t ∷ ts))
    turn h true e = over (line_end_before_end t.key e) h
    turn h false e = stays

-- no line end is in front then
pub skip_head : (ts : List Tok) → ends_line (head (skip_lines ts)).key ≡ false
unfolding skip_lines
skip_head [] = refl
skip_head (t ∷ ts) = turn (skip_head ts) (ends_line t.key) refl
  where
    turn : ends_line (head (skip_lines ts)).key ≡ false → (b : Bool) → ends_line t.key ≡ b → ends_line (head (cond b (skip_lines ts) (t ∷ ts))).key ≡ false
    turn h true e = h
    turn h false e = e

share_head : {a b : List Tok} {t : Tok} {m m' : List Tok} → Share a b (t ∷ m) (t ∷ m') → head a ≡ head b
share_head here = refl
share_head (next s) = refl

-- line ends before what is shared are shared
lines_shared : (ts us : List Tok) (t : Tok) (m m' : List Tok) → ends_line (head us).key ≡ false → Share (skip_lines ts) us (t ∷ m) (t ∷ m') → (ts' : List Tok) × Share ts ts' (t ∷ m) (t ∷ m') × (skip_lines ts' ≡ us)
unfolding skip_lines
lines_shared [] us t m m' e s = elim s [ ]
lines_shared (u ∷ ts) us t m m' e s = turn (λ q. lines_shared ts us t m m' e q) (ends_line u.key) refl s
  where
    turn : (Share (skip_lines ts) us (t ∷ m) (t ∷ m') → (ts' : List Tok) × Share ts ts' (t ∷ m) (t ∷ m') × (skip_lines ts' ≡ us)) → (b : Bool) → ends_line u.key ≡ b → Share (cond b (skip_lines ts) (u ∷ ts)) us (t ∷ m) (t ∷ m') → (ts' : List Tok) × Share (u ∷ ts) ts' (t ∷ m) (t ∷ m') × (skip_lines ts' ≡ us)
    turn h true g q = let p = h q in (u ∷ p.0, next p.1, rw g p.2)
    turn h false g q = (us, q, sym (skip_stays us e))

-- a reader after line ends goes across lines
pub online_skipping : {A : Type 0} (f : Reader A) → Online across f → Online across (skipping f)
online_skipping f h = record {
  took = λ ts x left e. passes_then (lines_passes ts) (h.took (skip_lines ts) x left e);
  stopped = λ ts left w e. passes_then (lines_passes ts) (h.stopped (skip_lines ts) left w e);
  ok = λ ts x t m e m'.
      let p = h.ok (skip_lines ts) x t m e m' in
      let q = lines_shared ts p.0 t m m' (ap (λ (z : Tok). ends_line z.key) (sym (share_head p.1)) ∙ skip_head ts) p.1 in
      (q.0, q.1, ap f q.2 ∙ p.2);
  err = λ ts w t m e m'.
      let p = h.err (skip_lines ts) w t m e m' in
      let q = lines_shared ts p.0 t m m' (ap (λ (z : Tok). ends_line z.key) (sym (share_head p.1)) ∙ skip_head ts) p.1 in
      (q.0, q.1, ap f q.2 ∙ p.2);
}

pub skipping_shrinks : {A : Type 0} (f : Reader A) → Shrinks f → Shrinks (skipping f)
skipping_shrinks f s = record { less = λ ts x left e. let l1 = passes_less (lines_passes ts) in let l2 = s.less (skip_lines ts) x left e in omega arith }

-- ---- words

-- a token that is no end is in front
pub word_is : (k : Key) (ts : List Tok) → (head ts).key ≡ k → (key.End ≡ k → ⊥) → Word k ts (rest ts)
word_is k [] e n = absurd (n e)
word_is k (t ∷ ts) e n = (t, refl, e)

pub ended_is : {A : Type 0} (x : A) (ts : List Tok) (y : A) (left : List Tok) → ended x ts ≡ Ok (y, left) → (x ≡ y) × Word key.LineEnd ts left
ended_is {A = A} x ts y left e = by_key (head ts).key refl e
  where
    by_key : (k : Key) → (head ts).key ≡ k → act (ended_by x k) ts ≡ Ok (y, left) → (x ≡ y) × Word key.LineEnd ts left
    by_key key.LineEnd g h = let p = ok_parts x y (rest ts) left h in (p.0, subst (λ (z : List Tok). Word key.LineEnd ts z) p.1 (word_is key.LineEnd ts g (λ q. cc)))
    by_key _ g h = absurd (not_refused _ _ _ h)

pub ended_reads : {A : Type 0} (x : A) {ts left : List Tok} → Word key.LineEnd ts left → ended x ts ≡ Ok (x, left)
ended_reads x w = let h = word_head w in rw (h.0, h.1) refl

-- ---- numbers against the grammar

in_bounds : (low high n : ℕ) (o : Option ℕ) (ts left : List Tok) → act (number_between low high o) ts ≡ Ok (n, left) → (o ≡ Some n) × (low ≤ n) × (n ≤ high) × (rest ts ≡ left)
in_bounds low high n None ts left e = absurd cc
in_bounds low high n (Some k) ts left e = choose (leb low k && leb k high) refl e
  where
    choose : (b : Bool) → leb low k && leb k high ≡ b → act (cond b (take (done k)) (refuse why.Number)) ts ≡ Ok (n, left) → (Some k ≡ Some n) × (low ≤ n) × (n ≤ high) × (rest ts ≡ left)
    choose true g h =
        let p = ok_parts k n (rest ts) left h in
        let q = and_parts (leb low k) (leb k high) g in
        let l1 = leb-true low k q.0 in
        let l2 = leb-true k high q.1 in
        (ap (λ z. Some z) p.0, omega (arith, p.0), omega (arith, p.0), p.1)
    choose false g h = absurd cc

pub number_is : (low high : ℕ) (ts : List Tok) (n : ℕ) (left : List Tok) → number_at low high ts ≡ Ok (n, left) → Number low high ts n left
unfolding number_at
number_is low high [] n left e = absurd cc
number_is low high (t ∷ ts) n left e = by_key t.key refl e
  where
    by_key : (k : Key) → t.key ≡ k → act (number_by low high t.text k) (t ∷ ts) ≡ Ok (n, left) → Number low high (t ∷ ts) n left
    by_key key.Number g h = let b = in_bounds low high n (number_written t.text) (t ∷ ts) left h in (t, ap (λ z. t ∷ z) b.3, g, b.0, b.1, b.2)
    by_key _ g h = absurd (not_refused _ _ _ h)

pub number_reads : (low high : ℕ) {ts : List Tok} {n : ℕ} {left : List Tok} → Number low high ts n left → number_at low high ts ≡ Ok (n, left)
unfolding number_at
number_reads low high {n = n} w =
    let a : leb low n ≡ true = le-leb low n w.4 in
    let b : leb n high ≡ true = le-leb n high w.5 in
    rw (w.1, w.2, w.3, a, b) refl

-- a number has a key of its own
pub number_head : {low high : ℕ} {ts : List Tok} {n : ℕ} {left : List Tok} → Number low high ts n left → (head ts).key ≡ key.Number
number_head w = rw w.1 w.2

-- ---- phrases that may be absent

pub perhaps_is : {A : Type 0} (starts : Key → Bool) (f : Reader A) (P : List Tok → A → List Tok → Type 0)
    → ((ts : List Tok) (x : A) (left : List Tok) → f ts ≡ Ok (x, left) → P ts x left)
    → (ts : List Tok) (o : Option A) (left : List Tok) → perhaps starts f ts ≡ Ok (o, left) → Perhaps P ts o left
perhaps_is {A} starts f P is ts o left e = choose (starts (head ts).key) e
  where
    choose : (b : Bool) → act (cond b (stay (chain f (λ x. done (Some x)))) (stay (done None))) ts ≡ Ok (o, left) → Perhaps P ts o left
    choose true h =
        let c = chain_ok f (λ x. done (Some x)) ts o left h in
        let p = ok_parts (Some c.0) o c.1 left c.3 in
        subst (λ (z : Option A). Perhaps P ts z left) p.0 (present (is ts c.0 left (c.2 ∙ ap (λ (z : List Tok). Ok (c.0, z)) p.1)))
    choose false h =
        let p = ok_parts None o ts left h in
        subst (λ (z : Option A). Perhaps P ts z left) p.0 (subst (λ (z : List Tok). Perhaps P ts None z) p.1 absent)

-- read, where a phrase that is present begins with a key that starts it, and nothing that starts it follows
pub perhaps_reads : {A : Type 0} (starts : Key → Bool) (f : Reader A) (P : List Tok → A → List Tok → Type 0)
    → ((ts : List Tok) (x : A) (left : List Tok) → P ts x left → (starts (head ts).key ≡ true) × (f ts ≡ Ok (x, left)))
    → {ts : List Tok} {o : Option A} {left : List Tok} → Perhaps P ts o left → starts (head left).key ≡ false → perhaps starts f ts ≡ Ok (o, left)
perhaps_reads starts f P reads absent s = rw s refl
perhaps_reads starts f P reads (present {ts} {left} {x} p) s = let r = reads ts x left p in rw (r.0, r.1) refl

-- the same where the phrase itself is read only before some keys
pub perhaps_reads_before : {A : Type 0} (starts follow : Key → Bool) (f : Reader A) (P : List Tok → A → List Tok → Type 0)
    → ((ts : List Tok) (x : A) (left : List Tok) → P ts x left → follow (head left).key ≡ true → (starts (head ts).key ≡ true) × (f ts ≡ Ok (x, left)))
    → {ts : List Tok} {o : Option A} {left : List Tok} → Perhaps P ts o left → starts (head left).key ≡ false → follow (head left).key ≡ true → perhaps starts f ts ≡ Ok (o, left)
perhaps_reads_before starts follow f P reads absent s g = rw s refl
perhaps_reads_before starts follow f P reads (present {ts} {left} {x} p) s g = let r = reads ts x left p g in rw (r.0, r.1) refl

-- a key that neither begins the phrase nor follows it is not in front
pub perhaps_avoids : {A : Type 0} (g : Key → Bool) (P : List Tok → A → List Tok → Type 0)
    → ((ts : List Tok) (x : A) (left : List Tok) → P ts x left → g (head ts).key ≡ false)
    → {ts : List Tok} {o : Option A} {left : List Tok} → Perhaps P ts o left → g (head left).key ≡ false → g (head ts).key ≡ false
perhaps_avoids g P first absent h = h
perhaps_avoids g P first (present {ts} {left} {x} p) h = first ts x left p

pub until_avoids : {A : Type 0} {closer : Key} (g : Key → Bool) {Step : A → List Tok → A → List Tok → Type 0}
    → g closer ≡ false → ((a : A) (ts : List Tok) (b : A) (left : List Tok) → Step a ts b left → g (head ts).key ≡ false)
    → {a c : A} {ts left : List Tok} → Until closer Step a ts c left → g (head ts).key ≡ false
until_avoids g h first (ends w) = rw (word_head w).0 h
until_avoids g h first (goes {a = a} {b = b} {ts = ts} {mid = mid} s u) = first a ts b mid s

-- ---- loops

until_turns : {A : Type 0} (closer : Key) (stops : Key → Bool) (Step : A → List Tok → A → List Tok → Type 0) (step : A → Reader A)
    → ((k : Key) → stops k ≡ true → k ≡ closer) → (key.End ≡ closer → ⊥)
    → ((a : A) (ts : List Tok) (b : A) (left : List Tok) → step a ts ≡ Ok (b, left) → Step a ts b left)
    → (n : ℕ) (a : A) (ts : List Tok) (c : A) (left : List Tok) → turns stops taken step n a ts ≡ Ok (c, left) → Until closer Step a ts c left
unfolding turns
until_turns closer stops Step step closing no_end is zero a ts c left e = absurd cc
until_turns {A} closer stops Step step closing no_end is (suc n) a ts c left e = turn (λ b mid h. until_turns closer stops Step step closing no_end is n b mid c left h) (stops (head ts).key) refl e
  where
    turn : ((b : A) (mid : List Tok) → turns stops taken step n b mid ≡ Ok (c, left) → Until closer Step b mid c left) → (b : Bool) → stops (head ts).key ≡ b → act (cond b (taken a) (stay (chain (step a) (turns stops taken step n)))) ts ≡ Ok (c, left) → Until closer Step a ts c left
    turn ih true g h = let p = ok_parts a c (rest ts) left h in let w = word_is closer ts (closing (head ts).key g) no_end in subst (λ (z : A). Until closer Step a ts z left) p.0 (subst (λ (z : List Tok). Until closer Step a ts a z) p.1 (ends w))
    turn ih false g h =
        let b = bind_ok (step a ts) (λ x. turns stops taken step n x.0 x.1) (c, left) h in
        goes (is a ts b.0.0 b.0.1 b.1) (ih b.0.0 b.0.1 b.2)

-- what is read up to a closing token is steps up to it
pub until_is : {A : Type 0} (closer : Key) (stops : Key → Bool) (Step : A → List Tok → A → List Tok → Type 0) (step : A → Reader A)
    → ((k : Key) → stops k ≡ true → k ≡ closer) → (key.End ≡ closer → ⊥)
    → ((a : A) (ts : List Tok) (b : A) (left : List Tok) → step a ts ≡ Ok (b, left) → Step a ts b left)
    → (a : A) (ts : List Tok) (c : A) (left : List Tok) → until_all stops step a ts ≡ Ok (c, left) → Until closer Step a ts c left
until_is closer stops Step step closing no_end is a ts c left e = until_turns closer stops Step step closing no_end is (suc (length ts)) a ts c left e

up_to_turns : {A : Type 0} (closer : Key) (stops : Key → Bool) (Step : A → List Tok → A → List Tok → Type 0) (step : A → Reader A)
    → ((k : Key) → stops k ≡ true → k ≡ closer)
    → ((a : A) (ts : List Tok) (b : A) (left : List Tok) → step a ts ≡ Ok (b, left) → Step a ts b left)
    → (n : ℕ) (a : A) (ts : List Tok) (c : A) (left : List Tok) → turns stops left_there step n a ts ≡ Ok (c, left) → UpTo closer Step a ts c left
unfolding turns
up_to_turns closer stops Step step closing is zero a ts c left e = absurd cc
up_to_turns {A} closer stops Step step closing is (suc n) a ts c left e = turn (λ b mid h. up_to_turns closer stops Step step closing is n b mid c left h) (stops (head ts).key) refl e
  where
    turn : ((b : A) (mid : List Tok) → turns stops left_there step n b mid ≡ Ok (c, left) → UpTo closer Step b mid c left) → (b : Bool) → stops (head ts).key ≡ b → act (cond b (left_there a) (stay (chain (step a) (turns stops left_there step n)))) ts ≡ Ok (c, left) → UpTo closer Step a ts c left
    turn ih true g h = let p = ok_parts a c ts left h in subst (λ (z : A). UpTo closer Step a ts z left) p.0 (subst (λ (z : List Tok). UpTo closer Step a ts a z) p.1 (stands (closing (head ts).key g)))
    turn ih false g h =
        let b = bind_ok (step a ts) (λ x. turns stops left_there step n x.0 x.1) (c, left) h in
        steps (is a ts b.0.0 b.0.1 b.1) (ih b.0.0 b.0.1 b.2)

-- what is read up to a token that stays is steps up to it
pub up_to_is : {A : Type 0} (closer : Key) (stops : Key → Bool) (Step : A → List Tok → A → List Tok → Type 0) (step : A → Reader A)
    → ((k : Key) → stops k ≡ true → k ≡ closer)
    → ((a : A) (ts : List Tok) (b : A) (left : List Tok) → step a ts ≡ Ok (b, left) → Step a ts b left)
    → (a : A) (ts : List Tok) (c : A) (left : List Tok) → up_to_all stops step a ts ≡ Ok (c, left) → UpTo closer Step a ts c left
up_to_is closer stops Step step closing is a ts c left e = up_to_turns closer stops Step step closing is (suc (length ts)) a ts c left e

-- what makes steps readable up to a token: `follow` are the keys before which a step is read
pub record ReadsSteps {A : Type 0} (closer : Key) (stops : Key → Bool) (follow : Key → Bool) (Step : A → List Tok → A → List Tok → Type 0) (step : A → List Tok → Result (A × List Tok) Refused) : Type 0 where
  pub closes : stops closer ≡ true
  pub close_follows : follow closer ≡ true
  pub begins : {a b : A} {ts left : List Tok} → Step a ts b left → (stops (head ts).key ≡ false) × (follow (head ts).key ≡ true)
  pub reads : {a b : A} {ts left : List Tok} → Step a ts b left → follow (head left).key ≡ true → step a ts ≡ Ok (b, left)
  pub shrinks : (a : A) → Shrinks (step a)

pub until_follows : {A : Type 0} {closer : Key} {stops : Key → Bool} {follow : Key → Bool} {Step : A → List Tok → A → List Tok → Type 0} {step : A → Reader A} {a c : A} {ts left : List Tok}
    → ReadsSteps closer stops follow Step step → Until closer Step a ts c left → follow (head ts).key ≡ true
until_follows r (ends w) = rw (word_head w).0 r.close_follows
until_follows r (goes s u) = (r.begins s).1

-- steps up to a closing token are read up to it
pub until_reads : {A : Type 0} {closer : Key} {stops : Key → Bool} {follow : Key → Bool} {Step : A → List Tok → A → List Tok → Type 0} {step : A → Reader A} {a c : A} {ts left : List Tok}
    → ReadsSteps closer stops follow Step step → Until closer Step a ts c left → until_all stops step a ts ≡ Ok (c, left)
until_reads {stops = stops} {step = step} {a = a} {ts = ts} r (ends w) =
    let h = word_head w in
    let e : stops (head ts).key ≡ true = rw h.0 r.closes in
    until_stops stops step a ts e ∙ ap (λ z. Ok (a, z)) h.1
until_reads {stops = stops} {step = step} {a = a} {ts = ts} r (goes {b = b} {mid = mid} s u) =
    until_goes_on stops step a b ts mid r.shrinks (r.begins s).0 (r.reads s (until_follows r u)) ∙ until_reads r u

pub up_to_follows : {A : Type 0} {closer : Key} {stops : Key → Bool} {follow : Key → Bool} {Step : A → List Tok → A → List Tok → Type 0} {step : A → Reader A} {a c : A} {ts left : List Tok}
    → ReadsSteps closer stops follow Step step → UpTo closer Step a ts c left → follow (head ts).key ≡ true
up_to_follows r (stands e) = rw e r.close_follows
up_to_follows r (steps s u) = (r.begins s).1

-- steps up to a token that stays are read up to it
pub up_to_reads : {A : Type 0} {closer : Key} {stops : Key → Bool} {follow : Key → Bool} {Step : A → List Tok → A → List Tok → Type 0} {step : A → Reader A} {a c : A} {ts left : List Tok}
    → ReadsSteps closer stops follow Step step → UpTo closer Step a ts c left → up_to_all stops step a ts ≡ Ok (c, left)
up_to_reads {stops = stops} {step = step} {a = a} {ts = ts} r (stands g) =
    let e : stops (head ts).key ≡ true = rw g r.closes in
    up_to_stops stops step a ts e
up_to_reads {stops = stops} {step = step} {a = a} {ts = ts} r (steps {b = b} {mid = mid} s u) =
    up_to_goes_on stops step a b ts mid r.shrinks (r.begins s).0 (r.reads s (up_to_follows r u)) ∙ up_to_reads r u

-- ---- lists

abbrev pub no_comma : Key → Bool
no_comma key.Comma = false
no_comma _ = true

comma_stays : (k : Key) → no_comma k ≡ true → comma_by k ≡ stay (done false)
comma_stays key.Comma e = absurd cc
comma_stays _ e = refl

pub next_is : {A : Type 0} (Item : A → List Tok → A → List Tok → Type 0) (item : A → Reader A)
    → ((a : A) (ts : List Tok) (b : A) (left : List Tok) → item a ts ≡ Ok (b, left) → Item a ts b left)
    → (a : A) (ts : List Tok) (b : A) (left : List Tok) → next_of item a ts ≡ Ok (b, left) → NextOf Item a ts b left
next_is {A} Item item is a ts b left e =
    let c = chain_ok comma_at (λ x. item a) ts b left e in
    by_key (head ts).key refl c.0 c.1 c.2 (is a c.1 b left c.3)
  where
    by_key : (k : Key) → (head ts).key ≡ k → (x : Bool) (mid : List Tok) → act (comma_by k) ts ≡ Ok (x, mid) → Item a mid b left → NextOf Item a ts b left
    by_key key.Comma g x mid h q = let r = ok_parts true x (rest ts) mid h in comma (word_is key.Comma ts g (λ r. cc)) (subst (λ (z : List Tok). Item a z b left) (sym r.1) q)
    by_key _ g x mid h q = let r = ok_parts false x ts mid h in plain (subst (λ (z : List Tok). Item a z b left) (sym r.1) q)

-- what is read as a list is one
pub list_is : {A : Type 0} (closer : Key) (stops : Key → Bool) (Item : A → List Tok → A → List Tok → Type 0) (item : A → Reader A)
    → ((k : Key) → stops k ≡ true → k ≡ closer) → (key.End ≡ closer → ⊥)
    → ((a : A) (ts : List Tok) (b : A) (left : List Tok) → item a ts ≡ Ok (b, left) → Item a ts b left)
    → (a : A) (ts : List Tok) (c : A) (left : List Tok) → list_all stops item a ts ≡ Ok (c, left) → ListOf closer Item a ts c left
list_is closer stops Item item closing no_end is a ts c left e =
    let b = chain_ok (item a) (until_all stops (next_of item)) ts c left e in
    record {
      first = b.0;
      mid = b.1;
      begins = is a ts b.0 b.1 b.2;
      others = until_is closer stops (NextOf Item) (next_of item) closing no_end (next_is Item item is) b.0 b.1 c left b.3;
    }

-- what makes a list readable
pub record ReadsList {A : Type 0} (closer : Key) (stops : Key → Bool) (follow : Key → Bool) (Item : A → List Tok → A → List Tok → Type 0) (item : A → List Tok → Result (A × List Tok) Refused) : Type 0 where
  pub closes : stops closer ≡ true
  pub close_follows : follow closer ≡ true
  pub comma_goes : stops key.Comma ≡ false
  pub comma_follows : follow key.Comma ≡ true
  pub begins : {a b : A} {ts left : List Tok} → Item a ts b left → (stops (head ts).key ≡ false) × (follow (head ts).key ≡ true) × (no_comma (head ts).key ≡ true)
  pub reads : {a b : A} {ts left : List Tok} → Item a ts b left → follow (head left).key ≡ true → item a ts ≡ Ok (b, left)
  pub shrinks : (a : A) → Shrinks (item a)

next_reads : {A : Type 0} {closer : Key} {stops : Key → Bool} {follow : Key → Bool} {Item : A → List Tok → A → List Tok → Type 0} {item : A → Reader A} {a b : A} {ts left : List Tok}
    → ReadsList closer stops follow Item item → NextOf Item a ts b left → follow (head left).key ≡ true → next_of item a ts ≡ Ok (b, left)
next_reads {ts = ts} r (plain q) f = rw (comma_stays (head ts).key (r.begins q).2) (r.reads q f)
next_reads r (comma w q) f = let h = word_head w in rw (h.0, h.1) (r.reads q f)

next_begins : {A : Type 0} {closer : Key} {stops : Key → Bool} {follow : Key → Bool} {Item : A → List Tok → A → List Tok → Type 0} {item : A → Reader A} {a b : A} {ts left : List Tok}
    → ReadsList closer stops follow Item item → NextOf Item a ts b left → (stops (head ts).key ≡ false) × (follow (head ts).key ≡ true)
next_begins r (plain q) = let b = r.begins q in (b.0, b.1)
next_begins r (comma w q) = rw (word_head w).0 (r.comma_goes, r.comma_follows)

pub next_items_read : {A : Type 0} {closer : Key} {stops : Key → Bool} {follow : Key → Bool} {Item : A → List Tok → A → List Tok → Type 0} {item : A → Reader A}
    → ReadsList closer stops follow Item item → ReadsSteps closer stops follow (NextOf Item) (next_of item)
next_items_read {item = item} r = record { closes = r.closes; close_follows = r.close_follows; begins = λ q. next_begins r q; reads = λ q f. next_reads r q f; shrinks = next_shrinks item r.shrinks }

-- a list is read
pub list_reads : {A : Type 0} {closer : Key} {stops : Key → Bool} {follow : Key → Bool} {Item : A → List Tok → A → List Tok → Type 0} {item : A → Reader A} {a c : A} {ts left : List Tok}
    → ReadsList closer stops follow Item item → ListOf closer Item a ts c left → list_all stops item a ts ≡ Ok (c, left)
list_reads r q = rw (r.reads q.begins (until_follows (next_items_read r) q.others)) (until_reads (next_items_read r) q.others)
