-- Readers that end no line, with braces open or not: each part of a reader keeps it.
use Rattle.std.proofs.Common.{◌≡◌, ℕ, zero, suc, Bool, true, false, cond, leb, ◌&&◌, List, [], ◌∷◌, length, Option, Some, None, Result, Ok, Err, refl, subst, inl, inr}
use borrow.Author.Tests.{clash}
use Rattle.pfs_conf_tokens.specs.Tokens.{Tok, head}
use Rattle.pfs_conf_tokens.specs.Keys.{is_word_key, ends_line}
use Rattle.pfs_conf_tokens.specs.Reading.{closes_braces, Refused, stop, Reader, Act, take, stay, refuse, act, on_front, done, chain, once, turns, taken, left_there, until_all, up_to_all, comma_by, comma_at, next_of, list_all, skipping, number_between, number_by, number_at}
use Rattle.pfs_conf_tokens.specs.Numbers.{number_written}
use Rattle.pfs_conf_tokens.specs.declared.keys.Key.{Key}
use Rattle.pfs_conf_tokens.specs.declared.keys.Key.TheVariants as key
use Rattle.pfs_conf_tokens.specs.declared.refusals.Why.{Why}
use Rattle.pfs_conf_tokens.specs.declared.refusals.Why.TheVariants as why
use Rattle.pfs_conf_tokens.specs.Grammar.{skip_lines}
use Rattle.pfs_conf_tokens.proofs.Laws.{bind_ok, bind_err, ok_parts}
use Rattle.pfs_conf.specs.Places.{braces_behind, ends_no_line, InBraces, so_far, over}

-- a reader that begins with braces open or not (`braced`) and leaves them open or not (`after`); what it goes over ends
-- no line
pub record LeavesBraces {A : Type 0} (braced after : Bool) (f : List Tok → Result (A × List Tok) Refused) : Type 0 where
  pub took : (ts : List Tok) (x : A) (left : List Tok) → f ts ≡ Ok (x, left) → InBraces braced ts after left
  pub stopped : (ts left : List Tok) (w : Why) → f ts ≡ Err (stop left w) → (b : Bool) × InBraces braced ts b left

pub further : {a b c : Bool} {ts mid left : List Tok} → InBraces a ts b mid → InBraces b mid c left → InBraces a ts c left
further so_far q = q
further (over e h) q = over e (further h q)

-- where reading stops at once
pub at_once : {ts left : List Tok} {braced : Bool} → ts ≡ left → InBraces braced ts braced left
at_once {ts = ts} {braced = braced} e = subst (λ (z : List Tok). InBraces braced ts braced z) e so_far

pub keeps_done : {A : Type 0} {braced : Bool} (x : A) → LeavesBraces braced braced (done x)
keeps_done x = record { took = λ ts y left e. at_once (ok_parts x y ts left e).1; stopped = λ ts left w e. absurd cc }

pub keeps_chain : {A B : Type 0} {a b c : Bool} (f : Reader A) (g : A → Reader B) → LeavesBraces a b f → ((x : A) → LeavesBraces b c (g x)) → LeavesBraces a c (chain f g)
keeps_chain f g hf hg = record {
  took = λ ts x left e. let p = bind_ok (f ts) (λ q. g q.0 q.1) (x, left) e in further (hf.took ts p.0.0 p.0.1 p.1) ((hg p.0.0).took p.0.1 x left p.2);
  stopped = λ ts left w e. elim (bind_err (f ts) (λ q. g q.0 q.1) (stop left w) e) [
    | inl h ↦ hf.stopped ts left w h
    | inr p ↦ let q = (hg p.0.0).stopped p.0.1 left w p.2 in (q.0, further (hf.took ts p.0.0 p.0.1 p.1) q.1)
  ];
}

abbrev pub ActLeavesBraces : {A : Type 0} → Bool → Bool → Key → Act A → Type 0
ActLeavesBraces braced after k (take f) = (ends_no_line braced k ≡ true) × LeavesBraces (braces_behind braced k) after f
ActLeavesBraces braced after k (stay f) = LeavesBraces braced after f
ActLeavesBraces braced after k (refuse w) = Unit {0}

no_end : (braced : Bool) → ends_no_line braced key.End ≡ true → ⊥
no_end true e = cc
no_end false e = cc

act_took : {A : Type 0} (braced after : Bool) (b : Act A) (ts : List Tok) → ActLeavesBraces braced after (head ts).key b → (x : A) (left : List Tok) → act b ts ≡ Ok (x, left) → InBraces braced ts after left
act_took braced after (take f) [] h x left e = absurd (no_end braced h.0)
act_took braced after (take f) (t ∷ ts) h x left e = over h.0 (h.1.took ts x left e)
act_took braced after (stay f) ts h x left e = h.took ts x left e
act_took braced after (refuse w) ts h x left e = absurd cc

act_stopped : {A : Type 0} (braced after : Bool) (b : Act A) (ts : List Tok) → ActLeavesBraces braced after (head ts).key b → (left : List Tok) (w : Why) → act b ts ≡ Err (stop left w) → (c : Bool) × InBraces braced ts c left
act_stopped braced after (take f) [] h left w e = absurd (no_end braced h.0)
act_stopped braced after (take f) (t ∷ ts) h left w e = let p = h.1.stopped ts left w e in (p.0, over h.0 p.1)
act_stopped braced after (stay f) ts h left w e = h.stopped ts left w e
act_stopped braced after (refuse v) ts h left w e = (braced, at_once (let p : ts ≡ left = cc in p))

pub keeps_front : {A : Type 0} {braced after : Bool} (d : Tok → Act A) → ((t : Tok) → ActLeavesBraces braced after t.key (d t)) → LeavesBraces braced after (on_front d)
keeps_front {braced = braced} {after = after} d h = record {
  took = λ ts x left e. act_took braced after (d (head ts)) ts (h (head ts)) x left e;
  stopped = λ ts left w e. act_stopped braced after (d (head ts)) ts (h (head ts)) left w e;
}

pub keeps_if : {A : Type 0} (braced after : Bool) (k : Key) (b : Bool) (x y : Act A) → (b ≡ true → ActLeavesBraces braced after k x) → (b ≡ false → ActLeavesBraces braced after k y) → ActLeavesBraces braced after k (cond b x y)
keeps_if braced after k true x y p q = p refl
keeps_if braced after k false x y p q = q refl

pub keeps_once : {A B : Type 0} (braced after : Bool) (k : Key) (o : Option A) (b : Act B) → ActLeavesBraces braced after k b → ActLeavesBraces braced after k (once o b)
keeps_once braced after k None b h = h
keeps_once braced after k (Some x) b h = tt

-- a word ends no line and opens and closes no braces
pub word_ends_none : (braced : Bool) (k : Key) → is_word_key k ≡ true → ends_no_line braced k ≡ true
word_ends_none true key.End e = absurd cc
word_ends_none true _ e = refl
word_ends_none false key.LineEnd e = absurd cc
word_ends_none false key.End e = absurd cc
word_ends_none false _ e = refl

pub word_keeps_braces : (braced : Bool) (k : Key) → is_word_key k ≡ true → braced ≡ braces_behind braced k
word_keeps_braces braced key.OpenBrace e = absurd cc
word_keeps_braces braced key.CloseBrace e = absurd cc
word_keeps_braces braced _ e = refl

-- so a word that is taken keeps what the reader after it keeps
pub keeps_word : {A : Type 0} (braced after : Bool) (k : Key) (f : Reader A) → is_word_key k ≡ true → LeavesBraces braced after f → ActLeavesBraces braced after k (take f)
keeps_word braced after k f e h = (word_ends_none braced k e, subst (λ (z : Bool). LeavesBraces z after f) (word_keeps_braces braced k e) h)

-- ---- numbers

number_in_acts : (braced : Bool) (low high : ℕ) (o : Option ℕ) → ActLeavesBraces braced braced key.Number (number_between low high o)
number_in_acts braced low high None = tt
number_in_acts braced low high (Some n) = keeps_if braced braced key.Number (leb low n && leb n high) (take (done n)) (refuse why.Number) (λ e. keeps_word braced braced key.Number (done n) refl (keeps_done n)) (λ e. tt)

number_acts : (braced : Bool) (low high : ℕ) (text : List ℕ) (k : Key) → ActLeavesBraces braced braced k (number_by low high text k)
number_acts braced low high text key.Number = number_in_acts braced low high (number_written text)
number_acts braced low high text _ = tt

pub keeps_number : (braced : Bool) (low high : ℕ) → LeavesBraces braced braced (number_at low high)
unfolding number_at
keeps_number braced low high = keeps_front (λ t. number_by low high t.text t.key) (λ t. number_acts braced low high t.text t.key)

-- ---- loops

out_of_turns : {A : Type 0} (braced after : Bool) → LeavesBraces {A = A} braced after (λ ts. Err (stop ts why.Plain))
out_of_turns braced after = record { took = λ ts x left e. absurd cc; stopped = λ ts left w e. (braced, at_once (let p : ts ≡ left = cc in p)) }

keeps_turns : {A : Type 0} (braced after : Bool) (stops : Key → Bool) (last : A → Act A) (step : A → Reader A) → ((x : A) (k : Key) → stops k ≡ true → ActLeavesBraces braced after k (last x)) → ((x : A) → LeavesBraces braced braced (step x)) → (n : ℕ) (x : A) → LeavesBraces braced after (turns stops last step n x)
unfolding turns
keeps_turns braced after stops last step l h zero x = out_of_turns braced after
keeps_turns braced after stops last step l h (suc n) x = keeps_front (λ t. cond (stops t.key) (last x) (stay (chain (step x) (turns stops last step n))))
    (λ t. keeps_if braced after t.key (stops t.key) (last x) (stay (chain (step x) (turns stops last step n))) (λ e. l x t.key e)
    (λ e. keeps_chain (step x) (turns stops last step n) (h x) (λ y. keeps_turns braced after stops last step l h n y)))

pub keeps_until_brace : {A : Type 0} (step : A → Reader A) → ((x : A) → LeavesBraces true true (step x)) → (x : A) → LeavesBraces true false (until_all closes_braces step x)
keeps_until_brace {A = A} step h x = record {
  took = λ ts y left e. (keeps_turns true false closes_braces taken step closed h (suc (length ts)) x).took ts y left e;
  stopped = λ ts left w e. (keeps_turns true false closes_braces taken step closed h (suc (length ts)) x).stopped ts left w e;
}
  where
    closed : (y : A) (k : Key) → closes_braces k ≡ true → ActLeavesBraces true false k (taken y)
    closed y key.CloseBrace e = (refl, keeps_done y)
    closed y _ e = absurd (clash e)

pub keeps_up_to_line : {A : Type 0} (step : A → Reader A) → ((x : A) → LeavesBraces false false (step x)) → (x : A) → LeavesBraces false false (up_to_all ends_line step x)
keeps_up_to_line step h x = record {
  took = λ ts y left e. (keeps_turns false false ends_line left_there step (λ y k e. keeps_done y) h (suc (length ts)) x).took ts y left e;
  stopped = λ ts left w e. (keeps_turns false false ends_line left_there step (λ y k e. keeps_done y) h (suc (length ts)) x).stopped ts left w e;
}

comma_acts : (braced : Bool) (k : Key) → ActLeavesBraces braced braced k (comma_by k)
comma_acts true key.Comma = (refl, keeps_done true)
comma_acts false key.Comma = (refl, keeps_done true)
comma_acts braced _ = keeps_done false

keeps_next : {A : Type 0} (item : A → Reader A) → ((x : A) → LeavesBraces true true (item x)) → (x : A) → LeavesBraces true true (next_of item x)
keeps_next item h x = keeps_chain comma_at (λ c. item x) (keeps_front (λ t. comma_by t.key) (λ t. comma_acts true t.key)) (λ c. h x)

-- a list in braces, after the opening one
pub keeps_list : {A : Type 0} (item : A → Reader A) → ((x : A) → LeavesBraces true true (item x)) → (x : A) → LeavesBraces true false (list_all closes_braces item x)
keeps_list item h x = keeps_chain (item x) (until_all closes_braces (next_of item)) (h x) (λ y. keeps_until_brace (next_of item) (keeps_next item h) y)

-- ---- line ends in braces

line_end_in_braces : (k : Key) → ends_line k ≡ true → (ends_no_line true k ≡ true) × (true ≡ braces_behind true k)
line_end_in_braces key.LineEnd e = (refl, refl)
line_end_in_braces _ e = absurd (clash e)

lines_in_braces : (ts : List Tok) → InBraces true ts true (skip_lines ts)
unfolding skip_lines
lines_in_braces [] = so_far
lines_in_braces (t ∷ ts) = turn (lines_in_braces ts) (ends_line t.key) refl
  where
    turn : InBraces true ts true (skip_lines ts) → (b : Bool) → ends_line t.key ≡ b → InBraces true (t ∷ ts) true (cond b (skip_lines ts) (t ∷ ts))
    turn h true e = let p = line_end_in_braces t.key e in over p.0 (subst (λ (z : Bool). InBraces z ts true (skip_lines ts)) p.1 h)
    turn h false e = so_far

pub keeps_skipping : {A : Type 0} {after : Bool} (f : Reader A) → LeavesBraces true after f → LeavesBraces true after (skipping f)
keeps_skipping f h = record {
  took = λ ts x left e. further (lines_in_braces ts) (h.took (skip_lines ts) x left e);
  stopped = λ ts left w e. let p = h.stopped (skip_lines ts) left w e in (p.0, further (lines_in_braces ts) p.1);
}
