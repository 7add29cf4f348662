-- Texts, and what is answered of them.
use Rattle.std.proofs.Common.{◌≡◌, ◌≤◌, ℕ, false, List, ◌∷◌, ◌++◌, length, Option, Some, None, Result, Ok, Err, refl, sym, ap, subst, ◌∙◌, arith, inl, inr, ◌⊎◌}
use Rattle.std.specs.Prelude.{IfOk, IfErr, MatchResult}
use Rattle.pfs_conf_tokens.specs.Tokens.{Tok, head}
use Rattle.pfs_conf_tokens.specs.Reading.{ends_text, Refused, stop, broken, up_to_all}
use Rattle.pfs_conf_tokens.specs.Lexis.{text_limit, tokens_of}
use Rattle.pfs_conf_tokens.specs.TokenResults.{refusal_at, GivesOrMemory}
use Rattle.pfs_conf_tokens.specs.declared.refusals.LoadRule.{LoadRule}
use Rattle.pfs_conf_tokens.specs.declared.refusals.Why.{Why}
use Rattle.pfs_conf_tokens.specs.declared.refusals.Refusal.TheVariants as refusal
use Rattle.pfs_conf_tokens.specs.declared.refusals.ReadError.{ReadError}
use Rattle.pfs_conf_tokens.specs.declared.refusals.ReadError.TheVariants as error
use Rattle.pfs_conf_tokens.proofs.Laws.{across, ok_parts, up_to_fails, up_to_goes_on, stops_at, no_text}
use Rattle.pfs_conf_tokens.proofs.ReaderLaws.{word_head}
use Rattle.pfs_conf_tokens.proofs.ShownLaws.{tokens_have_end}
use Rattle.pfs_conf_values.specs.Configs.{Conf}
use Rattle.pfs_conf.specs.declared.faults.LoadFault.{LoadFault}
use Rattle.pfs_conf.specs.declared.progress.Progress.{Progress}
use Rattle.pfs_conf.specs.declared.kinds.Kind.{Kind}
use Rattle.pfs_conf.specs.Kinds.{no_memory, fault, kind_of_rule, IsKindAt}
use Rattle.pfs_conf.specs.Places.{IsBegun}
use Rattle.pfs_conf.specs.Stopping.{fault_told, kind_of}
use Rattle.pfs_conf.specs.Grammar.{TextOf}
use Rattle.pfs_conf.specs.Faults.{Statements, none, before, Breaks, at_rule, at_anchor, at_cookies, at_end, StopsAt, IsFault}
use Rattle.pfs_conf.specs.ReaderResults.{Comes}
use Rattle.pfs_conf.specs.Statements.{nothing}
use Rattle.pfs_conf.specs.Reading.{statement_at, statements_at, text_at}
use Rattle.pfs_conf.specs.Reads.{Reads}
use Rattle.pfs_conf.specs.Answers.{IsReported}
use Rattle.pfs_conf.specs.Faults as faults
use Rattle.pfs_conf.specs.LoadResults.{IsFaultRead, long, memory, breaks, stops, IsLoad}
use Rattle.pfs_conf.proofs.OnlineLaws.{online_text, statement_shrinks}
use Rattle.pfs_conf.proofs.BreakLaws.{text_breaks_is}
use Rattle.pfs_conf.proofs.PhraseLaws.{text_is}
use Rattle.pfs_conf.proofs.PlaceLaws.{text_stops, kind_fits}
use Rattle.pfs_conf.proofs.ReadLaws.{verb_key, rule_told, rule_statement, anchor_told, anchor_statement, cookies_statement, cookies_told, statement_reads, statement_begins, statements_read, text_told, text_reads}

-- where a statement is refused, so are the statements
pub statements_fail : (e : ReadError) (p q : Progress) (left ts : List Tok) (total : Result (Progress × List Tok) Refused)
    → ends_text (head ts).key ≡ false → Comes (Err e) left q (statement_at p ts) → up_to_all ends_text statement_at p ts ≡ total → GivesOrMemory {X = Progress} (Err e) left total
statements_fail error.Memory p q left ts total n h e = tt
statements_fail (error.Refused r) p q left ts total n h e = sym e ∙ up_to_fails ends_text statement_at p ts (refusal_at r left) n h

-- a text reads as one configuration alone
pub one_text : {ts : List Tok} (a b : Conf) → TextOf ts a → TextOf ts b → a ≡ b
one_text a b s t = (ok_parts a b s.left t.left (sym (text_reads s) ∙ text_reads t)).0

pub found : (text : List ℕ) (r : Result Conf LoadFault) → IsLoad r text → IfOk r (λ c. Reads text c)
found text (Ok c) h = record { short = h.short; whole = text_is (tokens_of text) c h.left h.reads }
found text (Err e) h = tt

never_read : (text : List ℕ) (c : Conf) (e : LoadFault) → Reads text c → IsFaultRead text e → e ≡ no_memory
never_read text c e r (long l k) = let s = r.short in absurd (omega arith)
never_read text c e r (memory s k) = k
never_read text c e r (breaks s h k) = let b = sym h ∙ text_reads r.whole in absurd cc
never_read text c e r (stops s h k) = let b = sym h ∙ text_reads r.whole in absurd cc

pub only : (text : List ℕ) (r : Result Conf LoadFault) (c : Conf) → IsLoad r text → Reads text c → MatchResult r (λ d. d ≡ c) (λ e. e ≡ no_memory)
only text (Ok d) c h r = (ok_parts d c h.left r.whole.left (sym h.reads ∙ text_reads r.whole)).0
only text (Err e) c h r = never_read text c e r h

pub not_some : {A : Type 0} (o : Option A) → ((x : A) → o ≡ Some x → ⊥) → o ≡ None
not_some None h = refl
not_some (Some x) h = absurd (h x refl)

pub fault_read : (text : List ℕ) (ts left : List Tok) (e : ReadError) → length text ≤ text_limit → ts ≡ tokens_of text → GivesOrMemory {X = Conf} (Err e) left (text_at ts) → IsFaultRead text (fault_told e left)
fault_read text ts left error.Memory s t h = memory s refl
fault_read text ts left (error.Refused (refusal.Stop w)) s t h = stops s (ap text_at (sym t) ∙ h) refl
fault_read text ts left (error.Refused (refusal.Broken rule line)) s t h = breaks s (ap text_at (sym t) ∙ h) refl

-- ---- the first load rule that is broken

goes_to : {p q : Progress} {ts mid : List Tok} → Statements p ts q mid → up_to_all ends_text statement_at p ts ≡ up_to_all ends_text statement_at q mid
goes_to none = refl
goes_to {p = p} {ts = ts} (before {q = q} {mid = mid} s u) = up_to_goes_on ends_text statement_at p q ts mid statement_shrinks (statement_begins s).0 (statement_reads s) ∙ goes_to u

breaks_at : (ts : List Tok) (p : Progress) (mid : List Tok) (b : LoadRule) (n : ℕ) → Statements nothing ts p mid → ends_text (head mid).key ≡ false → statement_at p mid ≡ Err (broken b n) → text_at ts ≡ Err (broken b n)
unfolding text_at statements_at
breaks_at ts p mid b n s k e = let f = goes_to s ∙ up_to_fails ends_text statement_at p mid (broken b n) k e in rw f refl

pub breaks_told : {ts : List Tok} {b : LoadRule} {n : ℕ} → Breaks ts b n → text_at ts ≡ Err (broken b n)
breaks_told {ts = ts} {b = b} (at_rule {p = p} {mid = mid} r s q e) =
    breaks_at ts p mid b (head mid).line s (verb_key q.verb (λ k. ends_text k ≡ false) refl refl refl) (rule_statement p q.verb (Err (broken b (head mid).line)) (rule_told (head mid).line p r b q e))
breaks_told {ts = ts} {b = b} (at_anchor {p = p} {mid = mid} a s q e) =
    breaks_at ts p mid b (head mid).line s (rw (word_head q.word).0 refl) (anchor_statement p q.word (Err (broken b (head mid).line)) (anchor_told (head mid).line p b q e))
breaks_told {ts = ts} {b = b} (at_cookies {p = p} {mid = mid} {left = left} c s z q e) =
    breaks_at ts p mid b (head mid).line s (rw (word_head q.set).0 refl) (cookies_statement p q z ∙ cookies_told (head mid).line p c left b e)
breaks_told {ts = ts} {b = b} {n = n} (at_end {p = p} {left = left} u z e) = text_told ts p left b n (statements_read u) z e

told_fault : (text : List ℕ) (e : LoadFault) (b : LoadRule) (n : ℕ) → length text ≤ text_limit → text_at (tokens_of text) ≡ Err (broken b n) → IsFaultRead text e → (e ≡ fault n (kind_of_rule b)) ⊎ (e ≡ no_memory)
told_fault text e b n s h (long l k) = absurd (omega arith)
told_fault text e b n s h (memory l k) = inr k
told_fault text e b n s h (breaks {rule = rule} {line = line} l g k) =
    let same = sym g ∙ h in
    let r : rule ≡ b = cc in
    let m : line ≡ n = cc in
    inl (k ∙ (ap (λ (z : ℕ). fault z (kind_of_rule rule)) m ∙ ap (λ (z : LoadRule). fault n (kind_of_rule z)) r))
told_fault text e b n s h (stops l g k) = let same = sym g ∙ h in absurd cc

pub told_broken : (text : List ℕ) (r : Result Conf LoadFault) (b : LoadRule) (n : ℕ) → IsLoad r text → length text ≤ text_limit → Breaks (tokens_of text) b n → IsReported r (fault n (kind_of_rule b))
told_broken text (Ok c) b n h s k = let same = sym h.reads ∙ breaks_told k in absurd cc
told_broken text (Err e) b n h s k = told_fault text e b n s (breaks_told k) h

-- ---- where reading stops

stops_at_token : (text : List ℕ) (left : List Tok) (w : Why) → text_at (tokens_of text) ≡ Err (stop left w) → (t : Tok) × (m : List Tok) × (left ≡ t ∷ m) × StopsAt text t m
stops_at_token text left w e =
    let s = stops_at across text_at online_text (tokens_of text) left w e (tokens_have_end text) in
    let here : text_at (s.0 ++ s.1 ∷ s.2) ≡ Err (stop (s.1 ∷ s.2) w) = ap text_at (sym s.4) ∙ e ∙ ap (λ (z : List Tok). Err (stop z w)) s.3 in
    let place = text_stops (tokens_of text) left w e in (
      s.1,
      s.2,
      s.3,
      record {
        before = s.0;
        splits = s.4;
        hopeless = λ other others conf p r. no_text across text_at online_text s.0 s.1 s.2 others w conf r.whole.left here (ap text_at (sym p) ∙ text_reads r.whole);
        said = place.0;
        begun = place.1;
        statements = place.2;
        begins = subst (λ (z : List Tok). IsBegun place.1 z) s.3 place.3;
      },
    )

told_as : (text : List ℕ) (e : LoadFault) → IsFaultRead text e → IsFault text e
told_as text e (long l k) = faults.long l k
told_as text e (memory l k) = faults.memory k
told_as text e (breaks l g k) = faults.breaks l (text_breaks_is g) k
told_as text e (stops {w = w} {left = left} l g k) =
    let s = stops_at_token text left w g in
    let told : e ≡ fault s.0.line (kind_of w (s.0 ∷ s.1)) = k ∙ ap (λ (z : List Tok). fault (head z).line (kind_of w z)) s.2 in
    faults.stops s.0 s.1 l s.3 (ap (λ (z : LoadFault). z.line) told) (subst (λ (z : Kind). IsKindAt s.0 z) (sym (ap (λ (z : LoadFault). z.kind) told)) (kind_fits w s.0 (head s.1).key))

pub is_fault : (text : List ℕ) (r : Result Conf LoadFault) → IsLoad r text → IfErr r (λ e. IsFault text e)
is_fault text (Ok c) h = tt
is_fault text (Err e) h = told_as text e h
