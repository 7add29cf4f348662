-- Where reading stops, all before is read: statements, and then the tokens of one that is begun.
use Rattle.std.proofs.Common.{◌≡◌, ℕ, zero, suc, ◌==◌, ◌&&◌, ◌||◌, Bool, true, false, cond, List, [], ◌∷◌, length, Option, Some, None, Ok, Err, refl, ap, subst, ◌∙◌, inl, inr}
use Rattle.pfs_conf_tokens.specs.Tokens.{Tok, head}
use Rattle.pfs_conf_tokens.specs.Reading.{rest, ends_text, stop, Act, take, stay, refuse, act, done, chain, turns, left_there, until_all, ended_by, ended}
use Rattle.pfs_conf_tokens.specs.Keys.{in_line, ends_line}
use Rattle.pfs_conf_tokens.specs.Grammar.{UpTo, stands, steps, Passes, stays, over}
use Rattle.pfs_conf_tokens.specs.declared.keys.Key.{Key}
use Rattle.pfs_conf_tokens.specs.declared.keys.Key.TheVariants as key
use Rattle.pfs_conf_tokens.specs.declared.refusals.LoadRule.{LoadRule}
use Rattle.pfs_conf_tokens.specs.declared.refusals.Why.{Why}
use Rattle.pfs_conf_tokens.specs.declared.refusals.Why.TheVariants as why
use Rattle.pfs_conf_tokens.proofs.Laws.{bind_err, ok_parts, line, passes_then, online_until_all}
use Rattle.pfs_conf_tokens.proofs.ReaderLaws.{line_end_before_end}
use Rattle.pfs_conf_settings.specs.Drafts.{conf_of_draft}
use Rattle.pfs_conf_filters.specs.Reading.{verb_at, parameters_at}
use Rattle.pfs_conf_filters.specs.declared.phrases.Parameters.{Parameters}
use Rattle.pfs_conf_filters.specs.declared.phrases.Verb.{Verb}
use Rattle.pfs_conf_filters.proofs.OnlineLaws.{online_verb, online_parameters}
use Rattle.pfs_conf_settings.specs.Settings.{settings_at}
use Rattle.pfs_conf_settings.specs.Tables.{parts_at}
use Rattle.pfs_conf_settings.specs.Syncookies.{syncookies_at}
use Rattle.pfs_conf_settings.proofs.SyncookieLaws.{online_syncookies}
use Rattle.pfs_conf.specs.declared.progress.Progress.{Progress}
use Rattle.pfs_conf.specs.declared.kinds.Kind.TheVariants as kind
use Rattle.pfs_conf.specs.Kinds.{is_number_key, is_foreign, IsKindAt, duplicate, number, unsupported, syntax}
use Rattle.pfs_conf.specs.Stopping.{is_again, wants_number, is_left_out, kind_at}
use Rattle.pfs_conf.specs.Grammar.{StatementOf}
use Rattle.pfs_conf.specs.Faults.{Statements, none, before}
use Rattle.pfs_conf.specs.Statements.{nothing, no_clauses, with_rule, with_anchor, with_definition, rule_breaks, anchor_breaks, text_breaks, with_cookies, cookies_break}
use Rattle.pfs_conf.specs.Reading.{with_draft, anchor_closed, told, clause_at, rule_text_at, rule_line_at, anchor_text_at, anchor_at, set_at, new_name_at, definition_at, statement_by, statement_at, all_closed, told_of, statements_at, text_at, cookies_line_at, setting_line_at, set_by}
use Rattle.pfs_conf.specs.Places.{InBraces, has_braces, IsBegun, in_a_line, with_braces}
use Rattle.pfs_conf.proofs.OnlineLaws.{online_clause, clause_shrinks, online_anchor_text, ruled}
use Rattle.pfs_conf.proofs.PhraseLaws.{statement_is, statements_are}
use Rattle.pfs_conf.proofs.BreakLaws.{and_then}
use Rattle.pfs_conf.proofs.BraceLaws.{further, at_once}
use Rattle.pfs_conf.proofs.BracePhrases.{keeps_settings, keeps_parts, keeps_table_name}
use Rattle.pfs_conf_filters.specs.Grammar.{statement_of}

-- ---- parts of a statement

told_stops : (b : Option LoadRule) (n : ℕ) (ts left : List Tok) (w : Why) → told b n ts ≡ Err (stop left w) → ⊥
told_stops None n ts left w e = cc
told_stops (Some rule) n ts left w e = cc

told_of_stops : (b : Option (LoadRule × ℕ)) (ts left : List Tok) (w : Why) → told_of b ts ≡ Err (stop left w) → ⊥
told_of_stops None ts left w e = cc
told_of_stops (Some x) ts left w e = cc

told_leaves : (b : Option LoadRule) (n : ℕ) (ts : List Tok) (u : Unit {0}) (left : List Tok) → told b n ts ≡ Ok (u, left) → ts ≡ left
told_leaves None n ts u left e = (ok_parts tt u ts left e).1
told_leaves (Some rule) n ts u left e = absurd cc

-- where a token is refused, reading stops at it. (In a case for all other keys this replaces a search for each.)
refused_there : {A : Type 0} (v : Why) (ts left : List Tok) (w : Why) → act {A = A} (refuse v) ts ≡ Err (stop left w) → ts ≡ left
refused_there v ts left w e = cc

-- a line end that is wanted and missing stops at once
ended_stops : {A : Type 0} (x : A) (ts left : List Tok) (w : Why) → ended x ts ≡ Err (stop left w) → ts ≡ left
ended_stops x ts left w e = by_key (head ts).key e
  where
    by_key : (k : Key) → act (ended_by x k) ts ≡ Err (stop left w) → ts ≡ left
    by_key key.LineEnd h = absurd cc
    by_key _ h = refused_there why.Plain ts left w h

stay_there : {ts left : List Tok} → ts ≡ left → Passes in_line ts left
stay_there {ts = ts} e = subst (λ (z : List Tok). Passes in_line ts z) e stays

-- ---- rules

clauses_stop : (v : Verb) (p : Parameters) (ts left : List Tok) (w : Why) → chain (until_all ends_line (clause_at v p) no_clauses) (λ c. done (ruled v p c)) ts ≡ Err (stop left w) → Passes in_line ts left
clauses_stop v p ts left w e = elim (bind_err (until_all ends_line (clause_at v p) no_clauses ts) (λ x. done (ruled v p x.0) x.1) (stop left w) e) [
  | inl h ↦ (online_until_all {r = line} ends_line (clause_at v p) line_end_before_end (clause_shrinks v p) (online_clause v p) no_clauses).stopped ts left w h
  | inr b ↦ absurd (let h = b.2 in cc)
]

behind_verb_stops : (v : Verb) (ts left : List Tok) (w : Why) → chain (parameters_at (statement_of v)) (λ p. chain (until_all ends_line (clause_at v p) no_clauses) (λ c. done (ruled v p c))) ts ≡ Err (stop left w) → Passes in_line ts left
behind_verb_stops v ts left w e = elim (bind_err (parameters_at (statement_of v) ts) (λ x. chain (until_all ends_line (clause_at v x.0) no_clauses) (λ c. done (ruled v x.0 c)) x.1) (stop left w) e) [
  | inl h ↦ (online_parameters (statement_of v)).stopped ts left w h
  | inr b ↦ passes_then ((online_parameters (statement_of v)).took ts b.0.0 b.0.1 b.1) (clauses_stop v b.0.0 b.0.1 left w b.2)
]

rule_text_stops : (ts left : List Tok) (w : Why) → rule_text_at ts ≡ Err (stop left w) → Passes in_line ts left
unfolding rule_text_at
rule_text_stops ts left w e =
    elim (bind_err (verb_at ts) (λ x. chain (parameters_at (statement_of x.0)) (λ p. chain (until_all ends_line (clause_at x.0 p) no_clauses) (λ c. done (ruled x.0 p c))) x.1) (stop left w) e) [
      | inl h ↦ online_verb.stopped ts left w h
      | inr b ↦ passes_then (online_verb.took ts b.0.0 b.0.1 b.1) (behind_verb_stops b.0.0 b.0.1 left w b.2)
    ]

rule_stops : (n : ℕ) (p : Progress) (ts left : List Tok) (w : Why) → rule_line_at n p ts ≡ Err (stop left w) → Passes in_line ts left
unfolding rule_line_at
rule_stops n p ts left w e = elim (bind_err (rule_text_at ts) (λ x. chain (told (rule_breaks p.draft x.0) n) (λ u. done (with_rule n x.0 p)) x.1) (stop left w) e) [
  | inl h ↦ rule_text_stops ts left w h
  | inr b ↦ elim (bind_err (told (rule_breaks p.draft b.0.0) n b.0.1) (λ y. done (with_rule n b.0.0 p) y.1) (stop left w) b.2) [
    | inl h ↦ absurd (told_stops (rule_breaks p.draft b.0.0) n b.0.1 left w h)
    | inr d ↦ absurd (let h = d.2 in cc)
  ]
]

-- ---- anchors

anchor_stops : (n : ℕ) (p : Progress) (ts left : List Tok) (w : Why) → anchor_at n p ts ≡ Err (stop left w) → Passes in_line ts left
unfolding anchor_at
anchor_stops n p ts left w e = elim (bind_err (anchor_text_at p ts) (λ x. chain (told (anchor_breaks p.depth p.draft x.0) n) (λ u. ended (with_anchor n x.0 p)) x.1) (stop left w) e) [
  | inl h ↦ (online_anchor_text p).stopped ts left w h
  | inr b ↦ elim (bind_err (told (anchor_breaks p.depth p.draft b.0.0) n b.0.1) (λ y. ended (with_anchor n b.0.0 p) y.1) (stop left w) b.2) [
    | inl h ↦ absurd (told_stops (anchor_breaks p.depth p.draft b.0.0) n b.0.1 left w h)
    | inr d ↦
        let here : b.0.1 ≡ left = told_leaves (anchor_breaks p.depth p.draft b.0.0) n b.0.1 d.0.0 d.0.1 d.1 ∙ ended_stops (with_anchor n b.0.0 p) d.0.1 left w d.2 in
        passes_then ((online_anchor_text p).took ts b.0.0 b.0.1 b.1) (stay_there here)
  ]
]

-- ---- options and tables

cookies_stop : (n : ℕ) (p : Progress) (ts left : List Tok) (w : Why) → cookies_line_at n p ts ≡ Err (stop left w) → Passes in_line ts left
unfolding cookies_line_at
cookies_stop n p ts left w e = elim (bind_err (syncookies_at ts) (λ x. chain (ended x.0) (λ s. chain (told (cookies_break s) n) (λ u. done (with_cookies s p))) x.1) (stop left w) e) [
  | inl h ↦ online_syncookies.stopped ts left w h
  | inr b ↦ elim (bind_err (ended b.0.0 b.0.1) (λ x. chain (told (cookies_break x.0) n) (λ u. done (with_cookies x.0 p)) x.1) (stop left w) b.2) [
    | inl h ↦ passes_then (online_syncookies.took ts b.0.0 b.0.1 b.1) (stay_there (ended_stops b.0.0 b.0.1 left w h))
    | inr d ↦ elim (bind_err (told (cookies_break d.0.0) n d.0.1) (λ x. done (with_cookies d.0.0 p) x.1) (stop left w) d.2) [
      | inl h ↦ absurd (told_stops (cookies_break d.0.0) n d.0.1 left w h)
      | inr f ↦ absurd (let h = f.2 in cc)
    ]
  ]
]

setting_stops : (p : Progress) (ts left : List Tok) (w : Why) → setting_line_at p ts ≡ Err (stop left w) → (after : Bool) × InBraces false ts after left
unfolding setting_line_at
setting_stops p ts left w e = elim (bind_err (settings_at p.draft ts) (λ x. ended (with_draft x.0 p) x.1) (stop left w) e) [
  | inl h ↦ (keeps_settings p.draft).stopped ts left w h
  | inr b ↦ (false, further ((keeps_settings p.draft).took ts b.0.0 b.0.1 b.1) (at_once (ended_stops (with_draft b.0.0 p) b.0.1 left w b.2)))
]

parts_stop : (p : Progress) (name : List ℕ) (ts left : List Tok) (w : Why) → chain parts_at (λ parts. ended (with_definition name parts p)) ts ≡ Err (stop left w) → (after : Bool) × InBraces false ts after left
parts_stop p name ts left w e = elim (bind_err (parts_at ts) (λ x. ended (with_definition name x.0 p) x.1) (stop left w) e) [
  | inl h ↦ keeps_parts.stopped ts left w h
  | inr b ↦ (false, further (keeps_parts.took ts b.0.0 b.0.1 b.1) (at_once (ended_stops (with_definition name b.0.0 p) b.0.1 left w b.2)))
]

table_stops : (p : Progress) (ts left : List Tok) (w : Why) → definition_at p ts ≡ Err (stop left w) → (after : Bool) × InBraces false ts after left
unfolding definition_at
table_stops p ts left w e = elim (bind_err (new_name_at p.draft ts) (λ x. chain parts_at (λ parts. ended (with_definition x.0 parts p)) x.1) (stop left w) e) [
  | inl h ↦ (keeps_table_name p.draft).stopped ts left w h
  | inr b ↦ let q = parts_stop p b.0.0 b.0.1 left w b.2 in (q.0, further ((keeps_table_name p.draft).took ts b.0.0 b.0.1 b.1) q.1)
]

-- ---- statements

-- the token in front is one of its line, and reading stops after it
behind_word : (k : Key) (ts left : List Tok) → (head ts).key ≡ k → in_line k ≡ true → Passes in_line (rest ts) left → Passes in_line ts left
behind_word k [] left g e h = absurd (let n : in_line key.End ≡ true = ap in_line g ∙ e in cc)
behind_word k (t ∷ ts) left g e h = over (ap in_line g ∙ e) h

in_braces : (k : Key) (ts left : List Tok) → (head ts).key ≡ k → has_braces k ≡ true → (after : Bool) × InBraces false (rest ts) after left → IsBegun ts left
in_braces k [] left g e h = absurd (let n : has_braces key.End ≡ true = ap has_braces g ∙ e in cc)
in_braces k (t ∷ ts) left g e h = with_braces (ap has_braces g ∙ e) h.1

begun_there : {ts left : List Tok} → ts ≡ left → IsBegun ts left
begun_there e = in_a_line (stay_there e)

set_stops : (n : ℕ) (p : Progress) (whole left : List Tok) (w : Why) → (head whole).key ≡ key.Set → set_at n p (rest whole) ≡ Err (stop left w) → IsBegun whole left
unfolding set_at
set_stops n p whole left w k e = by_key (head (rest whole)).key refl e
  where
    other : act (stay (setting_line_at p)) (rest whole) ≡ Err (stop left w) → IsBegun whole left
    other h = in_braces key.Set whole left k refl (setting_stops p (rest whole) left w h)

    by_key : (j : Key) → (head (rest whole)).key ≡ j → act (set_by n p j) (rest whole) ≡ Err (stop left w) → IsBegun whole left
    by_key key.Syncookies g h =
        in_a_line (behind_word key.Set whole left k refl (behind_word key.Syncookies (rest whole) left g refl (cookies_stop n p (rest (rest whole)) left w h)))
    by_key _ g h = other h

if_stops : {A : Type 0} (b : Bool) (x y : Act A) (ts left : List Tok) (w : Why) → (act x ts ≡ Err (stop left w) → IsBegun ts left) → (act y ts ≡ Err (stop left w) → IsBegun ts left) → act (cond b x y) ts ≡ Err (stop left w) → IsBegun ts left
if_stops true x y ts left w p q e = p e
if_stops false x y ts left w p q e = q e

refuse_stops : {A : Type 0} (v : Why) (ts left : List Tok) (w : Why) → act {A = A} (refuse v) ts ≡ Err (stop left w) → IsBegun ts left
refuse_stops v ts left w e = begun_there (refused_there v ts left w e)

statement_stops : (p : Progress) (ts left : List Tok) (w : Why) → statement_at p ts ≡ Err (stop left w) → IsBegun ts left
unfolding statement_at
statement_stops p ts left w e = by_key (head ts).key refl e
  where
    by_key : (k : Key) → (head ts).key ≡ k → act (statement_by p (head ts).line k) ts ≡ Err (stop left w) → IsBegun ts left
    by_key key.LineEnd g h = absurd cc
    by_key key.Set g h = if_stops (p.depth == 0) (take (set_at (head ts).line p)) (refuse why.Inner) ts left w (λ s. set_stops (head ts).line p ts left w g s) (λ s. refuse_stops {A = Progress} why.Inner ts left w s) h
    by_key key.Table g h = if_stops (p.depth == 0) (take (definition_at p)) (refuse why.Inner) ts left w (λ s. in_braces key.Table ts left g refl (table_stops p (rest ts) left w s)) (λ s. refuse_stops {A = Progress} why.Inner ts left w s) h
    by_key key.Pass g h = in_a_line (rule_stops (head ts).line p ts left w h)
    by_key key.Block g h = in_a_line (rule_stops (head ts).line p ts left w h)
    by_key key.Match g h = in_a_line (rule_stops (head ts).line p ts left w h)
    by_key key.Anchor g h = in_a_line (behind_word key.Anchor ts left g refl (anchor_stops (head ts).line p (rest ts) left w h))
    by_key key.CloseBrace g h = if_stops (p.depth == 0) (refuse why.Statement) (take (ended (anchor_closed p))) ts left w (λ s. refuse_stops {A = Progress} why.Statement ts left w s) (λ s. in_a_line (behind_word key.CloseBrace ts left g refl (stay_there (ended_stops (anchor_closed p) (rest ts) left w s)))) h
    by_key _ g h = refuse_stops {A = Progress} why.Statement ts left w h

-- ---- texts

-- statements are read, and then one is begun, up to where these are left
abbrev pub StopsBehind : List Tok → List Tok → Type 0
StopsBehind all left = (said : Progress) × (begun : List Tok) × Statements nothing all said begun × IsBegun begun left

turns_stop : {all : List Tok} (fuel : ℕ) (p : Progress) (ts left : List Tok) (w : Why) → Statements nothing all p ts → turns ends_text left_there statement_at fuel p ts ≡ Err (stop left w) → StopsBehind all left
unfolding turns
turns_stop zero p ts left w s e = (p, ts, s, begun_there (let h : ts ≡ left = cc in h))
turns_stop {all} (suc fuel) p ts left w s e = turn (λ q mid u h. turns_stop fuel q mid left w u h) (ends_text (head ts).key) e
  where
    turn : ((q : Progress) (mid : List Tok) → Statements nothing all q mid → turns ends_text left_there statement_at fuel q mid ≡ Err (stop left w) → StopsBehind all left)
        → (b : Bool) → act (cond b (left_there p) (stay (chain (statement_at p) (turns ends_text left_there statement_at fuel)))) ts ≡ Err (stop left w) → StopsBehind all left
    turn ih true h = absurd cc
    turn ih false h = elim (bind_err (statement_at p ts) (λ x. turns ends_text left_there statement_at fuel x.0 x.1) (stop left w) h) [
      | inl g ↦ (p, ts, s, statement_stops p ts left w g)
      | inr b ↦ ih b.0.0 b.0.1 (and_then s (statement_is p ts b.0.0 b.0.1 b.1)) b.2
    ]

statements_stop : (ts left : List Tok) (w : Why) → statements_at ts ≡ Err (stop left w) → StopsBehind ts left
unfolding statements_at
statements_stop ts left w e = turns_stop (suc (length ts)) nothing ts left w none e

steps_are : {p q : Progress} {ts left : List Tok} → UpTo key.End StatementOf p ts q left → Statements p ts q left
steps_are (stands e) = none
steps_are (steps s u) = before s (steps_are u)

if_open : (b : Bool) (ts left : List Tok) (w : Why) → act {A = Unit {0}} (cond b (stay (done tt)) (refuse why.Plain)) ts ≡ Err (stop left w) → ts ≡ left
if_open true ts left w h = absurd cc
if_open false ts left w h = cc

open_stops : (depth : ℕ) (ts left : List Tok) (w : Why) → all_closed depth ts ≡ Err (stop left w) → ts ≡ left
open_stops depth ts left w e = if_open (depth == 0) ts left w e

pub text_stops : (ts left : List Tok) (w : Why) → text_at ts ≡ Err (stop left w) → StopsBehind ts left
unfolding text_at
text_stops ts left w e = elim (bind_err (statements_at ts) (λ x. chain (all_closed x.0.depth) (λ u. chain (told_of (text_breaks x.0)) (λ v. done (conf_of_draft x.0.draft))) x.1) (stop left w) e) [
  | inl h ↦ statements_stop ts left w h
  | inr b ↦ elim (bind_err (all_closed b.0.0.depth b.0.1) (λ x. chain (told_of (text_breaks b.0.0)) (λ v. done (conf_of_draft b.0.0.draft)) x.1) (stop left w) b.2) [
    | inl h ↦ (b.0.0, b.0.1, steps_are (statements_are ts b.0.0 b.0.1 b.1), begun_there (open_stops b.0.0.depth b.0.1 left w h))
    | inr d ↦ elim (bind_err (told_of (text_breaks b.0.0) d.0.1) (λ x. done (conf_of_draft b.0.0.draft) x.1) (stop left w) d.2) [
      | inl h ↦ absurd (told_of_stops (text_breaks b.0.0) d.0.1 left w h)
      | inr f ↦ absurd (let h = f.2 in cc)
    ]
  ]
]

-- ---- kinds

-- the kind that is reported is one that may be reported at the token
pub kind_fits : (w : Why) (t : Tok) (next : Key) → IsKindAt t (kind_at w t next)
kind_fits w t next = by_again (is_again w)
  where
    by_foreign : (b : Bool) → is_foreign t ≡ b → (c : Bool) → IsKindAt t (cond (b || c) kind.Unsupported kind.Syntax)
    by_foreign true e c = unsupported
    by_foreign false e true = unsupported
    by_foreign false e false = syntax e

    by_number : (b c : Bool) → is_number_key t.key ≡ c → IsKindAt t (cond (b && c) kind.Number (cond (is_foreign t || is_left_out w t next) kind.Unsupported kind.Syntax))
    by_number true true e = number e
    by_number true false e = by_foreign (is_foreign t) refl (is_left_out w t next)
    by_number false c e = by_foreign (is_foreign t) refl (is_left_out w t next)

    by_again : (b : Bool) → IsKindAt t (cond b kind.Duplicate (cond (wants_number w && is_number_key t.key) kind.Number (cond (is_foreign t || is_left_out w t next) kind.Unsupported kind.Syntax)))
    by_again true = duplicate
    by_again false = by_number (wants_number w) (is_number_key t.key) refl
