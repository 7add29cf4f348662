-- Where reading reports that a load rule is broken, the text breaks it, and breaks none before.
use Rattle.std.proofs.Common.{◌≡◌, ℕ, zero, suc, ◌==◌, Bool, true, false, cond, List, length, Option, Some, None, Result, Ok, Err, refl, ap, subst, ◌∙◌, inl, inr}
use Rattle.std.proofs.lemmas.Bool.{eqb-true}
use Rattle.pfs_conf_tokens.specs.Tokens.{Tok, head}
use Rattle.pfs_conf_tokens.specs.Reading.{rest, ends_text, Refused, stop, broken, Act, take, stay, refuse, act, on_front, done, chain, perhaps, turns, left_there, until_all, ended, once}
use Rattle.pfs_conf_tokens.specs.declared.keys.Key.{Key}
use Rattle.pfs_conf_tokens.specs.declared.keys.Key.TheVariants as key
use Rattle.pfs_conf_tokens.specs.declared.refusals.LoadRule.{LoadRule}
use Rattle.pfs_conf_tokens.specs.declared.refusals.Why.TheVariants as why
use Rattle.pfs_conf_tokens.specs.Keys.{ends_line, is_word_key}
use Rattle.pfs_conf_tokens.specs.Grammar.{Word}
use Rattle.pfs_conf_tokens.proofs.Laws.{bind_err}
use Rattle.pfs_conf_tokens.proofs.ReaderLaws.{word_is, ended_is}
use Rattle.pfs_addr_values.specs.Names.{name_of}
use Rattle.pfs_conf_settings.specs.Drafts.{Drafted, conf_of_draft, is_defined}
use Rattle.pfs_conf_values.specs.Siblings.{has_sibling}
use Rattle.pfs_conf_values.specs.declared.filters.FlagTest.{FlagTest}
use Rattle.pfs_conf_filters.specs.Reading.{verb_at, parameters_at, flags_at, begins_flags, extra_at, translation_at}
use Rattle.pfs_conf_filters.specs.declared.phrases.Parameters.{Parameters}
use Rattle.pfs_conf_filters.specs.declared.phrases.Statement.TheVariants as statement
use Rattle.pfs_conf_filters.specs.declared.phrases.Verb.{Verb}
use Rattle.pfs_conf_options.specs.Reading.{state_at}
use Rattle.pfs_conf_settings.specs.Settings.{settings_at}
use Rattle.pfs_conf_settings.specs.Tables.{parts_at}
use Rattle.pfs_conf_settings.specs.SyncookieGrammar.{SyncookiesOf}
use Rattle.pfs_conf_settings.specs.Syncookies.{syncookies_at}
use Rattle.pfs_conf_settings.proofs.SyncookiePhrases.{syncookies_is}
use Rattle.pfs_conf_values.specs.declared.syncookies.Syncookies.{Syncookies}
use Rattle.pfs_conf.specs.declared.phrases.Clauses.{Clauses}
use Rattle.pfs_conf.specs.declared.phrases.RuleText.{RuleText}
use Rattle.pfs_conf.specs.declared.phrases.AnchorText.{AnchorText}
use Rattle.pfs_conf.specs.declared.progress.Progress.{Progress}
use Rattle.pfs_conf.specs.Grammar.{names_anchor, RuleOf, AnchorOf, StatementOf, CookiesOf}
use Rattle.pfs_conf.specs.Faults.{Statements, none, before, Breaks, at_rule, at_anchor, at_end, at_cookies}
use Rattle.pfs_conf.specs.Statements.{nothing, no_clauses, with_rule, with_anchor, with_definition, rule_breaks, anchor_breaks, text_breaks, with_cookies, cookies_break}
use Rattle.pfs_conf.specs.Reading.{with_draft, anchor_closed, told, clause_by, clause_at, rule_text_at, rule_line_at, anchor_named, anchor_name_by, anchor_name_at, brace_by, brace_at, anchor_parts_at, in_head, anchor_text_at, anchor_at, set_at, open_by, angle_by, new_table_named, new_name_by, new_name_at, definition_at, statement_by, statement_at, all_closed, told_of, statements_at, text_at, cookies_line_at, setting_line_at, set_by, state_act, extra_act, translation_act}
use Rattle.pfs_conf.proofs.OnlineLaws.{ruled, anchored}
use Rattle.pfs_conf.proofs.PhraseLaws.{rule_text_is, anchor_text_is, statement_is, statements_are, closed_ok}
use Rattle.pfs_conf.proofs.UnbrokenLaws.{Unbroken, UnbrokenAct, refused_unbroken, unbroken_done, unbroken_chain, unbroken_front, unbroken_if, unbroken_once, unbroken_perhaps, unbroken_until, unbroken_ended}
use Rattle.pfs_conf.proofs.UnbrokenPhrases.{unbroken_verb, unbroken_parameters, unbroken_flags, unbroken_state, unbroken_settings, unbroken_parts, unbroken_syncookies, unbroken_extra, unbroken_translation}
use Rattle.pfs_conf_filters.specs.Grammar.{may_translate, statement_of, takes_state}

-- ---- statements as they are written check no load rule

extra_acts : (c : Clauses) → UnbrokenAct (extra_act c)
extra_acts c = unbroken_chain (extra_at c.extras) (λ e. done (record c { extras = e })) (unbroken_extra c.extras) (λ e. unbroken_done (record c { extras = e }))

translation_acts : (v : Verb) (c : Clauses) → UnbrokenAct (translation_act v c)
translation_acts v c = unbroken_if (may_translate v) (stay (chain (translation_at c.translation) (λ t. done (record c { translation = t })))) (refuse why.Plain)
    (unbroken_chain (translation_at c.translation) (λ t. done (record c { translation = t })) (unbroken_translation c.translation) (λ t. unbroken_done (record c { translation = t })))
    tt

state_acts : (v : Verb) (c : Clauses) → UnbrokenAct (state_act v c)
state_acts v c = unbroken_if (takes_state v) (once c.state (stay (chain state_at (λ s. done (record c { state = Some s }))))) (refuse why.Plain)
    (unbroken_once c.state (stay (chain state_at (λ s. done (record c { state = Some s })))) (unbroken_chain state_at (λ s. done (record c { state = Some s })) unbroken_state (λ s. unbroken_done (record c { state = Some s }))))
    tt

clause_acts : (v : Verb) (p : Parameters) (c : Clauses) (k : Key) → UnbrokenAct (clause_by v p c k)
clause_acts v p c key.Flags = unbroken_once c.flags _ (unbroken_chain flags_at _ unbroken_flags (λ f. unbroken_done (record c { flags = Some f })))
clause_acts v p c key.Tag = extra_acts c
clause_acts v p c key.Tagged = extra_acts c
clause_acts v p c key.ReceivedOn = extra_acts c
clause_acts v p c key.Not = extra_acts c
clause_acts v p c key.NatTo = translation_acts v c
clause_acts v p c key.RdrTo = translation_acts v c
clause_acts v p c key.No = state_acts v c
clause_acts v p c key.Keep = state_acts v c
clause_acts v p c key.Synproxy = state_acts v c
clause_acts v p c _ = tt

unbroken_clause : (v : Verb) (p : Parameters) (c : Clauses) → Unbroken (clause_at v p c)
unfolding clause_at
unbroken_clause v p c = unbroken_front (λ t. clause_by v p c t.key) (λ t. clause_acts v p c t.key)

unbroken_rule_text : Unbroken rule_text_at
unfolding rule_text_at
unbroken_rule_text = unbroken_chain verb_at (λ v. chain (parameters_at (statement_of v)) (λ p. chain (until_all ends_line (clause_at v p) no_clauses) (λ c. done (ruled v p c)))) unbroken_verb
    (λ v. unbroken_chain (parameters_at (statement_of v)) (λ p. chain (until_all ends_line (clause_at v p) no_clauses) (λ c. done (ruled v p c))) (unbroken_parameters (statement_of v))
    (λ p. unbroken_chain (until_all ends_line (clause_at v p) no_clauses) (λ c. done (ruled v p c)) (unbroken_until ends_line (clause_at v p) (unbroken_clause v p) no_clauses) (λ c. unbroken_done (ruled v p c))))

named_acts : (p : Progress) (o : Option (List ℕ)) → UnbrokenAct (anchor_named p o)
named_acts p None = tt
named_acts p (Some name) = unbroken_if (has_sibling p.depth name p.draft.items) (refuse why.Again) (take (done (Some name))) tt (unbroken_done (Some name))

unbroken_anchor_name : (p : Progress) → Unbroken (anchor_name_at p)
unfolding anchor_name_at
unbroken_anchor_name p = unbroken_front (λ t. anchor_name_by p t) (λ t. unbroken_if (names_anchor t.key) (anchor_named p (name_of 63 t.text)) (stay (done None)) (named_acts p (name_of 63 t.text)) (unbroken_done None))

brace_acts : (p : Parameters) (f : Option FlagTest) (k : Key) → UnbrokenAct (brace_by p f k)
brace_acts p f key.OpenBrace = unbroken_done tt
brace_acts p f _ = tt

unbroken_brace : (p : Parameters) (f : Option FlagTest) → Unbroken (brace_at p f)
unfolding brace_at
unbroken_brace p f = unbroken_front (λ t. brace_by p f t.key) (λ t. brace_acts p f t.key)

unbroken_anchor_parts : (p : Progress) → Unbroken (anchor_parts_at p)
unfolding anchor_parts_at
unbroken_anchor_parts p = unbroken_chain (anchor_name_at p) (λ n. chain (parameters_at statement.Anchor) (λ q. chain (perhaps begins_flags flags_at) (λ f. chain (brace_at q f) (λ u. done (anchored n q f))))) (unbroken_anchor_name p)
    (λ n. unbroken_chain (parameters_at statement.Anchor) (λ q. chain (perhaps begins_flags flags_at) (λ f. chain (brace_at q f) (λ u. done (anchored n q f)))) (unbroken_parameters statement.Anchor)
    (λ q. unbroken_chain (perhaps begins_flags flags_at) (λ f. chain (brace_at q f) (λ u. done (anchored n q f))) (unbroken_perhaps begins_flags flags_at unbroken_flags)
    (λ f. unbroken_chain (brace_at q f) (λ u. done (anchored n q f)) (unbroken_brace q f) (λ u. unbroken_done (anchored n q f)))))

in_head_broken : {A : Type 0} (r : Result (A × List Tok) Refused) (b : LoadRule) (n : ℕ) → in_head r ≡ Err (broken b n) → r ≡ Err (broken b n)
in_head_broken (Ok x) b n e = absurd cc
in_head_broken (Err (stop ts w)) b n e = absurd cc
in_head_broken (Err (broken c m)) b n e = e

unbroken_anchor_text : (p : Progress) → Unbroken (anchor_text_at p)
unfolding anchor_text_at
unbroken_anchor_text p = record { never = λ ts b n e. (unbroken_anchor_parts p).never ts b n (in_head_broken (anchor_parts_at p ts) b n e) }

unbroken_setting : (p : Progress) → Unbroken (setting_line_at p)
unfolding setting_line_at
unbroken_setting p = unbroken_chain (settings_at p.draft) (λ d. ended (with_draft d p)) (unbroken_settings p.draft) (λ d. unbroken_ended (with_draft d p))

open_acts : (k : Key) → UnbrokenAct (open_by k)
open_acts key.OpenAngle = unbroken_done tt
open_acts _ = tt

close_acts : (k : Key) → UnbrokenAct (angle_by k)
close_acts key.CloseAngle = unbroken_done tt
close_acts _ = tt

table_acts : (d : Drafted) (o : Option (List ℕ)) → UnbrokenAct (new_table_named d o)
table_acts d None = tt
table_acts d (Some name) = unbroken_if (is_defined name d) (refuse why.Again) (take (done name)) tt (unbroken_done name)

unbroken_table_name : (d : Drafted) → Unbroken (new_name_at d)
unfolding new_name_at
unbroken_table_name d = unbroken_chain (on_front (λ t. open_by t.key)) (λ u. chain (on_front (λ t. new_name_by d t)) (λ n. chain (on_front (λ t. angle_by t.key)) (λ v. done n)))
    (unbroken_front (λ t. open_by t.key) (λ t. open_acts t.key))
    (λ u. unbroken_chain (on_front (λ t. new_name_by d t)) (λ n. chain (on_front (λ t. angle_by t.key)) (λ v. done n))
    (unbroken_front (λ t. new_name_by d t) (λ t. unbroken_if (is_word_key t.key) (new_table_named d (name_of 31 t.text)) (refuse why.Plain) (table_acts d (name_of 31 t.text)) tt))
    (λ n. unbroken_chain (on_front (λ t. angle_by t.key)) (λ v. done n) (unbroken_front (λ t. angle_by t.key) (λ t. close_acts t.key)) (λ v. unbroken_done n)))

unbroken_table : (p : Progress) → Unbroken (definition_at p)
unfolding definition_at
unbroken_table p = unbroken_chain (new_name_at p.draft) (λ n. chain parts_at (λ parts. ended (with_definition n parts p))) (unbroken_table_name p.draft)
    (λ n. unbroken_chain parts_at (λ parts. ended (with_definition n parts p)) unbroken_parts (λ parts. unbroken_ended (with_definition n parts p)))

-- ---- the statement that breaks a rule

told_broken : (b : Option LoadRule) (line : ℕ) (ts : List Tok) (c : LoadRule) (n : ℕ) → told b line ts ≡ Err (broken c n) → (b ≡ Some c) × (line ≡ n)
told_broken None line ts c n e = absurd cc
told_broken (Some x) line ts c n e = (let p : x ≡ c = cc in ap (λ (z : LoadRule). Some z) p, let q : line ≡ n = cc in q)

told_of_broken : (b : Option (LoadRule × ℕ)) (ts : List Tok) (c : LoadRule) (n : ℕ) → told_of b ts ≡ Err (broken c n) → b ≡ Some (c, n)
told_of_broken None ts c n e = absurd cc
told_of_broken (Some x) ts c n e =
    let p : x.0 ≡ c = cc in
    let q : x.1 ≡ n = cc in
    ap (λ (z : LoadRule). Some (z, x.1)) p ∙ ap (λ (z : ℕ). Some (c, z)) q

rule_breaks_is : (line : ℕ) (p : Progress) (ts : List Tok) (c : LoadRule) (n : ℕ) → rule_line_at line p ts ≡ Err (broken c n)
    → (r : RuleText) × (left : List Tok) × RuleOf ts r left × (rule_breaks p.draft r ≡ Some c) × (line ≡ n)
unfolding rule_line_at
rule_breaks_is line p ts c n e = elim (bind_err (rule_text_at ts) (λ x. chain (told (rule_breaks p.draft x.0) line) (λ u. done (with_rule line x.0 p)) x.1) (broken c n) e) [
  | inl h ↦ absurd (unbroken_rule_text.never ts c n h)
  | inr b ↦ elim (bind_err (told (rule_breaks p.draft b.0.0) line b.0.1) (λ x. done (with_rule line b.0.0 p) x.1) (broken c n) b.2) [
    | inl h ↦ let t = told_broken (rule_breaks p.draft b.0.0) line b.0.1 c n h in (b.0.0, b.0.1, rule_text_is ts b.0.0 b.0.1 b.1, t.0, t.1)
    | inr d ↦ absurd ((unbroken_done (with_rule line b.0.0 p)).never d.0.1 c n d.2)
  ]
]

anchor_breaks_is : (line : ℕ) (p : Progress) (whole ts : List Tok) → Word key.Anchor whole ts → (c : LoadRule) (n : ℕ) → anchor_at line p ts ≡ Err (broken c n)
    → (a : AnchorText) × (left : List Tok) × AnchorOf p whole a left × (anchor_breaks p.depth p.draft a ≡ Some c) × (line ≡ n)
unfolding anchor_at
anchor_breaks_is line p whole ts w c n e = elim (bind_err (anchor_text_at p ts) (λ x. chain (told (anchor_breaks p.depth p.draft x.0) line) (λ u. ended (with_anchor line x.0 p)) x.1) (broken c n) e) [
  | inl h ↦ absurd ((unbroken_anchor_text p).never ts c n h)
  | inr b ↦ elim (bind_err (told (anchor_breaks p.depth p.draft b.0.0) line b.0.1) (λ x. ended (with_anchor line b.0.0 p) x.1) (broken c n) b.2) [
    | inl h ↦ let t = told_broken (anchor_breaks p.depth p.draft b.0.0) line b.0.1 c n h in (b.0.0, b.0.1, anchor_text_is p whole ts w b.0.0 b.0.1 b.1, t.0, t.1)
    | inr d ↦ absurd ((unbroken_ended (with_anchor line b.0.0 p)).never d.0.1 c n d.2)
  ]
]

-- a set statement that breaks one is `set syncookies`
abbrev Cookied : List Tok → LoadRule → Type 0
Cookied whole c = (s : Syncookies) × (left : List Tok) × CookiesOf whole s left × (cookies_break s ≡ Some c)

cookies_are_broken : (line : ℕ) (p : Progress) (whole : List Tok) → Word key.Set whole (rest whole) → Word key.Syncookies (rest whole) (rest (rest whole)) → (c : LoadRule) (n : ℕ)
    → cookies_line_at line p (rest (rest whole)) ≡ Err (broken c n) → Cookied whole c × (line ≡ n)
unfolding cookies_line_at
cookies_are_broken line p whole w v c n e =
    let ts = rest (rest whole) in
    elim (bind_err (syncookies_at ts) (λ x. chain (ended x.0) (λ s. chain (told (cookies_break s) line) (λ u. done (with_cookies s p))) x.1) (broken c n) e) [
      | inl h ↦ absurd (unbroken_syncookies.never ts c n h)
      | inr b ↦ elim (bind_err (ended b.0.0 b.0.1) (λ x. chain (told (cookies_break x.0) line) (λ u. done (with_cookies x.0 p)) x.1) (broken c n) b.2) [
        | inl h ↦ absurd ((unbroken_ended b.0.0).never b.0.1 c n h)
        | inr d ↦ elim (bind_err (told (cookies_break d.0.0) line d.0.1) (λ x. done (with_cookies d.0.0 p) x.1) (broken c n) d.2) [
          | inl h ↦
              let t = told_broken (cookies_break d.0.0) line d.0.1 c n h in
              let l = ended_is b.0.0 b.0.1 d.0.0 d.0.1 d.1 in
              let said = subst (λ (z : Syncookies). SyncookiesOf ts z b.0.1) l.0 (syncookies_is ts b.0.0 b.0.1 b.1) in
              ((d.0.0, d.0.1, record { a = rest whole; b = ts; c = b.0.1; set = w; word = v; cookies = said; ended = l.1 }, t.0), t.1)
          | inr f ↦ absurd ((unbroken_done (with_cookies d.0.0 p)).never f.0.1 c n f.2)
        ]
      ]
    ]

set_breaks : (line : ℕ) (p : Progress) (whole : List Tok) → Word key.Set whole (rest whole) → (c : LoadRule) (n : ℕ) → set_at line p (rest whole) ≡ Err (broken c n) → Cookied whole c × (line ≡ n)
unfolding set_at
set_breaks line p whole w c n e = by_key (head (rest whole)).key refl e
  where
    other : act (stay (setting_line_at p)) (rest whole) ≡ Err (broken c n) → ⊥
    other h = (unbroken_setting p).never (rest whole) c n h

    by_key : (k : Key) → (head (rest whole)).key ≡ k → act (set_by line p k) (rest whole) ≡ Err (broken c n) → Cookied whole c × (line ≡ n)
    by_key key.Syncookies g h = cookies_are_broken line p whole w (word_is key.Syncookies (rest whole) g (λ r. cc)) c n h
    by_key _ g h = absurd (other h)

if_never : {A : Type 0} (b : Bool) (x y : Act A) → UnbrokenAct x → UnbrokenAct y → (ts : List Tok) (c : LoadRule) (n : ℕ) → act (cond b x y) ts ≡ Err (broken c n) → ⊥
if_never b x y p q ts c n e = (unbroken_front (λ t. cond b x y) (λ t. unbroken_if b x y p q)).never ts c n e

statement_breaks : {all : List Tok} (p : Progress) (ts : List Tok) (c : LoadRule) (n : ℕ) → Statements nothing all p ts → statement_at p ts ≡ Err (broken c n) → Breaks all c n
unfolding statement_at
statement_breaks {all = all} p ts c n s e = by_key (head ts).key refl e
  where
    set_case : (head ts).key ≡ key.Set → (b : Bool) → (p.depth == 0) ≡ b → act (cond b (take (set_at (head ts).line p)) (refuse why.Inner)) ts ≡ Err (broken c n) → Breaks all c n
    set_case k true g h =
        let r = set_breaks (head ts).line p ts (word_is key.Set ts k (λ q. cc)) c n h in
        subst (λ (z : ℕ). Breaks all c z) r.1 (at_cookies r.0.0 s (eqb-true p.depth 0 g) r.0.2 r.0.3)
    set_case k false g h = absurd (refused_unbroken {A = Progress} why.Inner ts c n h)

    by_key : (k : Key) → (head ts).key ≡ k → act (statement_by p (head ts).line k) ts ≡ Err (broken c n) → Breaks all c n
    by_key key.LineEnd g h = absurd ((unbroken_done p).never (rest ts) c n h)
    by_key key.Set g h = set_case g (p.depth == 0) refl h
    by_key key.Table g h = absurd (if_never (p.depth == 0) (take (definition_at p)) (refuse why.Inner) (unbroken_table p) tt ts c n h)
    by_key key.Pass g h = let r = rule_breaks_is (head ts).line p ts c n h in subst (λ (z : ℕ). Breaks all c z) r.4 (at_rule r.0 s r.2 r.3)
    by_key key.Block g h = let r = rule_breaks_is (head ts).line p ts c n h in subst (λ (z : ℕ). Breaks all c z) r.4 (at_rule r.0 s r.2 r.3)
    by_key key.Match g h = let r = rule_breaks_is (head ts).line p ts c n h in subst (λ (z : ℕ). Breaks all c z) r.4 (at_rule r.0 s r.2 r.3)
    by_key key.Anchor g h = let a = anchor_breaks_is (head ts).line p ts (rest ts) (word_is key.Anchor ts g (λ q. cc)) c n h in subst (λ (z : ℕ). Breaks all c z) a.4 (at_anchor a.0 s a.2 a.3)
    by_key key.CloseBrace g h = absurd (if_never (p.depth == 0) (refuse why.Statement) (take (ended (anchor_closed p))) tt (unbroken_ended (anchor_closed p)) ts c n h)
    by_key _ g h = absurd (refused_unbroken {A = Progress} why.Statement ts c n h)

-- ---- the text

-- one statement more
pub and_then : {p q r : Progress} {ts mid left : List Tok} → Statements p ts q mid → StatementOf q mid r left → Statements p ts r left
and_then none s = before s none
and_then (before x u) s = before x (and_then u s)

turns_break : {all : List Tok} (fuel : ℕ) (p : Progress) (ts : List Tok) (c : LoadRule) (n : ℕ) → Statements nothing all p ts → turns ends_text left_there statement_at fuel p ts ≡ Err (broken c n) → Breaks all c n
unfolding turns
turns_break zero p ts c n s e = absurd cc
turns_break {all} (suc fuel) p ts c n s e = turn (λ q mid u h. turns_break fuel q mid c n u h) (ends_text (head ts).key) e
  where
    turn : ((q : Progress) (mid : List Tok) → Statements nothing all q mid → turns ends_text left_there statement_at fuel q mid ≡ Err (broken c n) → Breaks all c n)
        → (b : Bool) → act (cond b (left_there p) (stay (chain (statement_at p) (turns ends_text left_there statement_at fuel)))) ts ≡ Err (broken c n) → Breaks all c n
    turn ih true h = absurd ((unbroken_done p).never ts c n h)
    turn ih false h = elim (bind_err (statement_at p ts) (λ x. turns ends_text left_there statement_at fuel x.0 x.1) (broken c n) h) [
      | inl g ↦ statement_breaks p ts c n s g
      | inr b ↦ ih b.0.0 b.0.1 (and_then s (statement_is p ts b.0.0 b.0.1 b.1)) b.2
    ]

statements_break : (ts : List Tok) (c : LoadRule) (n : ℕ) → statements_at ts ≡ Err (broken c n) → Breaks ts c n
unfolding statements_at
statements_break ts c n e = turns_break (suc (length ts)) nothing ts c n none e

unbroken_all_closed : (depth : ℕ) → Unbroken (all_closed depth)
unbroken_all_closed depth = unbroken_front (λ t. cond (depth == 0) (stay (done tt)) (refuse why.Plain)) (λ t. unbroken_if (depth == 0) (stay (done tt)) (refuse why.Plain) (unbroken_done tt) tt)

pub text_breaks_is : {ts : List Tok} {c : LoadRule} {n : ℕ} → text_at ts ≡ Err (broken c n) → Breaks ts c n
unfolding text_at
text_breaks_is {ts} {c} {n} e = elim (bind_err (statements_at ts) (λ x. chain (all_closed x.0.depth) (λ u. chain (told_of (text_breaks x.0)) (λ v. done (conf_of_draft x.0.draft))) x.1) (broken c n) e) [
  | inl h ↦ statements_break ts c n h
  | inr b ↦ elim (bind_err (all_closed b.0.0.depth b.0.1) (λ x. chain (told_of (text_breaks b.0.0)) (λ v. done (conf_of_draft b.0.0.draft)) x.1) (broken c n) b.2) [
    | inl h ↦ absurd ((unbroken_all_closed b.0.0.depth).never b.0.1 c n h)
    | inr d ↦ elim (bind_err (told_of (text_breaks b.0.0) d.0.1) (λ x. done (conf_of_draft b.0.0.draft) x.1) (broken c n) d.2) [
      | inl h ↦ at_end (statements_are ts b.0.0 b.0.1 b.1) (closed_ok b.0.0.depth b.0.1 d.0.0 d.0.1 d.1).0 (told_of_broken (text_breaks b.0.0) d.0.1 c n h)
      | inr f ↦ absurd ((unbroken_done (conf_of_draft b.0.0.draft)).never f.0.1 c n f.2)
    ]
  ]
]
