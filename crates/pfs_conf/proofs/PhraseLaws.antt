-- What is read of a statement is one of the grammar.
use Rattle.std.proofs.Common.{◌≡◌, ℕ, ◌≤◌, ◌==◌, Bool, true, false, cond, List, [], ◌∷◌, Option, Some, None, IfSome, IfOk, Result, Ok, Err, refl, sym, ap, subst, ◌∙◌, arith, codes}
use Rattle.std.proofs.lemmas.Bool.{eqb-true, eqb-false}
use borrow.Author.Tests.{clash}
use Rattle.pfs_conf_tokens.specs.Tokens.{Tok, token, head}
use Rattle.pfs_conf_tokens.specs.Reading.{rest, ends_text, Refused, take, stay, refuse, act, on_front, done, chain, perhaps, once, until_all, ended}
use Rattle.pfs_conf_tokens.specs.declared.keys.Key.{Key}
use Rattle.pfs_conf_tokens.specs.declared.keys.Key.TheVariants as key
use Rattle.pfs_conf_tokens.specs.declared.refusals.LoadRule.{LoadRule}
use Rattle.pfs_conf_tokens.specs.declared.refusals.Refusal.{Refusal}
use Rattle.pfs_conf_tokens.specs.declared.refusals.Why.TheVariants as why
use Rattle.pfs_conf_tokens.specs.Keys.{ends_line, is_word_key}
use Rattle.pfs_conf_tokens.specs.Grammar.{Word, Perhaps, absent, present, Until, ends, goes, UpTo, Passes}
use Rattle.pfs_conf_tokens.specs.TokenResults.{Gives}
use Rattle.pfs_conf_tokens.proofs.Laws.{chain_ok, ok_parts, not_refused, taking, inside}
use Rattle.pfs_conf_tokens.proofs.ReaderLaws.{line_end_key, ends_text_key, word_is, ended_is, perhaps_is, until_is, up_to_is}
use Rattle.pfs_conf_tokens.proofs.WordKeys.{key_of_Anchor}
use Rattle.pfs_addr_values.specs.Names.{is_name, name_of}
use Rattle.pfs_conf_values.specs.Configs.{Conf}
use Rattle.pfs_conf_settings.specs.Drafts.{Drafted, conf_of_draft, is_defined}
use Rattle.pfs_conf_values.specs.LoadRules.{IsFlagTest}
use Rattle.pfs_conf_values.specs.Siblings.{has_sibling}
use Rattle.pfs_conf_values.specs.Order.{repeats_by}
use Rattle.pfs_conf_values.specs.declared.filters.FlagTest.{FlagTest}
use Rattle.pfs_conf_filters.specs.Grammar.{FlagsOf, may_translate, statement_of, takes_state}
use Rattle.pfs_conf_filters.specs.Reading.{verb_at, parameters_at, flags_at, begins_flags, extra_at, translation_at}
use Rattle.pfs_conf_filters.specs.declared.phrases.Parameters.{Parameters}
use Rattle.pfs_conf_filters.specs.declared.phrases.Statement.TheVariants as statement
use Rattle.pfs_conf_filters.specs.declared.phrases.Verb.{Verb}
use Rattle.pfs_conf_filters.proofs.PhraseLaws.{verb_is, parameters_are, flags_are, extra_is, translation_is}
use Rattle.pfs_conf_options.specs.Grammar.{no}
use Rattle.pfs_conf_options.specs.Options.{none_given}
use Rattle.pfs_conf_options.specs.Bounds.{AreRead}
use Rattle.pfs_conf_options.specs.Reading.{state_at}
use Rattle.pfs_conf_options.specs.declared.clauses.StateClause.{StateClause}
use Rattle.pfs_conf_options.proofs.PhraseLaws.{state_is}
use Rattle.pfs_conf_options.proofs.ReadLaws.{state_within}
use Rattle.pfs_conf_settings.specs.SettingGrammar.{SettingOf}
use Rattle.pfs_conf_settings.specs.Settings.{settings_at}
use Rattle.pfs_conf_settings.specs.TableGrammar.{PartsOf}
use Rattle.pfs_conf_settings.specs.Tables.{parts_at}
use Rattle.pfs_conf_settings.specs.declared.tables.Parts.{Parts}
use Rattle.pfs_conf_settings.proofs.SettingPhrases.{settings_are}
use Rattle.pfs_conf_settings.proofs.TablePhrases.{parts_are}
use Rattle.pfs_conf_settings.specs.SyncookieGrammar.{SyncookiesOf}
use Rattle.pfs_conf_settings.specs.Syncookies.{syncookies_at}
use Rattle.pfs_conf_settings.proofs.SyncookiePhrases.{syncookies_is}
use Rattle.pfs_conf_values.specs.declared.syncookies.Syncookies.{Syncookies}
use Rattle.pfs_conf.specs.declared.phrases.Clauses.{Clauses}
use Rattle.pfs_conf.specs.declared.phrases.RuleText.{RuleText}
use Rattle.pfs_conf.specs.declared.phrases.AnchorText.{AnchorText}
use Rattle.pfs_conf.specs.declared.progress.Progress.{Progress}
use Rattle.pfs_conf.specs.Grammar.{ClauseOf, flags, state, RuleOf, names_anchor, AnchorNameOf, unnamed, named, AnchorOf, NewTableOf, StatementOf, blank, set, table, rule, anchor, close, TextOf, cookies, extra, translation}
use Rattle.pfs_conf.specs.Statements.{nothing, no_clauses, state_options, with_rule, with_anchor, with_definition, rule_breaks, anchor_breaks, text_breaks, with_cookies, cookies_break}
use Rattle.pfs_conf.specs.Reading.{with_draft, anchor_closed, told, clause_by, clause_at, rule_text_at, rule_line_at, anchor_named, anchor_name_at, brace_by, brace_at, anchor_parts_at, anchor_text_at, anchor_at, set_at, open_by, angle_by, new_table_named, new_name_by, new_name_at, definition_at, statement_by, statement_at, all_closed, told_of, statements_at, text_at, cookies_line_at, setting_line_at, set_by, extra_act}
use Rattle.pfs_conf.specs.PhraseBounds.{AreLexed, more, IsRuleText, IsAnchorText, AreExtras}
use Rattle.pfs_conf_values.specs.LoadRules.{IsTranslation}
use Rattle.pfs_conf_values.specs.Translations.{translates_by}
use Rattle.pfs_conf.proofs.WithinLaws.{word_lexed, name_is, flags_within, parameters_within, extra_within, translation_within, marks_within, passes_lexed}
use Rattle.pfs_conf.proofs.OnlineLaws.{ruled, anchored, in_head_ok, online_clause}
use Rattle.pfs_conf_filters.proofs.OnlineLaws.{online_verb, online_parameters}

-- the same phrase, where the value and the tokens left are written otherwise
moved : {A : Type 0} (P : List Tok → A → List Tok → Type 0) (ts : List Tok) {x y : A} {l m : List Tok} → (x ≡ y) × (l ≡ m) → P ts x l → P ts y m
moved {A} P ts {x} {y} {l} {m} p h = subst (λ (z : A). P ts z m) p.0 (subst (λ (z : List Tok). P ts x z) p.1 h)

-- what was read, with the tokens left written otherwise
leaving : {A : Type 0} {r : Result (A × List Tok) Refused} {x : A} {l m : List Tok} → r ≡ Ok (x, l) → l ≡ m → r ≡ Ok (x, m)
leaving {x = x} e p = e ∙ ap (λ (z : List Tok). Ok (x, z)) p

-- ---- rules

flags_clause_is : (v : Verb) (c : Clauses) (m : Option FlagTest) → c.flags ≡ m → (ts : List Tok) (d : Clauses) (left : List Tok)
    → act (once m (stay (chain flags_at (λ f. done (record c { flags = Some f }))))) ts ≡ Ok (d, left) → ClauseOf v c ts d left
flags_clause_is v c None g ts d left h =
    let k = chain_ok flags_at (λ f. done (record c { flags = Some f })) ts d left h in
    moved (λ (us : List Tok) (x : Clauses) (l : List Tok). ClauseOf v c us x l) ts (ok_parts (record c { flags = Some k.0 }) d k.1 left k.3) (flags g (flags_are ts k.0 k.1 k.2))
flags_clause_is v c (Some x) g ts d left h = absurd cc

extra_clause_is : (v : Verb) (c : Clauses) (ts : List Tok) (d : Clauses) (left : List Tok) → act (extra_act c) ts ≡ Ok (d, left) → ClauseOf v c ts d left
extra_clause_is v c ts d left h =
    let k = chain_ok (extra_at c.extras) (λ e. done (record c { extras = e })) ts d left h in
    moved (λ (us : List Tok) (x : Clauses) (l : List Tok). ClauseOf v c us x l) ts (ok_parts (record c { extras = k.0 }) d k.1 left k.3) (extra (extra_is c.extras ts k.0 k.1 k.2))

translation_clause_is : (v : Verb) (c : Clauses) (b : Bool) → may_translate v ≡ b → (ts : List Tok) (d : Clauses) (left : List Tok)
    → act (cond b (stay (chain (translation_at c.translation) (λ t. done (record c { translation = t })))) (refuse why.Plain)) ts ≡ Ok (d, left) → ClauseOf v c ts d left
translation_clause_is v c false m ts d left h = absurd (not_refused _ _ _ h)
translation_clause_is v c true m ts d left h =
    let k = chain_ok (translation_at c.translation) (λ t. done (record c { translation = t })) ts d left h in
    moved (λ (us : List Tok) (x : Clauses) (l : List Tok). ClauseOf v c us x l) ts (ok_parts (record c { translation = k.0 }) d k.1 left k.3) (translation m (translation_is c.translation ts k.0 k.1 k.2))

state_clause_is : (v : Verb) (c : Clauses) (b : Bool) → takes_state v ≡ b → (m : Option StateClause) → c.state ≡ m → (ts : List Tok) (d : Clauses) (left : List Tok)
    → act (cond b (once m (stay (chain state_at (λ s. done (record c { state = Some s }))))) (refuse why.Plain)) ts ≡ Ok (d, left) → ClauseOf v c ts d left
state_clause_is v c false t m g ts d left h = absurd (not_refused _ _ _ h)
state_clause_is v c true t None g ts d left h =
    let k = chain_ok state_at (λ s. done (record c { state = Some s })) ts d left h in
    moved (λ (us : List Tok) (x : Clauses) (l : List Tok). ClauseOf v c us x l) ts (ok_parts (record c { state = Some k.0 }) d k.1 left k.3) (state t g (state_is ts k.0 k.1 k.2))
state_clause_is v c true t (Some x) g ts d left h = absurd cc

clause_is : (v : Verb) (p : Parameters) (c : Clauses) (ts : List Tok) (d : Clauses) (left : List Tok) → clause_at v p c ts ≡ Ok (d, left) → ClauseOf v c ts d left
unfolding clause_at
clause_is v p c ts d left e = by_key (head ts).key e
  where
    by_key : (k : Key) → act (clause_by v p c k) ts ≡ Ok (d, left) → ClauseOf v c ts d left
    by_key key.Flags h = flags_clause_is v c c.flags refl ts d left h
    by_key key.Tag h = extra_clause_is v c ts d left h
    by_key key.Tagged h = extra_clause_is v c ts d left h
    by_key key.ReceivedOn h = extra_clause_is v c ts d left h
    by_key key.Not h = extra_clause_is v c ts d left h
    by_key key.NatTo h = translation_clause_is v c (may_translate v) refl ts d left h
    by_key key.RdrTo h = translation_clause_is v c (may_translate v) refl ts d left h
    by_key key.No h = state_clause_is v c (takes_state v) refl c.state refl ts d left h
    by_key key.Keep h = state_clause_is v c (takes_state v) refl c.state refl ts d left h
    by_key key.Synproxy h = state_clause_is v c (takes_state v) refl c.state refl ts d left h
    by_key _ h = absurd (not_refused _ _ _ h)

pub rule_text_is : (ts : List Tok) (r : RuleText) (left : List Tok) → rule_text_at ts ≡ Ok (r, left) → RuleOf ts r left
unfolding rule_text_at
rule_text_is ts r left e =
    let a = chain_ok verb_at (λ v. chain (parameters_at (statement_of v)) (λ p. chain (until_all ends_line (clause_at v p) no_clauses) (λ c. done (ruled v p c)))) ts r left e in
    let b = chain_ok (parameters_at (statement_of a.0)) (λ p. chain (until_all ends_line (clause_at a.0 p) no_clauses) (λ c. done (ruled a.0 p c))) a.1 r left a.3 in
    let c = chain_ok (until_all ends_line (clause_at a.0 b.0) no_clauses) (λ c. done (ruled a.0 b.0 c)) b.1 r left b.3 in
    moved RuleOf ts {x = ruled a.0 b.0 c.0} {l = c.1} (ok_parts (ruled a.0 b.0 c.0) r c.1 left c.3) (record {
      a = a.1;
      b = b.1;
      verb = verb_is ts a.0 a.1 a.2;
      parameters = parameters_are (statement_of a.0) a.1 b.0 b.1 b.2;
      clauses = until_is key.LineEnd ends_line (ClauseOf a.0) (clause_at a.0 b.0) line_end_key (λ q. cc) (clause_is a.0 b.0) no_clauses b.1 c.0 c.1 c.2;
    })

-- clauses that are read keep their bounds
no_options_read : AreRead none_given
no_options_read = state_within (no {ts = token 1 key.No [] ∷ token 1 key.State [] ∷ []} {mid = token 1 key.State [] ∷ []} {left = []} (token 1 key.No [], refl, refl) (token 1 key.State [], refl, refl))

record Bounded (v : Verb) (c : Clauses) : Type 0 where
  tests : IfSome c.flags IsFlagTest
  extras : AreExtras c.extras
  translation : IsTranslation c.translation
  translates : may_translate v ≡ false → translates_by c.translation ≡ false
  options : AreRead (state_options c.state)

clause_bounded : {v : Verb} {c d : Clauses} {ts left : List Tok} → ClauseOf v c ts d left → AreLexed ts → Bounded v c → Bounded v d
clause_bounded (flags g q) l b = record { tests = flags_within q; extras = b.extras; translation = b.translation; translates = b.translates; options = b.options }
clause_bounded (extra q) l b = record { tests = b.tests; extras = extra_within q l b.extras; translation = b.translation; translates = b.translates; options = b.options }
clause_bounded {v = v} (translation m q) l b = record { tests = b.tests; extras = b.extras; translation = translation_within q b.translation; translates = λ e. absurd (clash (sym e ∙ m)); options = b.options }
clause_bounded (state t g q) l b = record { tests = b.tests; extras = b.extras; translation = b.translation; translates = b.translates; options = state_within q }

-- a clause, and the tokens that it goes over
abbrev ClauseOver : Verb → Clauses → List Tok → Clauses → List Tok → Type 0
ClauseOver v c ts d left = ClauseOf v c ts d left × Passes (taking inside) ts left

clauses_bounded : {v : Verb} {c d : Clauses} {ts left : List Tok} → Until key.LineEnd (ClauseOver v) c ts d left → AreLexed ts → Bounded v c → Bounded v d
clauses_bounded (ends w) l b = b
clauses_bounded (goes q u) l b = clauses_bounded u (passes_lexed q.1 l) (clause_bounded q.0 l b)

rule_within : (ts : List Tok) (r : RuleText) (left : List Tok) → rule_text_at ts ≡ Ok (r, left) → AreLexed ts → IsRuleText r
unfolding rule_text_at
rule_within ts r left e l =
    let a = chain_ok verb_at (λ v. chain (parameters_at (statement_of v)) (λ p. chain (until_all ends_line (clause_at v p) no_clauses) (λ c. done (ruled v p c)))) ts r left e in
    let b = chain_ok (parameters_at (statement_of a.0)) (λ p. chain (until_all ends_line (clause_at a.0 p) no_clauses) (λ c. done (ruled a.0 p c))) a.1 r left a.3 in
    let c = chain_ok (until_all ends_line (clause_at a.0 b.0) no_clauses) (λ c. done (ruled a.0 b.0 c)) b.1 r left b.3 in
    let behind_verb = passes_lexed (online_verb.took ts a.0 a.1 a.2) l in
    let behind_parameters = passes_lexed ((online_parameters (statement_of a.0)).took a.1 b.0 b.1 b.2) behind_verb in
    let clauses = until_is key.LineEnd ends_line (ClauseOver a.0) (clause_at a.0 b.0) line_end_key (λ q. cc)
    (λ x us y vs h. (clause_is a.0 b.0 x us y vs h, (online_clause a.0 b.0 x).took us y vs h)) no_clauses b.1 c.0 c.1 c.2 in
    let k = clauses_bounded clauses behind_parameters (record { tests = tt; extras = record { tag = tt; tagged = tt; received_on = tt }; translation = record { nat_to = tt; rdr_to = tt }; translates = λ e. refl; options = no_options_read }) in
    let q = parameters_are (statement_of a.0) a.1 b.0 b.1 b.2 in
    moved (λ (us : List Tok) (x : RuleText) (m : List Tok). IsRuleText x) ts {x = ruled a.0 b.0 c.0} {l = c.1} (ok_parts (ruled a.0 b.0 c.0) r c.1 left c.3)
    (record { parameters = parameters_within q behind_verb; quick = marks_within q.head.marks; flags = k.tests; extras = k.extras; translation = k.translation; translates = k.translates; options = k.options })

pub rule_text_within : (ts left : List Tok) (r : Result RuleText Refusal) → AreLexed ts → Gives r left (rule_text_at ts) → IfOk r IsRuleText
rule_text_within ts left (Ok r) l e = rule_within ts r left e l
rule_text_within ts left (Err x) l e = tt

told_ok : (b : Option LoadRule) (n : ℕ) (ts : List Tok) (u : Unit {0}) (left : List Tok) → told b n ts ≡ Ok (u, left) → (b ≡ None) × (ts ≡ left)
told_ok None n ts u left e = (refl, (ok_parts tt u ts left e).1)
told_ok (Some x) n ts u left e = absurd cc

pub rule_is : (n : ℕ) (p : Progress) (ts : List Tok) (q : Progress) (left : List Tok) → rule_line_at n p ts ≡ Ok (q, left)
    → (r : RuleText) × RuleOf ts r left × (rule_breaks p.draft r ≡ None) × (with_rule n r p ≡ q)
unfolding rule_line_at
rule_is n p ts q left e =
    let a = chain_ok rule_text_at (λ r. chain (told (rule_breaks p.draft r) n) (λ u. done (with_rule n r p))) ts q left e in
    let b = chain_ok (told (rule_breaks p.draft a.0) n) (λ u. done (with_rule n a.0 p)) a.1 q left a.3 in
    let t = told_ok (rule_breaks p.draft a.0) n a.1 b.0 b.1 b.2 in
    let d = ok_parts (with_rule n a.0 p) q b.1 left b.3 in
    (a.0, rule_text_is ts a.0 left (leaving a.2 (t.1 ∙ d.1)), t.0, d.0)

-- ---- anchors

anchor_name_is : (p : Progress) (ts : List Tok) (o : Option (List ℕ)) (left : List Tok) → anchor_name_at p ts ≡ Ok (o, left) → AnchorNameOf p ts o left
unfolding anchor_name_at
anchor_name_is p [] o left e = moved (λ us x l. AnchorNameOf p us x l) [] (ok_parts None o [] left e) unnamed
anchor_name_is p (t ∷ ts) o left e = may (names_anchor t.key) refl e
  where
    new : names_anchor t.key ≡ true → (name : List ℕ) → name_of 63 t.text ≡ Some name → (b : Bool) → has_sibling p.depth name p.draft.items ≡ b
        → act (cond b (refuse why.Again) (take (done (Some name)))) (t ∷ ts) ≡ Ok (o, left) → AnchorNameOf p (t ∷ ts) o left
    new g name e true f h = absurd cc
    new g name e false f h = moved (λ us x l. AnchorNameOf p us x l) (t ∷ ts) (ok_parts (Some name) o ts left h) (named refl g e f)

    by_name : names_anchor t.key ≡ true → (m : Option (List ℕ)) → name_of 63 t.text ≡ m → act (anchor_named p m) (t ∷ ts) ≡ Ok (o, left) → AnchorNameOf p (t ∷ ts) o left
    by_name g None e h = absurd cc
    by_name g (Some name) e h = new g name e (has_sibling p.depth name p.draft.items) refl h

    may : (b : Bool) → names_anchor t.key ≡ b → act (cond b (anchor_named p (name_of 63 t.text)) (stay (done None))) (t ∷ ts) ≡ Ok (o, left) → AnchorNameOf p (t ∷ ts) o left
    may true g h = by_name g (name_of 63 t.text) refl h
    may false g h = moved (λ us x l. AnchorNameOf p us x l) (t ∷ ts) (ok_parts None o (t ∷ ts) left h) unnamed

brace_is : (p : Parameters) (f : Option FlagTest) (ts : List Tok) (u : Unit {0}) (left : List Tok) → brace_at p f ts ≡ Ok (u, left) → Word key.OpenBrace ts left
unfolding brace_at
brace_is p f ts u left e = by_key (head ts).key refl e
  where
    by_key : (k : Key) → (head ts).key ≡ k → act (brace_by p f k) ts ≡ Ok (u, left) → Word key.OpenBrace ts left
    by_key key.OpenBrace g h = subst (λ (z : List Tok). Word key.OpenBrace ts z) (ok_parts tt u (rest ts) left h).1 (word_is key.OpenBrace ts g (λ q. cc))
    by_key _ g h = absurd (not_refused _ _ _ h)

-- after the word `anchor`
pub anchor_parts_are : (p : Progress) (whole ts : List Tok) → Word key.Anchor whole ts → (a : AnchorText) (left : List Tok) → anchor_parts_at p ts ≡ Ok (a, left) → AnchorOf p whole a left
unfolding anchor_parts_at
anchor_parts_are p whole ts w a left e =
    let n = chain_ok (anchor_name_at p) (λ n. chain (parameters_at statement.Anchor) (λ q. chain (perhaps begins_flags flags_at) (λ f. chain (brace_at q f) (λ u. done (anchored n q f))))) ts a left e in
    let q = chain_ok (parameters_at statement.Anchor) (λ q. chain (perhaps begins_flags flags_at) (λ f. chain (brace_at q f) (λ u. done (anchored n.0 q f)))) n.1 a left n.3 in
    let f = chain_ok (perhaps begins_flags flags_at) (λ f. chain (brace_at q.0 f) (λ u. done (anchored n.0 q.0 f))) q.1 a left q.3 in
    let b = chain_ok (brace_at q.0 f.0) (λ u. done (anchored n.0 q.0 f.0)) f.1 a left f.3 in
    moved (λ us x l. AnchorOf p us x l) whole {x = anchored n.0 q.0 f.0} {l = b.1} (ok_parts (anchored n.0 q.0 f.0) a b.1 left b.3) (record {
      behind_word = ts;
      behind_name = n.1;
      behind_parameters = q.1;
      brace = f.1;
      word = w;
      name = anchor_name_is p ts n.0 n.1 n.2;
      parameters = parameters_are statement.Anchor n.1 q.0 q.1 q.2;
      flags = perhaps_is begins_flags flags_at FlagsOf flags_are q.1 f.0 f.1 f.2;
      opens = brace_is q.0 f.0 f.1 b.0 b.1 b.2;
    })

pub anchor_text_is : (p : Progress) (whole ts : List Tok) → Word key.Anchor whole ts → (a : AnchorText) (left : List Tok) → anchor_text_at p ts ≡ Ok (a, left) → AnchorOf p whole a left
unfolding anchor_text_at
anchor_text_is p whole ts w a left e = anchor_parts_are p whole ts w a left (in_head_ok (anchor_parts_at p ts) a left e)

flags_part_within : {ts left : List Tok} {o : Option FlagTest} → Perhaps FlagsOf ts o left → IfSome o IsFlagTest
flags_part_within absent = tt
flags_part_within (present q) = flags_within q

name_within : {p : Progress} {ts left : List Tok} {o : Option (List ℕ)} → AnchorNameOf p ts o left → IfSome o (λ name. is_name 63 name ≡ true)
name_within unnamed = tt
name_within (named {t = t} {name = name} e g f h) = name_is 63 t.text name f

name_lexed : {p : Progress} {ts left : List Tok} {o : Option (List ℕ)} → AnchorNameOf p ts o left → AreLexed ts → AreLexed left
name_lexed unnamed l = l
name_lexed (named {left = left} {t = t} e g f h) l = behind (subst AreLexed e l)
  where
    behind : AreLexed (t ∷ left) → AreLexed left
    behind (more x m) = m

name_new : {p : Progress} {ts left : List Tok} {o : Option (List ℕ)} → AnchorNameOf p ts o left → repeats_by p.depth o p.draft.items ≡ false
name_new unnamed = refl
name_new (named e g f h) = h

-- the word itself, before what follows it
abbrev front_word : Tok
front_word = token 1 key.Anchor (codes "anchor")

anchor_word : (ts : List Tok) → Word key.Anchor (front_word ∷ ts) ts
anchor_word ts = (front_word, refl, refl)

pub anchor_text_within : (p : Progress) (ts left : List Tok) (r : Result AnchorText Refusal) → AreLexed ts → Gives r left (anchor_text_at p ts) → IfOk r IsAnchorText
anchor_text_within p ts left (Ok a) l e =
    let q = anchor_text_is p (front_word ∷ ts) ts (anchor_word ts) a left e in
    record { name = name_within q.name; parameters = parameters_within q.parameters (name_lexed q.name (word_lexed q.word (more (λ h. sym key_of_Anchor) l))); flags = flags_part_within q.flags }
anchor_text_within p ts left (Err x) l e = tt

pub anchor_text_new : (p : Progress) (ts left : List Tok) (r : Result AnchorText Refusal) → Gives r left (anchor_text_at p ts) → IfOk r (λ a. repeats_by p.depth a.name p.draft.items ≡ false)
anchor_text_new p ts left (Ok a) e = name_new (anchor_text_is p (front_word ∷ ts) ts (anchor_word ts) a left e).name
anchor_text_new p ts left (Err x) e = tt

pub anchor_is : (n : ℕ) (p : Progress) (whole ts : List Tok) → Word key.Anchor whole ts → (q : Progress) (left : List Tok) → anchor_at n p ts ≡ Ok (q, left)
    → (a : AnchorText) × (mid : List Tok) × AnchorOf p whole a mid × (anchor_breaks p.depth p.draft a ≡ None) × Word key.LineEnd mid left × (with_anchor n a p ≡ q)
unfolding anchor_at
anchor_is n p whole ts w q left e =
    let a = chain_ok (anchor_text_at p) (λ a. chain (told (anchor_breaks p.depth p.draft a) n) (λ u. ended (with_anchor n a p))) ts q left e in
    let b = chain_ok (told (anchor_breaks p.depth p.draft a.0) n) (λ u. ended (with_anchor n a.0 p)) a.1 q left a.3 in
    let t = told_ok (anchor_breaks p.depth p.draft a.0) n a.1 b.0 b.1 b.2 in
    let d = ended_is (with_anchor n a.0 p) b.1 q left b.3 in
    (a.0, b.1, anchor_text_is p whole ts w a.0 b.1 (leaving a.2 t.1), t.0, d.1, d.0)

-- ---- options and tables

cookies_are : (n : ℕ) (p : Progress) (whole : List Tok) (q : Progress) (left : List Tok) → p.depth ≡ 0 → Word key.Set whole (rest whole) → Word key.Syncookies (rest whole) (rest (rest whole))
    → cookies_line_at n p (rest (rest whole)) ≡ Ok (q, left) → StatementOf p whole q left
unfolding cookies_line_at
cookies_are n p whole q left outside w v e =
    let ts = rest (rest whole) in
    let a = chain_ok syncookies_at (λ s. chain (ended s) (λ c. chain (told (cookies_break c) n) (λ u. done (with_cookies c p)))) ts q left e in
    let b = chain_ok (ended a.0) (λ c. chain (told (cookies_break c) n) (λ u. done (with_cookies c p))) a.1 q left a.3 in
    let c = chain_ok (told (cookies_break b.0) n) (λ u. done (with_cookies b.0 p)) b.1 q left b.3 in
    let l = ended_is a.0 a.1 b.0 b.1 b.2 in
    let t = told_ok (cookies_break b.0) n b.1 c.0 c.1 c.2 in
    let d = ok_parts (with_cookies b.0 p) q c.1 left c.3 in
    let P : List Tok → Type 0 = λ z. Word key.LineEnd a.1 z in
    let behind : P left = subst P d.1 (subst P t.1 l.1) in
    let said = subst (λ (z : Syncookies). SyncookiesOf ts z a.1) l.0 (syncookies_is ts a.0 a.1 a.2) in
    subst (λ (z : Progress). StatementOf p whole z left) d.0
    (cookies b.0 outside (record { a = rest whole; b = ts; c = a.1; set = w; word = v; cookies = said; ended = behind }) t.0)

pub setting_is : (p : Progress) (ts : List Tok) (q : Progress) (left : List Tok) → setting_line_at p ts ≡ Ok (q, left)
    → (d : Drafted) × (mid : List Tok) × SettingOf p.draft ts d mid × Word key.LineEnd mid left × (with_draft d p ≡ q)
unfolding setting_line_at
setting_is p ts q left e =
    let a = chain_ok (settings_at p.draft) (λ d. ended (with_draft d p)) ts q left e in
    let d = ended_is (with_draft a.0 p) a.1 q left a.3 in
    (a.0, a.1, settings_are p.draft ts a.0 a.1 a.2, d.1, d.0)

set_is : (n : ℕ) (p : Progress) (whole : List Tok) (q : Progress) (left : List Tok) → p.depth ≡ 0 → Word key.Set whole (rest whole) → set_at n p (rest whole) ≡ Ok (q, left)
    → StatementOf p whole q left
unfolding set_at
set_is n p whole q left outside w e = by_key (head (rest whole)).key refl e
  where
    other : act (stay (setting_line_at p)) (rest whole) ≡ Ok (q, left) → StatementOf p whole q left
    other h = let s = setting_is p (rest whole) q left h in subst (λ (z : Progress). StatementOf p whole z left) s.4 (set outside w s.2 s.3)

    by_key : (k : Key) → (head (rest whole)).key ≡ k → act (set_by n p k) (rest whole) ≡ Ok (q, left) → StatementOf p whole q left
    by_key key.Syncookies g h = cookies_are n p whole q left outside w (word_is key.Syncookies (rest whole) g (λ r. cc)) h
    by_key _ g h = other h

open_is : (ts : List Tok) (u : Unit {0}) (left : List Tok) → on_front (λ t. open_by t.key) ts ≡ Ok (u, left) → Word key.OpenAngle ts left
open_is ts u left e = by_key (head ts).key refl e
  where
    by_key : (k : Key) → (head ts).key ≡ k → act (open_by k) ts ≡ Ok (u, left) → Word key.OpenAngle ts left
    by_key key.OpenAngle g h = subst (λ (z : List Tok). Word key.OpenAngle ts z) (ok_parts tt u (rest ts) left h).1 (word_is key.OpenAngle ts g (λ q. cc))
    by_key _ g h = absurd (not_refused _ _ _ h)

close_is : (ts : List Tok) (u : Unit {0}) (left : List Tok) → on_front (λ t. angle_by t.key) ts ≡ Ok (u, left) → Word key.CloseAngle ts left
close_is ts u left e = by_key (head ts).key refl e
  where
    by_key : (k : Key) → (head ts).key ≡ k → act (angle_by k) ts ≡ Ok (u, left) → Word key.CloseAngle ts left
    by_key key.CloseAngle g h = subst (λ (z : List Tok). Word key.CloseAngle ts z) (ok_parts tt u (rest ts) left h).1 (word_is key.CloseAngle ts g (λ q. cc))
    by_key _ g h = absurd (not_refused _ _ _ h)

-- the word that names a table
record NameWord (d : Drafted) (ts : List Tok) (name : List ℕ) (left : List Tok) : Type 0 where
  t : Tok
  front : ts ≡ t ∷ left
  is_word : is_word_key t.key ≡ true
  says : name_of 31 t.text ≡ Some name
  is_new : is_defined name d ≡ false

name_word_is : (d : Drafted) (ts : List Tok) (name : List ℕ) (left : List Tok) → on_front (λ t. new_name_by d t) ts ≡ Ok (name, left) → NameWord d ts name left
name_word_is d [] name left e = absurd cc
name_word_is d (t ∷ ts) name left e = may (is_word_key t.key) refl e
  where
    new : is_word_key t.key ≡ true → (n : List ℕ) → name_of 31 t.text ≡ Some n → (b : Bool) → is_defined n d ≡ b
        → act (cond b (refuse why.Again) (take (done n))) (t ∷ ts) ≡ Ok (name, left) → NameWord d (t ∷ ts) name left
    new g n e true f h = absurd cc
    new g n e false f h = moved (λ us x l. NameWord d us x l) (t ∷ ts) (ok_parts n name ts left h) (record { t = t; front = refl; is_word = g; says = e; is_new = f })

    by_name : is_word_key t.key ≡ true → (m : Option (List ℕ)) → name_of 31 t.text ≡ m → act (new_table_named d m) (t ∷ ts) ≡ Ok (name, left) → NameWord d (t ∷ ts) name left
    by_name g None e h = absurd cc
    by_name g (Some n) e h = new g n e (is_defined n d) refl h

    may : (b : Bool) → is_word_key t.key ≡ b → act (cond b (new_table_named d (name_of 31 t.text)) (refuse why.Plain)) (t ∷ ts) ≡ Ok (name, left) → NameWord d (t ∷ ts) name left
    may true g h = by_name g (name_of 31 t.text) refl h
    may false g h = absurd cc

pub table_name_is : (d : Drafted) (ts : List Tok) (name : List ℕ) (left : List Tok) → new_name_at d ts ≡ Ok (name, left) → NewTableOf d ts name left
unfolding new_name_at
table_name_is d ts name left e =
    let a = chain_ok (on_front (λ t. open_by t.key)) (λ u. chain (on_front (λ t. new_name_by d t)) (λ n. chain (on_front (λ t. angle_by t.key)) (λ v. done n))) ts name left e in
    let b = chain_ok (on_front (λ t. new_name_by d t)) (λ n. chain (on_front (λ t. angle_by t.key)) (λ v. done n)) a.1 name left a.3 in
    let c = chain_ok (on_front (λ t. angle_by t.key)) (λ v. done b.0) b.1 name left b.3 in
    let n = name_word_is d a.1 b.0 b.1 b.2 in
    moved (λ us x l. NewTableOf d us x l) ts {x = b.0} {l = c.1} (ok_parts b.0 name c.1 left c.3) (record { inner = a.1; behind = b.1; opens = open_is ts a.0 a.1 a.2; named = (n.t, n.front, n.is_word, n.says); closes = close_is b.1 c.0 c.1 c.2 }, n.is_new)

pub table_is : (p : Progress) (ts : List Tok) (q : Progress) (left : List Tok) → definition_at p ts ≡ Ok (q, left)
    → (name : List ℕ) × (parts : Parts) × (b : List Tok) × (c : List Tok) × NewTableOf p.draft ts name b × PartsOf b parts c × Word key.LineEnd c left × (with_definition name parts p ≡ q)
unfolding definition_at
table_is p ts q left e =
    let a = chain_ok (new_name_at p.draft) (λ n. chain parts_at (λ parts. ended (with_definition n parts p))) ts q left e in
    let b = chain_ok parts_at (λ parts. ended (with_definition a.0 parts p)) a.1 q left a.3 in
    let d = ended_is (with_definition a.0 b.0 p) b.1 q left b.3 in
    (a.0, b.0, a.1, b.1, table_name_is p.draft ts a.0 a.1 a.2, parts_are a.1 b.0 b.1 b.2, d.1, d.0)

-- ---- statements and texts

pub statement_is : (p : Progress) (ts : List Tok) (q : Progress) (left : List Tok) → statement_at p ts ≡ Ok (q, left) → StatementOf p ts q left
unfolding statement_at
statement_is p ts q left e = by_key (head ts).key refl e
  where
    Said : Progress → Type 0
    Said z = StatementOf p ts z left

    set_case : (head ts).key ≡ key.Set → (b : Bool) → (p.depth == 0) ≡ b → act (cond b (take (set_at (head ts).line p)) (refuse why.Inner)) ts ≡ Ok (q, left) → StatementOf p ts q left
    set_case k true g h = set_is (head ts).line p ts q left (eqb-true p.depth 0 g) (word_is key.Set ts k (λ q. cc)) h
    set_case k false g h = absurd cc

    table_case : (head ts).key ≡ key.Table → (b : Bool) → (p.depth == 0) ≡ b → act (cond b (take (definition_at p)) (refuse why.Inner)) ts ≡ Ok (q, left) → StatementOf p ts q left
    table_case k true g h = let s = table_is p (rest ts) q left h in subst (λ (z : Progress). StatementOf p ts z left) s.7 (table s.0 s.1 (eqb-true p.depth 0 g) (word_is key.Table ts k (λ q. cc)) s.4 s.5 s.6)
    table_case k false g h = absurd cc

    close_case : (head ts).key ≡ key.CloseBrace → (b : Bool) → (p.depth == 0) ≡ b → act (cond b (refuse why.Statement) (take (ended (anchor_closed p)))) ts ≡ Ok (q, left) → StatementOf p ts q left
    close_case k true g h = absurd cc
    close_case k false g h =
        let d = ended_is (anchor_closed p) (rest ts) q left h in
        let some : p.depth ≡ 0 → ⊥ = eqb-false p.depth 0 g in
        let more : 1 ≤ p.depth = omega (arith, some) in
        subst (λ (z : Progress). StatementOf p ts z left) d.0 (close more (word_is key.CloseBrace ts k (λ q. cc)) d.1)

    by_key : (k : Key) → (head ts).key ≡ k → act (statement_by p (head ts).line k) ts ≡ Ok (q, left) → StatementOf p ts q left
    by_key key.LineEnd g h = moved (λ us x l. StatementOf p us x l) ts (ok_parts p q (rest ts) left h) (blank (word_is key.LineEnd ts g (λ q. cc)))
    by_key key.Set g h = set_case g (p.depth == 0) refl h
    by_key key.Table g h = table_case g (p.depth == 0) refl h
    by_key key.Pass g h = let r = rule_is (head ts).line p ts q left h in subst (λ (z : Progress). StatementOf p ts z left) r.3 (rule r.0 r.1 r.2)
    by_key key.Block g h = let r = rule_is (head ts).line p ts q left h in subst (λ (z : Progress). StatementOf p ts z left) r.3 (rule r.0 r.1 r.2)
    by_key key.Match g h = let r = rule_is (head ts).line p ts q left h in subst (λ (z : Progress). StatementOf p ts z left) r.3 (rule r.0 r.1 r.2)
    by_key key.Anchor g h = let a = anchor_is (head ts).line p ts (rest ts) (word_is key.Anchor ts g (λ q. cc)) q left h in subst (λ (z : Progress). StatementOf p ts z left) a.5 (anchor a.0 a.2 a.3 a.4)
    by_key key.CloseBrace g h = close_case g (p.depth == 0) refl h
    by_key _ g h = absurd (not_refused _ _ _ h)

pub closed_ok : (depth : ℕ) (ts : List Tok) (u : Unit {0}) (left : List Tok) → all_closed depth ts ≡ Ok (u, left) → (depth ≡ 0) × (ts ≡ left)
closed_ok depth ts u left e = choose (depth == 0) refl e
  where
    choose : (b : Bool) → (depth == 0) ≡ b → act (cond b (stay (done tt)) (refuse why.Plain)) ts ≡ Ok (u, left) → (depth ≡ 0) × (ts ≡ left)
    choose true g h = (eqb-true depth 0 g, (ok_parts tt u ts left h).1)
    choose false g h = absurd cc

told_of_ok : (b : Option (LoadRule × ℕ)) (ts : List Tok) (u : Unit {0}) (left : List Tok) → told_of b ts ≡ Ok (u, left) → (b ≡ None) × (ts ≡ left)
told_of_ok None ts u left e = (refl, (ok_parts tt u ts left e).1)
told_of_ok (Some x) ts u left e = absurd cc

pub statements_are : (ts : List Tok) (p : Progress) (left : List Tok) → statements_at ts ≡ Ok (p, left) → UpTo key.End StatementOf nothing ts p left
unfolding statements_at
statements_are ts p left e = up_to_is key.End ends_text StatementOf statement_at ends_text_key statement_is nothing ts p left e

pub text_is : (ts : List Tok) (conf : Conf) (left : List Tok) → text_at ts ≡ Ok (conf, left) → TextOf ts conf
unfolding text_at
text_is ts conf left e =
    let a = chain_ok statements_at (λ p. chain (all_closed p.depth) (λ u. chain (told_of (text_breaks p)) (λ v. done (conf_of_draft p.draft)))) ts conf left e in
    let b = chain_ok (all_closed a.0.depth) (λ u. chain (told_of (text_breaks a.0)) (λ v. done (conf_of_draft a.0.draft))) a.1 conf left a.3 in
    let c = chain_ok (told_of (text_breaks a.0)) (λ v. done (conf_of_draft a.0.draft)) b.1 conf left b.3 in
    record {
      said = a.0;
      left = a.1;
      statements = statements_are ts a.0 a.1 a.2;
      all_closed = (closed_ok a.0.depth a.1 b.0 b.1 b.2).0;
      keeps = (told_of_ok (text_breaks a.0) b.1 c.0 c.1 c.2).0;
      says = (ok_parts (conf_of_draft a.0.draft) conf c.1 left c.3).0;
    }
