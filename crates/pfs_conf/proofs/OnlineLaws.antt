-- The readers of statements look no further than the token in front of what they leave.
use Rattle.std.proofs.Common.{◌≡◌, ℕ, ◌==◌, Bool, true, false, cond, List, ◌∷◌, Option, Some, None, Result, Ok, Err, refl, sym, ap, ◌∙◌}
use Rattle.pfs_conf_tokens.specs.Tokens.{Tok, head}
use Rattle.pfs_conf_tokens.specs.declared.keys.Key.{Key}
use Rattle.pfs_conf_tokens.specs.declared.keys.Key.TheVariants as key
use Rattle.pfs_conf_tokens.specs.declared.refusals.LoadRule.{LoadRule}
use Rattle.pfs_conf_tokens.specs.declared.refusals.Why.{Why}
use Rattle.pfs_conf_tokens.specs.declared.refusals.Why.TheVariants as why
use Rattle.pfs_conf_tokens.specs.Keys.{in_line, before_end, ends_line, is_word_key}
use Rattle.pfs_conf_tokens.specs.Reading.{ends_text, Refused, stop, broken, Reader, Act, take, stay, refuse, on_front, done, chain, perhaps, until_all, ended, once}
use Rattle.pfs_conf_tokens.proofs.Laws.{Reach, inside, line, across, passes_more, Online, online_across, online_done, online_chain, OnlineAct, Taking, online_front, online_taking, once_taking, Shrinks, front_shrinks, chain_shrinks, online_perhaps, online_until_all, online_up_to_all, online_ended}
use Rattle.pfs_conf_tokens.proofs.ReaderLaws.{line_end_before_end, word_in_line}
use Rattle.pfs_addr_values.specs.Names.{name_of}
use Rattle.pfs_conf_settings.specs.Drafts.{Drafted, conf_of_draft, is_defined}
use Rattle.pfs_conf_values.specs.Siblings.{has_sibling}
use Rattle.pfs_conf_values.specs.declared.filters.FlagTest.{FlagTest}
use Rattle.pfs_conf_filters.specs.Reading.{verb_at, parameters_at, flags_at, begins_flags, extra_at, translation_at}
use Rattle.pfs_conf_filters.specs.declared.phrases.Parameters.{Parameters}
use Rattle.pfs_conf_filters.specs.declared.phrases.Statement.TheVariants as statement
use Rattle.pfs_conf_filters.specs.declared.phrases.Verb.{Verb}
use Rattle.pfs_conf_filters.proofs.OnlineLaws.{online_verb, verb_shrinks, online_parameters, online_flags, flags_shrinks, online_extra, extra_shrinks, online_translation, translation_shrinks}
use Rattle.pfs_conf_options.specs.Reading.{state_at}
use Rattle.pfs_conf_options.proofs.OptionLaws.{online_state, state_shrinks}
use Rattle.pfs_conf_settings.specs.Settings.{settings_at}
use Rattle.pfs_conf_settings.specs.Tables.{parts_at}
use Rattle.pfs_conf_settings.proofs.SettingLaws.{online_settings}
use Rattle.pfs_conf_settings.proofs.TableLaws.{online_parts}
use Rattle.pfs_conf_settings.specs.Syncookies.{syncookies_at}
use Rattle.pfs_conf_settings.proofs.SyncookieLaws.{online_syncookies}
use Rattle.pfs_conf.specs.declared.phrases.Clauses.{Clauses}
use Rattle.pfs_conf.specs.declared.phrases.RuleText.{RuleText}
use Rattle.pfs_conf.specs.declared.phrases.AnchorText.{AnchorText}
use Rattle.pfs_conf.specs.declared.progress.Progress.{Progress}
use Rattle.pfs_conf.specs.Grammar.{names_anchor}
use Rattle.pfs_conf.specs.Statements.{nothing, no_clauses, with_rule, with_anchor, with_definition, rule_breaks, anchor_breaks, text_breaks, with_cookies, cookies_break}
use Rattle.pfs_conf.specs.Reading.{with_draft, anchor_closed, told, clause_by, clause_at, rule_text_at, rule_line_at, anchor_named, anchor_name_by, anchor_name_at, brace_by, brace_at, anchor_parts_at, why_in_head, in_head, anchor_text_at, anchor_at, set_at, open_by, angle_by, new_table_named, new_name_by, new_name_at, definition_at, statement_by, statement_at, all_closed, told_of, statements_at, text_at, cookies_line_at, setting_line_at, set_by, state_act, extra_act, translation_act}
use Rattle.pfs_conf_filters.specs.Grammar.{may_translate, statement_of, takes_state}

-- ---- forms

in_line_before_end : (k : Key) → in_line k ≡ true → before_end k ≡ true
in_line_before_end key.LineEnd e = absurd cc
in_line_before_end key.End e = absurd cc
in_line_before_end _ e = refl

-- a reader of a whole line may be used across lines
pub line_across : {A : Type 0} (f : Reader A) → Online line f → Online across f
line_across f h = record {
  took = h.took;
  stopped = λ ts left w e. passes_more in_line_before_end (h.stopped ts left w e);
  ok = h.ok;
  err = h.err;
}

if_acts : {A : Type 0} (r : Reach) (k : Key) (b : Bool) (x y : Act A) → (b ≡ true → OnlineAct r k x) → (b ≡ false → OnlineAct r k y) → OnlineAct r k (cond b x y)
if_acts r k true x y p q = p refl
if_acts r k false x y p q = q refl

if_takes : {A : Type 0} (r : Reach) (k : Key) (b : Bool) (x y : Act A) → (b ≡ true → Taking r k x) → (b ≡ false → Taking r k y) → Taking r k (cond b x y)
if_takes r k true x y p q = p refl
if_takes r k false x y p q = q refl

-- a broken load rule is no stop at a token
broken_online : {A : Type 0} (r : Reach) (rule : LoadRule) (n : ℕ) → Online {A = A} r (λ ts. Err (broken rule n))
broken_online r rule n = record { took = λ ts y left e. absurd cc; stopped = λ ts left w e. absurd cc; ok = λ ts y t m e m'. absurd cc; err = λ ts w t m e m'. absurd cc }

online_told : (r : Reach) (b : Option LoadRule) (n : ℕ) → Online r (told b n)
online_told r None n = online_done tt
online_told r (Some rule) n = broken_online r rule n

online_told_of : (r : Reach) (b : Option (LoadRule × ℕ)) → Online r (told_of b)
online_told_of r None = online_done tt
online_told_of r (Some x) = broken_online r x.0 x.1

-- ---- rules

extra_takes : (c : Clauses) (k : Key) → Taking inside k (extra_act c)
extra_takes c k = (
  online_chain (extra_at c.extras) (λ e. done (record c { extras = e })) (online_extra c.extras) (λ e. online_done (record c { extras = e })),
  chain_shrinks inside (extra_at c.extras) (λ e. done (record c { extras = e })) (extra_shrinks c.extras) (λ e. online_done (record c { extras = e })),
)

translation_takes : (v : Verb) (c : Clauses) (k : Key) → Taking inside k (translation_act v c)
translation_takes v c k = if_takes inside k (may_translate v) (stay (chain (translation_at c.translation) (λ t. done (record c { translation = t })))) (refuse why.Plain)
    (λ e. (
      online_chain (translation_at c.translation) (λ t. done (record c { translation = t })) (online_translation c.translation) (λ t. online_done (record c { translation = t })),
      chain_shrinks inside (translation_at c.translation) (λ t. done (record c { translation = t })) (translation_shrinks c.translation) (λ t. online_done (record c { translation = t })),
    ))
    (λ e. tt)

state_takes : (v : Verb) (c : Clauses) (k : Key) → Taking inside k (state_act v c)
state_takes v c k = if_takes inside k (takes_state v) (once c.state (stay (chain state_at (λ s. done (record c { state = Some s }))))) (refuse why.Plain)
    (λ e. once_taking inside k c.state (stay (chain state_at (λ s. done (record c { state = Some s })))) (
      online_chain state_at (λ s. done (record c { state = Some s })) online_state (λ s. online_done (record c { state = Some s })),
      chain_shrinks inside state_at (λ s. done (record c { state = Some s })) state_shrinks (λ s. online_done (record c { state = Some s })),
    ))
    (λ e. tt)

clause_taking : (v : Verb) (p : Parameters) (c : Clauses) (k : Key) → Taking inside k (clause_by v p c k)
clause_taking v p c key.Flags = once_taking inside key.Flags c.flags (stay (chain flags_at (λ f. done (record c { flags = Some f })))) (
  online_chain flags_at (λ f. done (record c { flags = Some f })) online_flags (λ f. online_done (record c { flags = Some f })),
  chain_shrinks inside flags_at (λ f. done (record c { flags = Some f })) flags_shrinks (λ f. online_done (record c { flags = Some f })),
)
clause_taking v p c key.Tag = extra_takes c key.Tag
clause_taking v p c key.Tagged = extra_takes c key.Tagged
clause_taking v p c key.ReceivedOn = extra_takes c key.ReceivedOn
clause_taking v p c key.Not = extra_takes c key.Not
clause_taking v p c key.NatTo = translation_takes v c key.NatTo
clause_taking v p c key.RdrTo = translation_takes v c key.RdrTo
clause_taking v p c key.No = state_takes v c key.No
clause_taking v p c key.Keep = state_takes v c key.Keep
clause_taking v p c key.Synproxy = state_takes v c key.Synproxy
clause_taking v p c _ = tt

pub online_clause : (v : Verb) (p : Parameters) (c : Clauses) → Online inside (clause_at v p c)
unfolding clause_at
online_clause v p c = online_taking (λ t. clause_by v p c t.key) (λ t. clause_taking v p c t.key)

pub clause_shrinks : (v : Verb) (p : Parameters) (c : Clauses) → Shrinks (clause_at v p c)
unfolding clause_at
clause_shrinks v p c = front_shrinks inside (λ t. clause_by v p c t.key) (λ t. clause_taking v p c t.key)

abbrev pub ruled : Verb → Parameters → Clauses → RuleText
ruled v p c = record { verb = v; parameters = p; clauses = c }

clauses_online : (v : Verb) (p : Parameters) → Online across (chain (until_all ends_line (clause_at v p) no_clauses) (λ c. done (ruled v p c)))
clauses_online v p = online_chain (until_all ends_line (clause_at v p) no_clauses) (λ c. done (ruled v p c))
    (line_across (until_all ends_line (clause_at v p) no_clauses) (online_until_all ends_line (clause_at v p) line_end_before_end (clause_shrinks v p) (online_clause v p) no_clauses))
    (λ c. online_done (ruled v p c))

behind_verb_online : (v : Verb) → Online across (chain (parameters_at (statement_of v)) (λ p. chain (until_all ends_line (clause_at v p) no_clauses) (λ c. done (ruled v p c))))
behind_verb_online v = online_chain (parameters_at (statement_of v)) (λ p. chain (until_all ends_line (clause_at v p) no_clauses) (λ c. done (ruled v p c)))
    (online_across (parameters_at (statement_of v)) (online_parameters (statement_of v))) (λ p. clauses_online v p)

pub online_rule_text : Online across rule_text_at
unfolding rule_text_at
online_rule_text = online_chain verb_at (λ v. chain (parameters_at (statement_of v)) (λ p. chain (until_all ends_line (clause_at v p) no_clauses) (λ c. done (ruled v p c))))
    (online_across verb_at online_verb) behind_verb_online

pub rule_text_shrinks : Shrinks rule_text_at
unfolding rule_text_at
rule_text_shrinks = chain_shrinks across verb_at (λ v. chain (parameters_at (statement_of v)) (λ p. chain (until_all ends_line (clause_at v p) no_clauses) (λ c. done (ruled v p c)))) verb_shrinks behind_verb_online

judged_online : (n : ℕ) (p : Progress) (r : RuleText) → Online across (chain (told (rule_breaks p.draft r) n) (λ u. done (with_rule n r p)))
judged_online n p r = online_chain (told (rule_breaks p.draft r) n) (λ u. done (with_rule n r p)) (online_told across (rule_breaks p.draft r) n) (λ u. online_done (with_rule n r p))

pub online_rule : (n : ℕ) (p : Progress) → Online across (rule_line_at n p)
unfolding rule_line_at
online_rule n p = online_chain rule_text_at (λ r. chain (told (rule_breaks p.draft r) n) (λ u. done (with_rule n r p))) online_rule_text (judged_online n p)

pub rule_shrinks : (n : ℕ) (p : Progress) → Shrinks (rule_line_at n p)
unfolding rule_line_at
rule_shrinks n p = chain_shrinks across rule_text_at (λ r. chain (told (rule_breaks p.draft r) n) (λ u. done (with_rule n r p))) rule_text_shrinks (judged_online n p)

-- ---- anchors

pub anchor_name_in_line : (k : Key) → names_anchor k ≡ true → in_line k ≡ true
anchor_name_in_line key.LineEnd e = absurd cc
anchor_name_in_line key.End e = absurd cc
anchor_name_in_line _ e = refl

anchor_name_acts : (p : Progress) (t : Tok) → OnlineAct inside t.key (anchor_name_by p t)
anchor_name_acts p t = if_acts inside t.key (names_anchor t.key) (anchor_named p (name_of 63 t.text)) (stay (done None)) (λ e. named e (name_of 63 t.text)) (λ e. online_done None)
  where
    named : names_anchor t.key ≡ true → (o : Option (List ℕ)) → OnlineAct inside t.key (anchor_named p o)
    named e None = tt
    named e (Some name) = if_acts inside t.key (has_sibling p.depth name p.draft.items) (refuse why.Again) (take (done (Some name))) (λ h. tt) (λ h. (anchor_name_in_line t.key e, online_done (Some name)))

pub online_anchor_name : (p : Progress) → Online inside (anchor_name_at p)
unfolding anchor_name_at
online_anchor_name p = online_front (λ t. anchor_name_by p t) (λ t. anchor_name_acts p t)

brace_taking : (p : Parameters) (f : Option FlagTest) (k : Key) → Taking inside k (brace_by p f k)
brace_taking p f key.OpenBrace = (refl, online_done tt)
brace_taking p f _ = tt

pub online_brace : (p : Parameters) (f : Option FlagTest) → Online inside (brace_at p f)
unfolding brace_at
online_brace p f = online_taking (λ t. brace_by p f t.key) (λ t. brace_taking p f t.key)

abbrev pub anchored : Option (List ℕ) → Parameters → Option FlagTest → AnchorText
anchored n q f = record { name = n; parameters = q; flags = f }

brace_then : (n : Option (List ℕ)) (q : Parameters) (f : Option FlagTest) → Online inside (chain (brace_at q f) (λ u. done (anchored n q f)))
brace_then n q f = online_chain (brace_at q f) (λ u. done (anchored n q f)) (online_brace q f) (λ u. online_done (anchored n q f))

flags_then : (n : Option (List ℕ)) (q : Parameters) → Online inside (chain (perhaps begins_flags flags_at) (λ f. chain (brace_at q f) (λ u. done (anchored n q f))))
flags_then n q = online_chain (perhaps begins_flags flags_at) (λ f. chain (brace_at q f) (λ u. done (anchored n q f))) (online_perhaps begins_flags flags_at online_flags) (brace_then n q)

parameters_then : (n : Option (List ℕ)) → Online inside (chain (parameters_at statement.Anchor) (λ q. chain (perhaps begins_flags flags_at) (λ f. chain (brace_at q f) (λ u. done (anchored n q f)))))
parameters_then n = online_chain (parameters_at statement.Anchor) (λ q. chain (perhaps begins_flags flags_at) (λ f. chain (brace_at q f) (λ u. done (anchored n q f)))) (online_parameters statement.Anchor) (flags_then n)

pub online_anchor_parts : (p : Progress) → Online inside (anchor_parts_at p)
unfolding anchor_parts_at
online_anchor_parts p = online_chain (anchor_name_at p) (λ n. chain (parameters_at statement.Anchor) (λ q. chain (perhaps begins_flags flags_at) (λ f. chain (brace_at q f) (λ u. done (anchored n q f)))))
    (online_anchor_name p) parameters_then

-- what is reported otherwise stops at the same token
pub in_head_ok : {A : Type 0} (r : Result (A × List Tok) Refused) (x : A) (left : List Tok) → in_head r ≡ Ok (x, left) → r ≡ Ok (x, left)
in_head_ok (Ok y) x left e = e
in_head_ok (Err (stop ts w)) x left e = absurd cc
in_head_ok (Err (broken rule n)) x left e = absurd cc

pub in_head_stop : {A : Type 0} (r : Result (A × List Tok) Refused) (left : List Tok) (w : Why) → in_head r ≡ Err (stop left w) → (v : Why) × (r ≡ Err (stop left v)) × (why_in_head v (head left).key ≡ w)
in_head_stop (Ok y) left w e = absurd cc
in_head_stop {A} (Err (stop ts v)) left w e =
    let p : ts ≡ left = cc in
    let q : why_in_head v (head ts).key ≡ w = cc in
    (v, ap (λ (z : List Tok). Err (stop z v)) p, ap (λ (z : List Tok). why_in_head v (head z).key) (sym p) ∙ q)
in_head_stop (Err (broken rule n)) left w e = absurd cc

online_in_head : {A : Type 0} (r : Reach) (f : Reader A) → Online r f → Online r (λ ts. in_head (f ts))
online_in_head r f h = record {
  took = λ ts x left e. h.took ts x left (in_head_ok (f ts) x left e);
  stopped = λ ts left w e. let b = in_head_stop (f ts) left w e in h.stopped ts left b.0 b.1;
  ok = λ ts x t m e m'. let p = h.ok ts x t m (in_head_ok (f ts) x (t ∷ m) e) m' in (p.0, p.1, ap in_head p.2);
  err = λ ts w t m e m'.
      let b = in_head_stop (f ts) (t ∷ m) w e in
      let p = h.err ts b.0 t m b.1 m' in
      (p.0, p.1, ap in_head p.2 ∙ ap (λ (z : Why). Err (stop (t ∷ m') z)) b.2);
}

pub online_anchor_text : (p : Progress) → Online inside (anchor_text_at p)
unfolding anchor_text_at
online_anchor_text p = online_in_head inside (anchor_parts_at p) (online_anchor_parts p)

anchor_end : (n : ℕ) (p : Progress) (a : AnchorText) → Online across (chain (told (anchor_breaks p.depth p.draft a) n) (λ u. ended (with_anchor n a p)))
anchor_end n p a = online_chain (told (anchor_breaks p.depth p.draft a) n) (λ u. ended (with_anchor n a p)) (online_told across (anchor_breaks p.depth p.draft a) n) (λ u. line_across (ended (with_anchor n a p)) (online_ended (with_anchor n a p)))

pub online_anchor : (n : ℕ) (p : Progress) → Online across (anchor_at n p)
unfolding anchor_at
online_anchor n p = online_chain (anchor_text_at p) (λ a. chain (told (anchor_breaks p.depth p.draft a) n) (λ u. ended (with_anchor n a p))) (online_across (anchor_text_at p) (online_anchor_text p)) (anchor_end n p)

-- ---- options and tables

online_cookies_line : (n : ℕ) (p : Progress) → Online across (cookies_line_at n p)
unfolding cookies_line_at
online_cookies_line n p = online_chain syncookies_at (λ s. chain (ended s) (λ c. chain (told (cookies_break c) n) (λ u. done (with_cookies c p)))) (online_across syncookies_at online_syncookies)
    (λ s. online_chain (ended s) (λ c. chain (told (cookies_break c) n) (λ u. done (with_cookies c p))) (line_across (ended s) (online_ended s))
    (λ c. online_chain (told (cookies_break c) n) (λ u. done (with_cookies c p)) (online_told across (cookies_break c) n) (λ u. online_done (with_cookies c p))))

online_setting_line : (p : Progress) → Online across (setting_line_at p)
unfolding setting_line_at
online_setting_line p = online_chain (settings_at p.draft) (λ d. ended (with_draft d p)) (online_settings p.draft) (λ d. line_across (ended (with_draft d p)) (online_ended (with_draft d p)))

set_acts : (n : ℕ) (p : Progress) (k : Key) → OnlineAct across k (set_by n p k)
set_acts n p key.Syncookies = (refl, online_cookies_line n p)
set_acts n p _ = online_setting_line p

pub online_set : (n : ℕ) (p : Progress) → Online across (set_at n p)
unfolding set_at
online_set n p = online_front (λ t. set_by n p t.key) (λ t. set_acts n p t.key)

open_taking : (k : Key) → Taking inside k (open_by k)
open_taking key.OpenAngle = (refl, online_done tt)
open_taking _ = tt

close_taking : (k : Key) → Taking inside k (angle_by k)
close_taking key.CloseAngle = (refl, online_done tt)
close_taking _ = tt

table_name_taking : (d : Drafted) (t : Tok) → Taking inside t.key (new_name_by d t)
table_name_taking d t = if_takes inside t.key (is_word_key t.key) (new_table_named d (name_of 31 t.text)) (refuse why.Plain) (λ e. named e (name_of 31 t.text)) (λ e. tt)
  where
    named : is_word_key t.key ≡ true → (o : Option (List ℕ)) → Taking inside t.key (new_table_named d o)
    named e None = tt
    named e (Some name) = if_takes inside t.key (is_defined name d) (refuse why.Again) (take (done name)) (λ h. tt) (λ h. (word_in_line t.key e, online_done name))

pub online_table_name : (d : Drafted) → Online inside (new_name_at d)
unfolding new_name_at
online_table_name d = online_chain (on_front (λ t. open_by t.key)) (λ u. chain (on_front (λ t. new_name_by d t)) (λ n. chain (on_front (λ t. angle_by t.key)) (λ v. done n)))
    (online_taking (λ t. open_by t.key) (λ t. open_taking t.key))
    (λ u. online_chain (on_front (λ t. new_name_by d t)) (λ n. chain (on_front (λ t. angle_by t.key)) (λ v. done n))
    (online_taking (λ t. new_name_by d t) (λ t. table_name_taking d t))
    (λ n. online_chain (on_front (λ t. angle_by t.key)) (λ v. done n) (online_taking (λ t. angle_by t.key) (λ t. close_taking t.key)) (λ v. online_done n)))

pub online_table : (p : Progress) → Online across (definition_at p)
unfolding definition_at
online_table p = online_chain (new_name_at p.draft) (λ n. chain parts_at (λ parts. ended (with_definition n parts p)))
    (online_across (new_name_at p.draft) (online_table_name p.draft))
    (λ n. online_chain parts_at (λ parts. ended (with_definition n parts p)) online_parts (λ parts. line_across (ended (with_definition n parts p)) (online_ended (with_definition n parts p))))

-- ---- statements and texts

statement_taking : (p : Progress) (n : ℕ) (k : Key) → Taking across k (statement_by p n k)
statement_taking p n key.LineEnd = (refl, online_done p)
statement_taking p n key.Set = if_takes across key.Set (p.depth == 0) (take (set_at n p)) (refuse why.Inner) (λ e. (refl, online_set n p)) (λ e. tt)
statement_taking p n key.Table = if_takes across key.Table (p.depth == 0) (take (definition_at p)) (refuse why.Inner) (λ e. (refl, online_table p)) (λ e. tt)
statement_taking p n key.Pass = (online_rule n p, rule_shrinks n p)
statement_taking p n key.Block = (online_rule n p, rule_shrinks n p)
statement_taking p n key.Match = (online_rule n p, rule_shrinks n p)
statement_taking p n key.Anchor = (refl, online_anchor n p)
statement_taking p n key.CloseBrace = if_takes across key.CloseBrace (p.depth == 0) (refuse why.Statement) (take (ended (anchor_closed p))) (λ e. tt) (λ e. (refl, line_across (ended (anchor_closed p)) (online_ended (anchor_closed p))))
statement_taking p n _ = tt

pub online_statement : (p : Progress) → Online across (statement_at p)
unfolding statement_at
online_statement p = online_taking (λ t. statement_by p t.line t.key) (λ t. statement_taking p t.line t.key)

pub statement_shrinks : (p : Progress) → Shrinks (statement_at p)
unfolding statement_at
statement_shrinks p = front_shrinks across (λ t. statement_by p t.line t.key) (λ t. statement_taking p t.line t.key)

pub online_statements : Online across statements_at
unfolding statements_at
online_statements = online_up_to_all ends_text statement_at statement_shrinks online_statement nothing

online_all_closed : (depth : ℕ) → Online across (all_closed depth)
online_all_closed depth = online_front (λ t. cond (depth == 0) (stay (done tt)) (refuse why.Plain)) (λ t. if_acts across t.key (depth == 0) (stay (done tt)) (refuse why.Plain) (λ e. online_done tt) (λ e. tt))

pub online_text : Online across text_at
unfolding text_at
online_text = online_chain statements_at (λ p. chain (all_closed p.depth) (λ u. chain (told_of (text_breaks p)) (λ v. done (conf_of_draft p.draft)))) online_statements
    (λ p. online_chain (all_closed p.depth) (λ u. chain (told_of (text_breaks p)) (λ v. done (conf_of_draft p.draft))) (online_all_closed p.depth)
    (λ u. online_chain (told_of (text_breaks p)) (λ v. done (conf_of_draft p.draft)) (online_told_of across (text_breaks p)) (λ v. online_done (conf_of_draft p.draft))))
