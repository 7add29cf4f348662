-- Each statement of the grammar is read.
use Rattle.std.proofs.Common.{◌≡◌, ℕ, ◌==◌, Bool, true, false, List, Option, Some, None, Result, Ok, Err, refl, sym, ap, subst, ◌∙◌, arith, ◌&&◌}
use Rattle.std.proofs.lemmas.Bool.{ne_eqb}
use Rattle.pfs_conf_tokens.specs.Tokens.{Tok, head}
use Rattle.pfs_conf_tokens.specs.declared.keys.Key.{Key}
use Rattle.pfs_conf_tokens.specs.declared.keys.Key.TheVariants as key
use Rattle.pfs_conf_tokens.specs.declared.refusals.LoadRule.{LoadRule}
use Rattle.pfs_conf_tokens.specs.Keys.{ends_line}
use Rattle.pfs_conf_tokens.specs.Reading.{ends_text, Refused, broken, stay, chain, done}
use Rattle.pfs_conf_tokens.specs.Grammar.{Word, Perhaps, absent, present, Until, ends, goes, UpTo}
use Rattle.pfs_conf_tokens.proofs.ReaderLaws.{word_head, ended_reads, perhaps_reads, ReadsSteps, until_reads, up_to_reads}
use Rattle.pfs_conf_values.specs.Configs.{Conf}
use Rattle.pfs_conf_settings.specs.Drafts.{Drafted, conf_of_draft}
use Rattle.pfs_conf_values.specs.declared.filters.FlagTest.{FlagTest}
use Rattle.pfs_conf_filters.specs.Grammar.{Behind, VerbOf, pass, block, DirOf, inward, outward, FamilyOf, inet, inet6, slow, quick, MarksOf, of_anchor, HostsOf, every, sides, ParametersOf, FlagsOf, matching, statement_of}
use Rattle.pfs_conf_filters.specs.Reading.{flags_at, begins_flags}
use Rattle.pfs_addr_values.specs.declared.packets.Dir.{Dir}
use Rattle.pfs_conf_values.specs.declared.filters.Family.{Family}
use Rattle.pfs_conf_filters.specs.declared.phrases.Hosts.{Hosts}
use Rattle.pfs_conf_filters.specs.declared.phrases.Parameters.{Parameters}
use Rattle.pfs_conf_filters.specs.declared.phrases.Statement.TheVariants as statement
use Rattle.pfs_conf_filters.specs.declared.phrases.Verb.{Verb}
use Rattle.pfs_conf_filters.specs.declared.phrases.Marks.{Marks}
use Rattle.pfs_conf_filters.proofs.ReadLaws.{no_policy, ends_parameters, verb_reads, parameters_read, flags_read, parameters_head, flags_head, extra_reads, extra_head, ends_translation, translation_reads, translation_head}
use Rattle.pfs_conf_options.specs.Grammar.{no, keep, proxy}
use Rattle.pfs_conf_options.proofs.PhraseLaws.{ends_state, state_reads}
use Rattle.pfs_conf_settings.specs.SettingGrammar.{SettingOf, profile, limit, limits, timeout, timeouts, route, routes}
use Rattle.pfs_conf_settings.specs.TableGrammar.{PartsOf}
use Rattle.pfs_conf_settings.specs.declared.tables.Parts.{Parts}
use Rattle.pfs_conf_settings.proofs.SettingPhrases.{settings_read}
use Rattle.pfs_conf_settings.proofs.TablePhrases.{parts_read}
use Rattle.pfs_conf_settings.proofs.SyncookiePhrases.{syncookies_reads}
use Rattle.pfs_conf_values.specs.declared.syncookies.Syncookies.{Syncookies}
use Rattle.pfs_conf.specs.declared.phrases.Clauses.{Clauses}
use Rattle.pfs_conf.specs.declared.phrases.RuleText.{RuleText}
use Rattle.pfs_conf.specs.declared.phrases.AnchorText.{AnchorText}
use Rattle.pfs_conf.specs.declared.progress.Progress.{Progress}
use Rattle.pfs_conf.specs.Grammar.{ClauseOf, flags, state, RuleOf, names_anchor, AnchorNameOf, unnamed, named, AnchorOf, NewTableOf, StatementOf, blank, set, table, rule, anchor, close, TextOf, CookiesOf, cookies, extra, translation}
use Rattle.pfs_conf.specs.Statements.{nothing, with_rule, with_anchor, with_definition, rule_breaks, anchor_breaks, text_breaks, with_cookies, cookies_break}
use Rattle.pfs_conf.specs.Reading.{with_draft, anchor_closed, clause_at, rule_text_at, rule_line_at, anchor_name_at, brace_at, anchor_parts_at, in_head, anchor_text_at, anchor_at, set_at, new_name_at, definition_at, statement_at, statements_at, text_at, cookies_line_at, setting_line_at, set_by, told, clause_by, extra_act, translation_act}
use Rattle.pfs_conf.proofs.OnlineLaws.{clause_shrinks, statement_shrinks}

-- ---- rules

-- what ends a clause goes on with no options of a state, and with no ports of a translation
abbrev ends_clause : Key → Bool
ends_clause k = ends_state k && ends_translation k

both_ends : (a b : Bool) → (a && b) ≡ true → (a ≡ true) × (b ≡ true)
both_ends true true e = (refl, refl)
both_ends true false e = absurd cc
both_ends false b e = absurd cc

clause_reads : (v : Verb) (p : Parameters) {c d : Clauses} {ts left : List Tok} → ClauseOf v c ts d left → ends_clause (head left).key ≡ true → clause_at v p c ts ≡ Ok (d, left)
unfolding clause_at
clause_reads v p (flags g q) f = let h = word_head q.1 in rw (h.0, g, flags_read q) refl
clause_reads v p {c = c} (extra q) f = rw (extra_head (λ k. clause_by v p c k ≡ extra_act c) refl refl refl refl q, extra_reads q) refl
clause_reads v p {c = c} {left = left} (translation m q) f =
    let e = both_ends (ends_state (head left).key) (ends_translation (head left).key) f in
    rw (translation_head (λ k. clause_by v p c k ≡ translation_act v c) refl refl q, m, translation_reads q e.1) refl
clause_reads v p {left = left} (state t g (no w s)) f = let h = word_head w in let e = both_ends (ends_state (head left).key) (ends_translation (head left).key) f in rw (h.0, t, g, state_reads (no w s) e.0) refl
clause_reads v p {left = left} (state t g (keep w s k)) f = let h = word_head w in let e = both_ends (ends_state (head left).key) (ends_translation (head left).key) f in rw (h.0, t, g, state_reads (keep w s k) e.0) refl
clause_reads v p {left = left} (state t g (proxy w s k)) f = let h = word_head w in let e = both_ends (ends_state (head left).key) (ends_translation (head left).key) f in rw (h.0, t, g, state_reads (proxy w s k) e.0) refl

-- what a clause begins with
clause_head : {v : Verb} (Q : Key → Type 0) → Q key.Flags → Q key.Tag → Q key.Not → Q key.Tagged → Q key.ReceivedOn → Q key.NatTo → Q key.RdrTo → Q key.No → Q key.Keep → Q key.Synproxy
    → {c d : Clauses} {ts left : List Tok} → ClauseOf v c ts d left → Q (head ts).key
clause_head Q a t n g r x y b c e (flags h q) = subst Q (sym (word_head q.1).0) a
clause_head Q a t n g r x y b c e (extra q) = extra_head Q t n g r q
clause_head Q a t n g r x y b c e (translation m q) = translation_head Q x y q
clause_head Q a t n g r x y b c e (state m h (no w s)) = subst Q (sym (word_head w).0) b
clause_head Q a t n g r x y b c e (state m h (keep w s k)) = subst Q (sym (word_head w).0) c
clause_head Q a t n g r x y b c e (state m h (proxy w s k)) = subst Q (sym (word_head w).0) e

clauses_head : {v : Verb} (Q : Key → Type 0) → Q key.Flags → Q key.Tag → Q key.Not → Q key.Tagged → Q key.ReceivedOn → Q key.NatTo → Q key.RdrTo → Q key.No → Q key.Keep → Q key.Synproxy → Q key.LineEnd
    → {c d : Clauses} {ts left : List Tok} → Until key.LineEnd (ClauseOf v) c ts d left → Q (head ts).key
clauses_head Q a t n g r x y b c e l (ends w) = subst Q (sym (word_head w).0) l
clauses_head Q a t n g r x y b c e l (goes q u) = clause_head Q a t n g r x y b c e q

clauses_read : (v : Verb) (p : Parameters) → ReadsSteps key.LineEnd ends_line ends_clause (ClauseOf v) (clause_at v p)
clauses_read v p = record {
  closes = refl;
  close_follows = refl;
  begins = λ q. (clause_head (λ k. ends_line k ≡ false) refl refl refl refl refl refl refl refl refl refl q, clause_head (λ k. ends_clause k ≡ true) refl refl refl refl refl refl refl refl refl refl q);
  reads = λ q f. clause_reads v p q f;
  shrinks = clause_shrinks v p;
}

pub rule_text_reads : {ts : List Tok} {r : RuleText} {left : List Tok} → RuleOf ts r left → rule_text_at ts ≡ Ok (r, left)
unfolding rule_text_at
rule_text_reads {r = r} q =
    let behind_verb = parameters_head (λ k. no_policy k ≡ true) refl refl refl refl refl refl refl refl refl refl refl q.parameters (clauses_head (λ k. no_policy k ≡ true) refl refl refl refl refl refl refl refl refl refl refl q.clauses) in
    let behind_parameters = clauses_head (λ k. ends_parameters k ≡ true) refl refl refl refl refl refl refl refl refl refl refl q.clauses in
    rw (verb_reads q.verb behind_verb, parameters_read (statement_of r.verb) q.parameters behind_parameters, until_reads (clauses_read r.verb r.parameters) q.clauses) refl

pub rule_reads : (n : ℕ) (p : Progress) {ts : List Tok} (r : RuleText) {left : List Tok} → RuleOf ts r left → rule_breaks p.draft r ≡ None → rule_line_at n p ts ≡ Ok (with_rule n r p, left)
unfolding rule_line_at
rule_reads n p r q e = rw (rule_text_reads q, e) refl

pub rule_told : (n : ℕ) (p : Progress) {ts : List Tok} (r : RuleText) {left : List Tok} (b : LoadRule) → RuleOf ts r left → rule_breaks p.draft r ≡ Some b → rule_line_at n p ts ≡ Err (broken b n)
unfolding rule_line_at
rule_told n p r b q e = rw (rule_text_reads q, e) refl

-- ---- anchors

behind_head : {A : Type 0} {k : Key} {P : List Tok → A → List Tok → Type 0} (Q : Key → Type 0) → Q k → {ts left : List Tok} {o : Option A} → Perhaps (Behind k P) ts o left → Q (head left).key → Q (head ts).key
behind_head Q a absent h = h
behind_head Q a (present q) h = subst Q (sym (word_head q.1).0) a

dir_head : (Q : Key → Type 0) → Q key.In → Q key.Out → {ts left : List Tok} {o : Option Dir} → Perhaps DirOf ts o left → Q (head left).key → Q (head ts).key
dir_head Q a b absent h = h
dir_head Q a b (present (inward w)) h = subst Q (sym (word_head w).0) a
dir_head Q a b (present (outward w)) h = subst Q (sym (word_head w).0) b

family_head : (Q : Key → Type 0) → Q key.Inet → Q key.Inet6 → {ts left : List Tok} {o : Option Family} → Perhaps FamilyOf ts o left → Q (head left).key → Q (head ts).key
family_head Q a b absent h = h
family_head Q a b (present (inet w)) h = subst Q (sym (word_head w).0) a
family_head Q a b (present (inet6 w)) h = subst Q (sym (word_head w).0) b

marks_head : (Q : Key → Type 0) → Q key.Quick → {ts left : List Tok} {m : Marks} → MarksOf statement.Anchor ts m left → Q (head left).key → Q (head ts).key
marks_head Q a (of_anchor slow) h = h
marks_head Q a (of_anchor (quick w)) h = subst Q (sym (word_head w).0) a

hosts_head : (Q : Key → Type 0) → Q key.All → Q key.From → Q key.To → {ts left : List Tok} {x : Hosts} → HostsOf ts x left → Q (head left).key → Q (head ts).key
hosts_head Q a b c (every w) h = subst Q (sym (word_head w).0) a
hosts_head Q a b c (sides f t) h = behind_head Q b f (behind_head Q c t h)

-- what follows an anchor's name begins with no name
anchor_parameters_head : (Q : Key → Type 0) → Q key.In → Q key.Out → Q key.Quick → Q key.On → Q key.Inet → Q key.Inet6 → Q key.Proto → Q key.All → Q key.From → Q key.To
    → {ts left : List Tok} {p : Parameters} → ParametersOf statement.Anchor ts p left → Q (head left).key → Q (head ts).key
anchor_parameters_head Q a b c d e e6 f g h i q j =
    dir_head Q a b q.head.dir (marks_head Q c q.head.marks (behind_head Q d q.head.on (family_head Q e e6 q.head.family (behind_head Q f q.head.proto (hosts_head Q g h i q.hosts j)))))

flags_part_head : (Q : Key → Type 0) → Q key.Flags → {ts left : List Tok} {o : Option FlagTest} → Perhaps FlagsOf ts o left → Q (head left).key → Q (head ts).key
flags_part_head Q a absent h = h
flags_part_head Q a (present q) h = subst Q (sym (word_head q.1).0) a

anchor_name_reads : (p : Progress) {ts left : List Tok} {o : Option (List ℕ)} → AnchorNameOf p ts o left → names_anchor (head left).key ≡ false → anchor_name_at p ts ≡ Ok (o, left)
unfolding anchor_name_at
anchor_name_reads p unnamed f = rw f refl
anchor_name_reads p (named e g n s) f = rw (e, g, n, s) refl

brace_reads : (p : Parameters) (f : Option FlagTest) {ts left : List Tok} → Word key.OpenBrace ts left → brace_at p f ts ≡ Ok (tt, left)
unfolding brace_at
brace_reads p f w = let h = word_head w in rw (h.0, h.1) refl

anchor_parts_read : (p : Progress) {ts : List Tok} {a : AnchorText} {left : List Tok} (q : AnchorOf p ts a left) → anchor_parts_at p q.behind_word ≡ Ok (a, left)
unfolding anchor_parts_at
anchor_parts_read p {a = a} q =
    let brace = (word_head q.opens).0 in
    let no_name = anchor_parameters_head (λ k. names_anchor k ≡ false) refl refl refl refl refl refl refl refl refl refl q.parameters (flags_part_head (λ k. names_anchor k ≡ false) refl q.flags (rw brace refl)) in
    let behind_parameters = flags_part_head (λ k. ends_parameters k ≡ true) refl q.flags (rw brace refl) in
    let no_flags : begins_flags (head q.brace).key ≡ false = rw brace refl in
    rw (
      anchor_name_reads p q.name no_name,
      parameters_read statement.Anchor q.parameters behind_parameters,
      perhaps_reads begins_flags flags_at FlagsOf (λ ts x left h. (flags_head (λ k. begins_flags k ≡ true) refl h, flags_read h)) q.flags no_flags,
      brace_reads a.parameters a.flags q.opens,
    ) refl

pub anchor_text_reads : (p : Progress) {ts : List Tok} {a : AnchorText} {left : List Tok} (q : AnchorOf p ts a left) → anchor_text_at p q.behind_word ≡ Ok (a, left)
unfolding anchor_text_at
anchor_text_reads p q = ap in_head (anchor_parts_read p q)

pub anchor_reads : (n : ℕ) (p : Progress) {ts mid left : List Tok} {a : AnchorText} (q : AnchorOf p ts a mid) → anchor_breaks p.depth p.draft a ≡ None → Word key.LineEnd mid left
    → anchor_at n p q.behind_word ≡ Ok (with_anchor n a p, left)
unfolding anchor_at
anchor_reads n p {a = a} q e w = rw (anchor_text_reads p q, e) (ended_reads (with_anchor n a p) w)

pub anchor_told : (n : ℕ) (p : Progress) {ts mid : List Tok} {a : AnchorText} (b : LoadRule) (q : AnchorOf p ts a mid) → anchor_breaks p.depth p.draft a ≡ Some b → anchor_at n p q.behind_word ≡ Err (broken b n)
unfolding anchor_at
anchor_told n p b q e = rw (anchor_text_reads p q, e) refl

-- ---- options and tables

setting_reads : (p : Progress) {d : Drafted} {ts mid left : List Tok} → SettingOf p.draft ts d mid → Word key.LineEnd mid left → setting_line_at p ts ≡ Ok (with_draft d p, left)
unfolding setting_line_at
setting_reads p {d = d} s w = rw (settings_read s) (ended_reads (with_draft d p) w)

-- a setting begins with a word of its own
setting_begins : {d e : Drafted} {ts left : List Tok} (n : ℕ) (p : Progress) → SettingOf d ts e left → set_by n p (head ts).key ≡ stay (setting_line_at p)
setting_begins n p (profile w v) = rw (word_head w).0 refl
setting_begins n p (limit w v) = rw (word_head w).0 refl
setting_begins n p (limits w v l) = rw (word_head w).0 refl
setting_begins n p (timeout w v) = rw (word_head w).0 refl
setting_begins n p (timeouts w v l) = rw (word_head w).0 refl
setting_begins n p (route w v) = rw (word_head w).0 refl
setting_begins n p (routes w v l) = rw (word_head w).0 refl

set_reads : (n : ℕ) (p : Progress) {d : Drafted} {ts mid left : List Tok} → SettingOf p.draft ts d mid → Word key.LineEnd mid left → set_at n p ts ≡ Ok (with_draft d p, left)
unfolding set_at
set_reads n p s w = rw (setting_begins n p s) (setting_reads p s w)

-- `set syncookies`, with whether it breaks a load rule
abbrev pub cookies_end : (n : ℕ) (p : Progress) (s : Syncookies) (left : List Tok) → Result (Progress × List Tok) Refused
cookies_end n p s left = chain (told (cookies_break s) n) (λ u. done (with_cookies s p)) left

cookies_come : (n : ℕ) (p : Progress) {ts left : List Tok} {s : Syncookies} (q : CookiesOf ts s left) → set_at n p q.a ≡ cookies_end n p s left
unfolding set_at cookies_line_at
cookies_come n p {s = s} q =
    let w = word_head q.word in
    let l = word_head q.ended in
    rw (w.0, w.1, syncookies_reads q.cookies (rw l.0 refl), l.0, l.1) refl

pub cookies_statement : (p : Progress) {ts left : List Tok} {s : Syncookies} (q : CookiesOf ts s left) → p.depth ≡ 0 → statement_at p ts ≡ cookies_end (head ts).line p s left
unfolding statement_at
cookies_statement p {ts = ts} q e =
    let w = word_head q.set in
    let z : (p.depth == 0) ≡ true = ap (λ (n : ℕ). n == 0) e in
    rw (w.0, z, w.1) (cookies_come (head ts).line p q)

cookies_read : (n : ℕ) (p : Progress) (s : Syncookies) (left : List Tok) → cookies_break s ≡ None → cookies_end n p s left ≡ Ok (with_cookies s p, left)
cookies_read n p s left e = rw e refl

pub cookies_told : (n : ℕ) (p : Progress) (s : Syncookies) (left : List Tok) (b : LoadRule) → cookies_break s ≡ Some b → cookies_end n p s left ≡ Err (broken b n)
cookies_told n p s left b e = rw e refl

table_name_reads : (d : Drafted) {ts left : List Tok} {name : List ℕ} → NewTableOf d ts name left → new_name_at d ts ≡ Ok (name, left)
unfolding new_name_at
table_name_reads d q =
    let o = word_head q.0.opens in
    let c = word_head q.0.closes in
    rw (o.0, o.1, q.0.named.1, q.0.named.2, q.0.named.3, q.1, c.0, c.1) refl

table_reads : (p : Progress) {ts b c left : List Tok} (name : List ℕ) (parts : Parts) → NewTableOf p.draft ts name b → PartsOf b parts c → Word key.LineEnd c left → definition_at p ts ≡ Ok (with_definition name parts p, left)
unfolding definition_at
table_reads p name parts n q w = rw (table_name_reads p.draft n, parts_read q) (ended_reads (with_definition name parts p) w)

-- ---- statements and texts

pub verb_key : {ts left : List Tok} {v : Verb} → VerbOf ts v left → (Q : Key → Type 0) → Q key.Pass → Q key.Block → Q key.Match → Q (head ts).key
verb_key (pass w) Q a b c = subst Q (sym (word_head w).0) a
verb_key (block w p) Q a b c = subst Q (sym (word_head w).0) b
verb_key (matching w) Q a b c = subst Q (sym (word_head w).0) c

at_rule : (p : Progress) (ts : List Tok) (k : Key) → (head ts).key ≡ k → (res : Result (Progress × List Tok) Refused) → rule_line_at (head ts).line p ts ≡ res
    → (k ≡ key.Pass → statement_at p ts ≡ res) × (k ≡ key.Block → statement_at p ts ≡ res) × (k ≡ key.Match → statement_at p ts ≡ res)
unfolding statement_at
at_rule p ts k g res e = (λ h. rw (g ∙ h) e, λ h. rw (g ∙ h) e, λ h. rw (g ∙ h) e)

pub rule_statement : (p : Progress) {ts left : List Tok} {v : Verb} → VerbOf ts v left → (res : Result (Progress × List Tok) Refused) → rule_line_at (head ts).line p ts ≡ res → statement_at p ts ≡ res
rule_statement p {ts = ts} (pass w) res e = (at_rule p ts key.Pass (word_head w).0 res e).0 refl
rule_statement p {ts = ts} (block w q) res e = (at_rule p ts key.Block (word_head w).0 res e).1 refl
rule_statement p {ts = ts} (matching w) res e = (at_rule p ts key.Match (word_head w).0 res e).2 refl

pub anchor_statement : (p : Progress) {ts mid : List Tok} → Word key.Anchor ts mid → (res : Result (Progress × List Tok) Refused) → anchor_at (head ts).line p mid ≡ res → statement_at p ts ≡ res
unfolding statement_at
anchor_statement p w res e = let h = word_head w in rw (h.0, h.1) e

pub statement_reads : {p q : Progress} {ts left : List Tok} → StatementOf p ts q left → statement_at p ts ≡ Ok (q, left)
unfolding statement_at
statement_reads (blank w) = let h = word_head w in rw (h.0, h.1) refl
statement_reads {p = p} {ts = ts} (set e w s l) = let h = word_head w in let z : (p.depth == 0) ≡ true = ap (λ (n : ℕ). n == 0) e in rw (h.0, z, h.1) (set_reads (head ts).line p s l)
statement_reads {p = p} {ts = ts} {left = left} (cookies s e q k) = cookies_statement p q e ∙ cookies_read (head ts).line p s left k
statement_reads {p = p} (table name parts e w n q l) = let h = word_head w in let z : (p.depth == 0) ≡ true = ap (λ (n : ℕ). n == 0) e in rw (h.0, z, h.1) (table_reads p name parts n q l)
statement_reads {p = p} {ts = ts} {left = left} (rule r q e) = rule_statement p q.verb (Ok (with_rule (head ts).line r p, left)) (rule_reads (head ts).line p r q e)
statement_reads {p = p} {ts = ts} {left = left} (anchor a q e l) = anchor_statement p q.word (Ok (with_anchor (head ts).line a p, left)) (anchor_reads (head ts).line p q e l)
statement_reads {p = p} (close more w l) = let h = word_head w in let z : (p.depth == 0) ≡ false = ne_eqb p.depth 0 (λ e. omega arith) in rw (h.0, z, h.1) (ended_reads (anchor_closed p) l)

-- steps are read before any key
abbrev pub any_key : Key → Bool
any_key k = true

pub statement_begins : {p q : Progress} {ts left : List Tok} → StatementOf p ts q left → (ends_text (head ts).key ≡ false) × (any_key (head ts).key ≡ true)
statement_begins (blank w) = rw (word_head w).0 (refl, refl)
statement_begins (set e w s l) = rw (word_head w).0 (refl, refl)
statement_begins (cookies s e q k) = rw (word_head q.set).0 (refl, refl)
statement_begins (table name parts e w n q l) = rw (word_head w).0 (refl, refl)
statement_begins (rule r q e) = (verb_key q.verb (λ k. ends_text k ≡ false) refl refl refl, refl)
statement_begins (anchor a q e l) = rw (word_head q.word).0 (refl, refl)
statement_begins (close more w l) = rw (word_head w).0 (refl, refl)

statements_read_up : ReadsSteps key.End ends_text any_key StatementOf statement_at
statements_read_up = record { closes = refl; close_follows = refl; begins = λ s. statement_begins s; reads = λ s f. statement_reads s; shrinks = statement_shrinks }

pub statements_read : {ts : List Tok} {p : Progress} {left : List Tok} → UpTo key.End StatementOf nothing ts p left → statements_at ts ≡ Ok (p, left)
unfolding statements_at
statements_read u = up_to_reads statements_read_up u

-- the end of the text, after statements that are read
pub text_ends : (ts : List Tok) (p : Progress) (left : List Tok) → statements_at ts ≡ Ok (p, left) → p.depth ≡ 0 → text_breaks p ≡ None → text_at ts ≡ Ok (conf_of_draft p.draft, left)
unfolding text_at
text_ends ts p left e z k = let zero : (p.depth == 0) ≡ true = ap (λ (n : ℕ). n == 0) z in rw (e, zero, k) refl

pub text_told : (ts : List Tok) (p : Progress) (left : List Tok) (b : LoadRule) (n : ℕ) → statements_at ts ≡ Ok (p, left) → p.depth ≡ 0 → text_breaks p ≡ Some (b, n) → text_at ts ≡ Err (broken b n)
unfolding text_at
text_told ts p left b n e z k = let zero : (p.depth == 0) ≡ true = ap (λ (n : ℕ). n == 0) z in rw (e, zero, k) refl

pub text_reads : {ts : List Tok} {conf : Conf} (t : TextOf ts conf) → text_at ts ≡ Ok (conf, t.left)
text_reads {ts = ts} t = text_ends ts t.said t.left (statements_read t.statements) t.all_closed t.keeps ∙ ap (λ (c : Conf). Ok (c, t.left)) t.says
