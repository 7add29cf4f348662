-- The grammar of statements: which tokens write them, what they add to what the statements before them say, and which tokens
-- they leave. (pf.conf(5), GRAMMAR)
use Rattle.std.specs.Prelude.{◌≡◌, ℕ, ◌≤◌, ◌-◌, Bool, true, false, Option, Some, None, List, ◌∷◌}
use Rattle.pfs_conf_tokens.specs.Tokens.{Tok, head}
use Rattle.pfs_conf_tokens.specs.Keys.{is_word_key}
use Rattle.pfs_conf_tokens.specs.Grammar.{Word, Perhaps, Until, UpTo}
use Rattle.pfs_conf_tokens.specs.declared.keys.Key.{Key}
use Rattle.pfs_conf_tokens.specs.declared.keys.Key.TheVariants as key
use Rattle.pfs_addr_values.specs.Names.{name_of}
use Rattle.pfs_conf_values.specs.Configs.{Conf}
use Rattle.pfs_conf_settings.specs.Drafts.{Drafted, conf_of_draft, is_defined}
use Rattle.pfs_conf_values.specs.Siblings.{has_sibling}
use Rattle.pfs_conf_values.specs.declared.filters.FlagTest.{FlagTest}
use Rattle.pfs_conf_values.specs.declared.translations.Translation.{Translation}
use Rattle.pfs_conf_filters.specs.declared.phrases.Statement.TheVariants as statement
use Rattle.pfs_conf_filters.specs.declared.phrases.Extras.{Extras}
use Rattle.pfs_conf_filters.specs.declared.phrases.Verb.{Verb}
use Rattle.pfs_conf_filters.specs.Grammar.{VerbOf, ParametersOf, FlagsOf, ExtraOf, TranslationOf, may_translate, statement_of, takes_state}
use Rattle.pfs_conf_options.specs.Grammar.{StateOf, TableOf}
use Rattle.pfs_conf_options.specs.declared.clauses.StateClause.{StateClause}
use Rattle.pfs_conf_settings.specs.SettingGrammar.{SettingOf}
use Rattle.pfs_conf_settings.specs.SyncookieGrammar.{SyncookiesOf}
use Rattle.pfs_conf_settings.specs.TableGrammar.{PartsOf}
use Rattle.pfs_conf_settings.specs.declared.tables.Parts.{Parts}
use Rattle.pfs_conf_values.specs.declared.syncookies.Syncookies.{Syncookies}
use Rattle.pfs_conf.specs.declared.phrases.Clauses.{Clauses}
use Rattle.pfs_conf.specs.declared.phrases.RuleText.{RuleText}
use Rattle.pfs_conf.specs.declared.phrases.AnchorText.{AnchorText}
use Rattle.pfs_conf.specs.declared.progress.Progress.{Progress}
use Rattle.pfs_conf.specs.Statements.{nothing, no_clauses, with_cookies, with_definition, with_rule, with_anchor, rule_breaks, anchor_breaks, cookies_break, text_breaks}

-- `flags`, an extra, a translation or a state clause is added to the clauses of a rule that begins so and does not have it
pub data ClauseOf (v : Verb) : Clauses → List Tok → Clauses → List Tok → Type 0 where
  flags : {c : Clauses} {ts left : List Tok} {f : FlagTest} → c.flags ≡ None → FlagsOf ts f left → ClauseOf v c ts (record c { flags = Some f }) left
  extra : {c : Clauses} {ts left : List Tok} {e : Extras} → ExtraOf c.extras ts e left → ClauseOf v c ts (record c { extras = e }) left
  translation : {c : Clauses} {ts left : List Tok} {t : Translation} → may_translate v ≡ true → TranslationOf c.translation ts t left → ClauseOf v c ts (record c { translation = t }) left
  state : {c : Clauses} {ts left : List Tok} {s : StateClause} → takes_state v ≡ true → c.state ≡ None → StateOf ts s left → ClauseOf v c ts (record c { state = Some s }) left

-- rule := action parameters (flags | extra | translation | state)* EOL
pub record RuleOf (ts : List Tok) (r : RuleText) (left : List Tok) : Type 0 where
  pub a : List Tok
  pub b : List Tok
  pub verb : VerbOf ts r.verb a
  pub parameters : ParametersOf (statement_of r.verb) a r.parameters b
  pub clauses : Until key.LineEnd (ClauseOf r.verb) no_clauses b r.clauses left

-- words that may begin what follows the name of an anchor are no names of anchors, unless they are quoted
abbrev pub names_anchor : Key → Bool
names_anchor key.Quoted = true
names_anchor key.In = false
names_anchor key.Out = false
names_anchor key.Quick = false
names_anchor key.On = false
names_anchor key.Inet = false
names_anchor key.Inet6 = false
names_anchor key.Proto = false
names_anchor key.From = false
names_anchor key.To = false
names_anchor key.All = false
names_anchor key.Flags = false
names_anchor k = is_word_key k

-- the name of an anchor, which no anchor of the same body has yet, or none
pub data AnchorNameOf (p : Progress) : List Tok → Option (List ℕ) → List Tok → Type 0 where
  unnamed : {ts : List Tok} → AnchorNameOf p ts None ts
  named : {ts left : List Tok} {t : Tok} {name : List ℕ} → ts ≡ t ∷ left → names_anchor t.key ≡ true → name_of 63 t.text ≡ Some name
      → has_sibling p.depth name p.draft.items ≡ false → AnchorNameOf p ts (Some name) left

-- the head of an anchor := "anchor" [ANAME] parameters [flags] "{"
pub record AnchorOf (p : Progress) (ts : List Tok) (a : AnchorText) (left : List Tok) : Type 0 where
  pub behind_word : List Tok
  pub behind_name : List Tok
  pub behind_parameters : List Tok
  pub brace : List Tok
  pub word : Word key.Anchor ts behind_word
  pub name : AnchorNameOf p behind_word a.name behind_name
  pub parameters : ParametersOf statement.Anchor behind_name a.parameters behind_parameters
  pub flags : Perhaps FlagsOf behind_parameters a.flags brace
  pub opens : Word key.OpenBrace brace left

-- "set" "syncookies" syncookies EOL
pub record CookiesOf (ts : List Tok) (s : Syncookies) (left : List Tok) : Type 0 where
  pub a : List Tok
  pub b : List Tok
  pub c : List Tok
  pub set : Word key.Set ts a
  pub word : Word key.Syncookies a b
  pub cookies : SyncookiesOf b s c
  pub ended : Word key.LineEnd c left

-- the name of a table that is not defined yet
abbrev pub NewTableOf : Drafted → List Tok → List ℕ → List Tok → Type 0
NewTableOf d ts name left = TableOf ts name left × (is_defined name d ≡ false)

-- a statement that keeps the load rules. A blank line says nothing; `}` closes an anchor; `set` and `table` are allowed
-- outside of anchors only
pub data StatementOf : Progress → List Tok → Progress → List Tok → Type 0 where
  blank : {p : Progress} {ts left : List Tok} → Word key.LineEnd ts left → StatementOf p ts p left
  set : {p : Progress} {d : Drafted} {ts a b left : List Tok} → p.depth ≡ 0 → Word key.Set ts a → SettingOf p.draft a d b → Word key.LineEnd b left → StatementOf p ts (record p { draft = d }) left
  cookies : {p : Progress} {ts left : List Tok} (s : Syncookies) → p.depth ≡ 0 → CookiesOf ts s left → cookies_break s ≡ None → StatementOf p ts (with_cookies s p) left
  table : {p : Progress} {ts a b c left : List Tok} (name : List ℕ) (parts : Parts) → p.depth ≡ 0 → Word key.Table ts a → NewTableOf p.draft a name b
      → PartsOf b parts c → Word key.LineEnd c left → StatementOf p ts (with_definition name parts p) left
  rule : {p : Progress} {ts left : List Tok} (r : RuleText) → RuleOf ts r left → rule_breaks p.draft r ≡ None → StatementOf p ts (with_rule (head ts).line r p) left
  anchor : {p : Progress} {ts mid left : List Tok} (a : AnchorText) → AnchorOf p ts a mid → anchor_breaks p.depth p.draft a ≡ None
      → Word key.LineEnd mid left → StatementOf p ts (with_anchor (head ts).line a p) left
  close : {p : Progress} {ts mid left : List Tok} → 1 ≤ p.depth → Word key.CloseBrace ts mid → Word key.LineEnd mid left → StatementOf p ts (record p { depth = p.depth - 1 }) left

-- a text: statements that keep the load rules, up to the end, with each anchor closed; and all of them together keep those
-- of a text. The configuration is what they say
pub record TextOf (ts : List Tok) (conf : Conf) : Type 0 where
  pub said : Progress
  pub left : List Tok
  pub statements : UpTo key.End StatementOf nothing ts said left
  pub all_closed : said.depth ≡ 0
  pub keeps : text_breaks said ≡ None
  pub says : conf_of_draft said.draft ≡ conf
