-- Reading statements from left to right: one definition for each reader of the code, made of the parts of
-- pfs_conf_tokens. So each looks no further than the token in front of what it leaves. (own) (not promised)
use Rattle.std.specs.Prelude.{ℕ, ◌==◌, ◌||◌, Bool, true, false, if◌then◌else◌, Option, Some, None, is_some, List, Result, Ok, Err, ◌-◌}
use Rattle.pfs_conf_tokens.specs.Tokens.{Tok, head}
use Rattle.pfs_conf_tokens.specs.Keys.{is_word_key, ends_line}
use Rattle.pfs_conf_tokens.specs.Reading.{ends_text, Refused, stop, broken, Reader, Act, take, stay, refuse, on_front, done, chain, perhaps, once, until_all, up_to_all, ended}
use Rattle.pfs_conf_tokens.specs.declared.keys.Key.{Key}
use Rattle.pfs_conf_tokens.specs.declared.keys.Key.TheVariants as key
use Rattle.pfs_conf_tokens.specs.declared.refusals.LoadRule.{LoadRule}
use Rattle.pfs_conf_tokens.specs.declared.refusals.Why.{Why}
use Rattle.pfs_conf_tokens.specs.declared.refusals.Why.TheVariants as why
use Rattle.pfs_addr_values.specs.Names.{name_of}
use Rattle.pfs_conf_values.specs.Configs.{Conf}
use Rattle.pfs_conf_settings.specs.Drafts.{Drafted, conf_of_draft, is_defined}
use Rattle.pfs_conf_values.specs.Siblings.{has_sibling}
use Rattle.pfs_conf_values.specs.declared.filters.FlagTest.{FlagTest}
use Rattle.pfs_conf_filters.specs.Grammar.{may_translate, statement_of, takes_state}
use Rattle.pfs_conf_filters.specs.Reading.{verb_at, parameters_at, flags_at, extra_at, translation_at, begins_flags}
use Rattle.pfs_conf_filters.specs.Repeats.{repeats, repeats_policy, repeats_translation}
use Rattle.pfs_conf_filters.specs.declared.phrases.Parameters.{Parameters}
use Rattle.pfs_conf_filters.specs.declared.phrases.Statement.TheVariants as statement
use Rattle.pfs_conf_filters.specs.declared.phrases.Verb.{Verb}
use Rattle.pfs_conf_options.specs.Reading.{state_at}
use Rattle.pfs_conf_settings.specs.Settings.{settings_at}
use Rattle.pfs_conf_settings.specs.Syncookies.{syncookies_at}
use Rattle.pfs_conf_settings.specs.Tables.{parts_at}
use Rattle.pfs_conf.specs.declared.phrases.Clauses.{Clauses}
use Rattle.pfs_conf.specs.declared.phrases.RuleText.{RuleText}
use Rattle.pfs_conf.specs.declared.phrases.AnchorText.{AnchorText}
use Rattle.pfs_conf.specs.declared.progress.Progress.{Progress}
use Rattle.pfs_conf.specs.Grammar.{names_anchor}
use Rattle.pfs_conf.specs.Statements.{nothing, no_clauses, with_rule, with_anchor, with_cookies, with_definition, rule_breaks, anchor_breaks, cookies_break, text_breaks}

-- a broken load rule is reported at a line
abbrev pub told : Option LoadRule → ℕ → Reader (Unit {0})
told None line ts = Ok (tt, ts)
told (Some rule) line ts = Err (broken rule line)

-- what the statements say is this
abbrev pub with_draft : Drafted → Progress → Progress
with_draft d p = record { draft = d; depth = p.depth; lines = p.lines }

-- an anchor is anchor_closed
abbrev pub anchor_closed : Progress → Progress
anchor_closed p = record { draft = p.draft; depth = p.depth - 1; lines = p.lines }

-- a word that continues no statement: one that begins what is there already is reported as such
abbrev pub why_repeated : Bool → Why
why_repeated true = why.Again
why_repeated false = why.Plain

-- ---- rules

-- the state clause, which a match rule has not
abbrev pub state_act : Verb → Clauses → Act Clauses
state_act v c = if takes_state v then once c.state (stay (chain state_at (λ s. done (record c { state = Some s })))) else refuse why.Plain

abbrev pub extra_act : Clauses → Act Clauses
extra_act c = stay (chain (extra_at c.extras) (λ e. done (record c { extras = e })))

-- a translation, which a block rule has not
abbrev pub translation_act : Verb → Clauses → Act Clauses
translation_act v c =
    if may_translate v then stay (chain (translation_at c.translation) (λ t. done (record c { translation = t }))) else refuse why.Plain

-- `flags`, extras, translations and a state clause, in any order, each at most once
abbrev pub clause_by : Verb → Parameters → Clauses → Key → Act Clauses
clause_by v p c key.Flags = once c.flags (stay (chain flags_at (λ f. done (record c { flags = Some f }))))
clause_by v p c key.Tag = extra_act c
clause_by v p c key.Tagged = extra_act c
clause_by v p c key.ReceivedOn = extra_act c
clause_by v p c key.Not = extra_act c
clause_by v p c key.NatTo = translation_act v c
clause_by v p c key.RdrTo = translation_act v c
clause_by v p c key.No = state_act v c
clause_by v p c key.Keep = state_act v c
clause_by v p c key.Synproxy = state_act v c
clause_by v p c k = refuse (why_repeated (repeats_policy v k || repeats p k || repeats_translation c.translation k))

unfoldable pub clause_at : Verb → Parameters → Clauses → Reader Clauses
clause_at v p c ts = on_front (λ t. clause_by v p c t.key) ts

unfoldable pub rule_text_at : Reader RuleText
rule_text_at ts = chain verb_at (λ v. chain (parameters_at (statement_of v)) (λ p. chain (until_all ends_line (clause_at v p) no_clauses) (λ c.
    done (record { verb = v; parameters = p; clauses = c })))) ts

-- a rule that begins on a line; its load rules are checked when its line end has been read
unfoldable pub rule_line_at : ℕ → Progress → Reader Progress
rule_line_at line p ts = chain rule_text_at (λ r. chain (told (rule_breaks p.draft r) line) (λ u. done (with_rule line r p))) ts

-- ---- anchors

-- a name that no anchor of the same body has yet
abbrev pub new_anchor : Progress → List ℕ → Act (Option (List ℕ))
new_anchor p name = if has_sibling p.depth name p.draft.items then refuse why.Again else take (done (Some name))

abbrev pub anchor_named : Progress → Option (List ℕ) → Act (Option (List ℕ))
anchor_named p None = refuse why.AnchorName
anchor_named p (Some name) = new_anchor p name

abbrev pub anchor_name_by : Progress → Tok → Act (Option (List ℕ))
anchor_name_by p t = if names_anchor t.key then anchor_named p (name_of 63 t.text) else stay (done None)

unfoldable pub anchor_name_at : Progress → Reader (Option (List ℕ))
anchor_name_at p ts = on_front (λ t. anchor_name_by p t) ts

-- whether a word begins what the head of an anchor has already
abbrev pub repeats_head : Parameters → Option FlagTest → Key → Bool
repeats_head p f key.Flags = is_some f
repeats_head p f k = repeats p k

abbrev pub head_repeated : Bool → Why
head_repeated true = why.Again
head_repeated false = why.AnchorHead

abbrev pub brace_by : Parameters → Option FlagTest → Key → Act (Unit {0})
brace_by p f key.OpenBrace = take (done tt)
brace_by p f k = refuse (head_repeated (repeats_head p f k))

unfoldable pub brace_at : Parameters → Option FlagTest → Reader (Unit {0})
brace_at p f ts = on_front (λ t. brace_by p f t.key) ts

-- what follows the word `anchor`, up to the brace
unfoldable pub anchor_parts_at : Progress → Reader AnchorText
anchor_parts_at p ts = chain (anchor_name_at p) (λ n. chain (parameters_at statement.Anchor) (λ q. chain (perhaps begins_flags flags_at) (λ f. chain (brace_at q f) (λ u.
    done (record { name = n; parameters = q; flags = f }))))) ts

-- wherever the line ends before the brace, the brace was wanted
abbrev pub why_in_head : Why → Key → Why
why_in_head w key.LineEnd = why.AnchorHead
why_in_head w _ = w

abbrev pub in_head : {A : Type 0} → Result (A × List Tok) Refused → Result (A × List Tok) Refused
in_head (Ok x) = Ok x
in_head (Err (stop ts w)) = Err (stop ts (why_in_head w (head ts).key))
in_head (Err (broken rule line)) = Err (broken rule line)

unfoldable pub anchor_text_at : Progress → Reader AnchorText
anchor_text_at p ts = in_head (anchor_parts_at p ts)

-- an anchor that begins on a line, after that word; its load rules are checked when its brace has been read
unfoldable pub anchor_at : ℕ → Progress → Reader Progress
anchor_at line p ts = chain (anchor_text_at p) (λ a. chain (told (anchor_breaks p.depth p.draft a) line) (λ u. ended (with_anchor line a p))) ts

-- ---- options and tables

-- `set syncookies`, on a line and after these words; its load rule is checked when its line end has been read
unfoldable pub cookies_line_at : ℕ → Progress → Reader Progress
cookies_line_at line p ts = chain syncookies_at (λ s. chain (ended s) (λ c. chain (told (cookies_break c) line) (λ u. done (with_cookies c p)))) ts

-- any other setting
unfoldable pub setting_line_at : Progress → Reader Progress
setting_line_at p ts = chain (settings_at p.draft) (λ d. ended (with_draft d p)) ts

abbrev pub set_by : ℕ → Progress → Key → Act Progress
set_by line p key.Syncookies = take (cookies_line_at line p)
set_by line p _ = stay (setting_line_at p)

-- what follows `set`, on a line
unfoldable pub set_at : ℕ → Progress → Reader Progress
set_at line p ts = on_front (λ t. set_by line p t.key) ts

abbrev pub open_by : Key → Act (Unit {0})
open_by key.OpenAngle = take (done tt)
open_by _ = refuse why.Plain

abbrev pub angle_by : Key → Act (Unit {0})
angle_by key.CloseAngle = take (done tt)
angle_by _ = refuse why.Plain

-- a name that no definition has yet
abbrev pub new_table : Drafted → List ℕ → Act (List ℕ)
new_table d name = if is_defined name d then refuse why.Again else take (done name)

abbrev pub new_table_named : Drafted → Option (List ℕ) → Act (List ℕ)
new_table_named d None = refuse why.Plain
new_table_named d (Some name) = new_table d name

abbrev pub new_name_by : Drafted → Tok → Act (List ℕ)
new_name_by d t = if is_word_key t.key then new_table_named d (name_of 31 t.text) else refuse why.Plain

-- a name in angle brackets
unfoldable pub new_name_at : Drafted → Reader (List ℕ)
new_name_at d ts = chain (on_front (λ t. open_by t.key)) (λ u. chain (on_front (λ t. new_name_by d t)) (λ n. chain (on_front (λ t. angle_by t.key)) (λ v. done n))) ts

unfoldable pub definition_at : Progress → Reader Progress
definition_at p ts = chain (new_name_at p.draft) (λ n. chain parts_at (λ parts. ended (with_definition n parts p))) ts

-- ---- statements and texts

-- what is allowed outside of anchors only
abbrev pub outside : {A : Type 0} → ℕ → Act A → Act A
outside depth a = if depth == 0 then a else refuse why.Inner

-- and inside of one
abbrev pub inside_anchor : {A : Type 0} → ℕ → Act A → Act A
inside_anchor depth a = if depth == 0 then refuse why.Statement else a

abbrev pub statement_by : Progress → ℕ → Key → Act Progress
statement_by p line key.LineEnd = take (done p)
statement_by p line key.Set = outside p.depth (take (set_at line p))
statement_by p line key.Table = outside p.depth (take (definition_at p))
statement_by p line key.Pass = stay (rule_line_at line p)
statement_by p line key.Block = stay (rule_line_at line p)
statement_by p line key.Match = stay (rule_line_at line p)
statement_by p line key.Anchor = take (anchor_at line p)
statement_by p line key.CloseBrace = inside_anchor p.depth (take (ended (anchor_closed p)))
statement_by p line _ = refuse why.Statement

unfoldable pub statement_at : Progress → Reader Progress
statement_at p ts = on_front (λ t. statement_by p t.line t.key) ts

-- at the end of the text no anchor is open
abbrev pub all_closed : ℕ → Reader (Unit {0})
all_closed depth ts = on_front (λ t. if depth == 0 then stay (done tt) else refuse why.Plain) ts

-- a load rule that the text breaks is reported at its line
abbrev pub told_of : Option (LoadRule × ℕ) → Reader (Unit {0})
told_of None ts = Ok (tt, ts)
told_of (Some r) ts = Err (broken r.0 r.1)

unfoldable pub statements_at : Reader Progress
statements_at ts = up_to_all ends_text statement_at nothing ts

unfoldable pub text_at : Reader Conf
text_at ts = chain statements_at (λ p. chain (all_closed p.depth) (λ u. chain (told_of (text_breaks p)) (λ v. done (conf_of_draft p.draft)))) ts
