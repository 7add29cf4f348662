-- What the fault of a rules text that reads as no configuration may be. (own)
use Rattle.std.specs.Prelude.{◌≡◌, ℕ, Some, List, ◌≤◌, ◌<◌, ◌++◌, ◌∷◌, length}
use Rattle.pfs_conf_tokens.specs.Tokens.{Tok, head}
use Rattle.pfs_conf_tokens.specs.Grammar.{UpTo}
use Rattle.pfs_conf_tokens.specs.declared.keys.Key.TheVariants as key
use Rattle.pfs_conf_tokens.specs.declared.refusals.LoadRule.{LoadRule}
use Rattle.pfs_conf_tokens.specs.Lexis.{text_limit, tokens_of}
use Rattle.pfs_conf_values.specs.declared.syncookies.Syncookies.{Syncookies}
use Rattle.pfs_conf.specs.declared.phrases.RuleText.{RuleText}
use Rattle.pfs_conf.specs.declared.phrases.AnchorText.{AnchorText}
use Rattle.pfs_conf.specs.declared.progress.Progress.{Progress}
use Rattle.pfs_conf.specs.Statements.{nothing, rule_breaks, anchor_breaks, cookies_break, text_breaks}
use Rattle.pfs_conf.specs.Grammar.{RuleOf, AnchorOf, CookiesOf, StatementOf}
use Rattle.pfs_conf.specs.declared.faults.LoadFault.{LoadFault}
use Rattle.pfs_conf.specs.Kinds.{fault, too_long, no_memory, kind_of_rule, IsKindAt}
use Rattle.pfs_conf.specs.Places.{IsBegun}
use Rattle.pfs_conf.specs.Reads.{Reads}
use Rattle.pfs_conf_values.specs.Configs.{Conf}

-- statements, one after another, as far as these tokens are left
pub data Statements : Progress → List Tok → Progress → List Tok → Type 0 where
  none : {p : Progress} {ts : List Tok} → Statements p ts p ts
  before : {p q r : Progress} {ts mid left : List Tok} → StatementOf p ts q mid → Statements q mid r left → Statements p ts r left

-- the first load rule that a text breaks, with the line at which it is reported. All statements before are read and
-- keep the load rules. Then a rule, the head of an anchor, or `set syncookies` breaks one, and its line is that of its first
-- token; or no statement does, and the text as a whole breaks one
pub data Breaks (ts : List Tok) : LoadRule → ℕ → Type 0 where
  at_rule : {p : Progress} {mid left : List Tok} {broken : LoadRule} (r : RuleText) → Statements nothing ts p mid → RuleOf mid r left
      → rule_breaks p.draft r ≡ Some broken → Breaks ts broken (head mid).line
  at_anchor : {p : Progress} {mid left : List Tok} {broken : LoadRule} (a : AnchorText) → Statements nothing ts p mid → AnchorOf p mid a left
      → anchor_breaks p.depth p.draft a ≡ Some broken → Breaks ts broken (head mid).line
  at_cookies : {p : Progress} {mid left : List Tok} {broken : LoadRule} (s : Syncookies) → Statements nothing ts p mid → p.depth ≡ 0 → CookiesOf mid s left
      → cookies_break s ≡ Some broken → Breaks ts broken (head mid).line
  at_end : {p : Progress} {left : List Tok} {broken : LoadRule} {line : ℕ} → UpTo key.End StatementOf nothing ts p left → p.depth ≡ 0
      → text_breaks p ≡ Some (broken, line) → Breaks ts broken line

-- a token of a text at which reading stops. No text with the same tokens up to and including it reads as a
-- configuration. The tokens before it are statements, and heads of anchors that are still open, which keep the load
-- rules that are checked for each of them; then those of a statement that is begun, without a line end outside of the
-- braces of a `set` or a `table`
pub record StopsAt (text : List ℕ) (t : Tok) (behind : List Tok) : Type 0 where
  pub before : List Tok
  pub splits : tokens_of text ≡ before ++ t ∷ behind
  pub hopeless : (other : List ℕ) (others : List Tok) (conf : Conf) → tokens_of other ≡ before ++ t ∷ others → Reads other conf → ⊥
  pub said : Progress
  pub begun : List Tok
  pub statements : Statements nothing (tokens_of text) said begun
  pub begins : IsBegun begun (t ∷ behind)

-- what the fault of a text may be: memory was refused; the text is too long; a load rule is the first that is broken,
-- with the line at which it is reported; or reading stops at a token, whose line it has, and the kind is one that may
-- be reported at that token
pub data IsFault (text : List ℕ) (e : LoadFault) : Type 0 where
  memory : e ≡ no_memory → IsFault text e
  long : text_limit < length text → e ≡ too_long → IsFault text e
  breaks : {rule : LoadRule} {line : ℕ} → length text ≤ text_limit → Breaks (tokens_of text) rule line → e ≡ fault line (kind_of_rule rule) → IsFault text e
  stops : (t : Tok) (behind : List Tok) → length text ≤ text_limit → StopsAt text t behind → e.line ≡ t.line → IsKindAt t e.kind → IsFault text e
