-- The kinds of faults, and what a kind says of the token at which it is reported. (own)
use Rattle.std.specs.Prelude.{◌≡◌, ℕ, Bool, true, false, ◌&&◌, ◌||◌, ◌==◌, List}
use Rattle.std.specs.List.{list_any}
use Rattle.pfs_conf_tokens.specs.Tokens.{Tok}
use Rattle.pfs_conf_tokens.specs.Keys.{is_word_key, is_unsupported_key}
use Rattle.pfs_conf_tokens.specs.declared.keys.Key.{Key}
use Rattle.pfs_conf_tokens.specs.declared.keys.Key.TheVariants as key
use Rattle.pfs_conf_tokens.specs.declared.refusals.LoadRule.{LoadRule}
use Rattle.pfs_conf_tokens.specs.declared.refusals.LoadRule.TheVariants as load_rule
use Rattle.pfs_conf.specs.declared.kinds.Kind.{Kind}
use Rattle.pfs_conf.specs.declared.kinds.Kind.TheVariants as kind
use Rattle.pfs_conf.specs.declared.faults.LoadFault.{LoadFault}

-- a broken load rule is reported by its own name
abbrev pub kind_of_rule : LoadRule → Kind
kind_of_rule load_rule.PortWithoutProto = kind.PortWithoutProto
kind_of_rule load_rule.StateOnBlock = kind.StateOnBlock
kind_of_rule load_rule.OverloadAlone = kind.OverloadAlone
kind_of_rule load_rule.GlobalConn = kind.GlobalConn
kind_of_rule load_rule.GlobalRetention = kind.GlobalRetention
kind_of_rule load_rule.AdaptivePair = kind.AdaptivePair
kind_of_rule load_rule.TranslationWithoutWay = kind.TranslationWithoutWay
kind_of_rule load_rule.TranslationFamily = kind.TranslationFamily
kind_of_rule load_rule.CookiePair = kind.CookiePair
kind_of_rule load_rule.TooDeep = kind.TooDeep
kind_of_rule load_rule.TooManyRules = kind.TooManyRules
kind_of_rule load_rule.ConstOverload = kind.ConstOverload
kind_of_rule load_rule.TooManyTables = kind.TooManyTables
kind_of_rule load_rule.NeedsProfile = kind.NeedsProfile
kind_of_rule load_rule.TooManyEntries = kind.TooManyEntries

-- a word that begins with a digit
abbrev pub is_number_key : Key → Bool
is_number_key key.Number = true
is_number_key _ = false

-- `{` and `(`
abbrev pub opens : Key → Bool
opens key.OpenBrace = true
opens key.OpenParen = true
opens _ = false

-- a byte is in a text
abbrev pub has_byte : ℕ → List ℕ → Bool
has_byte b text = list_any (λ c. c == b) text

-- a word with `$`, as a macro's use
abbrev pub has_dollar : Tok → Bool
has_dollar t = is_word_key t.key && has_byte 36 t.text

-- tokens that are reported as `Unsupported` everywhere: `{`, `(`, a word with `$`, and the words that only pf knows
abbrev pub is_foreign : Tok → Bool
is_foreign t = opens t.key || has_dollar t || is_unsupported_key t.key

-- what the kind of a fault says of its token: `Number` is reported only at a word that begins with a digit, and
-- `Syntax` at no token that is `Unsupported` everywhere. Which of the four it is beyond that, the texts in examples/
-- and cases/ show
pub data IsKindAt (t : Tok) : Kind → Type 0 where
  duplicate : IsKindAt t kind.Duplicate
  number : is_number_key t.key ≡ true → IsKindAt t kind.Number
  unsupported : IsKindAt t kind.Unsupported
  syntax : is_foreign t ≡ false → IsKindAt t kind.Syntax

-- ---- faults

abbrev pub fault : ℕ → Kind → LoadFault
fault line k = record { line = line; kind = k }

-- a text of more than 1,048,576 bytes
abbrev pub too_long : LoadFault
too_long = fault 0 kind.TooLong

-- memory was refused
abbrev pub no_memory : LoadFault
no_memory = fault 0 kind.Memory
