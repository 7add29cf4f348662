-- What every phrase that is read keeps: names are names, ports are in order, numbers are within their bounds. (not promised)
use Rattle.std.specs.Prelude.{◌≡◌, ℕ, Bool, true, false, IfSome, List, [], ◌∷◌}
use Rattle.pfs_conf_tokens.specs.Tokens.{Tok}
use Rattle.pfs_conf_tokens.specs.Keys.{is_word_key}
use Rattle.pfs_conf_tokens.specs.Words.{key_of_text}
use Rattle.pfs_addr_values.specs.Names.{is_name}
use Rattle.pfs_conf_values.specs.LoadRules.{IsInterface, IsProto, IsSide, IsFlagTest, IsTag, IsTranslation}
use Rattle.pfs_conf_values.specs.Translations.{translates_by}
use Rattle.pfs_conf_filters.specs.declared.phrases.Extras.{Extras}
use Rattle.pfs_conf_filters.specs.declared.phrases.Parameters.{Parameters}
use Rattle.pfs_conf_filters.specs.declared.phrases.Statement.{Statement}
use Rattle.pfs_conf_filters.specs.declared.phrases.Statement.TheVariants as statement
use Rattle.pfs_conf_filters.specs.Grammar.{may_translate, statement_of}
use Rattle.pfs_conf_filters.specs.Sides.{source_of, destination_of}
use Rattle.pfs_conf_options.specs.Bounds.{AreRead}
use Rattle.pfs_conf.specs.declared.phrases.RuleText.{RuleText}
use Rattle.pfs_conf.specs.declared.phrases.AnchorText.{AnchorText}
use Rattle.pfs_conf.specs.Statements.{state_options}

-- the key of a word is that of its text: so it is of every token of a text
abbrev pub IsLexed : Tok → Type 0
IsLexed t = is_word_key t.key ≡ true → t.key ≡ key_of_text t.text

pub data AreLexed : List Tok → Type 0 where
  none : AreLexed []
  more : {t : Tok} {ts : List Tok} → IsLexed t → AreLexed ts → AreLexed (t ∷ ts)

-- the name of a table
abbrev pub IsTableName : List ℕ → Type 0
IsTableName name = is_name 31 name ≡ true

pub record AreParameters (p : Parameters) : Type 0 where
  pub on : IfSome p.head.on IsInterface
  pub proto : IfSome p.head.proto IsProto
  pub source : IsSide IsTableName (source_of p.hosts)
  pub destination : IsSide IsTableName (destination_of p.hosts)

pub record AreExtras (e : Extras) : Type 0 where
  pub tag : IfSome e.tag IsTag
  pub tagged : IfSome e.tagged (λ t. IsTag t.name)
  pub received_on : IfSome e.received_on IsInterface

-- a match rule has no `quick`
abbrev pub MayBeQuick : Statement → Bool → Type 0
MayBeQuick statement.Match quick = quick ≡ false
MayBeQuick _ quick = Unit {0}

pub record IsRuleText (r : RuleText) : Type 0 where
  pub parameters : AreParameters r.parameters
  pub quick : MayBeQuick (statement_of r.verb) r.parameters.head.marks.quick
  pub flags : IfSome r.clauses.flags IsFlagTest
  pub extras : AreExtras r.clauses.extras
  pub translation : IsTranslation r.clauses.translation
  pub translates : may_translate r.verb ≡ false → translates_by r.clauses.translation ≡ false
  pub options : AreRead (state_options r.clauses.state)

pub record IsAnchorText (a : AnchorText) : Type 0 where
  pub name : IfSome a.name (λ name. is_name 63 name ≡ true)
  pub parameters : AreParameters a.parameters
  pub flags : IfSome a.flags IsFlagTest
