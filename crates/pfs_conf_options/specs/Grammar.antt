-- The state clause of a rule: which tokens write it, and what it says. Each phrase begins these tokens, has a value,
-- and leaves the tokens after it. (pf.conf(5), GRAMMAR and STATEFUL TRACKING OPTIONS)
use Rattle.std.specs.Prelude.{◌≡◌, ℕ, true, false, List, ◌∷◌, Option, Some, None, slice_index_or, slice_set}
use Rattle.pfs_conf_tokens.specs.declared.keys.Key.{Key}
use Rattle.pfs_conf_tokens.specs.declared.keys.Key.TheVariants as key
use Rattle.pfs_conf_tokens.specs.Tokens.{Tok}
use Rattle.pfs_conf_tokens.specs.Numbers.{number_written, split_around}
use Rattle.pfs_conf_tokens.specs.Grammar.{Word, WordOf, Number, ListOf}
use Rattle.pfs_addr_values.specs.Names.{name_of}
use Rattle.pfs_conf_values.specs.Bounds.{greatest_timeout, IsRate}
use Rattle.pfs_conf_values.specs.declared.actions.Rate.{Rate}
use Rattle.pfs_conf_values.specs.declared.actions.Scope.{Scope}
use Rattle.pfs_conf_values.specs.declared.actions.Scope.TheVariants as scope
use Rattle.pfs_conf_options.specs.declared.clauses.Track.{Track}
use Rattle.pfs_conf_options.specs.declared.clauses.Track.TheVariants as track
use Rattle.pfs_conf_options.specs.declared.clauses.OverloadText.{OverloadText}
use Rattle.pfs_conf_options.specs.declared.clauses.Options.{Options}
use Rattle.pfs_conf_options.specs.declared.clauses.StateClause.{StateClause}
use Rattle.pfs_conf_options.specs.declared.clauses.StateClause.TheVariants as clause
use Rattle.pfs_conf_options.specs.Options.{none_given, proxied, rule_place}

-- after `source-track`: nothing, `rule` or `global`
pub data TrackOf : List Tok → Track → List Tok → Type 0 where
  bare : {ts : List Tok} → TrackOf ts track.Bare ts
  rule : {ts left : List Tok} → Word key.Rule ts left → TrackOf ts track.Rule left
  global : {ts left : List Tok} → Word key.Global ts left → TrackOf ts track.Global left

-- N/S: two numbers around the first slash of a word, N from 1 to 4294967 and S from 1 to 2147483647
pub record IsRateText (text : List ℕ) (r : Rate) : Type 0 where
  pub before : List ℕ
  pub behind : List ℕ
  pub slash : split_around 47 text ≡ Some (before, behind)
  pub limit : number_written before ≡ Some r.limit
  pub seconds : number_written behind ≡ Some r.seconds
  pub bounds : IsRate r

-- a rate is one word
abbrev pub RateOf : List Tok → Rate → List Tok → Type 0
RateOf ts r left = (t : Tok) × (ts ≡ t ∷ left) × (t.key ≡ key.Number) × IsRateText t.text r

-- the name of a table, a word of 1 to 31 letters, digits, `_`, `-` and `.`, in angle brackets
pub record TableOf (ts : List Tok) (name : List ℕ) (left : List Tok) : Type 0 where
  pub inner : List Tok
  pub behind : List Tok
  pub opens : Word key.OpenAngle ts inner
  pub named : WordOf (name_of 31) inner name behind
  pub closes : Word key.CloseAngle behind left

-- what is flushed: nothing more, the rule's states by `flush`, or those of all rules by `flush global`
pub data FlushOf : List Tok → Option Scope → List Tok → Type 0 where
  nothing : {ts : List Tok} → FlushOf ts None ts
  own : {ts left : List Tok} → Word key.Flush ts left → FlushOf ts (Some scope.Rule) left
  all : {ts mid left : List Tok} → Word key.Flush ts mid → Word key.Global mid left → FlushOf ts (Some scope.Global) left

-- after `overload`
pub record OverloadOf (ts : List Tok) (v : OverloadText) (left : List Tok) : Type 0 where
  pub mid : List Tok
  pub table : TableOf ts v.table mid
  pub flush : FlushOf mid v.flush left

-- an option is added to options that do not have it
pub data OptionOf : Options → List Tok → Options → List Tok → Type 0 where
  max : {o : Options} {ts mid left : List Tok} (n : ℕ) → Word key.Max ts mid → o.max ≡ None
      → Number 1 4294967295 mid n left → OptionOf o ts (record o { max = Some n }) left
  source_track : {o : Options} {ts mid left : List Tok} (s : Track) → Word key.SourceTrack ts mid → o.track ≡ None
      → TrackOf mid s left → OptionOf o ts (record o { track = Some s }) left
  max_src_nodes : {o : Options} {ts mid left : List Tok} (n : ℕ) → Word key.MaxSrcNodes ts mid → o.max_src_nodes ≡ None
      → Number 1 4294967295 mid n left → OptionOf o ts (record o { max_src_nodes = Some n }) left
  max_src_states : {o : Options} {ts mid left : List Tok} (n : ℕ) → Word key.MaxSrcStates ts mid → o.max_src_states ≡ None
      → Number 1 4294967295 mid n left → OptionOf o ts (record o { max_src_states = Some n }) left
  max_src_conn : {o : Options} {ts mid left : List Tok} (n : ℕ) → Word key.MaxSrcConn ts mid → o.max_src_conn ≡ None
      → Number 1 4294967295 mid n left → OptionOf o ts (record o { max_src_conn = Some n }) left
  max_src_conn_rate : {o : Options} {ts mid left : List Tok} (r : Rate) → Word key.MaxSrcConnRate ts mid → o.max_src_conn_rate ≡ None
      → RateOf mid r left → OptionOf o ts (record o { max_src_conn_rate = Some r }) left
  overload : {o : Options} {ts mid left : List Tok} (v : OverloadText) → Word key.Overload ts mid → o.overload ≡ None
      → OverloadOf mid v left → OptionOf o ts (record o { overload = Some v }) left
  sloppy : {o : Options} {ts left : List Tok} → Word key.Sloppy ts left → o.sloppy ≡ false → OptionOf o ts (record o { sloppy = true }) left
  floating : {o : Options} {ts left : List Tok} → Word key.Floating ts left → o.floating ≡ false → OptionOf o ts (record o { floating = true }) left
  no_sync : {o : Options} {ts left : List Tok} → Word key.NoSync ts left → o.no_sync ≡ false → OptionOf o ts (record o { no_sync = true }) left
  timeout : {o : Options} {ts mid left : List Tok} (k : Key) (place n : ℕ) → Word k ts mid → rule_place k ≡ Some place
      → slice_index_or o.timeouts place None ≡ None → Number 0 (greatest_timeout place) mid n left
      → OptionOf o ts (record o { timeouts = slice_set o.timeouts place (Some n) }) left

-- after `keep state` or `synproxy state`: nothing, or options in parentheses with an optional comma between two
pub data KeptOf : List Tok → Options → List Tok → Type 0 where
  plainly : {ts : List Tok} → KeptOf ts none_given ts
  listed : {ts mid left : List Tok} {o : Options} → Word key.OpenParen ts mid → ListOf key.CloseParen OptionOf none_given mid o left → KeptOf ts o left

-- `no state`, or `keep state` or `synproxy state` with its options
pub data StateOf : List Tok → StateClause → List Tok → Type 0 where
  no : {ts mid left : List Tok} → Word key.No ts mid → Word key.State mid left → StateOf ts clause.No left
  keep : {ts mid behind left : List Tok} {o : Options} → Word key.Keep ts mid → Word key.State mid behind → KeptOf behind o left → StateOf ts (clause.Keep o) left
  proxy : {ts mid behind left : List Tok} {o : Options} → Word key.Synproxy ts mid → Word key.State mid behind → KeptOf behind o left → StateOf ts (clause.Keep (proxied o)) left
