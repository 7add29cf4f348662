-- The grammar of what follows `set`. Line ends are ignored between any two tokens in braces: each part of the grammar
-- there comes after any line ends in front of it. (pf.conf(5), GRAMMAR and OPTIONS)
use Rattle.std.specs.Prelude.{◌≡◌, ℕ, Bool, true, false, Some, List, ◌∷◌}
use Rattle.pfs_conf_tokens.specs.declared.keys.Key.TheVariants as key
use Rattle.pfs_conf_tokens.specs.Tokens.{Tok}
use Rattle.pfs_conf_tokens.specs.Keys.{timeout_place}
use Rattle.pfs_conf_tokens.specs.Grammar.{Word, Number, ListOf, skip_lines}
use Rattle.pfs_conf_values.specs.declared.limits.LimitName.TheVariants as limit_name
use Rattle.pfs_conf_values.specs.declared.profiles.Profile.TheVariants as profile_name
use Rattle.pfs_conf_values.specs.declared.timeouts.TimeoutName.{TimeoutName}
use Rattle.pfs_conf_settings.specs.Drafts.{Drafted, with_limit, with_profile, with_timeout}
use Rattle.pfs_conf_settings.specs.RouteGrammar.{SetsRoute}
use Rattle.pfs_conf_values.specs.Bounds.{least_timeout, greatest_timeout}
use Rattle.pfs_conf_values.specs.Timeouts.{place_of}

-- a number; in braces after line ends
pub data ValueOf (low high : ℕ) : Bool → List Tok → ℕ → List Tok → Type 0 where
  plain : {ts left : List Tok} {n : ℕ} → Number low high ts n left → ValueOf low high false ts n left
  lined : {ts left : List Tok} {n : ℕ} → Number low high (skip_lines ts) n left → ValueOf low high true ts n left

-- limit := ("states" | "src-nodes" | "tables" | "table-entries" | "frags") NUM
pub data LimitOf (inside : Bool) : Drafted → List Tok → Drafted → List Tok → Type 0 where
  states : {d : Drafted} {ts mid left : List Tok} {n : ℕ} → Word key.States ts mid → ValueOf 1 4294967295 inside mid n left → LimitOf inside d ts (with_limit limit_name.States n d) left
  src_nodes : {d : Drafted} {ts mid left : List Tok} {n : ℕ} → Word key.SrcNodes ts mid → ValueOf 1 4294967295 inside mid n left → LimitOf inside d ts (with_limit limit_name.SrcNodes n d) left
  tables : {d : Drafted} {ts mid left : List Tok} {n : ℕ} → Word key.Tables ts mid → ValueOf 1 4294967295 inside mid n left → LimitOf inside d ts (with_limit limit_name.Tables n d) left
  table_entries : {d : Drafted} {ts mid left : List Tok} {n : ℕ} → Word key.TableEntries ts mid → ValueOf 1 4294967295 inside mid n left → LimitOf inside d ts (with_limit limit_name.TableEntries n d) left
  frags : {d : Drafted} {ts mid left : List Tok} {n : ℕ} → Word key.Frags ts mid → ValueOf 1 4294967295 inside mid n left → LimitOf inside d ts d left

-- time := TIMENAME NUM, where the timeouts of fragments, of timestamps and of ICMP are not kept
pub data TimeOf (inside : Bool) : Drafted → List Tok → Drafted → List Tok → Type 0 where
  kept : {d : Drafted} {t : Tok} {ts left : List Tok} {n : ℕ} (name : TimeoutName) → timeout_place t.key ≡ Some (place_of name)
      → ValueOf (least_timeout (place_of name)) (greatest_timeout (place_of name)) inside ts n left → TimeOf inside d (t ∷ ts) (with_timeout name n d) left
  frag : {d : Drafted} {ts mid left : List Tok} {n : ℕ} → Word key.Frag ts mid → ValueOf 0 2147483647 inside mid n left → TimeOf inside d ts d left
  tsdiff : {d : Drafted} {ts mid left : List Tok} {n : ℕ} → Word key.TcpTsdiff ts mid → ValueOf 0 2147483647 inside mid n left → TimeOf inside d ts d left
  icmp_first : {d : Drafted} {ts mid left : List Tok} {n : ℕ} → Word key.IcmpFirst ts mid → ValueOf 0 2147483647 inside mid n left → TimeOf inside d ts d left
  icmp_error : {d : Drafted} {ts mid left : List Tok} {n : ℕ} → Word key.IcmpError ts mid → ValueOf 0 2147483647 inside mid n left → TimeOf inside d ts d left

-- an item after line ends, and the line ends after it
pub record AmongLines {A : Type 0} (Item : A → List Tok → A → List Tok → Type 0) (a : A) (ts : List Tok) (c : A) (left : List Tok) : Type 0 where
  pub mid : List Tok
  pub item : Item a (skip_lines ts) c mid
  pub behind : left ≡ skip_lines mid

-- "profile" "openbsd-7.4" | "limit" limit | "limit" "{" list(limit) "}" | "timeout" time | "timeout" "{" list(time) "}"
-- | "route" route | "route" "{" list(route) "}"
pub data SettingOf : Drafted → List Tok → Drafted → List Tok → Type 0 where
  profile : {d : Drafted} {ts a left : List Tok} → Word key.Profile ts a → Word key.OpenBsd74 a left → SettingOf d ts (with_profile profile_name.OpenBsd74 d) left
  limit : {d e : Drafted} {ts a left : List Tok} → Word key.Limit ts a → LimitOf false d a e left → SettingOf d ts e left
  limits : {d e : Drafted} {ts a b left : List Tok} → Word key.Limit ts a → Word key.OpenBrace a b → ListOf key.CloseBrace (AmongLines (LimitOf true)) d b e left → SettingOf d ts e left
  timeout : {d e : Drafted} {ts a left : List Tok} → Word key.Timeout ts a → TimeOf false d a e left → SettingOf d ts e left
  timeouts : {d e : Drafted} {ts a b left : List Tok} → Word key.Timeout ts a → Word key.OpenBrace a b → ListOf key.CloseBrace (AmongLines (TimeOf true)) d b e left → SettingOf d ts e left
  route : {d e : Drafted} {ts a left : List Tok} → Word key.Route ts a → SetsRoute false d a e left → SettingOf d ts e left
  routes : {d e : Drafted} {ts a b left : List Tok} → Word key.Route ts a → Word key.OpenBrace a b → ListOf key.CloseBrace (AmongLines (SetsRoute true)) d b e left → SettingOf d ts e left
