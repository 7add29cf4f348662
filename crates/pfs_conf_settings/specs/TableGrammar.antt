-- The grammar of a table's parts. Line ends are ignored between any two tokens in the braces: each part of the grammar
-- there comes after any line ends in front of it. (pf.conf(5), GRAMMAR and TABLES)
use Rattle.std.specs.Prelude.{◌≡◌, Bool, true, false, Some, None, List, [], ◌∷◌, ◌++◌}
use Rattle.pfs_conf_tokens.specs.declared.keys.Key.TheVariants as key
use Rattle.pfs_conf_tokens.specs.Tokens.{Tok}
use Rattle.pfs_conf_tokens.specs.Grammar.{Word, WordOf, ListOf, UpTo, skip_lines}
use Rattle.pfs_addr_values.specs.Prefixes.{Network}
use Rattle.pfs_addr.specs.Texts.{prefix_of}
use Rattle.pfs_conf_values.specs.Entries.{TextEntry, sign_of}
use Rattle.pfs_conf_settings.specs.declared.tables.Parts.{Parts}

-- a sign: `!`, or none
pub data SignOf : List Tok → Bool → List Tok → Type 0 where
  plain : {ts : List Tok} → SignOf ts false ts
  negated : {ts left : List Tok} → Word key.Not ts left → SignOf ts true left

-- an entry is appended to the others, or is there already with the same sign
pub data Enters (entries : List TextEntry) (negated : Bool) (p : Network) : List TextEntry → Type 0 where
  comes : sign_of entries p ≡ None → Enters entries negated p (entries ++ (p, negated) ∷ [])
  stands : sign_of entries p ≡ Some negated → Enters entries negated p entries

-- no part
abbrev pub no_parts : Parts
no_parts = record { persist = false; is_const = false; counters = false; entries = None }

-- entry := ["!"] PREFIX
pub record EntryOf (entries : List TextEntry) (ts : List Tok) (more : List TextEntry) (left : List Tok) : Type 0 where
  pub negated : Bool
  pub p : Network
  pub a : List Tok
  pub b : List Tok
  pub sign : SignOf (skip_lines ts) negated a
  pub prefix : WordOf prefix_of (skip_lines a) p b
  pub enters : Enters entries negated p more
  pub behind : left ≡ skip_lines b

-- [list(entry)] "}"
pub data EntriesOf : List Tok → List TextEntry → List Tok → Type 0 where
  none : {ts left : List Tok} → Word key.CloseBrace (skip_lines ts) left → EntriesOf ts [] left
  some : {ts left : List Tok} {entries : List TextEntry} → ListOf key.CloseBrace EntryOf [] (skip_lines ts) entries left → EntriesOf ts entries left

-- part := "persist" | "const" | "counters" | "{" [list(entry)] "}", each at most once
pub data PartOf : Parts → List Tok → Parts → List Tok → Type 0 where
  persist : {p : Parts} {ts left : List Tok} → Word key.Persist ts left → p.persist ≡ false → PartOf p ts (record p { persist = true }) left
  constant : {p : Parts} {ts left : List Tok} → Word key.Const ts left → p.is_const ≡ false → PartOf p ts (record p { is_const = true }) left
  counters : {p : Parts} {ts left : List Tok} → Word key.Counters ts left → p.counters ≡ false → PartOf p ts (record p { counters = true }) left
  entries : {p : Parts} {ts mid left : List Tok} {es : List TextEntry} → Word key.OpenBrace ts mid → p.entries ≡ None → EntriesOf mid es left → PartOf p ts (record p { entries = Some es }) left

-- part*, up to the line end, which stays
abbrev pub PartsOf : List Tok → Parts → List Tok → Type 0
PartsOf ts p left = UpTo key.LineEnd PartOf no_parts ts p left
