-- The tokens of a statement that is begun and not ended, before the token at which a text cannot be read. (own)
use Rattle.std.specs.Prelude.{◌≡◌, Bool, true, false, List, ◌∷◌}
use Rattle.pfs_conf_tokens.specs.Tokens.{Tok}
use Rattle.pfs_conf_tokens.specs.Keys.{in_line, before_end}
use Rattle.pfs_conf_tokens.specs.Grammar.{Passes}
use Rattle.pfs_conf_tokens.specs.declared.keys.Key.{Key}
use Rattle.pfs_conf_tokens.specs.declared.keys.Key.TheVariants as key

-- whether braces are open after a token
abbrev pub braces_behind : Bool → Key → Bool
braces_behind braced key.OpenBrace = true
braces_behind braced key.CloseBrace = false
braces_behind braced _ = braced

-- tokens that end no line: in braces a line end does not
abbrev pub ends_no_line : Bool → Key → Bool
ends_no_line true k = before_end k
ends_no_line false k = in_line k

-- from these tokens on, with braces open or not, up to where these are left, no line is ended
pub data InBraces : Bool → List Tok → Bool → List Tok → Type 0 where
  so_far : {braced : Bool} {ts : List Tok} → InBraces braced ts braced ts
  over : {braced after : Bool} {t : Tok} {ts left : List Tok} → ends_no_line braced t.key ≡ true → InBraces (braces_behind braced t.key) ts after left
      → InBraces braced (t ∷ ts) after left

-- the statements in whose braces line ends are ignored
abbrev pub has_braces : Key → Bool
has_braces key.Set = true
has_braces key.Table = true
has_braces _ = false

-- a statement is begun, from these tokens on up to where these are left: among them no line end is outside of the
-- braces of a `set` or a `table`
pub data IsBegun : List Tok → List Tok → Type 0 where
  in_a_line : {ts left : List Tok} → Passes in_line ts left → IsBegun ts left
  with_braces : {after : Bool} {t : Tok} {ts left : List Tok} → has_braces t.key ≡ true → InBraces false ts after left → IsBegun (t ∷ ts) left
