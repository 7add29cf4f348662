-- The grammar of a route, behind `set route`. (own)
use Rattle.std.specs.Prelude.{ℕ, Bool, true, false, ◌||◌, Option, None, if◌then◌else◌, List, codes}
use Rattle.std.specs.Str.{bytes_eq}
use Rattle.pfs_conf_tokens.specs.Tokens.{Tok}
use Rattle.pfs_conf_tokens.specs.Grammar.{WordOf, skip_lines}
use Rattle.pfs_addr_values.specs.Names.{name_of}
use Rattle.pfs_addr.specs.Texts.{prefix_of}
use Rattle.pfs_conf_values.specs.declared.routes.Route.{Route}
use Rattle.pfs_conf_settings.specs.Drafts.{Drafted, with_route}

-- words that name no interface, as behind `on`
abbrev pub is_no_interface : List ℕ → Bool
is_no_interface w = bytes_eq w (codes "any") || bytes_eq w (codes "rdomain")

-- the name of an interface, of 1 to 15 bytes
abbrev pub interface_named : List ℕ → Option (List ℕ)
interface_named w = if is_no_interface w then None else name_of 15 w

-- IF; in braces after line ends
pub data LeavesBy : Bool → List Tok → List ℕ → List Tok → Type 0 where
  plain : {ts left : List Tok} {name : List ℕ} → WordOf interface_named ts name left → LeavesBy false ts name left
  lined : {ts left : List Tok} {name : List ℕ} → WordOf interface_named (skip_lines ts) name left → LeavesBy true ts name left

-- route := PREFIX IF
pub record RouteOf (inside : Bool) (ts : List Tok) (r : Route) (left : List Tok) : Type 0 where
  pub mid : List Tok
  pub prefix : WordOf prefix_of ts r.prefix mid
  pub interface : LeavesBy inside mid r.interface left

-- a route is set
pub data SetsRoute (inside : Bool) : Drafted → List Tok → Drafted → List Tok → Type 0 where
  sets : {d : Drafted} {ts left : List Tok} {r : Route} → RouteOf inside ts r left → SetsRoute inside d ts (with_route r d) left
