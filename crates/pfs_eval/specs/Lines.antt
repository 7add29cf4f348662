-- Items, and what a walk over them reads of each. (not promised)
use Rattle.std.specs.Prelude.{ℕ, suc, zero, ◌≡◌, ◌≤◌, ◌+◌, ◌&&◌, ◌||◌, max, not, if◌then◌else◌, Bool, Option, Some, None, List, [], ◌∷◌, length, map, slice_get}
use Rattle.pfs_addr_values.specs.Packets.{PacketView}
use Rattle.pfs_conf_values.specs.Depths.{is_rule}
use Rattle.pfs_conf_values.specs.Order.{IsPreorder}
use Rattle.pfs_conf_values.specs.declared.items.Item.{Item}
use Rattle.pfs_conf_values.specs.declared.items.ItemKind.{ItemKind}
use Rattle.pfs_eval.specs.Skips.{AreSkipsOf, skip_of}
use Rattle.pfs_eval.specs.Asking.{asked_tag, came_to, decided_by, given_tag, is_lost_at_once, made_by}
use Rattle.pfs_eval.specs.Translating.{TakenKeys}
use Rattle.pfs_eval.specs.Verdict.{can_decide, enclosing, is_quick}
use Rattle.pfs_eval.specs.declared.comparing.Parameter.{Parameter}
use Rattle.pfs_eval.specs.declared.lines.Line.{Line}
use Rattle.pfs_eval.specs.declared.walks.RuleWalk.{RuleWalk}

-- the items in front of a place, the nearest first, and then those before
unfoldable pub back : ℕ → List Item → List Item → List Item
back zero before items = before
back (suc k) before [] = before
back (suc k) before (i ∷ rest) = back k (i ∷ before) rest

-- a rule that matched inside these anchors ends the evaluation at the first item of lesser depth than this: one more than
-- the depth of the innermost quick one, or 0 if none is quick
abbrev pub stop_depth_of : List Item → ℕ
stop_depth_of [] = 0
stop_depth_of (a ∷ outer) = if is_quick a.what then max (a.depth + 1) (stop_depth_of outer) else stop_depth_of outer

-- where a walk goes on after an item at p that decides: a quick rule ends it, and so does a `match` rule, which decides only where it loses
-- the packet
abbrev pub next_place : List Item → ℕ → ItemKind → ℕ
next_place items p what = if is_rule what && (is_quick what || not (can_decide what)) then length items else p + 1

-- the line of the item i at p, but for its skips
pub record IsLine (items : List Item) (p : ℕ) (i : Item) (line : Line) : Type 0 where
  pub item : line.item ≡ i
  pub asked : line.asked ≡ asked_tag items i.what
  pub given : line.given ≡ given_tag items i.what
  pub next : line.next ≡ next_place items p i.what
  pub stop : line.stop_depth ≡ stop_depth_of (enclosing i.depth (back p [] items))

-- the items of lines
abbrev pub items_of : List Line → List Item
items_of lines = map (λ (l : Line). l.item) lines

-- each of these lines is that of its item
abbrev pub EachLine : List Item → List Line → Type 0
EachLine items lines = (p : ℕ) (i : Item) (line : Line) → slice_get items p ≡ Some i → slice_get lines p ≡ Some line → IsLine items p i line

-- the lines of the items of a configuration; those from a place on have their skips
pub record AreLinesFrom (from : ℕ) (items : List Item) (lines : List Line) : Type 0 where
  pub long : length lines ≡ length items
  pub each : EachLine items lines
  pub skips : (p : ℕ) (line : Line) → from ≤ p → slice_get lines p ≡ Some line → AreSkipsOf items p line.skips
  pub few : length items ≤ 10000
  pub preorder : IsPreorder 0 items

-- all of them have
abbrev pub AreLines : List Item → List Line → Type 0
AreLines items lines = AreLinesFrom 0 items lines

-- ---- a visit to a line, whose item fails on a parameter, or on none

-- its rule matches a packet that the filter holds of
abbrev pub is_matched : Line → PacketView → Bool
is_matched line p = is_rule line.item.what && came_to line.asked p line.item.what

-- and decides, if none behind it does
abbrev pub is_deciding : TakenKeys → Line → PacketView → Bool
is_deciding taken line p = can_decide line.item.what || is_lost_at_once taken line.given line.item.what p

-- the packet after it
abbrev pub packet_after : TakenKeys → PacketView → Line → Option Parameter → PacketView
packet_after taken p line (Some k) = p
packet_after taken p line None = if is_matched line p then made_by taken line.given line.item.what p else p

-- the walk after it; p is the packet before it
abbrev pub walk_after : TakenKeys → RuleWalk → PacketView → Line → Option Parameter → RuleWalk
walk_after taken w p line (Some k) = record { place = skip_of line.skips k; stop_depth = w.stop_depth; found = w.found }
walk_after taken w p line None =
    if is_matched line p && is_deciding taken line p
    then record { place = line.next; stop_depth = max w.stop_depth line.stop_depth; found = Some w.place }
    else record { place = w.place + 1; stop_depth = w.stop_depth; found = w.found }

-- ---- the end of a walk

-- a packet behind the item that decides on it, if one does and it does not lose it
abbrev pub passed_at : TakenKeys → PacketView → Option Item → Option PacketView
passed_at taken p None = Some p
passed_at taken p (Some i) = decided_by taken i.what p
