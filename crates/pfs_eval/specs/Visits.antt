-- How many items an evaluation compares with a packet, and how many at most and at least. (own)
use Rattle.std.specs.Prelude.{ℕ, ◌+◌, if◌then◌else◌, Bool, false, ◌&&◌, ◌==◌, not, nat_lt, Option, Some, None, List, [], ◌∷◌, length, filter}
use Rattle.std.specs.List.{dedup, take_while}
use Rattle.pfs_addr_values.specs.Packets.{PacketView}
use Rattle.pfs_conf_values.specs.declared.items.Item.{Item}
use Rattle.pfs_conf_values.specs.Depths.{is_rule}
use Rattle.pfs_eval.specs.Entries.{Entry}
use Rattle.pfs_eval.specs.Asking.{asking}
use Rattle.pfs_eval.specs.Matching.{filter_of}
use Rattle.pfs_eval.specs.Parameters.{asks_same, failing_at}
use Rattle.pfs_eval.specs.Translating.{TakenKeys}
use Rattle.pfs_eval.specs.Verdict.{Asking, PathPlace, cut}
use Rattle.pfs_eval.specs.declared.comparing.Parameter.{Parameter}

-- ---- the comparisons (pf's skip steps)

-- the item j is left behind with the item i, which fails on a parameter: it is of the same body, and asks the same there
abbrev pub is_left_on : Option Parameter → Item → Item → Bool
is_left_on None i j = false
is_left_on (Some k) i j = (i.depth == j.depth) && asks_same k (filter_of i.what) (filter_of j.what)

-- a packet leaves x behind with y, which was compared last
abbrev pub is_left_with : List (List Entry) → PathPlace → PathPlace → Bool
is_left_with tables x y = is_left_on (failing_at tables y.packet (filter_of y.item.what)) y.item x.item

-- how many items are compared: those before the cut, but for each that is left behind with the one compared last
unfoldable pub visits_of : List (List Entry) → TakenKeys → PacketView → List Item → ℕ
visits_of tables taken p items = length (dedup (is_left_with tables) (cut (asking items tables taken) p items))

-- ---- the most and the fewest

-- the number of items of this depth
abbrev pub count_at : ℕ → List Item → ℕ
count_at depth items = length (filter (λ (i : Item). i.depth == depth) items)

-- the number of the direct items of an anchor: those of its body that are one deeper than it
abbrev pub direct_items : PathPlace → ℕ
direct_items x = count_at (x.item.depth + 1) (take_while (λ (i : Item). nat_lt x.item.depth i.depth) x.after)

-- whether what the item of a place asks holds of the packet there
abbrev pub holds_there : Asking → PathPlace → Bool
holds_there a x = a.holds x.packet x.item

-- the direct items of the matching anchors among these places, together
abbrev pub opened_items : Asking → List PathPlace → ℕ
opened_items a [] = 0
opened_items a (x ∷ xs) = (if not (is_rule x.item.what) && holds_there a x then direct_items x else 0) + opened_items a xs

-- the most comparisons that an evaluation needs (own): the main items, and the direct items of each matching anchor before
-- the cut
unfoldable pub visit_bound : Asking → PacketView → List Item → ℕ
visit_bound a p items = count_at 0 items + opened_items a (cut a p items)

-- the fewest comparisons that it needs (own): the items before the cut of whose filter all holds
unfoldable pub visit_floor : Asking → PacketView → List Item → ℕ
visit_floor a p items = length (filter (holds_there a) (cut a p items))
