-- Which rule decides on a packet: the path of the items that it is asked of, its cut by `quick`, and the last matching rule before it; what
-- the rules make of the packet, and which of them loses it.
use Rattle.std.specs.Prelude.{ℕ, ◌+◌, Bool, true, false, ◌&&◌, ◌||◌, not, nat_lt, nat_le, if◌then◌else◌, Option, Some, None, List, [], ◌∷◌, IsSome, filter, is_none, map, slice_get, unwrap_or}
use Rattle.std.specs.List.{list_any}
use Rattle.std.specs.Option.{option_and_then}
use Rattle.pfs_addr_values.specs.Packets.{PacketView}
use Rattle.pfs_conf_values.specs.Configs.{is_match, rule_in}
use Rattle.pfs_conf_values.specs.Depths.{is_rule}
use Rattle.pfs_conf_values.specs.declared.items.Item.{Item}
use Rattle.pfs_conf_values.specs.declared.items.ItemKind.{ItemKind}
use Rattle.pfs_conf_values.specs.declared.items.ItemKind.TheVariants.{Rule, Anchor}

-- All that follows is over these: whether what an item asks in its filter holds of a packet; whether what it asks of how the packet came
-- does; the packet as it is behind an item that matches it; whether such an item loses the packet at once; and the packet as it is behind the
-- rule that decided on it, if that rule does not lose it.
pub record Asking : Type 0 where
  pub holds : PacketView → Item → Bool
  pub came : PacketView → Item → Bool
  pub marked : PacketView → Item → PacketView
  pub lost : PacketView → Item → Bool
  pub passed : PacketView → Item → Option PacketView

-- whether it has `quick`
abbrev pub is_quick : ItemKind → Bool
is_quick (Rule r) = r.quick
is_quick (Anchor a) = a.quick

-- whether it is a rule that can decide: no anchor, and no `match` rule
abbrev pub can_decide : ItemKind → Bool
can_decide (Rule r) = not (is_match r.action)
can_decide (Anchor a) = false

-- ---- the path (pf.conf(5), ANCHORS; a `match` rule, its translation, and a tag have effect at once)

-- a rule matches a packet
abbrev pub matches_rule : Asking → PacketView → Item → Bool
matches_rule a p i = is_rule i.what && a.holds p i && a.came p i

-- a packet behind an item
abbrev pub packet_past : Asking → PacketView → Item → PacketView
packet_past a p i = if matches_rule a p i then a.marked p i else p

-- a place on the path: the number of its item, the item, the packet as it is there, the anchors around it from the inside out, the items
-- after it
pub record PathPlace : Type 0 where
  pub no : ℕ
  pub item : Item
  pub packet : PacketView
  pub around : List Item
  pub after : List Item

-- the anchors around an item of this depth: going back, the first item of lesser depth, and those around that one
abbrev pub enclosing : ℕ → List Item → List Item
enclosing depth [] = []
enclosing depth (x ∷ before) = if nat_lt x.depth depth then x ∷ enclosing x.depth before else enclosing depth before

-- an anchor of this depth that does not match hides the items that are deeper, up to the first that is not
abbrev pub is_shown : Option ℕ → ℕ → Bool
is_shown None depth = true
is_shown (Some hidden) depth = nat_le depth hidden

abbrev pub hides : Bool → ℕ → Option ℕ
hides true depth = None
hides false depth = Some depth

-- the places of the items that no anchor hides, in order. before: the items in front, the nearest first
unfoldable pub path_from : Asking → PacketView → Option ℕ → List Item → ℕ → List Item → List PathPlace
path_from a p hidden before n [] = []
path_from a p hidden before n (i ∷ rest) =
    if is_shown hidden i.depth
    then record { no = n; item = i; packet = p; around = enclosing i.depth before; after = rest }
    ∷ path_from a (packet_past a p i) (hides (a.holds p i) i.depth) (i ∷ before) (n + 1) rest
    else path_from a p hidden (i ∷ before) (n + 1) rest

-- the path of a packet
abbrev pub path : Asking → PacketView → List Item → List PathPlace
path a p items = path_from a p None [] 0 items

-- ---- the cut (pf.conf(5), PACKET FILTERING, "quick"; ANCHORS)

-- a rule that decides, if none behind it does, is at this place: one that matches, and can decide or loses the packet
abbrev pub is_hit : Asking → PathPlace → Bool
is_hit a x = matches_rule a x.packet x.item && (can_decide x.item.what || a.lost x.packet x.item)

-- such a rule ends the evaluation at once: it is quick, or it loses the packet
abbrev pub ends_at_once : Asking → PathPlace → Bool
ends_at_once a x = is_quick x.item.what || a.lost x.packet x.item

-- the rule at r, where it decides, ends the evaluation before x: it does so at once, or a quick anchor around it is left at x
abbrev pub ends_before : Asking → PathPlace → PathPlace → Bool
ends_before a x r = ends_at_once a r || list_any (λ (i : Item). is_quick i.what && nat_le x.item.depth i.depth) r.around

-- the places up to the first one before which a rule ends the evaluation. seen: those in front
abbrev pub cut_from : Asking → List PathPlace → List PathPlace → List PathPlace
cut_from a seen [] = []
cut_from a seen (x ∷ rest) =
    if list_any (λ (r : PathPlace). is_hit a r && ends_before a x r) seen then [] else x ∷ cut_from a (x ∷ seen) rest

-- the path before its cut: what the packet is compared with
abbrev pub cut : Asking → PacketView → List Item → List PathPlace
cut a p items = cut_from a [] (path a p items)

-- ---- the verdict (pf.conf(5), PACKET FILTERING: the last matching rule decides)

-- the last of these numbers, or what was found before them
abbrev pub last_or : Option ℕ → List ℕ → Option ℕ
last_or found [] = found
last_or found (n ∷ ns) = last_or (Some n) ns

-- the number of the last rule before the cut that decides, or none
unfoldable pub verdict : Asking → PacketView → List Item → Option ℕ
verdict a p items = last_or None (map (λ (x : PathPlace). x.no) (filter (is_hit a) (cut a p items)))

-- a packet behind the last of these places, or as it was before them
abbrev pub behind_all : Asking → PacketView → List PathPlace → PacketView
behind_all a p [] = p
behind_all a p (x ∷ xs) = behind_all a (packet_past a x.packet x.item) xs

-- the packet as the rules before the cut leave it
unfoldable pub packet_at_cut : Asking → PacketView → List Item → PacketView
packet_at_cut a p items = behind_all a p (cut a p items)

-- the rule that decides
abbrev pub decider : Asking → PacketView → List Item → Option Item
decider a p items = option_and_then (slice_get items) (verdict a p items)

-- a packet behind the rule that decides on it, if one does and it does not lose it (a `pass` rule translates when it has decided)
abbrev pub passed_by : Asking → PacketView → Option Item → Option PacketView
passed_by a q None = Some q
passed_by a q (Some i) = a.passed q i

-- the packet as the rules leave it: behind the rule that decides, or as it was when that lost it
unfoldable pub packet_behind : Asking → PacketView → List Item → PacketView
packet_behind a p items = let q = packet_at_cut a p items in unwrap_or (passed_by a q (decider a p items)) q

-- the number of the rule that loses the packet, if one does: it decides
unfoldable pub lost_by : Asking → PacketView → List Item → Option ℕ
lost_by a p items = if is_none (passed_by a (packet_at_cut a p items) (decider a p items)) then verdict a p items else None

-- the item of this number is a rule
abbrev pub IsRuleAt : List Item → ℕ → Type 0
IsRuleAt items n = IsSome (option_and_then (λ (i : Item). rule_in i.what) (slice_get items n))
