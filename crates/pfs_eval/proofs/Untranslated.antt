-- Where no rule translates, no packet is lost, and the rules change nothing of it but its tag.
--
-- A crate above imports them as `use Rattle.pfs_eval.proofs.Untranslated.{only_tagged, none_lost}`.
use Rattle.std.proofs.Common.{◌≡◌, ◌∙◌, ℕ, ◌+◌, suc, zero, Bool, true, false, ◌&&◌, ◌||◌, cond, List, [], ◌∷◌, filter, map, Option, Some, None, is_none, refl, ap, sym, arith}
use Rattle.std.specs.Prelude.{IfSome, slice_get, unwrap_or}
use Rattle.std.specs.List.{list_any}
use Rattle.std.specs.Option.{option_and_then, option_or}
use Rattle.std.proofs.lemmas.Bool.{or_parts}
use Rattle.pfs_addr_values.specs.Packets.{PacketView, with_tag}
use Rattle.pfs_addr_values.specs.declared.packets.TagNo.{TagNo}
use Rattle.pfs_conf_values.specs.Configs.{rule_in, translates_in}
use Rattle.pfs_conf_values.specs.declared.actions.Action.{Action}
use Rattle.pfs_conf_values.specs.declared.actions.Action.TheVariants as action
use Rattle.pfs_conf_values.specs.declared.items.Item.{Item}
use Rattle.pfs_conf_values.specs.declared.items.ItemKind.{ItemKind}
use Rattle.pfs_conf_values.specs.declared.items.ItemKind.TheVariants as what
use Rattle.pfs_eval.specs.Asking.{asking, decided_by, given_tag, marked_by, translation_at_once}
use Rattle.pfs_eval.specs.Entries.{Entry}
use Rattle.pfs_eval.specs.Translating.{TakenKeys, translated}
use Rattle.pfs_eval.specs.Verdict.{Asking, PathPlace, behind_all, can_decide, cut, cut_from, decider, ends_before, hides, is_hit, is_shown, last_or, lost_by, matches_rule, packet_at_cut, packet_behind, packet_past, passed_by, path_from, verdict}
use Rattle.pfs_eval.proofs.Paths.{place_at, some_same}
use Rattle.pfs_eval.proofs.Translations.{nothing_translated, untranslated}

-- no item translates
abbrev pub translates_nothing : List Item → Bool
translates_nothing items = list_any (λ (i : Item). translates_in (rule_in i.what)) items

nothing_at : (items : List Item) (n : ℕ) (i : Item) → translates_nothing items ≡ false → slice_get items n ≡ Some i → translates_in (rule_in i.what) ≡ false
nothing_at [] n i h at = absurd cc
nothing_at (x ∷ items) zero i h at = ap (λ (y : Item). translates_in (rule_in y.what)) (sym (some_same at)) ∙ (or_parts (translates_in (rule_in x.what)) (translates_nothing items) h).0
nothing_at (x ∷ items) (suc n) i h at = nothing_at items n i (or_parts (translates_in (rule_in x.what)) (translates_nothing items) h).1 at

-- ---- one item

-- an item that translates nothing makes nothing at once but the tag
at_once : (taken : TakenKeys) (kind : ItemKind) (q : PacketView) → translates_in (rule_in kind) ≡ false → translated taken (translation_at_once kind) q ≡ Some q
at_once taken (what.Rule r) q h = by r.action
  where
    by : (a : Action) → translated taken (translation_at_once (what.Rule (record r { action = a }))) q ≡ Some q
    by action.Match = untranslated taken r.translation q h
    by action.Block = nothing_translated taken q
    by action.Pass = nothing_translated taken q
    by (action.Keep o) = nothing_translated taken q
at_once taken (what.Anchor a) q h = nothing_translated taken q

-- and nothing where it decides
deciding : (taken : TakenKeys) (kind : ItemKind) (q : PacketView) → translates_in (rule_in kind) ≡ false → can_decide kind ≡ true → decided_by taken kind q ≡ Some q
deciding taken (what.Rule r) q h d = by r.action d
  where
    by : (a : Action) → can_decide (what.Rule (record r { action = a })) ≡ true → decided_by taken (what.Rule (record r { action = a })) q ≡ Some q
    by action.Match e = absurd cc
    by action.Block e = refl
    by action.Pass e = untranslated taken r.translation q h
    by (action.Keep o) e = untranslated taken r.translation q h
deciding taken (what.Anchor a) q h d = refl

-- the packet where it decides or not
decided : (taken : TakenKeys) (kind : ItemKind) (q : PacketView) → translates_in (rule_in kind) ≡ false → unwrap_or (decided_by taken kind q) q ≡ q
decided taken (what.Rule r) q h = by r.action
  where
    by : (a : Action) → unwrap_or (decided_by taken (what.Rule (record r { action = a })) q) q ≡ q
    by action.Match = refl
    by action.Block = refl
    by action.Pass = ap (λ o. unwrap_or o q) (untranslated taken r.translation q h)
    by (action.Keep o) = ap (λ o. unwrap_or o q) (untranslated taken r.translation q h)
decided taken (what.Anchor a) q h = refl

-- a packet that is another one with a tag of its own
abbrev pub IsTagged : PacketView → PacketView → Type 0
IsTagged p q = q ≡ with_tag p q.tag

-- ---- the places of the path

-- each has an item that translates nothing, and the packet with a tag of its own
unfoldable AreStill : PacketView → List Item → List PathPlace → Type 0
AreStill p items [] = Unit {0}
AreStill p items (x ∷ xs) = (slice_get items x.no ≡ Some x.item) × IsTagged p x.packet × AreStill p items xs

still_if : (p : PacketView) (items : List Item) (b : Bool) (xs ys : List PathPlace) → AreStill p items xs → AreStill p items ys → AreStill p items (cond b xs ys)
still_if p items true xs ys h k = h
still_if p items false xs ys h k = k

module _ (items : List Item) (tables : List (List Entry)) (taken : TakenKeys) (p : PacketView) (still : translates_nothing items ≡ false) where
  abbrev pub a : Asking
  a = asking items tables taken

  -- the packet behind an item
  past : (q : PacketView) (n : ℕ) (i : Item) → slice_get items n ≡ Some i → IsTagged p q → IsTagged p (packet_past a q i)
  past q n i at t = by (matches_rule a q i)
    where
      g : Option TagNo
      g = given_tag items i.what

      made : a.marked q i ≡ with_tag p (option_or g q.tag)
      made =
          ap (λ o. unwrap_or o (marked_by g q)) (at_once taken i.what (marked_by g q) (nothing_at items n i still at))
          ∙ ap (λ (r : PacketView). with_tag r (option_or g q.tag)) t

      by : (b : Bool) → IsTagged p (cond b (a.marked q i) q)
      by true = made ∙ ap (λ (r : PacketView). with_tag p r.tag) (sym made)
      by false = t

  path_still : (q : PacketView) (h : Option ℕ) (before : List Item) (n : ℕ) (rest : List Item) → ((k : ℕ) → slice_get rest k ≡ slice_get items (n + k)) → IsTagged p q
      → AreStill p items (path_from a q h before n rest)
  unfolding AreStill path_from
  path_still q h before n [] e t = tt
  path_still q h before n (i ∷ rest) e t =
      let at : slice_get items n ≡ Some i = ap (slice_get items) (omega arith) ∙ sym (e 0) in
      let more : (k : ℕ) → slice_get rest k ≡ slice_get items (n + 1 + k) = (λ k. e (suc k) ∙ ap (slice_get items) (omega arith)) in
      still_if p items (is_shown h i.depth)
      (place_at q before n i rest ∷ path_from a (packet_past a q i) (hides (a.holds q i) i.depth) (i ∷ before) (n + 1) rest)
      (path_from a q h (i ∷ before) (n + 1) rest)
      (at, t, path_still (packet_past a q i) (hides (a.holds q i) i.depth) (i ∷ before) (n + 1) rest more (past q n i at t))
      (path_still q h (i ∷ before) (n + 1) rest more t)

  cut_still : (seen xs : List PathPlace) → AreStill p items xs → AreStill p items (cut_from a seen xs)
  unfolding AreStill
  cut_still seen [] h = tt
  cut_still seen (x ∷ xs) h =
      still_if p items (list_any (λ (r : PathPlace). is_hit a r && ends_before a x r) seen) [] (x ∷ cut_from a (x ∷ seen) xs) tt (h.0, h.1, cut_still (x ∷ seen) xs h.2)

  here : AreStill p items (cut a p items)
  here = cut_still [] (path_from a p None [] 0 items) (path_still p None [] 0 items (λ k. ap (slice_get items) (omega arith)) refl)

  behind_still : (q : PacketView) (xs : List PathPlace) → AreStill p items xs → IsTagged p q → IsTagged p (behind_all a q xs)
  unfolding AreStill
  behind_still q [] h t = t
  behind_still q (x ∷ xs) h t = behind_still (packet_past a x.packet x.item) xs h.2 (past x.packet x.no x.item h.0 h.1)

  at_cut : IsTagged p (packet_at_cut a p items)
  unfolding packet_at_cut
  at_cut = behind_still p (cut a p items) here refl

  unpassed : (q : PacketView) (v : Option ℕ) → unwrap_or (passed_by a q (option_and_then (slice_get items) v)) q ≡ q
  unpassed q None = refl
  unpassed q (Some n) = by (slice_get items n) refl
    where
      by : (o : Option Item) → slice_get items n ≡ o → unwrap_or (passed_by a q o) q ≡ q
      by None e = refl
      by (Some i) e = decided taken i.what q (nothing_at items n i still e)

  -- the rules change nothing but its tag
  pub only_tagged : IsTagged p (packet_behind a p items)
  unfolding packet_behind
  only_tagged =
      let q = packet_at_cut a p items in
      let e : unwrap_or (passed_by a q (decider a p items)) q ≡ q = unpassed q (verdict a p items) in
      e ∙ at_cut ∙ ap (λ (r : PacketView). with_tag p r.tag) (sym e)

  -- the item of this number can decide
  abbrev CanDecideAt : ℕ → Type 0
  CanDecideAt n = (i : Item) → slice_get items n ≡ Some i → can_decide i.what ≡ true

  hit_decides : (m d l : Bool) → (m && (d || l)) ≡ true → l ≡ false → d ≡ true
  hit_decides m d l e f = grind arith

  of_hit : (x : PathPlace) → slice_get items x.no ≡ Some x.item → is_hit a x ≡ true → CanDecideAt x.no
  of_hit x at hit i there =
      ap (λ (y : Item). can_decide y.what) (some_same (sym there ∙ at))
      ∙ hit_decides (matches_rule a x.packet x.item) (can_decide x.item.what) (a.lost x.packet x.item) hit
      (ap (λ (o : Option PacketView). is_none o) (at_once taken x.item.what (marked_by (given_tag items x.item.what) x.packet) (nothing_at items x.no x.item still at)))

  last_decides : (found : Option ℕ) (xs : List PathPlace) → AreStill p items xs → IfSome found CanDecideAt → IfSome (last_or found (map (λ (x : PathPlace). x.no) (filter (is_hit a) xs))) CanDecideAt
  unfolding AreStill
  last_decides found [] h k = k
  last_decides found (x ∷ xs) h k = by (is_hit a x) refl (λ f l. last_decides f xs h.2 l)
    where
      by : (b : Bool) → is_hit a x ≡ b → ((f : Option ℕ) → IfSome f CanDecideAt → IfSome (last_or f (map (λ (y : PathPlace). y.no) (filter (is_hit a) xs))) CanDecideAt)
          → IfSome (last_or found (map (λ (y : PathPlace). y.no) (cond b (x ∷ filter (is_hit a) xs) (filter (is_hit a) xs)))) CanDecideAt
      by true e more = more (Some x.no) (of_hit x h.0 e)
      by false e more = more found k

  verdict_decides : IfSome (verdict a p items) CanDecideAt
  unfolding verdict
  verdict_decides = last_decides None (cut a p items) here tt

  kept : (q : PacketView) (v : Option ℕ) → IfSome v CanDecideAt → is_none (passed_by a q (option_and_then (slice_get items) v)) ≡ false
  kept q None h = refl
  kept q (Some n) h = by (slice_get items n) refl
    where
      by : (o : Option Item) → slice_get items n ≡ o → is_none (passed_by a q o) ≡ false
      by None e = refl
      by (Some i) e = ap (λ (r : Option PacketView). is_none r) (deciding taken i.what q (nothing_at items n i still e) (h i e))

  -- and lose none
  pub none_lost : lost_by a p items ≡ None
  unfolding lost_by
  none_lost = ap (λ b. cond b (verdict a p items) None) (kept (packet_at_cut a p items) (verdict a p items) verdict_decides)
