-- What translates nothing, which items lose a packet, and the least port that is free.
use Rattle.std.proofs.Common.{◌≡◌, ℕ, Bool, true, false, ◌&&◌, ◌||◌, not, Option, Some, None, is_none, is_some, List, ◌∷◌, length, ◌+◌, ◌-◌, ◌<◌, suc, refl, ap, ◌∙◌, arith}
use Rattle.std.specs.List.{find, range_with_len}
use Rattle.std.proofs.lemmas.Bool.{cond-true, cond-false}
use Rattle.pfs_addr_values.specs.Packets.{PacketView}
use Rattle.pfs_addr_values.specs.declared.packets.TagNo.{TagNo}
use Rattle.pfs_conf_values.specs.Configs.{is_match}
use Rattle.pfs_conf_values.specs.Depths.{is_rule}
use Rattle.pfs_conf_values.specs.Translations.{no_translation, translates_by}
use Rattle.pfs_conf_values.specs.declared.actions.Action.{Action}
use Rattle.pfs_conf_values.specs.declared.actions.Action.TheVariants as action
use Rattle.pfs_conf_values.specs.declared.items.Item.{Item}
use Rattle.pfs_conf_values.specs.declared.items.ItemKind.{ItemKind}
use Rattle.pfs_conf_values.specs.declared.items.ItemKind.TheVariants as what
use Rattle.pfs_conf_values.specs.declared.translations.NatTo.{NatTo}
use Rattle.pfs_conf_values.specs.declared.translations.RdrTo.{RdrTo}
use Rattle.pfs_conf_values.specs.declared.translations.Translation.{Translation}
use Rattle.pfs_eval.specs.Asking.{by_match, is_lost_at_once, marked_by, translation_at_once}
use Rattle.pfs_eval.specs.Lines.{next_place}
use Rattle.pfs_eval.specs.Translating.{TakenKeys, nat_by, rdr_by, translated}
use Rattle.pfs_eval.specs.Verdict.{can_decide, is_quick}

-- what translates nothing leaves a packet as it is
pub untranslated : (taken : TakenKeys) (t : Translation) (p : PacketView) → translates_by t ≡ false → translated taken t p ≡ Some p
unfolding translated nat_by rdr_by
untranslated taken t p h = by t.nat_to t.rdr_to h refl
  where
    by : (n : Option NatTo) (r : Option RdrTo) → (is_some n || is_some r) ≡ false → t ≡ record { nat_to = n; rdr_to = r } → translated taken t p ≡ Some p
    by None None h e = rw e refl
    by None (Some r) h e = cc
    by (Some n) r h e = cc

pub nothing_translated : (taken : TakenKeys) (p : PacketView) → translated taken no_translation p ≡ Some p
nothing_translated taken p = untranslated taken no_translation p refl

-- an item that can decide loses no packet at once
pub keeps : (taken : TakenKeys) (given : Option TagNo) (kind : ItemKind) (p : PacketView) → (is_lost_at_once taken given kind p && can_decide kind) ≡ false
keeps taken given kind p = by kind
  where
    q : PacketView
    q = marked_by given p

    none : (is_none (translated taken no_translation q) && true) ≡ false
    none = ap (λ o. is_none o && true) (nothing_translated taken q)

    no_right : (b : Bool) → (b && false) ≡ false
    no_right true = refl
    no_right false = refl

    act : (a : Action) (t : Translation) → (is_none (translated taken (by_match a t) q) && not (is_match a)) ≡ false
    act action.Match t = no_right _
    act action.Block t = none
    act action.Pass t = none
    act (action.Keep o) t = none

    by : (k : ItemKind) → (is_none (translated taken (translation_at_once k) q) && can_decide k) ≡ false
    by (what.Rule r) = act r.action r.translation
    by (what.Anchor a) = no_right _

-- a rule that decides ends the walk where it ends the evaluation at once, and goes on to the next item where it does not
ends : (r h c d l q : Bool) → ((r && h && c) && (d || l)) ≡ true → (q || l) ≡ true → (l && d) ≡ false → (r && (q || not d)) ≡ true
ends r h c d l q e f g = grind arith

goes_on : (r h c d l q : Bool) → ((r && h && c) && (d || l)) ≡ true → (q || l) ≡ false → (r && (q || not d)) ≡ false
goes_on r h c d l q e f = grind arith

pub next_at_end : (items : List Item) (p : ℕ) (w : ItemKind) (h c l : Bool) → ((is_rule w && h && c) && (can_decide w || l)) ≡ true
    → (is_quick w || l) ≡ true → (l && can_decide w) ≡ false → next_place items p w ≡ length items
next_at_end items p w h c l e f g = cond-true _ _ _ (ends (is_rule w) h c (can_decide w) l (is_quick w) e f g)

pub next_on : (items : List Item) (p : ℕ) (w : ItemKind) (h c l : Bool) → ((is_rule w && h && c) && (can_decide w || l)) ≡ true
    → (is_quick w || l) ≡ false → next_place items p w ≡ p + 1
next_on items p w h c l e f = cond-false _ _ _ (goes_on (is_rule w) h c (can_decide w) l (is_quick w) e f)

-- ---- the ports of a range, one by one

ports_left : (low end : ℕ) → low < end → range_with_len low (end - low) ≡ low ∷ range_with_len (low + 1) (end - (low + 1))
ports_left low end h = let e : end - low ≡ suc (end - (low + 1)) = omega (arith, h) in ap (range_with_len low) e

-- the next one is what is sought
pub port_found : (p : ℕ → Bool) (low end : ℕ) → low < end → p low ≡ true → find p (range_with_len low (end - low)) ≡ Some low
port_found p low end h e = ap (find p) (ports_left low end h) ∙ cond-true (p low) _ _ e

-- or it is behind it
pub port_behind : (p : ℕ → Bool) (low end : ℕ) → low < end → p low ≡ false
    → find p (range_with_len low (end - low)) ≡ find p (range_with_len (low + 1) (end - (low + 1)))
port_behind p low end h e = ap (find p) (ports_left low end h) ∙ cond-false (p low) _ _ e
