-- The verdict is the number of a rule; and what that rule makes of the packet.
use Rattle.std.proofs.Common.{◌≡◌, ℕ, ◌+◌, Bool, true, false, ◌&&◌, cond, List, [], ◌∷◌, filter, map, Option, Some, None, refl, ap, sym, ◌∙◌, arith, subst, suc}
use Rattle.std.specs.Prelude.{IfSome, IsSome, is_none, is_some, option_map, slice_get, unwrap_or}
use Rattle.std.specs.List.{list_any}
use Rattle.std.specs.Option.{option_and_then}
use Rattle.pfs_addr_values.specs.Packets.{PacketView}
use Rattle.pfs_conf_values.specs.Configs.{rule_in}
use Rattle.pfs_conf_values.specs.Depths.{is_rule}
use Rattle.pfs_conf_values.specs.declared.items.Item.{Item}
use Rattle.pfs_conf_values.specs.declared.items.RuleNo.{RuleNo}
use Rattle.pfs_conf_values.specs.declared.items.ItemKind.{ItemKind}
use Rattle.pfs_conf_values.specs.declared.items.ItemKind.TheVariants.{Rule, Anchor}
use Rattle.pfs_eval.specs.Asking.{asking}
use Rattle.pfs_eval.specs.Entries.{Entry}
use Rattle.pfs_eval.specs.Lines.{passed_at}
use Rattle.pfs_eval.specs.Translating.{TakenKeys}
use Rattle.pfs_eval.specs.Verdict.{Asking, PathPlace, packet_past, hides, is_shown, path_from, is_hit, ends_before, cut_from, cut, decider, last_or, lost_by, packet_at_cut, packet_behind, passed_by, verdict, IsRuleAt}
use Rattle.pfs_eval.proofs.Paths.{place_at}

-- each place has the item of its number
unfoldable AreAt : List Item → List PathPlace → Type 0
AreAt items [] = Unit {0}
AreAt items (x ∷ xs) = (slice_get items x.no ≡ Some x.item) × AreAt items xs

cond-at : (items : List Item) (b : Bool) (xs ys : List PathPlace) → AreAt items xs → AreAt items ys
    → AreAt items (cond b xs ys)
cond-at items true xs ys h k = h
cond-at items false xs ys h k = k

path-at : (items : List Item) (a : Asking) (q : PacketView) (h : Option ℕ) (before : List Item) (n : ℕ) (rest : List Item)
    → ((k : ℕ) → slice_get rest k ≡ slice_get items (n + k)) → AreAt items (path_from a q h before n rest)
unfolding AreAt path_from
path-at items a q h before n [] e = tt
path-at items a q h before n (i ∷ rest) e =
    let at : slice_get items n ≡ Some i = ap (slice_get items) (omega arith) ∙ sym (e 0) in
    let more : (k : ℕ) → slice_get rest k
    ≡ slice_get items (n + 1 + k) = (λ k. e (suc k) ∙ ap (slice_get items) (omega arith)) in
    cond-at items (is_shown h i.depth)
    (place_at q before n i rest ∷ path_from a (packet_past a q i) (hides (a.holds q i) i.depth) (i ∷ before) (n + 1) rest)
    (path_from a q h (i ∷ before) (n + 1) rest)
    (at, path-at items a (packet_past a q i) (hides (a.holds q i) i.depth) (i ∷ before) (n + 1) rest more)
    (path-at items a q h (i ∷ before) (n + 1) rest more)

cut-at : (items : List Item) (a : Asking) (seen xs : List PathPlace) → AreAt items xs
    → AreAt items (cut_from a seen xs)
unfolding AreAt
cut-at items a seen [] h = tt
cut-at items a seen (x ∷ xs) h =
    cond-at items (list_any (λ (r : PathPlace). is_hit a r && ends_before a x r) seen) [] (x ∷ cut_from a (x ∷ seen) xs) tt (h.0, cut-at items a (x ∷ seen) xs h.1)

in_rule : (w : ItemKind) → is_rule w ≡ true → IsSome (rule_in w)
in_rule (Rule r) e = refl
in_rule (Anchor a) e = cc

rule-at : (items : List Item) (n : ℕ) (i : Item) → slice_get items n ≡ Some i → is_rule i.what ≡ true → IsRuleAt items n
rule-at items n i at e = rw at (in_rule i.what e)

hit-rule : (r h c d : Bool) → ((r && h && c) && d) ≡ true → r ≡ true
hit-rule r h c d e = grind arith

last_step : (items : List Item) (a : Asking) (found : Option ℕ) (x : PathPlace) (xs : List PathPlace) (b : Bool)
    → is_hit a x ≡ b → slice_get items x.no ≡ Some x.item
    → ((f : Option ℕ) → IfSome f (IsRuleAt items)
    → IfSome (last_or f (map (λ (y : PathPlace). y.no) (filter (is_hit a) xs))) (IsRuleAt items))
    → IfSome found (IsRuleAt items)
    → IfSome (last_or found (map (λ (y : PathPlace). y.no) (cond b (x ∷ filter (is_hit a) xs) (filter (is_hit a) xs))))
    (IsRuleAt items)
last_step items a found x xs true e at h k = h (Some x.no) (rule-at items x.no x.item at (hit-rule _ _ _ _ e))
last_step items a found x xs false e at h k = h found k

last-rule : (items : List Item) (a : Asking) (found : Option ℕ) (xs : List PathPlace) → AreAt items xs
    → IfSome found (IsRuleAt items)
    → IfSome (last_or found (map (λ (x : PathPlace). x.no) (filter (is_hit a) xs))) (IsRuleAt items)
unfolding AreAt
last-rule items a found [] h k = k
last-rule items a found (x ∷ xs) h k = last_step items a found x xs (is_hit a x) refl h.0 (λ f l. last-rule items a f xs h.1 l) k

-- the verdict is a rule of the list
pub verdict-rule : (a : Asking) (p : PacketView) (items : List Item) → IfSome (verdict a p items) (IsRuleAt items)
unfolding verdict
verdict-rule a p items = last-rule items a None (cut a p items)
    (cut-at items a [] (path_from a p None [] 0 items)
    (path-at items a p None [] 0 items (λ k. ap (slice_get items) (omega arith)))) tt

-- a rule number and its number agree
pub of-number : (P : ℕ → Type 0) (o : Option RuleNo) (v : Option ℕ) → option_map (λ (r : RuleNo). r.0) o ≡ v
    → IfSome v P → IfSome o (λ r. P r.0)
of-number P None v e h = tt
of-number P (Some r) v e h = subst (λ (w : Option ℕ). IfSome w P) (sym e) h

-- ---- the rule that decides, and the packet

-- the rule that loses a packet is one of the list
pub lost-rule : (a : Asking) (p : PacketView) (items : List Item) → IfSome (lost_by a p items) (IsRuleAt items)
unfolding lost_by
lost-rule a p items = by (is_none (passed_by a (packet_at_cut a p items) (decider a p items)))
  where
    by : (b : Bool) → IfSome (cond b (verdict a p items) None) (IsRuleAt items)
    by true = verdict-rule a p items
    by false = tt

-- what the item that decides makes of a packet, as a walk finds it
passed-is : (items : List Item) (tables : List (List Entry)) (taken : TakenKeys) (q : PacketView) (o : Option Item)
    → passed_by (asking items tables taken) q o ≡ passed_at taken q o
passed-is items tables taken q None = refl
passed-is items tables taken q (Some i) = refl

-- the rule found and the packet at the end of a walk, with what that rule made of it
pub record IsDecided (a : Asking) (p : PacketView) (items : List Item) (found : Option ℕ) (q : PacketView) : Type 0 where
  pub verdict : found ≡ verdict a p items
  pub packet : q ≡ packet_at_cut a p items

decided-as : (items : List Item) (tables : List (List Entry)) (taken : TakenKeys) (p : PacketView) (found : Option ℕ) (q : PacketView)
    → IsDecided (asking items tables taken) p items found q
    → passed_by (asking items tables taken) (packet_at_cut (asking items tables taken) p items) (decider (asking items tables taken) p items)
    ≡ passed_at taken q (option_and_then (slice_get items) found)
decided-as items tables taken p found q h =
    ap (λ r. passed_by (asking items tables taken) r (decider (asking items tables taken) p items)) (sym h.packet)
    ∙ ap (λ f. passed_by (asking items tables taken) q (option_and_then (slice_get items) f)) (sym h.verdict)
    ∙ passed-is items tables taken q (option_and_then (slice_get items) found)

pub behind-is : (items : List Item) (tables : List (List Entry)) (taken : TakenKeys) (p : PacketView) (found : Option ℕ) (q : PacketView)
    → IsDecided (asking items tables taken) p items found q
    → unwrap_or (passed_at taken q (option_and_then (slice_get items) found)) q ≡ packet_behind (asking items tables taken) p items
unfolding packet_behind
behind-is items tables taken p found q h =
    ap (λ o. unwrap_or o q) (sym (decided-as items tables taken p found q h))
    ∙ ap (λ r. unwrap_or (passed_by (asking items tables taken) (packet_at_cut (asking items tables taken) p items) (decider (asking items tables taken) p items)) r) h.packet

pub lost-is : (items : List Item) (tables : List (List Entry)) (taken : TakenKeys) (p : PacketView) (found : Option ℕ) (q : PacketView)
    → IsDecided (asking items tables taken) p items found q → (goes_on : Bool)
    → goes_on ≡ is_some (passed_at taken q (option_and_then (slice_get items) found))
    → cond goes_on None found ≡ lost_by (asking items tables taken) p items
unfolding lost_by
lost-is items tables taken p found q h goes_on e =
    ap (λ b. cond b None found) e
    ∙ turned (passed_at taken q (option_and_then (slice_get items) found)) found
    ∙ ap (λ o. cond (is_none o) found None) (sym (decided-as items tables taken p found q h))
    ∙ ap (λ v. cond (is_none (passed_by (asking items tables taken) (packet_at_cut (asking items tables taken) p items) (decider (asking items tables taken) p items))) v None) h.verdict
  where
    turned : (o : Option PacketView) (v : Option ℕ) → cond (is_some o) None v ≡ cond (is_none o) v None
    turned None v = refl
    turned (Some r) v = refl
