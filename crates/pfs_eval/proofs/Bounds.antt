-- What a walk visits, between the fewest and the most comparisons.
use Rattle.std.proofs.Common.{◌≡◌, ℕ, ◌+◌, ◌<◌, ◌≤◌, ◌==◌, suc, zero, max, Bool, true, false, not, ◌&&◌, cond, nat_lt, List, [], ◌∷◌, length, filter, Option, Some, None, refl, ap, sym, ◌∙◌, arith, add-one}
use Rattle.std.specs.List.{take_while}
use Rattle.std.proofs.lemmas.List.Sums.{take_while-cons}
use Rattle.std.proofs.lemmas.Bool.Decides.{nat_tests}
use Rattle.std.proofs.lemmas.Bool.{cond-true, false≢true}
use Rattle.pfs_addr_values.specs.Packets.{PacketView}
use Rattle.pfs_conf_values.specs.declared.items.Item.{Item}
use Rattle.pfs_eval.specs.Verdict.{Asking, PathPlace, packet_past, cut, ends_at_once, hides, is_hit, is_shown, path_from}
use Rattle.pfs_conf_values.specs.Depths.{is_rule}
use Rattle.pfs_conf_values.specs.Order.{next_depth, IsPreorder}
use Rattle.pfs_eval.specs.Visits.{count_at, direct_items, holds_there, opened_items, visit_bound, visit_floor}
use Rattle.pfs_eval.specs.Lines.{back, stop_depth_of}
use Rattle.pfs_eval.proofs.Paths.{place_at, rest_of}
use Rattle.pfs_eval.proofs.Cuts.{walked, cut-walked}

-- how many items are still to come as direct items of the main body or of the bodies that are open down to this depth
unfoldable pub open_items : ℕ → List Item → ℕ
open_items zero items = count_at 0 items
open_items (suc k) items = open_items k items + count_at (suc k) (take_while (λ (i : Item). nat_lt k i.depth) items)

count_cons : (d : ℕ) (i : Item) (rest : List Item) → count_at d (i ∷ rest) ≡ cond (i.depth == d) 1 0 + count_at d rest
count_cons d i rest = by (i.depth == d)
  where
    by : (b : Bool) → length (cond b (i ∷ filter (λ (x : Item). x.depth == d) rest)
        (filter (λ (x : Item). x.depth == d) rest)) ≡ cond b 1 0 + count_at d rest
    by true = omega arith
    by false = omega arith

-- the count in a body, at one more item
body_cons : (k : ℕ) (i : Item) (rest : List Item)
    → count_at (suc k) (take_while (λ (x : Item). nat_lt k x.depth) (i ∷ rest)) ≡ cond (nat_lt k i.depth)
    (cond (i.depth == suc k) 1 0 + count_at (suc k) (take_while (λ (x : Item). nat_lt k x.depth) rest)) 0
body_cons k i rest = rw (take_while-cons (λ (x : Item). nat_lt k x.depth) i rest) (by (nat_lt k i.depth))
  where
    by : (b : Bool) → count_at (suc k)
        (cond b (i ∷ take_while (λ (x : Item). nat_lt k x.depth) rest) [])
        ≡ cond b (cond (i.depth == suc k) 1 0 + count_at (suc k) (take_while (λ (x : Item). nat_lt k x.depth) rest)) 0
    by true = count_cons (suc k) i _
    by false = refl

skip_step : (k d a b c e : ℕ) → suc k < d → a ≡ b → c ≡ cond (nat_lt k d) (cond (d == suc k) 1 0 + e) 0 → a + c ≡ b + e
skip_step k d a b c e h p q = grind (arith, nat_tests)

-- a deeper item is none of them
pub open-skip : (d : ℕ) (i : Item) (rest : List Item) → d < i.depth → open_items d (i ∷ rest) ≡ open_items d rest
unfolding open_items
open-skip zero i rest h = let e = count_cons 0 i rest in grind (arith, nat_tests)
open-skip (suc k) i rest h = skip_step k i.depth _ _ _ _ h (open-skip k i rest (omega arith)) (body_cons k i rest)

hit_step : (k d a a' b c e : ℕ) → d ≤ suc k → (d ≤ k → a ≡ 1 + b) → (k < d → a ≡ a')
    → c ≡ cond (nat_lt k d) (cond (d == suc k) 1 0 + e) 0 → (d ≡ suc k → b ≡ a' + e) → a + c ≡ 1 + b
hit_step k d a a' b c e h p q r s = grind (arith, nat_tests)

-- one that is not deeper is one of them
pub open-hit : (d : ℕ) (i : Item) (rest : List Item) → i.depth ≤ d
    → open_items d (i ∷ rest) ≡ 1 + open_items i.depth rest
unfolding open_items
open-hit zero i rest h =
    let z : i.depth ≡ 0 = omega arith in
    let k : open_items i.depth rest ≡ count_at 0 rest = ap (λ d. open_items d rest) z in
    let e = count_cons 0 i rest in
    grind (arith, nat_tests)
open-hit (suc k) i rest h =
    hit_step k i.depth _ (open_items k rest) (open_items i.depth rest) _ _ h (λ le. open-hit k i rest le)
    (λ lt. open-skip k i rest lt) (body_cons k i rest) (λ e. rw e refl)

-- ---- the bound

abbrev pub deep : Option ℕ → ℕ → ℕ
deep None most = most
deep (Some d) most = d

abbrev cost : Asking → PathPlace → ℕ
cost a x = cond (not (is_rule x.item.what) && holds_there a x) (direct_items x) 0

bound_step : (a : Asking) (b h q : Bool) (x : PathPlace) (u v : List PathPlace) (P Q : ℕ) → 1 + P ≤ Q + cost a x
    → length u ≤ P + opened_items a u → length v ≤ P + opened_items a v
    → length (cond b [] (x ∷ cond h (cond q [] u) v)) ≤ Q + opened_items a (cond b [] (x ∷ cond h (cond q [] u) v))
bound_step a true h q x u v P Q e f g = omega arith
bound_step a false true true x u v P Q e f g = omega arith
bound_step a false true false x u v P Q e f g = omega arith
bound_step a false false q x u v P Q e f g = omega arith

opens : (r b : Bool) → r ≡ false → b ≡ true → (not r && b) ≡ true
opens r b e f = grind arith

cost_step : (a : Asking) (q : PacketView) (before : List Item) (n : ℕ) (i : Item) (rest : List Item) (b r : Bool) → a.holds q i ≡ b
    → is_rule i.what ≡ r
    → 1 + open_items (deep (hides b i.depth)
    (next_depth i)) rest ≤ 1 + open_items i.depth rest + cost a (place_at q before n i rest)
unfolding open_items
cost_step a q before n i rest false k e f = omega arith
cost_step a q before n i rest true true e f = rw f (omega arith)
cost_step a q before n i rest true false e f =
    let deeper : next_depth i ≡ suc i.depth = ap (λ r. cond r i.depth (i.depth + 1)) f ∙ add-one i.depth in
    let opened : open_items (next_depth i) rest ≡ open_items i.depth rest + count_at (suc i.depth)
    (take_while (λ (x : Item). nat_lt i.depth x.depth) rest) = ap (λ d. open_items d rest) deeper in
    let costs : cost a (place_at q before n i rest)
    ≡ direct_items (place_at q before n i rest) = cond-true _ _ _ (opens (is_rule i.what) (a.holds q i) f e) in
    let counted : direct_items (place_at q before n i rest) ≡ count_at (suc i.depth)
    (take_while (λ (x : Item). nat_lt i.depth x.depth) rest) = ap (λ d. count_at d (take_while (λ (x : Item). nat_lt i.depth x.depth) rest)) (add-one i.depth) in
    omega (arith, opened, costs, counted)

visible_step : (h : Option ℕ) (d most : ℕ) → is_shown h d ≡ true → d ≤ most → d ≤ deep h most
visible_step None d most w p = p
visible_step (Some a) d most w p = grind (arith, nat_tests)

item_step : (a : Asking) (q : PacketView) (h : Option ℕ) (b : Bool) (before : List Item) (n most stop : ℕ) (i : Item)
    (rest : List Item) → is_shown h i.depth ≡ b → i.depth ≤ most
    → ((q' : PacketView) (h' : Option ℕ) (before' : List Item) (n' most' stop' : ℕ) → IsPreorder most' rest
    → length (walked a stop' (path_from a q' h' before' n' rest)) ≤ open_items (deep h' most') rest + opened_items a (walked a stop' (path_from a q' h' before' n' rest)))
    → IsPreorder (next_depth i) rest
    → length (walked a stop (cond b (place_at q before n i rest ∷ path_from a (packet_past a q i) (hides (a.holds q i) i.depth) (i ∷ before) (n + 1) rest)
    (path_from a q h (i ∷ before) (n + 1) rest)))
    ≤ open_items (deep h most)
    (i ∷ rest) + opened_items a (walked a stop (cond b (place_at q before n i rest ∷ path_from a (packet_past a q i) (hides (a.holds q i) i.depth) (i ∷ before) (n + 1) rest) (path_from a q h (i ∷ before) (n + 1) rest)))
unfolding walked
item_step a q None false before n most stop i rest w l ih o = absurd (false≢true (sym w))
item_step a q (Some d) false before n most stop i rest w l ih o =
    rw (open-skip d i rest (grind (arith, nat_tests))) (ih q (Some d) (i ∷ before) (n + 1) (next_depth i) stop o)
item_step a q h true before n most stop i rest w l ih o =
    bound_step a (nat_lt i.depth stop) (is_hit a (place_at q before n i rest)) (ends_at_once a (place_at q before n i rest))
    (place_at q before n i rest) _ _ (open_items (deep (hides (a.holds q i) i.depth) (next_depth i)) rest) _
    (rw (open-hit (deep h most) i rest (visible_step h i.depth most w l))
    (cost_step a q before n i rest (a.holds q i) (is_rule i.what) refl refl))
    (ih (packet_past a q i) (hides (a.holds q i) i.depth) (i ∷ before) (n + 1) (next_depth i)
    (max stop (stop_depth_of (place_at q before n i rest).around)) o) (ih (packet_past a q i) (hides (a.holds q i) i.depth) (i ∷ before) (n + 1)
    (next_depth i) stop o)

pub path-bound : (a : Asking) (q : PacketView) (h : Option ℕ) (before : List Item) (n most stop : ℕ) (items : List Item)
    → IsPreorder most items
    → length (walked a stop (path_from a q h before n items)) ≤ open_items (deep h most) items + opened_items a (walked a stop (path_from a q h before n items))
unfolding walked path_from
path-bound a q h before n most stop [] o = omega arith
path-bound a q h before n most stop (i ∷ rest) o =
    item_step a q h (is_shown h i.depth) before n most stop i rest refl o.0 (λ q' h' before' n' most' stop' r. path-bound a q' h' before' n' most' stop' rest r) o.1

pub visits-most : (a : Asking) (p : PacketView) (items : List Item) → IsPreorder 0 items
    → length (cut a p items) ≤ visit_bound a p items
unfolding visit_bound rest_of back open_items
visits-most a p items o = rw (cut-walked a p items) (path-bound a p None [] 0 0 0 items o)

length-filter : {X : Type 0} (p : X → Bool) (xs : List X) → length (filter p xs) ≤ length xs
length-filter p [] = omega arith
length-filter p (x ∷ xs) = grind (arith, length-filter p xs)

pub visits-least : (a : Asking) (p : PacketView) (items : List Item) → visit_floor a p items ≤ length (cut a p items)
unfolding visit_floor
visits-least a p items = length-filter _ _

pub ruleset bounds = (visits-most, visits-least)
