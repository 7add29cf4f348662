-- How many places a walk compares: a skip passes over those alone that are left behind together.
use Rattle.std.proofs.Common.{◌≡◌, ℕ, ◌+◌, ◌<◌, ◌≤◌, ◌==◌, Bool, true, false, ◌&&◌, List, [], ◌∷◌, length, slice_get, Some, None, refl, ap, sym, ◌∙◌, ◌⊎◌, inl, inr, arith}
use Rattle.std.specs.List.{dedup, dedup_from}
use Rattle.std.proofs.lemmas.Bool.{cases_order, cond-true}
use Rattle.std.proofs.lemmas.Bool.Decides.{nat_tests}
use Rattle.pfs_addr_values.specs.Packets.{PacketView}
use Rattle.pfs_conf_values.specs.declared.items.Item.{Item}
use Rattle.pfs_eval.specs.Entries.{Entry}
use Rattle.pfs_eval.specs.Asking.{asking}
use Rattle.pfs_eval.specs.Translating.{TakenKeys}
use Rattle.pfs_eval.specs.Matching.{filter_of}
use Rattle.pfs_eval.specs.Parameters.{IsSame, asks_same, failing_at, holds_at}
use Rattle.pfs_eval.specs.Skips.{IsSkip}
use Rattle.pfs_eval.specs.Verdict.{Asking, PathPlace}
use Rattle.pfs_eval.specs.Visits.{is_left_on, is_left_with}
use Rattle.pfs_eval.specs.declared.comparing.Parameter.{Parameter}
use Rattle.pfs_eval.specs.declared.comparing.Parameter.TheVariants as parameter
use Rattle.pfs_eval.proofs.Bodies.{place_behind, some_at}
use Rattle.pfs_eval.proofs.Cuts.{walked, walked-end, walked-less, walked-on}
use Rattle.pfs_eval.proofs.Paths.{rest_of, rest-at, rest-end}
use Rattle.pfs_eval.proofs.SameAsked.{asked_same, same_asked}
use Rattle.pfs_eval.proofs.Skipping.{HoldsLast, HoldsMore, fails, here, miss-on, over_skip, same-holds, same-sym, same-trans}

-- ---- a list, but for what is the same as the last one kept

-- where what begins a list is not the same as x, all of it counts as it would without x
behind_other : (same : PathPlace → PathPlace → Bool) (x : PathPlace) (xs : List PathPlace)
    → ((y : PathPlace) (ys : List PathPlace) → xs ≡ y ∷ ys → same y x ≡ false) → length (dedup_from same x xs) ≡ 1 + length (dedup same xs)
behind_other same x [] h = refl
behind_other same x (y ∷ ys) h = rw (h y ys refl) (omega arith)

-- where nothing is
pub behind_none : (same : PathPlace → PathPlace → Bool) (x : PathPlace) (xs : List PathPlace) → ((y : PathPlace) → same y x ≡ false)
    → length (dedup same (x ∷ xs)) ≡ 1 + length (dedup same xs)
behind_none same x xs h = behind_other same x xs (λ y ys e. h y)

-- ---- what is left behind

-- the item i is left behind with y, which fails on the parameter k
record IsLeftWith (tables : List (List Entry)) (k : Parameter) (y : PathPlace) (i : Item) : Type 0 where
  pub on : failing_at tables y.packet (filter_of y.item.what) ≡ Some k
  pub deep : y.item.depth ≡ i.depth
  pub same : IsSame k (filter_of y.item.what) (filter_of i.what)

both : (a b : Bool) → a ≡ true → b ≡ true → (a && b) ≡ true
both a b e f = grind arith

left_true : (tables : List (List Entry)) (k : Parameter) (x y : PathPlace) → IsLeftWith tables k y x.item
    → is_left_with tables x y ≡ true
left_true tables k x y l =
    let deep : (y.item.depth == x.item.depth) ≡ true = grind (arith, nat_tests, l.deep) in
    ap (λ o. is_left_on o y.item x.item) l.on
    ∙ both (y.item.depth == x.item.depth) _ deep (same_asked k (filter_of y.item.what) (filter_of x.item.what) l.same)

left_by : (k : Parameter) (i j : Item) (b c d : Bool) → (i.depth == j.depth) ≡ b → asks_same k (filter_of i.what) (filter_of j.what) ≡ c
    → (i.depth ≡ j.depth → IsSame k (filter_of i.what) (filter_of j.what) → ⊥) → is_left_on (Some k) i j ≡ false
left_by k i j true true d e f h =
    let deep : i.depth ≡ j.depth = grind (arith, nat_tests, e) in
    absurd (h deep (asked_same k (filter_of i.what) (filter_of j.what) f))
left_by k i j true false d e f h = rw (e, f) refl
left_by k i j false c d e f h = rw e refl

left_false : (tables : List (List Entry)) (k : Parameter) (x y : PathPlace)
    → failing_at tables y.packet (filter_of y.item.what) ≡ Some k
    → (y.item.depth ≡ x.item.depth → IsSame k (filter_of y.item.what) (filter_of x.item.what) → ⊥)
    → is_left_with tables x y ≡ false
left_false tables k x y on h =
    ap (λ o. is_left_on o y.item x.item) on ∙ left_by k y.item x.item _ _ true refl refl h

-- nothing is left behind with an item that matches
pub none_left : (tables : List (List Entry)) (x y : PathPlace) → failing_at tables y.packet (filter_of y.item.what) ≡ None
    → is_left_with tables x y ≡ false
none_left tables x y on = ap (λ o. is_left_on o y.item x.item) on

-- ---- a skip

-- what begins the rest of a walk at q stands at q
walked_head : (a : Asking) (stop : ℕ) (x y : PathPlace) (xs ys : List PathPlace) → walked a stop (x ∷ xs) ≡ y ∷ ys → y.item ≡ x.item
walked_head a stop x y xs ys e = by (cases_order x.item.depth stop)
  where
    on : stop ≤ x.item.depth → y.item ≡ x.item
    on d = first (sym e ∙ walked-on a stop x xs d)
      where
        first : {us vs : List PathPlace} {u v : PathPlace} → (u ∷ us) ≡ (v ∷ vs) → u.item ≡ v.item
        first h = cc

    by : (x.item.depth ≡ stop) ⊎ ((x.item.depth < stop) ⊎ (stop < x.item.depth)) → y.item ≡ x.item
    by (inl d) = on (omega (arith, d))
    by (inr (inl l)) = let none : y ∷ ys ≡ [] = sym e ∙ walked-less a stop x xs l in cc
    by (inr (inr g)) = on (omega (arith, g))

begins_at : (a : Asking) (q : PacketView) (items : List Item) (stop r : ℕ) (y : PathPlace) (ys : List PathPlace)
    → walked a stop (rest_of a q items r) ≡ y ∷ ys → slice_get items r ≡ Some y.item
begins_at a q items stop r y ys e = by (cases_order r (length items))
  where
    past : length items ≤ r → slice_get items r ≡ Some y.item
    past l = let none : y ∷ ys ≡ [] = sym e ∙ ap (walked a stop) (rest-end a q items r l) ∙ walked-end a stop in cc

    by : (r ≡ length items) ⊎ ((r < length items) ⊎ (length items < r)) → slice_get items r ≡ Some y.item
    by (inl d) = past (omega (arith, d))
    by (inr (inl l)) =
        let there = some_at items r l in
        let is = walked_head a stop _ y _ ys (ap (walked a stop) (sym (rest-at a q items r there.0 there.1)) ∙ e) in
        there.1 ∙ ap Some (sym is)
    by (inr (inr g)) = past (omega (arith, g))

-- all that a skip passes over is left behind with y, and what stands behind the skip is not
past_skip : (tables : List (List Entry)) (taken : TakenKeys) (packet : PacketView) (k : Parameter) (items : List Item) (stop p q : ℕ) (i : Item)
    → IsSkip k items p i q → slice_get items p ≡ Some i → stop ≤ i.depth → holds_at tables packet k (filter_of i.what) ≡ false
    → (y : PathPlace) → IsLeftWith tables k y i
    → length (dedup_from (is_left_with tables) y (walked (asking items tables taken) stop (rest_of (asking items tables taken) packet items p)))
    ≡ 1 + length (dedup (is_left_with tables) (walked (asking items tables taken) stop (rest_of (asking items tables taken) packet items q)))
past_skip tables taken packet k items stop p q i s at d h = over_skip Counts k items p q i last more s at d h
  where
    a : Asking
    a = asking items tables taken

    same : PathPlace → PathPlace → Bool
    same = is_left_with tables

    from : ℕ → List PathPlace
    from p = walked a stop (rest_of a packet items p)

    Counts : ℕ → Item → Type 0
    Counts p i = stop ≤ i.depth → holds_at tables packet k (filter_of i.what) ≡ false → (y : PathPlace) → IsLeftWith tables k y i
        → length (dedup_from same y (from p)) ≡ 1 + length (dedup same (from q))

    own : (p : ℕ) (i : Item) → slice_get items p ≡ Some i → stop ≤ i.depth → holds_at tables packet k (filter_of i.what) ≡ false
        → (y : PathPlace) → IsLeftWith tables k y i → dedup_from same y (from p) ≡ dedup_from same y (from (place_behind items p i))
    own p i at d h y l =
        ap (dedup_from same y) (miss-on a packet items stop p i at d (fails tables packet k i h))
        ∙ cond-true (same (here packet items p i) y) _ _ (left_true tables k (here packet items p i) y l)

    apart : (p : ℕ) (i : Item) → IsSkip k items p i q → (y x : PathPlace) → IsLeftWith tables k y i → slice_get items q ≡ Some x.item
        → y.item.depth ≡ x.item.depth → IsSame k (filter_of y.item.what) (filter_of x.item.what) → ⊥
    apart p i s y x l at e f =
        let back = same-sym k (filter_of y.item.what) (filter_of i.what) l.same in
        s.first x.item at (inr (sym e ∙ l.deep, same-trans k (filter_of i.what) (filter_of y.item.what) (filter_of x.item.what) back f))

    last : HoldsLast Counts k items q
    last p i s at e d h y l =
        ap (λ (xs : List PathPlace). length xs) (own p i at d h y l ∙ ap (λ r. dedup_from same y (from r)) e)
        ∙ behind_other same y (from q)
        (λ x xs b. left_false tables k x y l.on (apart p i s y x l (begins_at a packet items stop q x xs b)))

    more : HoldsMore Counts k items
    more p i j at there e f on d h y l =
        ap (λ (xs : List PathPlace). length xs) (own p i at d h y l)
        ∙ on (omega (arith, d, e)) (sym (same-holds tables packet k (filter_of i.what) (filter_of j.what) f) ∙ h) y
        (record { on = l.on; deep = l.deep ∙ sym e; same = same-trans k (filter_of y.item.what) (filter_of i.what) (filter_of j.what) l.same f })

same_itself : (k : Parameter) (i : Item) → IsSame k (filter_of i.what) (filter_of i.what)
same_itself parameter.Interface i = refl
same_itself parameter.Direction i = refl
same_itself parameter.Family i = refl
same_itself parameter.Protocol i = refl
same_itself parameter.SourceHost i = refl
same_itself parameter.DestinationHost i = refl
same_itself parameter.SourcePort i = refl
same_itself parameter.DestinationPort i = refl
same_itself parameter.Flags i = refl

-- a visit to an item that fails on a parameter, and the skip from there
pub skip-counts : (tables : List (List Entry)) (taken : TakenKeys) (packet : PacketView) (k : Parameter) (items : List Item) (stop p q : ℕ) (i : Item)
    → IsSkip k items p i q → slice_get items p ≡ Some i → stop ≤ i.depth → holds_at tables packet k (filter_of i.what) ≡ false
    → failing_at tables packet (filter_of i.what) ≡ Some k
    → length (dedup (is_left_with tables) (walked (asking items tables taken) stop (rest_of (asking items tables taken) packet items p)))
    ≡ 1 + length (dedup (is_left_with tables) (walked (asking items tables taken) stop (rest_of (asking items tables taken) packet items q)))
skip-counts tables taken packet k items stop p q i s at d h on =
    ap (λ xs. length (dedup same xs)) step
    ∙ ap (λ (xs : List PathPlace). length xs) (sym (cond-true (same x x) _ _ (left_true tables k x x l)))
    ∙ ap (λ xs. length (dedup_from same x xs)) (sym step)
    ∙ past_skip tables taken packet k items stop p q i s at d h x l
  where
    a : Asking
    a = asking items tables taken

    same : PathPlace → PathPlace → Bool
    same = is_left_with tables

    x : PathPlace
    x = here packet items p i

    l : IsLeftWith tables k x i
    l = record { on = on; deep = refl; same = same_itself k i }

    step : walked a stop (rest_of a packet items p) ≡ x ∷ walked a stop (rest_of a packet items (place_behind items p i))
    step = miss-on a packet items stop p i at d (fails tables packet k i h)
