-- The lines of items, one after the other, and their skips.
use Rattle.std.proofs.Common.{◌≡◌, ℕ, ◌+◌, ◌<◌, ◌≤◌, suc, zero, max, Bool, true, false, cond, nat_lt, nat_le, List, [], ◌∷◌, ◌++◌, length, drop, slice_get, Some, refl, ap, sym, subst, ◌∙◌, ◌⊎◌, inl, inr, arith, replicate, get_or, set}
use Rattle.std.proofs.lemmas.List.{get_or-replicate, length-set}
use Rattle.std.proofs.lemmas.Option.{slice_get_read, slice_get_within}
use Rattle.std.proofs.lemmas.Bool.Decides.{nat_tests}
use Rattle.std.proofs.lemmas.Bool.{cases_order, cond-true, cond-false}
use Rattle.pfs_conf_values.specs.declared.items.Item.{Item}
use Rattle.pfs_eval.specs.declared.comparing.Parameter.{Parameter}
use Rattle.pfs_eval.specs.declared.lines.Line.{Line}
use Rattle.pfs_eval.specs.declared.skips.Skips.{Skips}
use Rattle.pfs_eval.specs.Lines.{AreLines, AreLinesFrom, EachLine, IsLine, back, items_of, stop_depth_of}
use Rattle.pfs_eval.specs.Matching.{filter_of}
use Rattle.pfs_eval.specs.Parameters.{IsSame}
use Rattle.pfs_eval.specs.Skips.{AreSkipsOf, IsJoined, IsPassed, IsSkip, body_length, skip_of}
use Rattle.pfs_eval.specs.Verdict.{enclosing, is_quick}
use Rattle.pfs_eval.proofs.Bodies.{behind-within, deeper-inside, ends-behind, place_behind, some_at}
use Rattle.pfs_eval.proofs.Skipping.{passed-same, same-sym}
use Rattle.pfs_eval.proofs.Paths.{back-at, drop-at, some_same}

-- ---- the item of a line

-- the item of a line
pub record IsItem (items : List Item) (p : ℕ) (line : Line) : Type 0 where
  pub item : Item
  pub at : slice_get items p ≡ Some item
  pub is : IsLine items p item line

pub item_of : {n : ℕ} (items : List Item) (lines : List Line) (p : ℕ) (line : Line) → AreLinesFrom n items lines
    → slice_get lines p ≡ Some line → IsItem items p line
item_of items lines p line a there =
    let inside = slice_get_within lines p line there in
    let found = some_at items p (omega (arith, inside, a.long)) in
    record { item = found.0; at = found.1; is = a.each p found.0 line found.1 there }

pub depth_of : {items : List Item} {p : ℕ} {i : Item} {line : Line} → IsLine items p i line → line.item.depth ≡ i.depth
depth_of l = ap (λ (x : Item). x.depth) l.item

-- the items of all lines
each_item : (items : List Item) (lines : List Line) → length lines ≡ length items
    → ((p : ℕ) (i : Item) (line : Line) → slice_get items p ≡ Some i → slice_get lines p ≡ Some line → line.item ≡ i) → items_of lines ≡ items
each_item [] [] e h = refl
each_item [] (l ∷ ls) e h = absurd (omega (arith, e))
each_item (i ∷ is) [] e h = absurd (omega (arith, e))
each_item (i ∷ is) (l ∷ ls) e h =
    ap (λ x. x ∷ items_of ls) (h 0 i l refl refl)
    ∙ ap (λ xs. i ∷ xs) (each_item is ls (omega (arith, e)) (λ p j k at there. h (suc p) j k at there))

pub items-are : {items : List Item} {lines : List Line} → AreLines items lines → items_of lines ≡ items
items-are {items} {lines} a = each_item items lines a.long (λ p i line at there. (a.each p i line at there).item)

-- ---- one more line, and a line that is written anew

pub get-more : {X : Type 0} (xs : List X) (y x : X) (p : ℕ) → slice_get (xs ++ y ∷ []) p ≡ Some x
    → (slice_get xs p ≡ Some x) ⊎ ((p ≡ length xs) × (x ≡ y))
get-more [] y x zero h = inr (refl, sym (some_same h))
get-more [] y x (suc p) h = cc
get-more (z ∷ xs) y x zero h = inl h
get-more (z ∷ xs) y x (suc p) h = by (get-more xs y x p h)
  where
    by : (slice_get xs p ≡ Some x) ⊎ ((p ≡ length xs) × (x ≡ y))
        → (slice_get (z ∷ xs) (suc p) ≡ Some x) ⊎ ((suc p ≡ length (z ∷ xs)) × (x ≡ y))
    by (inl k) = inl k
    by (inr k) = inr (omega (arith, k.0), k.1)

get-set : {X : Type 0} (xs : List X) (y x : X) (p q : ℕ) → slice_get (set xs p y) q ≡ Some x
    → ((slice_get xs q ≡ Some x) × (q ≡ p → ⊥)) ⊎ ((q ≡ p) × (x ≡ y))
get-set [] y x p q h = cc
get-set (z ∷ xs) y x zero zero h = inr (refl, sym (some_same h))
get-set (z ∷ xs) y x zero (suc q) h = inl (h, λ e. omega (arith, e))
get-set (z ∷ xs) y x (suc p) zero h = inl (h, λ e. omega (arith, e))
get-set (z ∷ xs) y x (suc p) (suc q) h = by (get-set xs y x p q h)
  where
    by : ((slice_get xs q ≡ Some x) × (q ≡ p → ⊥)) ⊎ ((q ≡ p) × (x ≡ y))
        → ((slice_get (z ∷ xs) (suc q) ≡ Some x) × (suc q ≡ suc p → ⊥)) ⊎ ((suc q ≡ suc p) × (x ≡ y))
    by (inl k) = inl (k.0, λ e. k.1 (omega (arith, e)))
    by (inr k) = inr (ap suc k.0, k.1)

pub each-none : (items : List Item) (lines : List Line) → lines ≡ [] → EachLine items lines
each-none items lines e p i line at there = cc

is_line : (items : List Item) (p q : ℕ) (i j : Item) (line other : Line) → p ≡ q → line ≡ other → slice_get items p ≡ Some i
    → slice_get items q ≡ Some j → IsLine items q j other → IsLine items p i line
is_line items p q i j line other e f at there h =
    let same : i ≡ j = some_same (sym at ∙ ap (slice_get items) e ∙ there) in
    rw (e, f, same) h

pub each-more : (items : List Item) (lines new : List Line) (p : ℕ) (i : Item) (line : Line) → new ≡ lines ++ line ∷ []
    → length lines ≡ p → slice_get items p ≡ Some i → IsLine items p i line → EachLine items lines → EachLine items new
each-more items lines new p i line e long at is each q j other here there = by (get-more lines line other q (rw e at there))
  where
    by : (slice_get lines q ≡ Some other) ⊎ ((q ≡ length lines) × (other ≡ line)) → IsLine items q j other
    by (inl k) = each q j other here k
    by (inr k) = is_line items q p j i other line (k.0 ∙ long) k.1 here at is

-- a line with other skips
abbrev pub with_skips : Line → Skips → Line
with_skips line s =
    record { skips = s; next = line.next; stop_depth = line.stop_depth; given = line.given; asked = line.asked; item = line.item }

each-set : (items : List Item) (lines : List Line) (p : ℕ) (line : Line) (s : Skips) → EachLine items lines
    → slice_get lines p ≡ Some line → EachLine items (set lines p (with_skips line s))
each-set items lines p line s each old q i found here there = by (get-set lines (with_skips line s) found p q there)
  where
    by : ((slice_get lines q ≡ Some found) × (q ≡ p → ⊥)) ⊎ ((q ≡ p) × (found ≡ with_skips line s)) → IsLine items q i found
    by (inl k) = each q i found here k.0
    by (inr k) =
        let at : slice_get items p ≡ Some i = ap (slice_get items) (sym k.0) ∙ here in
        let l = each p i line at old in
        let made : IsLine items p i (with_skips line s) = record { item = l.item; asked = l.asked; given = l.given; next = l.next; stop = l.stop } in
        is_line items q p i i found _ k.0 k.1 here at made

skips-set : (items : List Item) (lines : List Line) (p : ℕ) (line : Line) (s : Skips) → AreLinesFrom (p + 1) items lines
    → AreSkipsOf items p s → (q : ℕ) (found : Line) → p ≤ q → slice_get (set lines p (with_skips line s)) q ≡ Some found
    → AreSkipsOf items q found.skips
skips-set items lines p line s a skips q found l there = by (get-set lines (with_skips line s) found p q there)
  where
    ahead : (q ≡ p → ⊥) → p + 1 ≤ q
    ahead ne = past (cases_order p q)
      where
        past : (p ≡ q) ⊎ ((p < q) ⊎ (q < p)) → p + 1 ≤ q
        past (inl e) = absurd (ne (sym e))
        past (inr (inl h)) = omega (arith, h)
        past (inr (inr h)) = absurd (omega (arith, h, l))

    by : ((slice_get lines q ≡ Some found) × (q ≡ p → ⊥)) ⊎ ((q ≡ p) × (found ≡ with_skips line s)) → AreSkipsOf items q found.skips
    by (inl k) = a.skips q found (ahead k.1) k.0
    by (inr k) = rw (k.0, k.1) skips

-- a line whose skips are written anew, in front of those that have theirs
pub lines-set : (items : List Item) (lines : List Line) (n p : ℕ) (line : Line) (s : Skips) → n ≡ p + 1 → AreLinesFrom n items lines
    → slice_get lines p ≡ Some line → AreSkipsOf items p s → AreLinesFrom p items (set lines p (with_skips line s))
lines-set items lines n p line s e a at skips =
    let here : AreLinesFrom (p + 1) items lines = subst (λ m. AreLinesFrom m items lines) e a in
    record {
      long = length-set lines p _ ∙ a.long;
      each = each-set items lines p line s a.each at;
      skips = skips-set items lines p line s here skips;
      few = a.few;
      preorder = a.preorder;
    }

-- ---- the depths at which the evaluation ends

stop-cons : (d : ℕ) (i : Item) (before : List Item) (v w : ℕ) → v ≡ stop_depth_of (enclosing i.depth before)
    → w ≡ stop_depth_of (enclosing d before)
    → cond (nat_le (i.depth + 1) d)
    (cond (is_quick i.what) (max (i.depth + 1) v) v) w ≡ stop_depth_of (enclosing d (i ∷ before))
stop-cons d i before v w e f = by (nat_le (i.depth + 1) d) (nat_lt i.depth d) (grind (arith, nat_tests))
  where
    by : (b c : Bool) → b ≡ c
        → cond b (cond (is_quick i.what) (max (i.depth + 1) v) v) w
        ≡ stop_depth_of (cond c (i ∷ enclosing i.depth before) (enclosing d before))
    by true true g = rw e refl
    by false false g = f
    by true false g = cc
    by false true g = cc

-- the depths at which a rule ends a walk, after one more item
pub depths-more : (items : List Item) (p : ℕ) (i : Item) (stop : ℕ) (old new : ℕ → ℕ) → slice_get items p ≡ Some i
    → stop ≡ old i.depth → i.depth ≤ 16 → ((d : ℕ) → d ≤ 17 → old d ≡ stop_depth_of (enclosing d (back p [] items)))
    → ((d : ℕ) → d < 18 → new d ≡ cond (nat_le (i.depth + 1) d) (cond (is_quick i.what) (max (i.depth + 1) stop) stop)
    (old d)) → (d : ℕ) → d ≤ 17 → new d ≡ stop_depth_of (enclosing d (back (p + 1) [] items))
depths-more items p i stop old new at e s h k d l =
    k d (omega arith) ∙ stop-cons d i (back p [] items) stop (old d) (e ∙ h i.depth (omega arith)) (h d l)
    ∙ ap (λ bs. stop_depth_of (enclosing d bs)) (sym (back-at items p i at))

zeros : (d : ℕ) → d ≤ 17 → get_or {A = ℕ} (replicate 18 0) d 0 ≡ 0
zeros d l = get_or-replicate 18 d 0 0 (omega arith)

-- before the first item no anchor is open
pub depths-start : (items : List Item) (d : ℕ) → d ≤ 17
    → get_or {A = ℕ} (replicate 18 0) d 0 ≡ stop_depth_of (enclosing d (back 0 [] items))
unfolding back
depths-start items d l = zeros d l

-- an item that is not deeper ends a body
pub body-end : (items : List Item) (p d : ℕ) (i : Item) → slice_get items p ≡ Some i → i.depth ≤ d
    → body_length d (drop p items) ≡ 0
body-end items p d i at h = let out : nat_lt d i.depth ≡ false = grind (arith, nat_tests) in ap (body_length d)
    (drop-at items p i at) ∙ cond-false (nat_lt d i.depth) _ _ out

-- one that is deeper is part of it
pub body-more : (items : List Item) (p d : ℕ) (i : Item) → slice_get items p ≡ Some i → d < i.depth
    → body_length d (drop p items) ≡ 1 + body_length d (drop (p + 1) items)
body-more items p d i at h = let in_body : nat_lt d i.depth ≡ true = grind (arith, nat_tests) in ap (body_length d)
    (drop-at items p i at) ∙ cond-true (nat_lt d i.depth) _ _ in_body

-- ---- skips

-- what a look-up by place gives
pub looked_up : {X : Type 0} (xs : List X) (p : ℕ) (x : X) → (true ≡ nat_lt p (length xs)) × (x ≡ get_or xs p x)
    → slice_get xs p ≡ Some x
looked_up xs p x h = let within : p < length xs = grind (arith, nat_tests, h.0) in slice_get_read xs _ p x refl within h.1

pub none_past : {X : Type 0} (xs : List X) (p : ℕ) (x : X) → false ≡ nat_lt p (length xs) → slice_get xs p ≡ Some x → ⊥
none_past xs p x h at = let within = slice_get_within xs p x at in grind (arith, nat_tests)

-- after the body of the item of a line
behind_of : (items : List Item) (p q : ℕ) (i : Item) (line : Line) → IsLine items p i line
    → q ≡ p + 1 + body_length line.item.depth (drop (p + 1) items) → place_behind items p i ≡ q
behind_of items p q i line l e = sym (e ∙ ap (λ (x : Item). p + 1 + body_length x.depth (drop (p + 1) items)) l.item)

-- the walk goes on after an item's body, where the item there ends the body or asks another thing
near : (items : List Item) (p q : ℕ) (i : Item) (k : Parameter) → slice_get items p ≡ Some i → place_behind items p i ≡ q
    → ((j : Item) → slice_get items q ≡ Some j → IsPassed k i j → ⊥) → IsSkip k items p i q
near items p q i k at e ends = record {
  behind = omega (arith, e);
  within = let w = behind-within items p i at in omega (arith, e, w);
  passed = λ r j h l there. inl (deeper-inside items p r i j h (omega (arith, e, l)) there);
  first = ends;
}

-- it goes on where the next item of its body does, where both ask the same
far : (items : List Item) (p b q : ℕ) (i j : Item) (k : Parameter) → place_behind items p i ≡ b → slice_get items b ≡ Some j
    → j.depth ≡ i.depth → IsSame k (filter_of i.what) (filter_of j.what) → IsSkip k items b j q → IsSkip k items p i q
far items p b q i j k e there d same s = record {
  behind = omega (arith, e, s.behind);
  within = s.within;
  passed = λ r x h l at. by r x h l at (cases_order r b);
  first = λ x at on. s.first x at (passed-same k j i x (sym d) (same-sym k (filter_of i.what) (filter_of j.what) same) on);
}
  where
    by : (r : ℕ) (x : Item) → p < r → r < q → slice_get items r ≡ Some x → (r ≡ b) ⊎ ((r < b) ⊎ (b < r)) → IsPassed k i x
    by r x h l at (inl f) = subst (λ y. IsPassed k i y) (some_same (sym there ∙ ap (slice_get items) (sym f) ∙ at)) (inr (d, same))
    by r x h l at (inr (inl f)) = inl (deeper-inside items p r i x h (omega (arith, e, f)) at)
    by r x h l at (inr (inr f)) = passed-same k i j x d same (s.passed r x f l at)

-- an item that no other follows in its body
pub skips-alone : {n : ℕ} (items : List Item) (lines : List Line) (p q : ℕ) (line : Line) (s : Skips) → AreLinesFrom n items lines
    → slice_get lines p ≡ Some line → q ≡ p + 1 + body_length line.item.depth (drop (p + 1) items)
    → ((next : Line) → slice_get lines q ≡ Some next → next.item.depth ≡ line.item.depth → ⊥)
    → ((k : Parameter) → skip_of s k ≡ q) → AreSkipsOf items p s
skips-alone items lines p q line s a there e alone h i at k =
    let l = a.each p i line at there in
    let b = behind_of items p q i line l e in
    subst (λ r. IsSkip k items p i r) (sym (h k)) (near items p q i k at b (λ j here on. ends j here on (ends-behind items p i j (ap (slice_get items) b ∙ here))))
  where
    ends : (j : Item) → slice_get items q ≡ Some j → IsPassed k i j → j.depth ≤ i.depth → ⊥
    ends j here (inl deeper) low = omega (arith, deeper, low)
    ends j here (inr h2) low =
        let next = some_at lines q (omega (arith, a.long, slice_get_within items q j here)) in
        let m = a.each q j next.0 here next.1 in
        alone next.0 next.1 (depth_of m ∙ h2.0 ∙ sym (depth_of (a.each p i line at there)))

-- an item that another one follows
pub skips-joined : {n : ℕ} (items : List Item) (lines : List Line) (p q : ℕ) (line next : Line) (s : Skips) → AreLinesFrom n items lines
    → n ≤ q → slice_get lines p ≡ Some line → slice_get lines q ≡ Some next
    → q ≡ p + 1 + body_length line.item.depth (drop (p + 1) items) → next.item.depth ≡ line.item.depth
    → ((k : Parameter) → IsJoined k (filter_of line.item.what) (filter_of next.item.what) q (skip_of next.skips k) (skip_of s k))
    → AreSkipsOf items p s
skips-joined items lines p q line next s a ahead there then e d h i at k =
    by (subst (λ (x : Item). IsJoined k (filter_of x.what) (filter_of j.item.what) q (skip_of next.skips k) (skip_of s k)) l.item
    (subst (λ (x : Item). IsJoined k (filter_of line.item.what) (filter_of x.what) q (skip_of next.skips k) (skip_of s k)) j.is.item (h k)))
  where
    l : IsLine items p i line
    l = a.each p i line at there

    j : IsItem items q next
    j = item_of items lines q next a then

    b : place_behind items p i ≡ q
    b = behind_of items p q i line l e

    deep : j.item.depth ≡ i.depth
    deep = sym (depth_of j.is) ∙ d ∙ depth_of l

    other : (IsSame k (filter_of i.what) (filter_of j.item.what) → ⊥) → (x : Item) → slice_get items q ≡ Some x → IsPassed k i x → ⊥
    other ne x here (inl deeper) = omega (arith, deeper, ends-behind items p i x (ap (slice_get items) b ∙ here))
    other ne x here (inr on) = ne (subst (λ (y : Item). IsSame k (filter_of i.what) (filter_of y.what)) (some_same (sym here ∙ j.at)) on.1)

    by : IsJoined k (filter_of i.what) (filter_of j.item.what) q (skip_of next.skips k) (skip_of s k) → IsSkip k items p i (skip_of s k)
    by (inl same) =
        subst (λ r. IsSkip k items p i r) (sym same.1)
        (far items p q (skip_of next.skips k) i j.item k b j.at deep same.0 (a.skips q next ahead then j.item j.at k))
    by (inr apart) = subst (λ r. IsSkip k items p i r) (sym apart.1) (near items p q i k at b (other apart.0))
