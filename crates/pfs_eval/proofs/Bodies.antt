-- The body of an item: the items in it, which are deeper, and what ends it.
use Rattle.std.proofs.Common.{◌≡◌, ℕ, ◌+◌, ◌-◌, ◌<◌, ◌≤◌, suc, zero, Bool, true, false, cond, nat_lt, List, [], ◌∷◌, length, drop, slice_get, Some, refl, ap, subst, ◌∙◌, arith}
use Rattle.std.proofs.lemmas.Bool.Decides.{nat_tests}
use Rattle.std.proofs.lemmas.List.{length-drop}
use Rattle.std.proofs.lemmas.Option.{slice_get_within}
use Rattle.pfs_conf_values.specs.declared.items.Item.{Item}
use Rattle.pfs_eval.specs.Skips.{body_length}
use Rattle.pfs_eval.proofs.Paths.{some_same}

-- the place after the item at p and its body
abbrev pub place_behind : List Item → ℕ → Item → ℕ
place_behind items p i = p + 1 + body_length i.depth (drop (p + 1) items)

pub some_at : {X : Type 0} (xs : List X) (p : ℕ) → p < length xs → (x : X) × (slice_get xs p ≡ Some x)
some_at [] p h = absurd (omega (arith, h))
some_at (x ∷ xs) zero h = (x, refl)
some_at (x ∷ xs) (suc p) h = some_at xs p (omega (arith, h))

get-drop : {X : Type 0} (xs : List X) (p r : ℕ) → slice_get (drop p xs) r ≡ slice_get xs (p + r)
get-drop xs zero r = let e : r ≡ 0 + r = omega arith in ap (slice_get xs) e
get-drop [] (suc p) r = refl
get-drop (x ∷ xs) (suc p) r = let e : suc (p + r) ≡ suc p + r = omega arith in get-drop xs p r ∙ ap (slice_get (x ∷ xs)) e

-- an item of a body is deeper
body-deeper : (items : List Item) (d r : ℕ) (j : Item) → slice_get items r ≡ Some j → r < body_length d items → d < j.depth
body-deeper [] d r j at h = cc
body-deeper (x ∷ xs) d zero j at h =
    let deep : d < x.depth = grind (arith, nat_tests) in
    subst (λ (y : Item). d < y.depth) (some_same at) deep
body-deeper (x ∷ xs) d (suc r) j at h = let l : r < body_length d xs = grind (arith, nat_tests) in body-deeper xs d r j at l

-- one that ends it is not
body-ends : (items : List Item) (d : ℕ) (j : Item) → slice_get items (body_length d items) ≡ Some j → j.depth ≤ d
body-ends [] d j at = cc
body-ends (x ∷ xs) d j at = by (nat_lt d x.depth) refl at (λ e. body-ends xs d j e)
  where
    by : (b : Bool) → nat_lt d x.depth ≡ b → slice_get (x ∷ xs) (cond b (1 + body_length d xs) 0) ≡ Some j
        → (slice_get xs (body_length d xs) ≡ Some j → j.depth ≤ d) → j.depth ≤ d
    by true e k rest = let n : suc (body_length d xs) ≡ 1 + body_length d xs = omega arith in rest (ap (slice_get (x ∷ xs)) n ∙ k)
    by false e k rest = let low : x.depth ≤ d = grind (arith, nat_tests) in subst (λ (y : Item). y.depth ≤ d) (some_same k) low

body-within : (items : List Item) (d : ℕ) → body_length d items ≤ length items
body-within [] d = omega arith
body-within (x ∷ xs) d = by (nat_lt d x.depth) (body-within xs d)
  where
    by : (b : Bool) → body_length d xs ≤ length xs → cond b (1 + body_length d xs) 0 ≤ length (x ∷ xs)
    by true h = omega (arith, h)
    by false h = omega arith

-- what is between an item and the place after its body is deeper
pub deeper-inside : (items : List Item) (p r : ℕ) (i j : Item) → p < r → r < place_behind items p i → slice_get items r ≡ Some j
    → i.depth < j.depth
deeper-inside items p r i j h l at =
    let n : p + 1 + (r - (p + 1)) ≡ r = omega arith in
    body-deeper (drop (p + 1) items) i.depth (r - (p + 1)) j (get-drop items (p + 1) (r - (p + 1)) ∙ ap (slice_get items) n ∙ at) (omega arith)

-- the item at that place is not
pub ends-behind : (items : List Item) (p : ℕ) (i j : Item) → slice_get items (place_behind items p i) ≡ Some j → j.depth ≤ i.depth
ends-behind items p i j at =
    let n = body_length i.depth (drop (p + 1) items) in
    body-ends (drop (p + 1) items) i.depth j (get-drop items (p + 1) n ∙ at)

pub behind-within : (items : List Item) (p : ℕ) (i : Item) → slice_get items p ≡ Some i → place_behind items p i ≤ length items
behind-within items p i at =
    let l = body-within (drop (p + 1) items) i.depth in
    let w = slice_get_within items p i at in
    omega (arith, l, w, length-drop (p + 1) items)
