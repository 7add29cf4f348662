-- Counts where a map changes some elements, and what a search finds.
use Rattle.std.proofs.Common.{◌≡◌, ◌≤◌, Bool, true, false, if◌then◌else◌, Some, List, [], ◌∷◌, All, length, filter, map, refl, ap, arith, subst}
use Rattle.std.specs.List.{find}
use Rattle.std.proofs.lemmas.List.Elements.{All-head, All-tail}

-- a change that a test does not see at the elements that there are keeps the number
pub count-map_at : {X : Type 0} (q : X → Bool) (f : X → X) (xs : List X) → All (λ x. q (f x) ≡ q x) xs
    → length (filter q (map f xs)) ≡ length (filter q xs)
count-map_at q f [] h = refl
count-map_at q f (x ∷ xs) h =
    let e = All-head (λ y. q (f y) ≡ q y) x xs h in
    let i = count-map_at q f xs (All-tail (λ y. q (f y) ≡ q y) x xs h) in
    grind (arith, e, i)

-- where those that stay after a change are as before, there are no more of a kind than before
pub count-stay_le : {X : Type 0} (q stays : X → Bool) (f : X → X) (xs : List X) → All (λ x. stays (f x) ≡ true → f x ≡ x) xs
    → length (filter q (filter stays (map f xs))) ≤ length (filter q xs)
count-stay_le q stays f [] h = omega arith
count-stay_le {X = X} q stays f (x ∷ xs) h = go (stays (f x)) (All-head (λ y. stays (f y) ≡ true → f y ≡ y) x xs h)
    (count-stay_le q stays f xs (All-tail (λ y. stays (f y) ≡ true → f y ≡ y) x xs h))
  where
    rest : List X
    rest = filter stays (map f xs)

    at : (y : X) → y ≡ x → length (filter q rest) ≤ length (filter q xs) → length (filter q (y ∷ rest)) ≤ length (filter q (x ∷ xs))
    at y e le = let same = ap q e in grind (arith, same, le)

    go : (b : Bool) → (b ≡ true → f x ≡ x) → length (filter q rest) ≤ length (filter q xs)
        → length (filter q (if b then f x ∷ rest else rest)) ≤ length (filter q (x ∷ xs))
    go true same le = at (f x) (same refl) le
    go false same le = grind (arith, le)

-- what is found passes
pub find-passes : {X : Type 0} (p : X → Bool) (xs : List X) (x : X) → find p xs ≡ Some x → p x ≡ true
find-passes p [] x e = cc
find-passes {X = X} p (y ∷ ys) x e = go (p y) refl (λ k. find-passes p ys x k) e
  where
    go : (b : Bool) → p y ≡ b → (find p ys ≡ Some x → p x ≡ true) → (if b then Some y else find p ys) ≡ Some x → p x ≡ true
    go true k rest e = let same : y ≡ x = cc in subst (λ z. p z ≡ true) same k
    go false k rest e = rest e

-- and is one of the elements
pub find-all : {X : Type 0} (P : X → Type 0) (p : X → Bool) (xs : List X) (x : X) → All P xs → find p xs ≡ Some x → P x
find-all P p [] x h e = cc
find-all {X = X} P p (y ∷ ys) x h e = go (p y) (λ k. find-all P p ys x (All-tail P y ys h) k) e
  where
    go : (b : Bool) → (find p ys ≡ Some x → P x) → (if b then Some y else find p ys) ≡ Some x → P x
    go true rest e = let same : y ≡ x = cc in subst P same (All-head P y ys h)
    go false rest e = rest e
