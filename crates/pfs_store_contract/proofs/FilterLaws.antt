-- Lists that are filtered.
use Rattle.std.proofs.Common.{◌≡◌, ◌≤◌, ◌∷◌, [], suc, Bool, true, false, List, length, filter, if◌then◌else◌, refl, ap, arith}
use Rattle.std.proofs.lemmas.List.Sums.{count_by-le-length, length-filter}

-- a filter that keeps as many keeps all
pub filter-all : {X : Type 0} (p : X → Bool) (xs : List X) → length xs ≤ length (filter p xs) → filter p xs ≡ xs
filter-all p [] h = refl
filter-all p (x ∷ xs) h = go (λ k. filter-all p xs k) (p x) h
  where
    go : (length xs ≤ length (filter p xs) → filter p xs ≡ xs) → (b : Bool)
        → suc (length xs) ≤ length (if b then x ∷ filter p xs else filter p xs) → (if b then x ∷ filter p xs else filter p xs) ≡ x ∷ xs
    go rest true k = ap (λ ys. x ∷ ys) (rest (omega arith))
    go rest false k = absurd (omega (arith, length-filter p xs, count_by-le-length p xs))
