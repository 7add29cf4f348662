-- Counts by a filter, and whether some element passes a test, after a list has changed.
use Rattle.std.proofs.Common.{◌≡◌, ℕ, zero, suc, ◌+◌, ◌<◌, ◌≤◌, Bool, true, false, not, ◌||◌, cond, List, [], ◌∷◌, ◌++◌, length, filter, map, refl, ◌∙◌, arith}
use Rattle.std.specs.List.{list_any}
use Rattle.std.specs.Prelude.{slice_index_or}

-- a filter keeps no more of some kind
pub count-filter_le : {X : Type 0} (q p : X → Bool) (xs : List X) → length (filter q (filter p xs)) ≤ length (filter q xs)
count-filter_le q p [] = omega arith
count-filter_le q p (x ∷ xs) = grind (arith, count-filter_le q p xs)

-- and no more than there are
pub count_le : {X : Type 0} (p : X → Bool) (xs : List X) → length (filter p xs) ≤ length xs
count_le p [] = omega arith
count_le p (x ∷ xs) = grind (arith, count_le p xs)

-- a change that the test does not see keeps the number
pub count-map : {X : Type 0} (q : X → Bool) (f : X → X) → ((x : X) → q (f x) ≡ q x) → (xs : List X) → length (filter q (map f xs)) ≡ length (filter q xs)
count-map q f h [] = refl
count-map q f h (x ∷ xs) = let e = h x in let i = count-map q f h xs in grind (arith, e, i)

-- one more
pub count-push : {X : Type 0} (q : X → Bool) (xs : List X) (x : X) → length (filter q (xs ++ x ∷ [])) ≡ length (filter q xs) + cond (q x) 1 0
count-push q [] x = grind arith
count-push q (y ∷ xs) x = grind (arith, count-push q xs x)

pub count-push_passing : {X : Type 0} (q : X → Bool) (xs : List X) (x : X) → q x ≡ true → length (filter q (xs ++ x ∷ [])) ≡ length (filter q xs) + 1
count-push_passing q xs x h = count-push q xs x ∙ rw h refl

pub count-push_failing : {X : Type 0} (q : X → Bool) (xs : List X) (x : X) → q x ≡ false → length (filter q (xs ++ x ∷ [])) ≡ length (filter q xs)
count-push_failing q xs x h = let one = rw h at (count-push q xs x) in omega (arith, one)

pub count-push_le : {X : Type 0} (q : X → Bool) (xs : List X) (x : X) → length (filter q (xs ++ x ∷ [])) ≤ length (filter q xs) + 1
count-push_le q xs x = by (q x) (count-push q xs x)
  where
    by : (b : Bool) → length (filter q (xs ++ x ∷ [])) ≡ length (filter q xs) + cond b 1 0 → length (filter q (xs ++ x ∷ [])) ≤ length (filter q xs) + 1
    by true e = omega (arith, e)
    by false e = omega (arith, e)

pub any-map : {X : Type 0} (q : X → Bool) (f : X → X) → ((x : X) → q (f x) ≡ q x) → (xs : List X) → list_any q (map f xs) ≡ list_any q xs
any-map q f h [] = refl
any-map q f h (x ∷ xs) = let e = h x in let i = any-map q f h xs in cc

pub any-push : {X : Type 0} (q : X → Bool) (xs : List X) (x : X) → list_any q (xs ++ x ∷ []) ≡ (list_any q xs || q x)
any-push q [] x = grind arith
any-push q (y ∷ xs) x = grind (arith, any-push q xs x)

-- what passes is counted
pub count-at : {X : Type 0} (q : X → Bool) (xs : List X) (k : ℕ) (d : X) → k < length xs → q (slice_index_or xs k d) ≡ true → 0 < length (filter q xs)
count-at q [] k d within h = absurd (omega (arith, within))
count-at q (x ∷ xs) zero d within h = rw h (omega arith)
count-at q (x ∷ xs) (suc k) d within h = let i = count-at q xs k d (omega (arith, within)) h in grind (arith, i)

-- a filter that keeps all that pass a test keeps one of them
pub any-filter : {X : Type 0} (q p : X → Bool) → ((x : X) → q x ≡ true → p x ≡ true) → (xs : List X) → list_any q xs ≡ true → list_any q (filter p xs) ≡ true
any-filter q p h [] any = any
any-filter q p h (x ∷ xs) any = go (λ k. any-filter q p h xs k) (q x) refl any
  where
    go : (list_any q xs ≡ true → list_any q (filter p xs) ≡ true) → (b : Bool) → q x ≡ b → (b || list_any q xs) ≡ true
        → list_any q (cond (p x) (x ∷ filter p xs) (filter p xs)) ≡ true
    go rest true e k = rw (h x e) (rw e refl)
    go rest false e k = by (p x)
      where
        by : (b : Bool) → list_any q (cond b (x ∷ filter p xs) (filter p xs)) ≡ true
        by true = rw e (rest k)
        by false = rest k

-- what passes and what does not are all
pub count-rest : {X : Type 0} (p : X → Bool) (xs : List X) → length (filter p xs) + length (filter (λ x. not (p x)) xs) ≡ length xs
count-rest p [] = refl
count-rest p (x ∷ xs) = grind (arith, count-rest p xs)
