-- Lists in rising numbers.
use Rattle.std.proofs.Common.{◌≡◌, ◌∙◌, ◌<◌, ◌==◌, ℕ, Bool, true, false, Some, List, [], ◌∷◌, map, refl, ap, sym, arith}
use Rattle.std.specs.List.{find, AllByRecursion}
use Rattle.std.specs.List.Sorted.{IsStrictlySortedBy}
use Rattle.std.specs.Ordering.{nat_cmp}
use Rattle.std.specs.declared.cmp.Ordering.TheVariants.{Less}
use Rattle.std.proofs.lemmas.Bool.Decides.{nat_tests}
use Rattle.std.proofs.lemmas.Map.Keys.{sorted_head, sorted_tail}

-- ---- numbers

pub same_number : (n k : ℕ) → (k == n) ≡ true → k ≡ n
same_number n k h = grind (arith, nat_tests)

less_differs : (n k : ℕ) → nat_cmp n k ≡ Less → (k == n) ≡ false
less_differs n k h = grind (arith, nat_tests)

less_above : (n k : ℕ) → nat_cmp n k ≡ Less → n < k
less_above n k h = grind (arith, nat_tests)

pub flip_eq : (a b : ℕ) (r : Bool) → (a == b) ≡ r → (b == a) ≡ r
flip_eq a b true h = grind (arith, nat_tests)
flip_eq a b false h = grind (arith, nat_tests)

-- ---- lists in rising numbers

module _ {X : Type 0} (number : X → ℕ) where
  abbrev pub has_number : ℕ → X → Bool
  has_number n x = number x == n

  abbrev pub IsRisingBy : List X → Type 0
  IsRisingBy xs = IsStrictlySortedBy nat_cmp (map number xs)

  -- none of these has the number
  abbrev pub Apart : ℕ → List X → Type 0
  Apart n xs = AllByRecursion (λ (x : X). (number x == n) ≡ false) xs

  -- all of these have higher numbers
  abbrev pub Above : ℕ → List X → Type 0
  Above n xs = AllByRecursion (λ (x : X). n < number x) xs

  apart-less : (n : ℕ) (xs : List X) → AllByRecursion (λ k. nat_cmp n k ≡ Less) (map number xs) → Apart n xs
  apart-less n [] h = tt
  apart-less n (x ∷ xs) (h, hs) = (less_differs n (number x) h, apart-less n xs hs)

  above-less : (n : ℕ) (xs : List X) → AllByRecursion (λ k. nat_cmp n k ≡ Less) (map number xs) → Above n xs
  above-less n [] h = tt
  above-less n (x ∷ xs) (h, hs) = (less_above n (number x) h, above-less n xs hs)

  pub head-apart : (x : X) (xs : List X) → IsRisingBy (x ∷ xs) → Apart (number x) xs
  head-apart x xs r = apart-less (number x) xs (sorted_head nat_cmp (number x) (map number xs) r)

  pub head-above : (x : X) (xs : List X) → IsRisingBy (x ∷ xs) → Above (number x) xs
  head-above x xs r = above-less (number x) xs (sorted_head nat_cmp (number x) (map number xs) r)

  pub rest-rising : (x : X) (xs : List X) → IsRisingBy (x ∷ xs) → IsRisingBy xs
  rest-rising x xs r = sorted_tail nat_cmp (number x) (map number xs) r

  -- the head, where it has the number
  pub head-is : (n : ℕ) (x s : X) (xs : List X) → (number x == n) ≡ true → find (has_number n) (x ∷ xs) ≡ Some s → x ≡ s
  head-is n x s xs t f = let f' : Some x ≡ Some s = (rw t at f) in cc

  pub found-number : (n : ℕ) (s : X) (xs : List X) → find (has_number n) xs ≡ Some s → number s ≡ n
  found-number n s [] f = absurd cc
  found-number n s (x ∷ xs) f = go (found-number n s xs) (number x == n) refl
    where
      go : (find (has_number n) xs ≡ Some s → number s ≡ n) → (b : Bool) → (number x == n) ≡ b → number s ≡ n
      go more true t = ap number (sym (head-is n x s xs t f)) ∙ same_number n (number x) t
      go more false t = more (rw t at f)
