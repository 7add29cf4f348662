-- Rounds over plain lists of numbers: which number comes when.
use Rattle.std.proofs.Common.{◌≡◌, ℕ, suc, zero, ◌+◌, ◌*◌, ◌≤◌, Bool, true, false, ◌||◌, cond, ◌==◌, List, [], ◌∷◌, ◌++◌, length, filter, take, drop, ◌⊎◌, inl, inr, refl, ap, ◌∙◌, sym, arith, length-drop}
use Rattle.std.proofs.Math.Seq.{take-nil, take-add}
use Rattle.std.proofs.lemmas.Bool.{false≢true}
use Rattle.std.proofs.lemmas.Bool.Decides.{nat_tests}
use Rattle.std.proofs.lemmas.List.Folds.{list_any-append}
use Rattle.std.proofs.lemmas.List.{take_all}
use Rattle.pfs_store_contract.specs.Purging.{is_among, round, share}

-- ---- numbers among a list

or_right : (x y : Bool) → (x || y) ≡ true → x ≡ false → y ≡ true
or_right true y h out = absurd (false≢true (sym out))
or_right false y h out = h

or_left : (x y : Bool) → x ≡ true → (x || y) ≡ true
or_left true y h = refl
or_left false y h = absurd (false≢true h)

among-append : (n : ℕ) (xs ys : List ℕ) → is_among (xs ++ ys) n ≡ (is_among xs n || is_among ys n)
among-append n xs ys = list_any-append (λ m. m == n) xs ys

-- what is within a + b, and not among the first a, is within b of the rest
front : (n a b : ℕ) (xs : List ℕ) → is_among (take (a + b) xs) n ≡ true → is_among (take a xs) n ≡ false → is_among (take b (drop a xs)) n ≡ true
front n a b xs h out =
    or_right (is_among (take a xs) n) (is_among (take b (drop a xs)) n) (sym (among-append n (take a xs) (take b (drop a xs))) ∙ ap (λ (ys : List ℕ). is_among ys n) (sym (take-add a b xs)) ∙ h) out

-- more of a list has no fewer numbers
further : (n a b : ℕ) (xs : List ℕ) → is_among (take a xs) n ≡ true → is_among (take (a + b) xs) n ≡ true
further n a b xs h =
    ap (λ (ys : List ℕ). is_among ys n) (take-add a b xs) ∙ among-append n (take a xs) (take b (drop a xs)) ∙ or_left (is_among (take a xs) n) (is_among (take b (drop a xs)) n) h

-- numbers that leave bring another one no later
kept : (n k : ℕ) (p : ℕ → Bool) (xs : List ℕ) → p n ≡ true → is_among (take k xs) n ≡ true → is_among (take k (filter p xs)) n ≡ true
kept n k p [] here h = h
kept n zero p (x ∷ xs) here h = absurd (false≢true h)
kept n (suc k) p (x ∷ xs) here h = go (x == n) refl (p x) refl (kept n k p xs here) where
  go : (a : Bool) → (x == n) ≡ a → (b : Bool) → p x ≡ b → (is_among (take k xs) n ≡ true → is_among (take k (filter p xs)) n ≡ true) → is_among (take (suc k) (cond b (x ∷ filter p xs) (filter p xs))) n ≡ true
  go true e true f i = rw e refl
  go true e false f i =
      let same : x ≡ n = grind (arith, nat_tests) in
      absurd (false≢true (sym f ∙ ap p same ∙ here))
  go false e true f i = rw e (i (rw e at h))
  go false e false f i =
      let one : k + 1 ≡ suc k = omega arith in
      ap (λ (j : ℕ). is_among (take j (filter p xs)) n) (sym one) ∙ further n k 1 (filter p xs) (i (rw e at h))

pub length-filter-le : {X : Type 0} (p : X → Bool) (xs : List X) → length (filter p xs) ≤ length xs
length-filter-le p [] = omega arith
length-filter-le p (x ∷ xs) = grind (arith, length-filter-le p xs)

nil_take : (n : ℕ) → ◌≡◌ {A = List ℕ} (take n []) []
nil_take n = take-nil n

-- ---- rounds

-- a number is among the first that so many slices examine, or so many slices are left when the round is over
abbrev pub IsDue : ℕ → ℕ → ℕ → ℕ → List ℕ → Type 0
IsDue each interval k n pending = (is_among (take (k * each) pending) n ≡ true) ⊎ ((a : ℕ) × (a + interval ≡ k) × (length pending ≤ a * each))

-- at the start two rounds are enough
pub due-start : (each interval n : ℕ) (pending : List ℕ) → length pending ≤ interval * each → IsDue each interval (2 * interval) n pending
due-start each interval n pending h = inr (interval, omega arith, h)

-- out slice is left in the end
pub due-end : (each interval n : ℕ) (pending : List ℕ) → 1 ≤ interval → IsDue each interval 0 n pending → ⊥
due-end each interval n pending h (inl e) =
    let z : 0 * each ≡ 0 = omega arith in false≢true (ap (λ (j : ℕ). is_among (take j pending) n) (sym z) ∙ e)
due-end each interval n pending h (inr r) = omega (arith, r.1)

-- one slice
pub due-slice : (each interval k n : ℕ) (held pending : List ℕ) → is_among held n ≡ true → length held ≤ interval * each → IsDue each interval (suc k) n pending → is_among (take each (round held pending)) n ≡ false → IsDue each interval k n (drop each (round held pending))
due-slice each interval k n held [] here few (inl e) unseen =
    absurd (false≢true (ap (λ (ys : List ℕ). is_among ys n) (sym (nil_take (suc k * each))) ∙ e))
due-slice each interval k n held [] here few (inr r) unseen =
    let long : length held ≤ each + k * each = enough r.0 r.1 in
    inl (front n each (k * each) held (ap (λ (ys : List ℕ). is_among ys n) (take_all (each + k * each) held long) ∙ here) unseen)
  where
    enough : (a : ℕ) → a + interval ≡ suc k → length held ≤ each + k * each
    enough a e =
        let m : (a + interval) * each ≡ suc k * each = ap (λ (j : ℕ). j * each) e in
        let d : (a + interval) * each ≡ a * each + interval * each = omega arith in
        let s : suc k * each ≡ each + k * each = omega arith in
        omega (arith, m, d, s, few)
due-slice each interval k n held (m ∷ ms) here few (inl e) unseen =
    let s : suc k * each ≡ each + k * each = omega arith in
    inl (front n each (k * each) (m ∷ ms) (ap (λ (j : ℕ). is_among (take j (m ∷ ms)) n) (sym s) ∙ e) unseen)
due-slice each interval k n held (m ∷ ms) here few (inr r) unseen = inr (fewer r.0 r.1 r.2) where
  fewer : (a : ℕ) → a + interval ≡ suc k → length (m ∷ ms) ≤ a * each → (b : ℕ) × (b + interval ≡ k) × (length (drop each (m ∷ ms)) ≤ b * each)
  fewer zero e l = let z : 0 * each ≡ 0 = omega arith in absurd (omega (arith, l, z))
  fewer (suc a) e l =
      let s : suc a * each ≡ each + a * each = omega arith in
      (a, omega (arith, e), omega (arith, length-drop each (m ∷ ms), l, s))

-- numbers that leave the round bring another one no later
pub due-filter : (each interval k n : ℕ) (p : ℕ → Bool) (pending : List ℕ) → p n ≡ true → IsDue each interval k n pending → IsDue each interval k n (filter p pending)
due-filter each interval k n p pending here (inl e) = inl (kept n (k * each) p pending here e)
due-filter each interval k n p pending here (inr r) = inr (r.0, r.1, omega (arith, r.2, length-filter-le p pending))

-- one round is over within an interval
pub share-enough : (limit interval : ℕ) → 1 ≤ interval → limit ≤ interval * share limit interval
share-enough limit interval h = omega arith
