-- One element leaves a list in rising numbers: counts, tests and searches of the others.
use Rattle.std.proofs.Common.{◌≡◌, ◌∙◌, ◌+◌, ◌==◌, ◌||◌, ℕ, Bool, true, false, cond, not, Some, None, List, [], ◌∷◌, length, map, filter, refl, ap, sym, subst, arith}
use Rattle.std.specs.List.{find, list_any, AllByRecursion, IsDistinct}
use Rattle.std.proofs.lemmas.Bool.Decides.{nat_tests}
use Rattle.std.proofs.lemmas.Map.Keys.{IsDistinct-head, IsDistinct-tail, IsDistinct-cons}
use Rattle.pfs_addr_values.proofs.SameLaws.{same_key_self}
use Rattle.pfs_addr_values.specs.Sameness.{same_key}
use Rattle.pfs_addr_values.specs.declared.packets.FlowKey.{FlowKey}
use Rattle.pfs_store_records.proofs.Rising.{Apart, IsRisingBy, has_number, head-apart, head-is, rest-rising, same_number}

module _ {X : Type 0} (number : X → ℕ) where
  -- all but that of a number
  abbrev pub other : ℕ → X → Bool
  other n x = not (number x == n)

  pub other-apart : (n : ℕ) (xs : List X) → Apart number n xs → filter (other n) xs ≡ xs
  other-apart n [] a = refl
  other-apart n (x ∷ xs) (a, more) = rw a (ap (λ ys. x ∷ ys) (other-apart n xs more))

  apart-of : (n : ℕ) (x : X) (xs : List X) → IsRisingBy number (x ∷ xs) → (number x == n) ≡ true → Apart number n xs
  apart-of n x xs r t = subst (λ k. Apart number k xs) (same_number n (number x) t) (head-apart number x xs r)

  -- ---- counts

  pub count-removed : (p : X → Bool) (n : ℕ) (s : X) (xs : List X) → IsRisingBy number xs → find (has_number number n) xs ≡ Some s
      → length (filter p (filter (other n) xs)) + cond (p s) 1 0 ≡ length (filter p xs)
  count-removed p n s [] r f = absurd cc
  count-removed p n s (x ∷ xs) r f = go (count-removed p n s xs (rest-rising number x xs r)) (number x == n) refl (p x) refl
    where
      go : (find (has_number number n) xs ≡ Some s → length (filter p (filter (other n) xs)) + cond (p s) 1 0 ≡ length (filter p xs)) → (b : Bool) → (number x == n) ≡ b → (b' : Bool) → p x ≡ b'
          → length (filter p (filter (other n) (x ∷ xs))) + cond (p s) 1 0 ≡ length (filter p (x ∷ xs))
      go more true t b' u =
          let q = head-is number n x s xs t f in
          let a : Apart number n xs = apart-of n x xs r t in
          rw (sym q, t, other-apart n xs a) (at_head b' u)
        where
          at_head : (b' : Bool) → p x ≡ b' → length (filter p xs) + cond (p x) 1 0 ≡ length (cond (p x) (x ∷ filter p xs) (filter p xs))
          at_head true u = rw u (omega arith)
          at_head false u = rw u (omega arith)
      go more false t true u = let m = more (rw t at f) in rw (t, u) (omega (arith, m))
      go more false t false u = let m = more (rw t at f) in rw (t, u) m

  -- ---- whether any is

  pub any-removed : (p : X → Bool) (n : ℕ) (s : X) (xs : List X) → IsRisingBy number xs → find (has_number number n) xs ≡ Some s
      → ((x : X) → p x ≡ true → number x ≡ n) → p s ≡ true → list_any p (filter (other n) xs) ≡ false
  any-removed p n s [] r f one h = refl
  any-removed p n s (x ∷ xs) r f one h = go (any-removed p n s xs (rest-rising number x xs r)) (number x == n) refl
    where
      none : (ys : List X) → Apart number n ys → list_any p ys ≡ false
      none [] a = refl
      none (y ∷ ys) (a, more) = at_head (none ys more) (p y) refl
        where
          at_head : list_any p ys ≡ false → (b : Bool) → p y ≡ b → list_any p (y ∷ ys) ≡ false
          at_head m true u = let e = one y u in let a' : (number y == n) ≡ true = grind (arith, nat_tests) in absurd (cc (a, a'))
          at_head m false u = rw u m

      go : (find (has_number number n) xs ≡ Some s → ((x : X) → p x ≡ true → number x ≡ n) → p s ≡ true → list_any p (filter (other n) xs) ≡ false) → (b : Bool) → (number x == n) ≡ b
          → list_any p (filter (other n) (x ∷ xs)) ≡ false
      go more true t =
          let a : Apart number n xs = apart-of n x xs r t in
          rw (t, other-apart n xs a) (none xs a)
      go more false t = rw t (at_head (more (rw t at f) one h) (p x) refl)
        where
          at_head : list_any p (filter (other n) xs) ≡ false → (b : Bool) → p x ≡ b → (p x || list_any p (filter (other n) xs)) ≡ false
          at_head m true u = let e = one x u in let a' : (number x == n) ≡ true = grind (arith, nat_tests) in absurd (cc (t, a'))
          at_head m false u = rw u m

  pub any-kept : (p : X → Bool) (n : ℕ) (s : X) (xs : List X) → IsRisingBy number xs → find (has_number number n) xs ≡ Some s → p s ≡ false
      → list_any p (filter (other n) xs) ≡ list_any p xs
  any-kept p n s [] r f k = refl
  any-kept p n s (x ∷ xs) r f k = go (any-kept p n s xs (rest-rising number x xs r)) (number x == n) refl
    where
      go : (find (has_number number n) xs ≡ Some s → p s ≡ false → list_any p (filter (other n) xs) ≡ list_any p xs) → (b : Bool) → (number x == n) ≡ b
          → list_any p (filter (other n) (x ∷ xs)) ≡ list_any p (x ∷ xs)
      go more true t =
          let q = head-is number n x s xs t f in
          let a : Apart number n xs = apart-of n x xs r t in
          let k' : p x ≡ false = ap p q ∙ k in
          rw (t, other-apart n xs a, k') refl
      go more false t = rw t (ap (λ b. p x || b) (more (rw t at f) k))

  -- ---- what was found

  pub find-in : (n : ℕ) (s : X) (xs : List X) → find (has_number number n) xs ≡ Some s → list_any (has_number number n) xs ≡ true
  find-in n s [] f = absurd cc
  find-in n s (x ∷ xs) f = go (find-in n s xs) (number x == n) refl
    where
      go : (find (has_number number n) xs ≡ Some s → list_any (has_number number n) xs ≡ true) → (b : Bool) → (number x == n) ≡ b → list_any (has_number number n) (x ∷ xs) ≡ true
      go more true t = rw t refl
      go more false t = rw t (more (rw t at f))

  pub all-found : (P : X → Type 0) (n : ℕ) (s : X) (xs : List X) → AllByRecursion P xs → find (has_number number n) xs ≡ Some s → P s
  all-found P n s [] h f = absurd cc
  all-found P n s (x ∷ xs) (h, hs) f = go (all-found P n s xs hs) (number x == n) refl
    where
      go : (find (has_number number n) xs ≡ Some s → P s) → (b : Bool) → (number x == n) ≡ b → P s
      go more true t = subst P (head-is number n x s xs t f) h
      go more false t = more (rw t at f)

module _ {X : Type 0} where
  pub all-filter : (p : X → Bool) (P : X → Type 0) (xs : List X) → AllByRecursion P xs → AllByRecursion P (filter p xs)
  all-filter p P [] h = tt
  all-filter p P (x ∷ xs) (h, hs) = go (all-filter p P xs hs) (p x) refl
    where
      go : AllByRecursion P (filter p xs) → (b : Bool) → p x ≡ b → AllByRecursion P (filter p (x ∷ xs))
      go more true u = rw u (h, more)
      go more false u = rw u more

-- ---- the keys of those that are left

module _ {X : Type 0} (number : X → ℕ) (key : X → FlowKey) where
  pub distinct-filter : (p : X → Bool) (xs : List X) → IsDistinct same_key (map key xs) → IsDistinct same_key (map key (filter p xs))
  distinct-filter p [] d = d
  distinct-filter p (x ∷ xs) d = go (distinct-filter p xs (IsDistinct-tail same_key (key x) (map key xs) d)) (IsDistinct-head same_key (key x) (map key xs) d) (p x) refl
    where
      still : (ys : List X) → AllByRecursion (λ y. same_key (key x) y ≡ false) (map key ys) → AllByRecursion (λ y. same_key (key x) y ≡ false) (map key (filter p ys))
      still [] h = tt
      still (y ∷ ys) (h, hs) = at_head (still ys hs) (p y) refl
        where
          at_head : AllByRecursion (λ z. same_key (key x) z ≡ false) (map key (filter p ys)) → (b : Bool) → p y ≡ b → AllByRecursion (λ z. same_key (key x) z ≡ false) (map key (filter p (y ∷ ys)))
          at_head m true u = rw u (h, m)
          at_head m false u = rw u m

      go : IsDistinct same_key (map key (filter p xs)) → AllByRecursion (λ y. same_key (key x) y ≡ false) (map key xs) → (b : Bool) → p x ≡ b → IsDistinct same_key (map key (filter p (x ∷ xs)))
      go more hd true u = rw u (IsDistinct-cons same_key (key x) (map key (filter p xs)) (still xs hd) more)
      go more hd false u = rw u more

-- ---- the element that passes a test, which says which key it has

module _ {X : Type 0} (number : X → ℕ) (key : X → FlowKey) (p : X → Bool) (k : FlowKey) (tells : (x : X) → p x ≡ true → key x ≡ k) where
  -- two of different keys do not both pass
  both-pass : (x y : X) → same_key (key x) (key y) ≡ false → p x ≡ true → p y ≡ false
  both-pass x y d h = go (p y) refl
    where
      go : (b : Bool) → p y ≡ b → p y ≡ false
      go true e =
          let q : key x ≡ key y = tells x h ∙ sym (tells y e) in
          let t : same_key (key x) (key y) ≡ true = ap (same_key (key x)) (sym q) ∙ same_key_self (key x) in
          absurd (cc (t, d))
      go false e = e

  pub none-passes : (x : X) (ys : List X) → AllByRecursion (λ y. same_key (key x) y ≡ false) (map key ys) → p x ≡ true → find p ys ≡ None
  none-passes x [] d h = refl
  none-passes x (y ∷ ys) (d, ds) h = rw (both-pass x y d h) (none-passes x ys ds h)

  passes-not : (n : ℕ) (s x : X) (ys : List X) → AllByRecursion (λ y. same_key (key x) y ≡ false) (map key ys) → find (has_number number n) ys ≡ Some s → p x ≡ true → p s ≡ false
  passes-not n s x [] d f h = absurd cc
  passes-not n s x (y ∷ ys) (d, ds) f h = go (passes-not n s x ys ds) (number y == n) refl
    where
      go : (find (has_number number n) ys ≡ Some s → p x ≡ true → p s ≡ false) → (b : Bool) → (number y == n) ≡ b → p s ≡ false
      go more true t = ap p (sym (head-is number n y s ys t f)) ∙ both-pass x y d h
      go more false t = more (rw t at f) h

  pub passing-removed : (n : ℕ) (s : X) (xs : List X) → IsRisingBy number xs → IsDistinct same_key (map key xs) → find (has_number number n) xs ≡ Some s
      → find p (filter (other number n) xs) ≡ cond (p s) None (find p xs)
  passing-removed n s [] r d f = absurd cc
  passing-removed n s (x ∷ xs) r d f =
      go (passing-removed n s xs (rest-rising number x xs r) (IsDistinct-tail same_key (key x) (map key xs) d)) (IsDistinct-head same_key (key x) (map key xs) d) (number x == n) refl (p x) refl
    where
      go : (find (has_number number n) xs ≡ Some s → find p (filter (other number n) xs) ≡ cond (p s) None (find p xs))
          → AllByRecursion (λ y. same_key (key x) y ≡ false) (map key xs) → (b : Bool) → (number x == n) ≡ b → (b' : Bool) → p x ≡ b'
          → find p (filter (other number n) (x ∷ xs)) ≡ cond (p s) None (find p (x ∷ xs))
      go more hd true t true u =
          let q = head-is number n x s xs t f in
          let a : Apart number n xs = subst (λ m. Apart number m xs) (same_number n (number x) t) (head-apart number x xs r) in
          rw (sym q, t, other-apart number n xs a, u) (none-passes x xs hd u)
      go more hd true t false u =
          let q = head-is number n x s xs t f in
          let a : Apart number n xs = subst (λ m. Apart number m xs) (same_number n (number x) t) (head-apart number x xs r) in
          rw (sym q, t, other-apart number n xs a, u) refl
      go more hd false t true u = rw (t, u, passes-not n s x xs hd (rw t at f) u) refl
      go more hd false t false u = rw (t, u) (more (rw t at f))

  -- the one that is found among those that pass is the only one
  pub passing-found : (s : X) (xs : List X) (q : X → Bool) → IsDistinct same_key (map key xs) → p s ≡ true → find q xs ≡ Some s → find p xs ≡ Some s
  passing-found s [] q d own f = absurd cc
  passing-found s (x ∷ xs) q d own f =
      go (passing-found s xs q (IsDistinct-tail same_key (key x) (map key xs) d) own) (IsDistinct-head same_key (key x) (map key xs) d) (q x) refl (p x) refl
    where
      go : (find q xs ≡ Some s → find p xs ≡ Some s) → AllByRecursion (λ y. same_key (key x) y ≡ false) (map key xs) → (b : Bool) → q x ≡ b → (b' : Bool) → p x ≡ b' → find p (x ∷ xs) ≡ Some s
      go more hd true t true u = rw u (rw t at f)
      go more hd true t false u =
          let f' : Some x ≡ Some s = (rw t at f) in
          let e : x ≡ s = cc in
          let z : p x ≡ true = ap p e ∙ own in
          absurd (cc (z, u))
      go more hd false t true u =
          let m : find p xs ≡ Some s = more (rw t at f) in
          let z : None ≡ Some s = sym (none-passes x xs hd u) ∙ m in
          absurd (cc z)
      go more hd false t false u = rw u (more (rw t at f))
