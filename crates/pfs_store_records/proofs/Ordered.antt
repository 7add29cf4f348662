-- Values at places, found by their rising numbers: one is found, one leaves, one is written, one comes.
use Rattle.std.proofs.Common.{length, suc, ◌≡◌, ◌≢◌, ℕ, ◌<◌, ◌==◌, Bool, true, false, cond, not, Option, Some, None, List, [], ◌∷◌, ◌++◌, map, refl, sym, ap, subst, ◌∙◌, arith, filter, slice_get}
use Rattle.std.specs.List.{list_any, find, AllByRecursion}
use Rattle.std.specs.List.Sorted.{IsStrictlySortedBy}
use Rattle.std.specs.Ordering.{nat_cmp}
use Rattle.std.specs.declared.cmp.Ordering.TheVariants.{Less}
use Rattle.std.specs.Map.{keys_of, lookup, remove_entry}
use Rattle.std.specs.BTreeMap.{is_at}
use Rattle.std.specs.BTreeMap.Range.{range_contains, entries_between}
use Rattle.std.specs.declared.ops.Bound.TheVariants.{Included, Excluded}
use Rattle.std.proofs.lemmas.List.Elements.{filter_map-append}
use Rattle.std.proofs.lemmas.Bool.Decides.{nat_tests}
use Rattle.std.proofs.lemmas.Map.Keys.{sorted_head, sorted_tail}
use Rattle.pfs_store_records.specs.RecordPlaces.{values_at, IsPlaced, AreInPlace}
use Rattle.pfs_store_records.specs.Records.{between}

-- ---- keys

pub at_same : (n k : ℕ) → is_at (nat_cmp n) k ≡ true → n ≡ k
at_same n k h = grind (arith, nat_tests)

pub at_apart : (n k : ℕ) → is_at (nat_cmp n) k ≡ false → n ≢ k
at_apart n k h e = grind (arith, nat_tests)

pub at_self : (n k : ℕ) → n ≡ k → is_at (nat_cmp n) k ≡ true
at_self n k h = grind (arith, nat_tests)

pub at_other : (n k : ℕ) → n ≢ k → is_at (nat_cmp n) k ≡ false
at_other n k h = grind (arith, nat_tests, h)

pub less_apart : (n k : ℕ) → nat_cmp n k ≡ Less → n < k
less_apart n k h = grind (arith, nat_tests)

pub range_between : (a m k : ℕ) → range_contains nat_cmp (Excluded a) (Included m) k ≡ between a m k
range_between a m k = grind (arith, nat_tests)

-- a key is another one than a number
abbrev pub IsOther : {P : Type 0} → ℕ → ℕ × P → Type 0
IsOther n e = n ≢ e.0

module _ {P : Type 0} where
  -- the keys past the first are others
  pub others-sorted : (n : ℕ) (es : List (ℕ × P)) → AllByRecursion (λ k. nat_cmp n k ≡ Less) (keys_of es) → AllByRecursion (IsOther n) es
  others-sorted n [] h = tt
  others-sorted n (e ∷ es) (h, hs) = ((λ q. let d = less_apart n e.0 h in omega arith), others-sorted n es hs)

  pub others-removed : (n : ℕ) (es : List (ℕ × P)) → IsStrictlySortedBy nat_cmp (keys_of es) → AllByRecursion (IsOther n) (remove_entry (is_at (nat_cmp n)) es)
  others-removed n [] o = tt
  others-removed n (e ∷ es) o = go (others-removed n es (sorted_tail nat_cmp e.0 (keys_of es) o)) (is_at (nat_cmp n) e.0) refl
    where
      go : AllByRecursion (IsOther n) (remove_entry (is_at (nat_cmp n)) es) → (b : Bool) → is_at (nat_cmp n) e.0 ≡ b → AllByRecursion (IsOther n) (remove_entry (is_at (nat_cmp n)) (e ∷ es))
      go more true t =
          let k = at_same n e.0 t in
          let hd = sorted_head nat_cmp e.0 (keys_of es) o in
          rw t (others-sorted n es (rw k hd))
      go more false t = rw t (at_apart n e.0 t, more)

  -- what a look-up finds lies past all that is below each key
  pub lookup-past : (m n : ℕ) (p : P) (es : List (ℕ × P)) → AllByRecursion (λ k. nat_cmp m k ≡ Less) (keys_of es) → lookup (is_at (nat_cmp n)) es ≡ Some p → m < n
  lookup-past m n p [] h l = absurd cc
  lookup-past m n p (e ∷ es) (h, hs) l = go (lookup-past m n p es hs) (is_at (nat_cmp n) e.0) refl
    where
      go : (lookup (is_at (nat_cmp n)) es ≡ Some p → m < n) → (b : Bool) → is_at (nat_cmp n) e.0 ≡ b → m < n
      go more true t = let k = at_same n e.0 t in let d = less_apart m e.0 h in omega arith
      go more false t = more (rw t at l)

  -- a number above all keys is none of them
  pub none-above : (n : ℕ) (es : List (ℕ × P)) → AllByRecursion (λ k. k < n) (keys_of es) → lookup (is_at (nat_cmp n)) es ≡ None
  none-above n [] h = refl
  none-above n (e ∷ es) (h, hs) =
      let d : n ≢ e.0 = λ q. omega arith in
      rw (at_other n e.0 d) (none-above n es hs)

  pub keys-between : (a m : ℕ) (es : List (ℕ × P)) → keys_of (entries_between nat_cmp (Excluded a) (Included m) es) ≡ filter (between a m) (keys_of es)
  keys-between a m [] = refl
  keys-between a m (e ∷ es) = rw (sym (range_between a m e.0)) (go (keys-between a m es) (range_contains nat_cmp (Excluded a) (Included m) e.0) refl)
    where
      go : keys_of (entries_between nat_cmp (Excluded a) (Included m) es) ≡ filter (between a m) (keys_of es) → (b : Bool) → range_contains nat_cmp (Excluded a) (Included m) e.0 ≡ b
          → keys_of (cond (range_contains nat_cmp (Excluded a) (Included m) e.0) (e ∷ entries_between nat_cmp (Excluded a) (Included m) es) (entries_between nat_cmp (Excluded a) (Included m) es))
          ≡ cond (range_contains nat_cmp (Excluded a) (Included m) e.0) (e.0 ∷ filter (between a m) (keys_of es)) (filter (between a m) (keys_of es))
      go more true t = rw t (ap (λ xs. e.0 ∷ xs) more)
      go more false t = rw t more

  -- the first entry in a range is found by its key
  pub look-between : (a m k : ℕ) (p : P) (rest es : List (ℕ × P)) → IsStrictlySortedBy nat_cmp (keys_of es) → (k, p) ∷ rest ≡ entries_between nat_cmp (Excluded a) (Included m) es
      → lookup (is_at (nat_cmp k)) es ≡ Some p
  look-between a m k p rest [] o x = absurd cc
  look-between a m k p rest (e ∷ es) o x = go (look-between a m k p rest es (sorted_tail nat_cmp e.0 (keys_of es) o)) (range_contains nat_cmp (Excluded a) (Included m) e.0) refl
    where
      go : ((k, p) ∷ rest ≡ entries_between nat_cmp (Excluded a) (Included m) es → lookup (is_at (nat_cmp k)) es ≡ Some p) → (b : Bool) → range_contains nat_cmp (Excluded a) (Included m) e.0 ≡ b
          → lookup (is_at (nat_cmp k)) (e ∷ es) ≡ Some p
      go more true t =
          let x' : (k, p) ∷ rest ≡ e ∷ entries_between nat_cmp (Excluded a) (Included m) es = (rw t at x) in
          let y : (k, p) ≡ e = cc in
          rw (at_self k e.0 (ap (λ (f : ℕ × P). f.0) y)) (ap (λ (f : ℕ × P). Some f.1) (sym y))
      go more false t =
          let l = more (rw t at x) in
          let d = lookup-past e.0 k p es (sorted_head nat_cmp e.0 (keys_of es) o) l in
          let z : k ≢ e.0 = λ q. omega arith in
          rw (at_other k e.0 z) l

-- ---- values at places

-- at one place is this now, and at each other what was there
pub record IsUpdated {P V : Type 0} (T U : P → Option V) (p : P) (w : Option V) : Type 0 where
  pub changed : U p ≡ w
  pub others : (q : P) → q ≢ p → U q ≡ T q

module _ {P V : Type 0} (num : V → ℕ) (At : V → P → Type 0) where
  -- the value that a look-up leads to
  pub found : (T : P → Option V) (n : ℕ) (p : P) (es : List (ℕ × P)) → AllByRecursion (IsPlaced num At T) es → lookup (is_at (nat_cmp n)) es ≡ Some p → IsPlaced num At T (n, p)
  found T n p [] h l = absurd cc
  found T n p (e ∷ es) (h, hs) l = go (found T n p es hs) (is_at (nat_cmp n) e.0) refl
    where
      go : (lookup (is_at (nat_cmp n)) es ≡ Some p → IsPlaced num At T (n, p)) → (b : Bool) → is_at (nat_cmp n) e.0 ≡ b → IsPlaced num At T (n, p)
      go more true t =
          let l' : Some e.1 ≡ Some p = (rw t at l) in
          let q : e.1 ≡ p = cc in
          let k = at_same n e.0 t in
          (h.0, sym (ap T q) ∙ h.1, h.2 ∙ sym k, subst (At h.0) q h.3)
      go more false t = more (rw t at l)

  -- the first value of a number is that at its place
  pub find_placed : (T : P → Option V) (n : ℕ) (es : List (ℕ × P)) (p : P) → AllByRecursion (IsPlaced num At T) es → lookup (is_at (nat_cmp n)) es ≡ Some p
      → find (λ (v : V). num v == n) (values_at T es) ≡ T p
  find_placed T n [] p h l = absurd cc
  find_placed T n (e ∷ es) p (h, hs) l = go (find_placed T n es p hs) (is_at (nat_cmp n) e.0) refl
    where
      go : (lookup (is_at (nat_cmp n)) es ≡ Some p → find (λ (v : V). num v == n) (values_at T es) ≡ T p) → (b : Bool) → is_at (nat_cmp n) e.0 ≡ b
          → find (λ (v : V). num v == n) (values_at T (e ∷ es)) ≡ T p
      go more true t =
          let l' : Some e.1 ≡ Some p = (rw t at l) in
          let k : num h.0 ≡ n = h.2 ∙ sym (at_same n e.0 t) in
          let q : e.1 ≡ p = cc in
          let y : (num h.0 == n) ≡ true = grind (arith, nat_tests, k) in
          rw (h.1, y) (sym h.1 ∙ ap T q)
      go more false t =
          let d = at_apart n e.0 t in
          let y : (num h.0 == n) ≡ false = grind (arith, nat_tests, d, h.2) in
          rw (h.1, y) (more (rw t at l))

  -- none has a number that no look-up finds
  pub none_placed : (T : P → Option V) (n : ℕ) (es : List (ℕ × P)) → AllByRecursion (IsPlaced num At T) es → lookup (is_at (nat_cmp n)) es ≡ None
      → list_any (λ (v : V). num v == n) (values_at T es) ≡ false
  none_placed T n [] h l = refl
  none_placed T n (e ∷ es) (h, hs) l = go (none_placed T n es hs) (is_at (nat_cmp n) e.0) refl
    where
      go : (lookup (is_at (nat_cmp n)) es ≡ None → list_any (λ (v : V). num v == n) (values_at T es) ≡ false) → (b : Bool) → is_at (nat_cmp n) e.0 ≡ b
          → list_any (λ (v : V). num v == n) (values_at T (e ∷ es)) ≡ false
      go more true t = let l' : Some e.1 ≡ None = (rw t at l) in absurd cc
      go more false t =
          let d = at_apart n e.0 t in
          let y : (num h.0 == n) ≡ false = grind (arith, nat_tests, d, h.2) in
          rw (h.1, y) (more (rw t at l))

  pub in_none : (T : P → Option V) (n : ℕ) (es : List (ℕ × P)) → AllByRecursion (IsPlaced num At T) es → lookup (is_at (nat_cmp n)) es ≡ None
      → list_any (λ (v : V). num v == n) (values_at T es) ≡ true → ⊥
  in_none T n es h l i = let f = none_placed T n es h l in absurd (cc (f, i))

  -- a value that passes a test has its place
  pub in_place : (test : V → Bool) (T : P → Option V) (es : List (ℕ × P)) → AllByRecursion (IsPlaced num At T) es → list_any test (values_at T es) ≡ true
      → (v : V) × (p : P) × (test v ≡ true) × At v p
  in_place test T [] h a = absurd (cc a)
  in_place test T (e ∷ es) (h, hs) a =
      let a' : list_any test (h.0 ∷ values_at T es) ≡ true = (rw h.1 at a) in
      go (in_place test T es hs) a' (test h.0) refl
    where
      go : (list_any test (values_at T es) ≡ true → (v : V) × (p : P) × (test v ≡ true) × At v p) → list_any test (h.0 ∷ values_at T es) ≡ true → (b : Bool) → test h.0 ≡ b
          → (v : V) × (p : P) × (test v ≡ true) × At v p
      go more a' true t = (h.0, e.1, t, h.3)
      go more a' false t = more (rw t at a')

  -- the entry of a value that passes a test of its number and place
  pub look-placed : (test : V → Bool) (T : P → Option V) (n : ℕ) (p : P) (es : List (ℕ × P))
      → ((v : V) → test v ≡ true → (num v ≡ n) × ((q : P) → At v q → q ≡ p))
      → IsStrictlySortedBy nat_cmp (keys_of es) → AllByRecursion (IsPlaced num At T) es → list_any test (values_at T es) ≡ true → lookup (is_at (nat_cmp n)) es ≡ Some p
  look-placed test T n p [] s o h a = absurd (cc a)
  look-placed test T n p (e ∷ es) s o (h, hs) a =
      let a' : list_any test (h.0 ∷ values_at T es) ≡ true = (rw h.1 at a) in
      go (look-placed test T n p es s (sorted_tail nat_cmp e.0 (keys_of es) o) hs) a' (test h.0) refl
    where
      go : (list_any test (values_at T es) ≡ true → lookup (is_at (nat_cmp n)) es ≡ Some p) → list_any test (h.0 ∷ values_at T es) ≡ true → (b : Bool) → test h.0 ≡ b
          → lookup (is_at (nat_cmp n)) (e ∷ es) ≡ Some p
      go more a' true t =
          let f = s h.0 t in
          rw (at_self n e.0 (sym f.0 ∙ h.2)) (ap Some (f.1 e.1 h.3))
      go more a' false t =
          let l = more (rw t at a') in
          let d = lookup-past e.0 n p es (sorted_head nat_cmp e.0 (keys_of es) o) l in
          let k : n ≢ e.0 = λ q. omega arith in
          rw (at_other n e.0 k) l

  -- the numbers of the values are the keys
  pub numbers-held : (T : P → Option V) (es : List (ℕ × P)) → AllByRecursion (IsPlaced num At T) es → map num (values_at T es) ≡ keys_of es
  numbers-held T [] h = refl
  numbers-held T (e ∷ es) (h, hs) = rw h.1 (cc (h.2, numbers-held T es hs))

  pub length-held : (T : P → Option V) (es : List (ℕ × P)) → AllByRecursion (IsPlaced num At T) es → length (values_at T es) ≡ length es
  length-held T [] h = refl
  length-held T (e ∷ es) (h, hs) = rw h.1 (ap suc (length-held T es hs))

  pub rising-held : (T : P → Option V) (es : List (ℕ × P)) → AreInPlace num At T es → IsStrictlySortedBy nat_cmp (map num (values_at T es))
  rising-held T es k = rw (numbers-held T es k.placed) k.ordered

  -- ---- a change at a place that no entry of these has

  abbrev pub IsSame : (P → Option V) → (P → Option V) → ℕ × P → Type 0
  IsSame T U e = U e.1 ≡ T e.1

  pub held-same : (T U : P → Option V) (es : List (ℕ × P)) → AllByRecursion (IsSame T U) es → values_at U es ≡ values_at T es
  held-same T U [] h = refl
  held-same T U (e ∷ es) (h, hs) = rw (h, held-same T U es hs)

  pub placed-same : (T U : P → Option V) (es : List (ℕ × P)) → AllByRecursion (IsSame T U) es → AllByRecursion (IsPlaced num At T) es → AllByRecursion (IsPlaced num At U) es
  placed-same T U [] h p = tt
  placed-same T U (e ∷ es) (h, hs) (p, ps) = ((p.0, h ∙ p.1, p.2, p.3), placed-same T U es hs ps)

  -- the same values at all places
  pub same-all : (T U : P → Option V) (es : List (ℕ × P)) → ((q : P) → U q ≡ T q) → AllByRecursion (IsSame T U) es
  same-all T U [] h = tt
  same-all T U (e ∷ es) h = (h e.1, same-all T U es h)

  pub held-all : (T U : P → Option V) (es : List (ℕ × P)) → ((q : P) → U q ≡ T q) → values_at U es ≡ values_at T es
  held-all T U es h = held-same T U es (same-all T U es h)

  pub kept-all : (T U : P → Option V) (es : List (ℕ × P)) → ((q : P) → U q ≡ T q) → AreInPlace num At T es → AreInPlace num At U es
  kept-all T U es h k = record { placed = placed-same T U es (same-all T U es h) k.placed; ordered = k.ordered }

  -- a vacant place is none of theirs
  pub same-vacant : (T U : P → Option V) (p : P) (w : Option V) (es : List (ℕ × P)) → T p ≡ None → IsUpdated T U p w → AllByRecursion (IsPlaced num At T) es → AllByRecursion (IsSame T U) es
  same-vacant T U p w [] v u h = tt
  same-vacant T U p w (e ∷ es) v u (h, hs) =
      (u.others e.1 (λ q. let a : T e.1 ≡ None = ap T q ∙ v in absurd (cc (a, h.1))), same-vacant T U p w es v u hs)

  -- nor is the place of another number
  pub same-other : (T U : P → Option V) (p : P) (n : ℕ) (w : Option V) (es : List (ℕ × P)) → IsPlaced num At T (n, p) → IsUpdated T U p w → AllByRecursion (IsOther n) es → AllByRecursion (IsPlaced num At T) es → AllByRecursion (IsSame T U) es
  same-other T U p n w [] r u o h = tt
  same-other T U p n w (e ∷ es) r u (o, os) (h, hs) =
      (u.others e.1 (λ q. let a : T e.1 ≡ Some r.0 = ap T q ∙ r.1 in let b : h.0 ≡ r.0 = cc (a, h.1) in let k : num h.0 ≡ num r.0 = ap num b in o (sym r.2 ∙ sym k ∙ h.2)), same-other T U p n w es r u os hs)

  -- ---- an entry is taken out

  pub placed-removed : (test : ℕ → Bool) (T : P → Option V) (es : List (ℕ × P)) → AllByRecursion (IsPlaced num At T) es → AllByRecursion (IsPlaced num At T) (remove_entry test es)
  placed-removed test T [] h = tt
  placed-removed test T (e ∷ es) (h, hs) = go (placed-removed test T es hs) (test e.0) refl
    where
      go : AllByRecursion (IsPlaced num At T) (remove_entry test es) → (b : Bool) → test e.0 ≡ b → AllByRecursion (IsPlaced num At T) (remove_entry test (e ∷ es))
      go more true t = rw t hs
      go more false t = rw t (h, more)

  abbrev pub is_other : ℕ → V → Bool
  is_other n v = not (num v == n)

  pub filter-others : (n : ℕ) (T : P → Option V) (es : List (ℕ × P)) → AllByRecursion (IsOther n) es → AllByRecursion (IsPlaced num At T) es → filter (is_other n) (values_at T es) ≡ values_at T es
  filter-others n T [] o h = refl
  filter-others n T (e ∷ es) (o, os) (h, hs) =
      let y : (num h.0 == n) ≡ false = grind (arith, nat_tests, o, h.2) in
      rw (h.1, y) (ap (λ xs. h.0 ∷ xs) (filter-others n T es os hs))

  pub filter-removed : (n : ℕ) (T : P → Option V) (es : List (ℕ × P)) → IsStrictlySortedBy nat_cmp (keys_of es) → AllByRecursion (IsPlaced num At T) es
      → values_at T (remove_entry (is_at (nat_cmp n)) es) ≡ filter (is_other n) (values_at T es)
  filter-removed n T [] o h = refl
  filter-removed n T (e ∷ es) o (h, hs) = go (filter-removed n T es (sorted_tail nat_cmp e.0 (keys_of es) o) hs) (is_at (nat_cmp n) e.0) refl
    where
      go : values_at T (remove_entry (is_at (nat_cmp n)) es) ≡ filter (is_other n) (values_at T es) → (b : Bool) → is_at (nat_cmp n) e.0 ≡ b
          → values_at T (remove_entry (is_at (nat_cmp n)) (e ∷ es)) ≡ filter (is_other n) (values_at T (e ∷ es))
      go more true t =
          let k = at_same n e.0 t in
          let hd = sorted_head nat_cmp e.0 (keys_of es) o in
          let y : (num h.0 == n) ≡ true = grind (arith, nat_tests, k, h.2) in
          rw (t, h.1, y) (sym (filter-others n T es (others-sorted n es (rw k hd)) hs))
      go more false t =
          let d = at_apart n e.0 t in
          let y : (num h.0 == n) ≡ false = grind (arith, nat_tests, d, h.2) in
          rw (t, h.1, y) (ap (λ xs. h.0 ∷ xs) more)

  pub same-removed : (T U : P → Option V) (p : P) (n : ℕ) (es : List (ℕ × P)) → IsPlaced num At T (n, p) → IsUpdated T U p None → AreInPlace num At T es → AllByRecursion (IsSame T U) (remove_entry (is_at (nat_cmp n)) es)
  same-removed T U p n es r u k = same-other T U p n None _ r u (others-removed n es k.ordered) (placed-removed _ T es k.placed)

  pub held-removed : (T U : P → Option V) (p : P) (n : ℕ) (es fs : List (ℕ × P)) → lookup (is_at (nat_cmp n)) es ≡ Some p → IsUpdated T U p None → AreInPlace num At T es
      → fs ≡ remove_entry (is_at (nat_cmp n)) es → values_at U fs ≡ filter (is_other n) (values_at T es)
  held-removed T U p n es fs l u k e = rw e (held-same T U _ (same-removed T U p n es (found T n p es k.placed l) u k) ∙ filter-removed n T es k.ordered k.placed)

  pub kept-removed : (T U : P → Option V) (p : P) (n : ℕ) (es fs : List (ℕ × P)) → lookup (is_at (nat_cmp n)) es ≡ Some p → IsUpdated T U p None → AreInPlace num At T es
      → fs ≡ remove_entry (is_at (nat_cmp n)) es → IsStrictlySortedBy nat_cmp (keys_of fs) → AreInPlace num At U fs
  kept-removed T U p n es fs l u k e o = record {
    placed = rw e (placed-same T U _ (same-removed T U p n es (found T n p es k.placed l) u k) (placed-removed _ T es k.placed));
    ordered = o;
  }

  -- ---- a value takes the place of another, where a function changes this one and no other

  pub map-others : (f : V → V) (n : ℕ) (T : P → Option V) (es : List (ℕ × P)) → ((v : V) → (num v == n) ≡ false → f v ≡ v) → AllByRecursion (IsOther n) es → AllByRecursion (IsPlaced num At T) es → map f (values_at T es) ≡ values_at T es
  map-others f n T [] s o h = refl
  map-others f n T (e ∷ es) s (o, os) (h, hs) =
      let y : (num h.0 == n) ≡ false = grind (arith, nat_tests, o, h.2) in
      let z = s h.0 y in
      let m = map-others f n T es s os hs in
      rw (h.1, z) (ap (λ xs. h.0 ∷ xs) m)

  pub held-written : (f : V → V) (T U : P → Option V) (p : P) (n : ℕ) (w : V) (es : List (ℕ × P))
      → ((v : V) → (num v == n) ≡ false → f v ≡ v) → ((v : V) → T p ≡ Some v → f v ≡ w)
      → lookup (is_at (nat_cmp n)) es ≡ Some p → IsPlaced num At T (n, p) → IsUpdated T U p (Some w) → IsStrictlySortedBy nat_cmp (keys_of es) → AllByRecursion (IsPlaced num At T) es
      → values_at U es ≡ map f (values_at T es)
  held-written f T U p n w [] s m l r u o h = refl
  held-written f T U p n w (e ∷ es) s m l r u o (h, hs) =
      go (λ l'. held-written f T U p n w es s m l' r u (sorted_tail nat_cmp e.0 (keys_of es) o) hs) (is_at (nat_cmp n) e.0) refl
    where
      go : (lookup (is_at (nat_cmp n)) es ≡ Some p → values_at U es ≡ map f (values_at T es)) → (b : Bool) → is_at (nat_cmp n) e.0 ≡ b → values_at U (e ∷ es) ≡ map f (values_at T (e ∷ es))
      go more true i =
          let k = at_same n e.0 i in
          let hd = sorted_head nat_cmp e.0 (keys_of es) o in
          let os = others-sorted n es (rw k hd) in
          let l' : Some e.1 ≡ Some p = (rw i at l) in
          let q : e.1 ≡ p = cc in
          let now : U e.1 ≡ Some w = ap U q ∙ u.changed in
          let z : f h.0 ≡ w = m h.0 (sym (ap T q) ∙ h.1) in
          rw (now, h.1, z) (ap (λ xs. w ∷ xs) (held-same T U es (same-other T U p n (Some w) es r u os hs) ∙ sym (map-others f n T es s os hs)))
      go more false i =
          let d = at_apart n e.0 i in
          let y : (num h.0 == n) ≡ false = grind (arith, nat_tests, d, h.2) in
          let now : U e.1 ≡ Some h.0 = (same-other T U p n (Some w) (e ∷ []) r u (d, tt) (h, tt)).0 ∙ h.1 in
          let z = s h.0 y in
          let m' = more (rw i at l) in
          rw (now, h.1, z) (ap (λ xs. h.0 ∷ xs) m')

  pub placed-written : (T U : P → Option V) (p : P) (n : ℕ) (w : V) (es : List (ℕ × P)) → num w ≡ n → At w p → lookup (is_at (nat_cmp n)) es ≡ Some p → IsPlaced num At T (n, p) → IsUpdated T U p (Some w) → IsStrictlySortedBy nat_cmp (keys_of es) → AllByRecursion (IsPlaced num At T) es
      → AllByRecursion (IsPlaced num At U) es
  placed-written T U p n w [] a b l r u o h = tt
  placed-written T U p n w (e ∷ es) a b l r u o (h, hs) =
      go (λ l'. placed-written T U p n w es a b l' r u (sorted_tail nat_cmp e.0 (keys_of es) o) hs) (is_at (nat_cmp n) e.0) refl
    where
      go : (lookup (is_at (nat_cmp n)) es ≡ Some p → AllByRecursion (IsPlaced num At U) es) → (c : Bool) → is_at (nat_cmp n) e.0 ≡ c → AllByRecursion (IsPlaced num At U) (e ∷ es)
      go more true i =
          let k = at_same n e.0 i in
          let hd = sorted_head nat_cmp e.0 (keys_of es) o in
          let os = others-sorted n es (rw k hd) in
          let l' : Some e.1 ≡ Some p = (rw i at l) in
          let q : e.1 ≡ p = cc in
          ((w, ap U q ∙ u.changed, a ∙ k, subst (At w) (sym q) b), placed-same T U es (same-other T U p n (Some w) es r u os hs) hs)
      go more false i =
          let d = at_apart n e.0 i in
          ((h.0, (same-other T U p n (Some w) (e ∷ []) r u (d, tt) (h, tt)).0 ∙ h.1, h.2, h.3), more (rw i at l))

  pub view-written : (f : V → V) (T U : P → Option V) (p : P) (n : ℕ) (w : V) (es : List (ℕ × P))
      → ((v : V) → (num v == n) ≡ false → f v ≡ v) → ((v : V) → T p ≡ Some v → f v ≡ w)
      → lookup (is_at (nat_cmp n)) es ≡ Some p → IsUpdated T U p (Some w) → AreInPlace num At T es → values_at U es ≡ map f (values_at T es)
  view-written f T U p n w es s m l u k = held-written f T U p n w es s m l (found T n p es k.placed l) u k.ordered k.placed

  pub kept-written : (T U : P → Option V) (p : P) (n : ℕ) (w : V) (es : List (ℕ × P)) → num w ≡ n → At w p → lookup (is_at (nat_cmp n)) es ≡ Some p → IsUpdated T U p (Some w) → AreInPlace num At T es → AreInPlace num At U es
  kept-written T U p n w es a b l u k = record { placed = placed-written T U p n w es a b l (found T n p es k.placed l) u k.ordered k.placed; ordered = k.ordered }

  -- ---- a value at the end

  pub below-keys : (n : ℕ) (T : P → Option V) (es : List (ℕ × P)) → AllByRecursion (IsPlaced num At T) es → AllByRecursion (λ k. k < n) (map num (values_at T es)) → AllByRecursion (λ k. k < n) (keys_of es)
  below-keys n T es h a = rw (numbers-held T es h) at a

  placed-push : (T : P → Option V) (e : ℕ × P) (es : List (ℕ × P)) → AllByRecursion (IsPlaced num At T) es → IsPlaced num At T e → AllByRecursion (IsPlaced num At T) (es ++ e ∷ [])
  placed-push T e [] h p = (p, tt)
  placed-push T e (f ∷ es) (h, hs) p = (h, placed-push T e es hs p)

  pub held-pushed : (T U : P → Option V) (p : P) (v : V) (es fs : List (ℕ × P)) → T p ≡ None → IsUpdated T U p (Some v) → AreInPlace num At T es → AllByRecursion (λ k. k < num v) (map num (values_at T es)) → fs ≡ es ++ (num v, p) ∷ []
      → values_at U fs ≡ values_at T es ++ v ∷ []
  held-pushed T U p v es fs n u k a e =
      rw (e, filter_map-append, u.changed, held-same T U es (same-vacant T U p (Some v) es n u k.placed)) refl

  pub kept-pushed : (T U : P → Option V) (p : P) (v : V) (es fs : List (ℕ × P)) → T p ≡ None → IsUpdated T U p (Some v) → AreInPlace num At T es → AllByRecursion (λ k. k < num v) (map num (values_at T es)) → At v p → fs ≡ es ++ (num v, p) ∷ []
      → IsStrictlySortedBy nat_cmp (keys_of fs) → AreInPlace num At U fs
  kept-pushed T U p v es fs n u k a b e o = record {
    placed = rw e (placed-push U (num v, p) es (placed-same T U es (same-vacant T U p (Some v) es n u k.placed) k.placed) (v, u.changed, refl, b));
    ordered = o;
  }

  -- ---- the next number

  pub first_between : (a m : ℕ) (T : P → Option V) (k : ℕ) (p : P) (rest es : List (ℕ × P)) → AllByRecursion (IsPlaced num At T) es → (k, p) ∷ rest ≡ entries_between nat_cmp (Excluded a) (Included m) es
      → Some k ≡ slice_get (filter (between a m) (map num (values_at T es))) 0
  first_between a m T k p rest es h e =
      let q : k ∷ keys_of rest ≡ filter (between a m) (keys_of es) = ap keys_of e ∙ keys-between a m es in
      rw (numbers-held T es h) (ap (λ (xs : List ℕ). slice_get xs 0) q)

  -- ---- the value at a place

  -- none passes a test, where none that has a place does
  pub find-vacant : (test : V → Bool) (T : P → Option V) (es : List (ℕ × P)) → ((v : V) (q : P) → test v ≡ true → At v q → ⊥)
      → AllByRecursion (IsPlaced num At T) es → find test (values_at T es) ≡ None
  find-vacant test T [] s h = refl
  find-vacant test T (e ∷ es) s (h, hs) = go (find-vacant test T es s hs) (test h.0) refl
    where
      go : find test (values_at T es) ≡ None → (b : Bool) → test h.0 ≡ b → find test (values_at T (e ∷ es)) ≡ None
      go more true t = absurd (s h.0 e.1 t h.3)
      go more false t = rw (h.1, t) more

  -- a value that a test finds by its place
  pub find-held : (test : V → Bool) (T : P → Option V) (p : P) (v : V) (es : List (ℕ × P)) → ((u : V) (q : P) → test u ≡ true → At u q → q ≡ p) → test v ≡ true
      → T p ≡ Some v → lookup (is_at (nat_cmp (num v))) es ≡ Some p → AllByRecursion (IsPlaced num At T) es → find test (values_at T es) ≡ Some v
  find-held test T p v [] s c n l h = absurd cc
  find-held test T p v (e ∷ es) s c n l (h, hs) = go (λ l'. find-held test T p v es s c n l' hs) (test h.0) refl
    where
      skip : (b : Bool) → is_at (nat_cmp (num v)) e.0 ≡ b → test h.0 ≡ false → lookup (is_at (nat_cmp (num v))) es ≡ Some p
      skip true i t =
          let l' : Some e.1 ≡ Some p = (rw i at l) in
          let q : e.1 ≡ p = cc in
          let a : T e.1 ≡ Some v = ap T q ∙ n in
          let y : v ≡ h.0 = cc (a, h.1) in
          let z : test h.0 ≡ true = ap test (sym y) ∙ c in
          absurd (cc (z, t))
      skip false i t = rw i at l

      go : (lookup (is_at (nat_cmp (num v))) es ≡ Some p → find test (values_at T es) ≡ Some v) → (b : Bool) → test h.0 ≡ b → find test (values_at T (e ∷ es)) ≡ Some v
      go more true t =
          let q : e.1 ≡ p = s h.0 e.1 t h.3 in
          let a : T e.1 ≡ Some v = ap T q ∙ n in
          rw (h.1, t) (sym h.1 ∙ a)
      go more false t = let m = more (skip (is_at (nat_cmp (num v)) e.0) refl t) in rw (h.1, t) m
