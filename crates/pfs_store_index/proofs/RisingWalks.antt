-- Lists in rising numbers, of which a walk examines one number after another: what leaves, and what is still to come.
use Rattle.std.proofs.Common.{◌≡◌, ◌∙◌, ◌+◌, ◌<◌, ◌≤◌, ◌==◌, ◌&&◌, ◌||◌, ℕ, suc, Bool, true, false, not, if◌then◌else◌, Some, None, List, [], ◌∷◌, ◌++◌, length, map, filter, take, drop, get_or, slice_get, refl, ap, sym, subst, arith, add-one, length-drop, length-take, drop-cons}
use Rattle.std.specs.List.{find, list_any}
use Rattle.std.proofs.lemmas.Bool.Decides.{nat_tests}
use Rattle.std.proofs.lemmas.List.{drop_min, take_min, take_more}
use Rattle.pfs_store_contract.specs.Purging.{is_among}
use Rattle.pfs_store_records.specs.Records.{between}
use Rattle.std.proofs.lemmas.Bool.{and_right}
use Rattle.pfs_store_index.specs.Rounds.{waiting}
use Rattle.pfs_store_records.proofs.Rising.{Above, Apart, IsRisingBy, flip_eq, has_number, head-above, head-apart, head-is, rest-rising, same_number}

past : (a m n k : ℕ) → a < n → n < k → between n m k ≡ between a m k
past a m n k h l = grind (arith, nat_tests)

not_past : (n m k : ℕ) → k ≤ n → between n m k ≡ false
not_past n m k l = grind (arith, nat_tests)

-- ---- one number is examined

module _ {X : Type 0} (number : X → ℕ) where
  -- an element stays when this number is examined
  abbrev pub survives : (X → Bool) → ℕ → X → Bool
  survives leaves n x = not ((n == number x) && leaves x)

  -- an element stays when these numbers have been examined
  abbrev pub stays_by : (X → Bool) → List ℕ → X → Bool
  stays_by leaves examined x = not (is_among examined (number x) && leaves x)

  survive-apart : (leaves : X → Bool) (n : ℕ) (xs : List X) → Apart number n xs → filter (survives leaves n) xs ≡ xs
  survive-apart leaves n [] a = refl
  survive-apart leaves n (x ∷ xs) (a, more) = rw (flip_eq (number x) n false a) (ap (λ ys. x ∷ ys) (survive-apart leaves n xs more))

  abbrev other : ℕ → X → Bool
  other n x = not (number x == n)

  other-apart : (n : ℕ) (xs : List X) → Apart number n xs → filter (other n) xs ≡ xs
  other-apart n [] a = refl
  other-apart n (x ∷ xs) (a, more) = rw a (ap (λ ys. x ∷ ys) (other-apart n xs more))

  pub survive-removed : (leaves : X → Bool) (n : ℕ) (s : X) (xs : List X) → IsRisingBy number xs → find (has_number number n) xs ≡ Some s → leaves s ≡ true
      → filter (λ x. not (number x == n)) xs ≡ filter (survives leaves n) xs
  survive-removed leaves n s [] r f e = refl
  survive-removed leaves n s (x ∷ xs) r f e = go (survive-removed leaves n s xs (rest-rising number x xs r)) (number x == n) refl
    where
      go : (find (has_number number n) xs ≡ Some s → leaves s ≡ true → filter (other n) xs ≡ filter (survives leaves n) xs) → (b : Bool) → (number x == n) ≡ b
          → filter (other n) (x ∷ xs) ≡ filter (survives leaves n) (x ∷ xs)
      go more true t =
          let q = head-is number n x s xs t f in
          let a : Apart number n xs = subst (λ k. Apart number k xs) (same_number n (number x) t) (head-apart number x xs r) in
          let e' : leaves x ≡ true = ap leaves q ∙ e in
          rw (t, flip_eq (number x) n true t, e', other-apart n xs a) (sym (survive-apart leaves n xs a))
      go more false t = rw (t, flip_eq (number x) n false t) (ap (λ ys. x ∷ ys) (more (rw t at f) e))

  pub survive-kept : (leaves : X → Bool) (n : ℕ) (s : X) (xs : List X) → IsRisingBy number xs → find (has_number number n) xs ≡ Some s → leaves s ≡ false
      → xs ≡ filter (survives leaves n) xs
  survive-kept leaves n s [] r f e = refl
  survive-kept leaves n s (x ∷ xs) r f e = go (survive-kept leaves n s xs (rest-rising number x xs r)) (number x == n) refl
    where
      go : (find (has_number number n) xs ≡ Some s → leaves s ≡ false → xs ≡ filter (survives leaves n) xs) → (b : Bool) → (number x == n) ≡ b
          → x ∷ xs ≡ filter (survives leaves n) (x ∷ xs)
      go more true t =
          let q = head-is number n x s xs t f in
          let a : Apart number n xs = subst (λ k. Apart number k xs) (same_number n (number x) t) (head-apart number x xs r) in
          let e' : leaves x ≡ false = ap leaves q ∙ e in
          rw (flip_eq (number x) n true t, e') (ap (λ ys. x ∷ ys) (sym (survive-apart leaves n xs a)))
      go more false t = rw (flip_eq (number x) n false t) (ap (λ ys. x ∷ ys) (more (rw t at f) e))

-- ---- one number more is examined

among-push : (ns : List ℕ) (n k : ℕ) → is_among (ns ++ n ∷ []) k ≡ (is_among ns k || (n == k))
among-push [] n k = flip_or (n == k)
  where
    flip_or : (b : Bool) → (b || false) ≡ (false || b)
    flip_or true = refl
    flip_or false = refl
among-push (m ∷ ns) n k = go (m == k) (among-push ns n k)
  where
    go : (b : Bool) → is_among (ns ++ n ∷ []) k ≡ (is_among ns k || (n == k)) → (b || is_among (ns ++ n ∷ []) k) ≡ ((b || is_among ns k) || (n == k))
    go true h = refl
    go false h = h

pub stay_more : (a b e : Bool) → (not (a && e) && not (b && e)) ≡ not ((a || b) && e)
stay_more true b true = refl
stay_more true true false = refl
stay_more true false false = refl
stay_more false b e = refl

module _ {X : Type 0} where
  pub filter-twice : (p q r : X → Bool) → ((x : X) → (q x && p x) ≡ r x) → (xs : List X) → filter p (filter q xs) ≡ filter r xs
  filter-twice p q r h [] = refl
  filter-twice p q r h (x ∷ xs) = go (filter-twice p q r h xs) (q x) refl (p x) refl
    where
      go : filter p (filter q xs) ≡ filter r xs → (b : Bool) → q x ≡ b → (b' : Bool) → p x ≡ b' → filter p (filter q (x ∷ xs)) ≡ filter r (x ∷ xs)
      go m true t true u = let w : r x ≡ true = sym (h x) ∙ (λ i. t i && u i) in rw (t, u, w) (ap (λ ys. x ∷ ys) m)
      go m true t false u = let w : r x ≡ false = sym (h x) ∙ (λ i. t i && u i) in rw (t, u, w) m
      go m false t b u = let w : r x ≡ false = sym (h x) ∙ ap (λ c. c && p x) t in rw (t, w) m

module _ {X : Type 0} (number : X → ℕ) where
  stays-more : (leaves : X → Bool) (n : ℕ) (ns : List ℕ) (xs : List X)
      → filter (survives number leaves n) (filter (stays_by number leaves ns) xs) ≡ filter (stays_by number leaves (ns ++ n ∷ [])) xs
  stays-more leaves n ns xs =
      filter-twice (survives number leaves n) (stays_by number leaves ns) (stays_by number leaves (ns ++ n ∷ []))
      (λ x. stay_more (is_among ns (number x)) (n == number x) (leaves x) ∙ ap (λ b. not (b && leaves x)) (sym (among-push ns n (number x)))) xs

  pub stays-none : (leaves : X → Bool) (xs : List X) → xs ≡ filter (stays_by number leaves []) xs
  stays-none leaves [] = refl
  stays-none leaves (x ∷ xs) = ap (λ ys. x ∷ ys) (stays-none leaves xs)

  pub step-stays : (leaves : X → Bool) (n i : ℕ) (ws : List ℕ) (xs0 xs xs' : List X) → xs ≡ filter (stays_by number leaves (take i ws)) xs0
      → xs' ≡ filter (survives number leaves n) xs → take (i + 1) ws ≡ take i ws ++ n ∷ [] → xs' ≡ filter (stays_by number leaves (take (i + 1) ws)) xs0
  step-stays leaves n i ws xs0 xs xs' e e' t =
      e' ∙ ap (filter (survives number leaves n)) e ∙ stays-more leaves n (take i ws) xs0 ∙ ap (λ zs. filter (stays_by number leaves zs) xs0) (sym t)

-- ---- a share of the numbers is examined

-- so many as a share has of these numbers: they are the share's, and the others are left
pub examined-taken : (examined share : ℕ) (ns : List ℕ) → examined ≡ length (take share ns) → take examined ns ≡ take share ns
examined-taken examined share ns h = ap (λ k. take k ns) (h ∙ length-take share ns) ∙ take_min share ns

pub examined-dropped : (examined share : ℕ) (ns : List ℕ) → examined ≡ length (take share ns) → drop examined ns ≡ drop share ns
examined-dropped examined share ns h = ap (λ k. drop k ns) (h ∙ length-take share ns) ∙ drop_min share ns

-- ---- the numbers that wait

pub slice_first : (zs : List ℕ) (n : ℕ) → slice_get zs 0 ≡ Some n → zs ≡ n ∷ drop 1 zs
slice_first [] n h = absurd cc
slice_first (z ∷ zs) n h = let q : z ≡ n = cc in ap (λ k. k ∷ zs) q

pub slice_none : (zs : List ℕ) → slice_get zs 0 ≡ None → length zs ≡ 0
slice_none [] h = refl
slice_none (z ∷ zs) h = absurd cc

-- what is known of the number that is next at a place
pub record IsNextNumber (i n : ℕ) (ws zs : List ℕ) : Type 0 where
  pub within : i < length ws
  pub taken : take (i + 1) ws ≡ take i ws ++ n ∷ []
  pub first : zs ≡ n ∷ drop (i + 1) ws

pub at_next : (i n : ℕ) (ws zs : List ℕ) → zs ≡ drop i ws → slice_get zs 0 ≡ Some n → IsNextNumber i n ws zs
at_next i n ws zs e h =
    let f = slice_first zs n h in
    let w : i < length ws = omega (arith, ap length (sym e ∙ f), length-drop i ws) in
    let d : n ∷ drop 1 zs ≡ get_or ws i n ∷ drop (i + 1) ws = sym f ∙ e ∙ rw add-one (drop-cons ws i n w) in
    let q : n ≡ get_or ws i n = cc in
    record { within = w; taken = rw (take_more ws i n w, sym q) refl; first = f ∙ (λ j. n ∷ tail_of d j) }
  where
    tail_of : {x y : ℕ} {xs ys : List ℕ} → x ∷ xs ≡ y ∷ ys → xs ≡ ys
    tail_of d = cc

pub all-examined : (i : ℕ) (ws zs : List ℕ) → zs ≡ drop i ws → slice_get zs 0 ≡ None → length ws ≤ i
all-examined i ws zs e h = omega (arith, slice_none zs h, ap length e, length-drop i ws)

module _ {X : Type 0} (number : X → ℕ) (test : X → Bool) where
  -- the numbers above one and up to another of those that pass a test
  abbrev pub waiting_by : ℕ → ℕ → List X → List ℕ
  waiting_by a m xs = map number (filter (λ x. test x && between a m (number x)) xs)

  -- what is known of a number that waits
  pub record IsWaiting (a m n : ℕ) (xs : List X) : Type 0 where
    pub held : list_any (has_number number n) xs ≡ true
    pub above : a < n
    pub most : n ≤ m

  later-waiting : (a m n : ℕ) (x : X) (xs : List X) → IsWaiting a m n xs → IsWaiting a m n (x ∷ xs)
  later-waiting a m n x xs w = go (number x == n)
    where
      at_head : (b : Bool) → (b || list_any (has_number number n) xs) ≡ true
      at_head true = refl
      at_head false = w.held

      go : Bool → IsWaiting a m n (x ∷ xs)
      go b = record { held = at_head (number x == n); above = w.above; most = w.most }

  and_second : (a b : Bool) → (a && b) ≡ true → b ≡ true
  and_second true b h = h
  and_second false b h = absurd cc

  between_above : (a m k : ℕ) → between a m k ≡ true → a < k
  between_above a m k h = grind (arith, nat_tests)

  between_most : (a m k : ℕ) → between a m k ≡ true → k ≤ m
  between_most a m k h = grind (arith, nat_tests)

  pub waiting-in : (a m n : ℕ) (xs : List X) → slice_get (waiting_by a m xs) 0 ≡ Some n → IsWaiting a m n xs
  waiting-in a m n [] h = absurd cc
  waiting-in a m n (x ∷ xs) h = go (waiting-in a m n xs) (test x && between a m (number x)) refl
    where
      go : (slice_get (waiting_by a m xs) 0 ≡ Some n → IsWaiting a m n xs) → (b : Bool) → (test x && between a m (number x)) ≡ b → IsWaiting a m n (x ∷ xs)
      go more true t =
          let h' : Some (number x) ≡ Some n = (rw t at h) in
          let q : number x ≡ n = cc in
          let y : (number x == n) ≡ true = grind (arith, nat_tests) in
          let w = and_second (test x) (between a m (number x)) t in
          record {
            held = rw y refl;
            above = subst (λ k. a < k) q (between_above a m (number x) w);
            most = subst (λ k. k ≤ m) q (between_most a m (number x) w);
          }
      go more false t = later-waiting a m n x xs (more (rw t at h))

  above-in : (n k : ℕ) (xs : List X) → Above number n xs → list_any (has_number number k) xs ≡ true → n < k
  above-in n k [] a i = absurd cc
  above-in n k (x ∷ xs) (a, more) i = go (above-in n k xs more) (number x == k) refl
    where
      go : (list_any (has_number number k) xs ≡ true → n < k) → (b : Bool) → (number x == k) ≡ b → n < k
      go m true t = omega (arith, a, same_number k (number x) t)
      go m false t = m (rw t at i)

  -- past the number that was next, the others wait
  below_first : (leaves : X → Bool) (a m n : ℕ) (xs : List X) → a < n → Above number n xs → waiting_by n m (filter (survives number leaves n) xs) ≡ waiting_by a m xs
  below_first leaves a m n [] l h = refl
  below_first leaves a m n (x ∷ xs) l (h, hs) =
      let y : (n == number x) ≡ false = grind (arith, nat_tests) in
      rw (y, past a m n (number x) l h) (go (below_first leaves a m n xs l hs) (test x && between a m (number x)))
    where
      go : waiting_by n m (filter (survives number leaves n) xs) ≡ waiting_by a m xs → (b : Bool)
          → map number (if b then x ∷ filter (λ z. test z && between n m (number z)) (filter (survives number leaves n) xs) else filter (λ z. test z && between n m (number z)) (filter (survives number leaves n) xs))
          ≡ map number (if b then x ∷ filter (λ z. test z && between a m (number z)) xs else filter (λ z. test z && between a m (number z)) xs)
      go e true = ap (λ ys. number x ∷ ys) e
      go e false = e

  pub waiting-next : (leaves : X → Bool) (a m n : ℕ) (rest : List ℕ) (xs : List X) → IsRisingBy number xs → waiting_by a m xs ≡ n ∷ rest
      → waiting_by n m (filter (survives number leaves n) xs) ≡ rest
  waiting-next leaves a m n rest [] r h = absurd cc
  waiting-next leaves a m n rest (x ∷ xs) r h = go (waiting-next leaves a m n rest xs (rest-rising number x xs r)) (test x && between a m (number x)) refl
    where
      skipped : (number x ≤ n) → waiting_by n m (filter (survives number leaves n) xs) ≡ rest → (b : Bool)
          → waiting_by n m (if b then x ∷ filter (survives number leaves n) xs else filter (survives number leaves n) xs) ≡ rest
      skipped l e true = rw (and_right (test x) (between n m (number x)) (not_past n m (number x) l)) e
      skipped l e false = e

      go : (waiting_by a m xs ≡ n ∷ rest → waiting_by n m (filter (survives number leaves n) xs) ≡ rest) → (b : Bool) → (test x && between a m (number x)) ≡ b
          → waiting_by n m (filter (survives number leaves n) (x ∷ xs)) ≡ rest
      go more true t =
          let h' : number x ∷ waiting_by a m xs ≡ n ∷ rest = (rw t at h) in
          let q : number x ≡ n = cc in
          let w : waiting_by a m xs ≡ rest = cc in
          let lo0 = between_above a m (number x) (and_second (test x) (between a m (number x)) t) in
          let lo : a < n = omega (arith, lo0, q) in
          let ab : Above number n xs = subst (λ k. Above number k xs) q (head-above number x xs r) in
          skipped (omega (arith, q)) (below_first leaves a m n xs lo ab ∙ w) (survives number leaves n x)
      go more false t =
          let h' : waiting_by a m xs ≡ n ∷ rest = (rw t at h) in
          let k = waiting-in a m n xs (ap (λ (zs : List ℕ). slice_get zs 0) h') in
          let l : number x < n = above-in (number x) n xs (head-above number x xs r) k.held in
          skipped (omega (arith, l)) (more h') (survives number leaves n x)

  pub waiting-fewer : (a m : ℕ) (xs : List X) → length (waiting_by a m xs) ≤ length xs
  waiting-fewer a m [] = omega arith
  waiting-fewer a m (x ∷ xs) = go (waiting-fewer a m xs) (test x && between a m (number x))
    where
      go : length (waiting_by a m xs) ≤ length xs → (b : Bool)
          → length (map number (if b then x ∷ filter (λ z. test z && between a m (number z)) xs else filter (λ z. test z && between a m (number z)) xs)) ≤ suc (length xs)
      go h true = omega (arith, h)
      go h false = omega (arith, h)

-- the numbers that wait of all
pub waiting-all : {X : Type 0} (number : X → ℕ) (a m : ℕ) (xs : List X) → waiting_by number (λ _. true) a m xs ≡ waiting a m (map number xs)
waiting-all number a m [] = refl
waiting-all number a m (x ∷ xs) = go (between a m (number x)) (waiting-all number a m xs)
  where
    go : (b : Bool) → waiting_by number (λ _. true) a m xs ≡ waiting a m (map number xs)
        → map number (if b then x ∷ filter (λ z. between a m (number z)) xs else filter (λ z. between a m (number z)) xs) ≡ (if b then number x ∷ waiting a m (map number xs) else waiting a m (map number xs))
    go true e = ap (λ ys. number x ∷ ys) e
    go false e = e

-- the same of the numbers of all, without a test
module _ {X : Type 0} (number : X → ℕ) where
  pub all-in : (a m n : ℕ) (xs : List X) → slice_get (waiting a m (map number xs)) 0 ≡ Some n → IsWaiting number (λ _. true) a m n xs
  all-in a m n xs h = waiting-in number (λ _. true) a m n xs (ap (λ ns. slice_get ns 0) (waiting-all number a m xs) ∙ h)

  pub all-next : (leaves : X → Bool) (a m n : ℕ) (rest : List ℕ) (xs : List X) → IsRisingBy number xs → waiting a m (map number xs) ≡ n ∷ rest
      → waiting n m (map number (filter (survives number leaves n) xs)) ≡ rest
  all-next leaves a m n rest xs r h =
      sym (waiting-all number n m (filter (survives number leaves n) xs)) ∙ waiting-next number (λ _. true) leaves a m n rest xs r (waiting-all number a m xs ∙ h)

  pub all-fewer : (a m : ℕ) (xs : List X) → length (waiting a m (map number xs)) ≤ length xs
  all-fewer a m xs = subst (λ ns. length ns ≤ length xs) (waiting-all number a m xs) (waiting-fewer number (λ _. true) a m xs)
