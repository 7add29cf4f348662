-- How many states are half open: where one comes, is written anew, or leaves.
use Rattle.std.proofs.Common.{◌≡◌, ◌∙◌, ◌≤◌, ◌+◌, ◌==◌, ℕ, Bool, true, false, Option, Some, List, [], ◌∷◌, ◌++◌, if◌then◌else◌, filter, length, map, refl, ap, arith}
use Rattle.std.specs.List.{find, AllByRecursion}
use Rattle.std.proofs.lemmas.List.{length-map}
use Rattle.std.proofs.lemmas.List.Sums.{count_by-le-length, length-filter}
use Rattle.pfs_track.specs.StatePhases.{is_half_open}
use Rattle.pfs_store_contract.specs.Calls.{other_than}
use Rattle.pfs_store_contract.specs.Counts.{half_open}
use Rattle.pfs_store_contract.specs.declared.records.State.{State}
use Rattle.pfs_store_records.specs.RecordPlaces.{IsPlaced, RecordIsAt, number_in, one_if, values_at}
use Rattle.pfs_store_records.specs.Records.{Placed, states_of}
use Rattle.pfs_store_records.proofs.Ordered.{length-held}
use Rattle.pfs_store_records.proofs.Rising.{Apart, IsRisingBy, head-apart, head-is, rest-rising, same_number}

abbrev number_of : State → ℕ
number_of s = s.number

abbrev pub opens : State → ℕ
opens s = one_if (is_half_open s.phase)

half-more : (s : State) (xs : List State) → half_open (s ∷ xs) ≡ half_open xs + opens s
half-more s xs = go (is_half_open s.phase) refl
  where
    go : (b : Bool) → is_half_open s.phase ≡ b → half_open (s ∷ xs) ≡ half_open xs + opens s
    go true e = rw e (omega arith)
    go false e = rw e (omega arith)

pub half-pushed : (s : State) (xs : List State) → half_open (xs ++ s ∷ []) ≡ half_open xs + opens s
half-pushed s [] = half-more s []
half-pushed s (x ∷ xs) = omega (arith, half-more x (xs ++ s ∷ []), half-pushed s xs, half-more x xs)

half-few : (xs : List State) → half_open xs ≤ length xs
half-few xs = omega (arith, length-filter (λ (s : State). is_half_open s.phase) xs, count_by-le-length (λ (s : State). is_half_open s.phase) xs)

-- there are no more than records
pub few-half : (at : ℕ → Option Placed) (es : List (ℕ × ℕ)) (count : ℕ) → AllByRecursion (IsPlaced number_in RecordIsAt at) es → count ≡ half_open (states_of (values_at at es)) → count ≤ length es
few-half at es count h e =
    omega (arith, e, half-few (states_of (values_at at es)), length-map (values_at at es) (λ (p : Placed). p.state), length-held number_in RecordIsAt at es h)

-- ---- a state leaves

apart-kept : (n : ℕ) (xs : List State) → Apart number_of n xs → filter (other_than n) xs ≡ xs
apart-kept n [] h = refl
apart-kept n (x ∷ xs) (h, hs) = rw h (ap (λ ys. x ∷ ys) (apart-kept n xs hs))

pub half-removed : (n : ℕ) (s : State) (xs : List State) → IsRisingBy number_of xs → find (λ (x : State). x.number == n) xs ≡ Some s
    → half_open xs ≡ half_open (filter (other_than n) xs) + opens s
half-removed n s [] r f = absurd cc
half-removed n s (x ∷ xs) r f = go (half-removed n s xs (rest-rising number_of x xs r)) (x.number == n) refl
  where
    go : (find (λ (x : State). x.number == n) xs ≡ Some s → half_open xs ≡ half_open (filter (other_than n) xs) + opens s) → (b : Bool) → (x.number == n) ≡ b
        → half_open (x ∷ xs) ≡ half_open (filter (other_than n) (x ∷ xs)) + opens s
    go more true t =
        let q : x ≡ s = head-is number_of n x s xs t f in
        let k : filter (other_than n) xs ≡ xs = apart-kept n xs (rw (same_number n x.number t) at (head-apart number_of x xs r)) in
        rw (t, k) (half-more x xs ∙ ap (λ (y : State). half_open xs + opens y) q)
    go more false t =
        let m = more (rw t at f) in
        rw t (omega (arith, m, half-more x xs, half-more x (filter (other_than n) xs)))

-- ---- a state is written anew

-- the state of a number, written in place of the one that has it
abbrev pub put_state : State → State → State
put_state state s = if s.number == state.number then state else s

apart-put : (s : State) (xs : List State) → Apart number_of s.number xs → map (put_state s) xs ≡ xs
apart-put s [] h = refl
apart-put s (x ∷ xs) (h, hs) = rw h (ap (λ ys. x ∷ ys) (apart-put s xs hs))

pub half-put : (new old : State) (xs : List State) → IsRisingBy number_of xs → find (λ (x : State). x.number == new.number) xs ≡ Some old
    → half_open (map (put_state new) xs) + opens old ≡ half_open xs + opens new
half-put new old [] r f = absurd cc
half-put new old (x ∷ xs) r f = go (half-put new old xs (rest-rising number_of x xs r)) (x.number == new.number) refl
  where
    go : (find (λ (x : State). x.number == new.number) xs ≡ Some old → half_open (map (put_state new) xs) + opens old ≡ half_open xs + opens new) → (b : Bool) → (x.number == new.number) ≡ b
        → half_open (map (put_state new) (x ∷ xs)) + opens old ≡ half_open (x ∷ xs) + opens new
    go more true t =
        let q = ap opens (head-is number_of new.number x old xs t f) in
        let k : map (put_state new) xs ≡ xs = apart-put new xs (rw (same_number new.number x.number t) at (head-apart number_of x xs r)) in
        rw (t, k) (omega (arith, half-more new xs, half-more x xs, q))
    go more false t =
        let m = more (rw t at f) in
        rw t (omega (arith, m, half-more x (map (put_state new) xs), half-more x xs))

-- so many are half open, where one of them is
pub half-found : (n : ℕ) (s : State) (xs : List State) → find (λ (x : State). x.number == n) xs ≡ Some s → opens s ≤ half_open xs
half-found n s [] f = absurd cc
half-found n s (x ∷ xs) f = go (half-found n s xs) (x.number == n) refl
  where
    go : (find (λ (x : State). x.number == n) xs ≡ Some s → opens s ≤ half_open xs) → (b : Bool) → (x.number == n) ≡ b → opens s ≤ half_open (x ∷ xs)
    go more true t =
        let q = ap opens (head-is number_of n x s xs t f) in
        omega (arith, q, half-more x xs)
    go more false t =
        let m = more (rw t at f) in
        omega (arith, m, half-more x xs)
