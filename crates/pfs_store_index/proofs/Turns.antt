-- Rounds that go on while nothing leaves: slices add up, and a whole round of them is none.
use Rattle.std.proofs.Common.{◌≡◌, ◌≤◌, ◌<◌, ◌+◌, ◌-◌, ◌*◌, ◌/◌, ◌%◌, ℕ, zero, suc, List, [], ◌∷◌, length, drop, refl, ap, sym, ◌∙◌, arith, length-drop, div-add-mod', suc-mul, zero-mul}
use Rattle.std.proofs.Math.Seq.{drop-nil}
use Rattle.pfs_store_contract.specs.Purging.{round}
use Rattle.pfs_store_index.specs.QuietPurges.{round_after_slices}

pub drop-all : (n : ℕ) (xs : List ℕ) → length xs ≤ n → drop n xs ≡ []
drop-all n [] h = drop-nil n
drop-all zero (x ∷ xs) h = absurd (omega (arith, h))
drop-all (suc n) (x ∷ xs) h = drop-all n xs (omega (arith, h))

-- ---- slices add up

-- so many slices, and then as many as that
pub turned-add : (share : ℕ) (held : List ℕ) (a b : ℕ) (pending : List ℕ) → round_after_slices share held (a + b) pending ≡ round_after_slices share held b (round_after_slices share held a pending)
turned-add share held zero b pending = let e : 0 + b ≡ b = omega arith in ap (λ k. round_after_slices share held k pending) e
turned-add share held (suc a) b pending =
    let e : suc a + b ≡ suc (a + b) = omega arith in
    ap (λ k. round_after_slices share held k pending) e ∙ turned-add share held a b (drop share (round held pending))

-- ---- a whole round

turned-none : (share k : ℕ) → round_after_slices share [] k [] ≡ []
turned-none share zero = refl
turned-none share (suc k) = ap (round_after_slices share [] k) (drop-nil share) ∙ turned-none share k

-- a round ends once all of it is taken
ends : (share : ℕ) (held : List ℕ) (q before : ℕ) (xs : List ℕ) → before ≡ q * share → before < length xs → length xs ≤ before + share
    → round_after_slices share held (suc q) xs ≡ []
ends share held q before [] e l h = absurd (omega (arith, l))
ends share held zero before (x ∷ xs) e l h = drop-all share (x ∷ xs) (omega (arith, h, e ∙ zero-mul share))
ends share held (suc q) before (x ∷ xs) e l h =
    let is : before ≡ q * share + share = e ∙ suc-mul q share in
    ends share held q (q * share) (drop share (x ∷ xs)) refl (omega (arith, l, is, length-drop share (x ∷ xs))) (omega (arith, h, is, length-drop share (x ∷ xs)))

pub whole-round : (share q : ℕ) (held : List ℕ) → q * share ≤ length held - 1 → length held - 1 < q * share + share → round_after_slices share held (suc q) [] ≡ []
whole-round share q [] l h = turned-none share (suc q)
whole-round share q (x ∷ xs) l h = ends share (x ∷ xs) q (q * share) (x ∷ xs) refl (omega (arith, l)) (omega (arith, h))

-- ---- whole rounds

whole-rounds : (share p : ℕ) (held : List ℕ) → round_after_slices share held p [] ≡ [] → (q : ℕ) → round_after_slices share held (q * p) [] ≡ []
whole-rounds share p held h zero = ap (λ k. round_after_slices share held k []) (zero-mul p)
whole-rounds share p held h (suc q) =
    let e : suc q * p ≡ p + q * p = omega (arith, suc-mul q p) in
    ap (λ k. round_after_slices share held k []) e ∙ turned-add share held p (q * p) [] ∙ ap (round_after_slices share held (q * p)) h ∙ whole-rounds share p held h q

-- from the end of a round on, whole rounds change nothing
pub rounds-over : (share p n : ℕ) (held : List ℕ) → round_after_slices share held p [] ≡ [] → round_after_slices share held (n % p) [] ≡ round_after_slices share held n []
rounds-over share p n held h =
    sym (ap (round_after_slices share held (n % p)) (whole-rounds share p held h (n / p)))
    ∙ sym (turned-add share held (n / p * p) (n % p) []) ∙ ap (λ k. round_after_slices share held k []) (div-add-mod' n p)
