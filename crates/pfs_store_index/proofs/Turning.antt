-- Rounds over the numbers of an ordered map: a slice passes by the next ones, and whole rounds change nothing.
use Rattle.std.proofs.Common.{◌≡◌, ◌≤◌, ◌<◌, ◌+◌, ◌-◌, ◌/◌, ◌%◌, ◌==◌, ℕ, suc, true, false, Some, None, List, [], ◌∷◌, ◌++◌, length, drop, filter, slice_get, refl, ap, sym, ◌∙◌, arith, length-drop, div-add-mod', mod-lt}
use Rattle.std.specs.List.{AllByRecursion}
use Rattle.std.specs.Map.{keys_of}
use Rattle.std.specs.Ordering.{nat_cmp}
use Rattle.std.specs.BTreeMap.Range.{entries_between}
use Rattle.std.specs.declared.ops.Bound.TheVariants.{Included, Excluded}
use Rattle.std.proofs.lemmas.Bool.Decides.{nat_tests}
use Rattle.pfs_store_contract.specs.Purging.{round}
use Rattle.pfs_store_index.specs.QuietPurges.{round_after_slices}
use Rattle.pfs_store_index.proofs.Turns.{drop-all, rounds-over, whole-round}
use Rattle.pfs_store_records.specs.Records.{IsRising, between}
use Rattle.pfs_store_records.proofs.Walking.{Walking, drop-front, length-keys, map-both, span, span-entries, span-keys, split-span}

not_zero : (n : ℕ) → false ≡ (suc n == 0)
not_zero n = grind (arith, nat_tests)

module _ {P : Type 0} where
  -- the numbers of a range
  abbrev pub among : ℕ → ℕ → List (ℕ × P) → List ℕ
  among a m es = filter (between a m) (keys_of es)

  among-entries : (a m : ℕ) (es : List (ℕ × P)) → keys_of (entries_between nat_cmp (Excluded a) (Included m) es) ≡ among a m es
  among-entries a m es = ap keys_of (span-entries a m es) ∙ span-keys a m es

  pub next-none : (a m : ℕ) (es : List (ℕ × P)) → [] ≡ entries_between nat_cmp (Excluded a) (Included m) es → None ≡ slice_get (among a m es) 0
  next-none a m es e = ap (λ (ks : List ℕ). slice_get ks 0) (ap keys_of e ∙ among-entries a m es)

  pub next-some : (a m k : ℕ) (p : P) (rest es : List (ℕ × P)) → (k, p) ∷ rest ≡ entries_between nat_cmp (Excluded a) (Included m) es → Some k ≡ slice_get (among a m es) 0
  next-some a m k p rest es e = ap (λ (ks : List ℕ). slice_get ks 0) (ap keys_of e ∙ among-entries a m es)

  -- ---- those that a walk has passed by

  abbrev pub Passing : List (ℕ × P) → List (ℕ × P) → ℕ → ℕ → ℕ → ℕ → Type 0
  Passing es left above last most passed = Walking (λ (e : ℕ × P). Unit {0}) es left above last most passed

  pub passed-drop : (es left : List (ℕ × P)) (above last most passed : ℕ) → IsRising (keys_of es) → Passing es left above last most passed
      → among last most es ≡ drop passed (among above most es)
  passed-drop es left above last most passed o w =
      let split : among above most es ≡ among above last es ++ among last most es =
      sym (span-keys above most es) ∙ ap keys_of (split-span above last most es o w.from w.to) ∙ map-both (span above last es) (span last most es)
      ∙ (λ i. span-keys above last es i ++ span-keys last most es i) in
      let count : passed ≡ length (among above last es) = w.count ∙ sym (length-keys (span above last es)) ∙ ap length (span-keys above last es) in
      sym (drop-front (among above last es) (among last most es)) ∙ (λ i. drop (sym count i) (sym split i))

  -- none is left before the share is used up
  pub passed-all : (es : List (ℕ × P)) (above last most passed share : ℕ) → IsRising (keys_of es) → Passing es [] above last most passed → passed ≤ share
      → among last most es ≡ drop share (among above most es)
  passed-all es above last most passed share o w h =
      let none : among last most es ≡ [] = sym (ap keys_of w.rest ∙ span-keys last most es) in
      let e = passed-drop es [] above last most passed o w in
      none ∙ sym (drop-all share (among above most es) (omega (arith, h, ap length none, ap length e, length-drop passed (among above most es))))

  -- ---- a whole round

  pub round-ends : (es : List (ℕ × P)) (numbers less share : ℕ) → 1 ≤ share → numbers ≡ length (keys_of es) → less ≡ numbers - 1
      → round_after_slices share (keys_of es) (1 + less / share) [] ≡ []
  round-ends es numbers less share s hn hl =
      let q = less / share in
      let parts = div-add-mod' less share in
      let most = mod-lt less s in
      let is : 1 + q ≡ suc q = omega arith in
      ap (λ k. round_after_slices share (keys_of es) k []) is
      ∙ whole-round share q (keys_of es) (omega (arith, parts, hn, hl)) (omega (arith, parts, most, hn, hl))

-- ---- the round is over, or goes on

pub none-left : (pending : List ℕ) → None ≡ slice_get pending 0 → true ≡ (length pending == 0)
none-left [] h = refl
none-left (p ∷ ps) h = absurd cc

pub some-left : (n : ℕ) (pending : List ℕ) → Some n ≡ slice_get pending 0 → false ≡ (length pending == 0)
some-left n [] h = absurd cc
some-left n (p ∷ ps) h = not_zero (length ps)

-- ---- one slice, or all whole rounds

pub over-empty : (pending : List ℕ) → (length pending == 0) ≡ true → pending ≡ []
over-empty [] h = refl
over-empty (p ∷ ps) h = let f = not_zero (length ps) in absurd (cc (f, h))

pub whole-passed : (share whole left : ℕ) (numbers pending : List ℕ) → (length pending == 0) ≡ true → round_after_slices share numbers whole [] ≡ []
    → round_after_slices share numbers (left % whole) pending ≡ round_after_slices share numbers left pending
whole-passed share whole left numbers pending h e =
    let none = over-empty pending h in
    ap (round_after_slices share numbers (left % whole)) none ∙ rounds-over share whole left numbers e ∙ ap (round_after_slices share numbers left) (sym none)

pub in_range : (made n : ℕ) → 1 ≤ n → n ≤ made → between 0 made n ≡ true
in_range made n l m = grind (arith, nat_tests)

pub all-numbers : (made : ℕ) (numbers : List ℕ) → AllByRecursion (λ n. (1 ≤ n) × (n ≤ made)) numbers → filter (between 0 made) numbers ≡ numbers
all-numbers made [] h = refl
all-numbers made (n ∷ ns) (h, hs) = rw (in_range made n h.0 h.1) (ap (λ ks. n ∷ ks) (all-numbers made ns hs))

-- a new round begins with all numbers
pub round-begins : (made : ℕ) (numbers pending : List ℕ) → AllByRecursion (λ n. (1 ≤ n) × (n ≤ made)) numbers → (length pending == 0) ≡ true → filter (between 0 made) numbers ≡ round numbers pending
round-begins made numbers pending n h = all-numbers made numbers n ∙ ap (round numbers) (sym (over-empty pending h))

-- one that is under way goes on
pub round-goes : (numbers pending : List ℕ) → (length pending == 0) ≡ false → pending ≡ round numbers pending
round-goes numbers [] h = absurd cc
round-goes numbers (p ∷ ps) h = refl

-- a new round begins with its first slice
pub round-begun : (share left made : ℕ) (numbers pending next : List ℕ) → AllByRecursion (λ n. (1 ≤ n) × (n ≤ made)) numbers → 0 < left → (length pending == 0) ≡ true
    → next ≡ drop share (filter (between 0 made) numbers) → round_after_slices share numbers (left - 1) next ≡ round_after_slices share numbers left pending
round-begun share left made numbers pending next n l h e =
    let more : left ≡ suc (left - 1) = omega (arith, l) in
    ap (round_after_slices share numbers (left - 1)) (e ∙ ap (drop share) (all-numbers made numbers n))
    ∙ (λ i. round_after_slices share numbers (sym more i) (sym (over-empty pending h) i))
