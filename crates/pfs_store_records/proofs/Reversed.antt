-- Entries by rising key are those by falling key, reversed: one is looked up, one leaves, one comes, and those in a range.
use Rattle.std.proofs.Common.{◌≡◌, ◌∙◌, ℕ, ◌<◌, Bool, true, false, cond, Option, Some, None, List, [], ◌∷◌, ◌++◌, refl, sym, ap, subst, arith, filter}
use Rattle.std.specs.Prelude.{reverse}
use Rattle.std.specs.List.{AllByRecursion}
use Rattle.std.specs.List.Sorted.{IsStrictlySortedBy}
use Rattle.std.specs.Map.{keys_of, lookup, remove_entry}
use Rattle.std.specs.BTreeMap.{is_at, insert_entry}
use Rattle.std.specs.BTreeMap.Range.{range_contains, entries_between}
use Rattle.std.specs.Ordering.{flip_args, nat_cmp}
use Rattle.std.specs.declared.cmp.Ordering.{Ordering}
use Rattle.std.specs.declared.cmp.Ordering.TheVariants.{Less}
use Rattle.std.specs.declared.ops.Bound.TheVariants.{Included, Excluded}
use Rattle.std.proofs.lemmas.Bool.Decides.{nat_tests}
use Rattle.std.proofs.lemmas.Grind.{reverse_onto}
use Rattle.std.proofs.lemmas.List.{reverse-reverse}
use Rattle.std.proofs.lemmas.Map.Keys.{sorted_head, sorted_tail}
use Rattle.pfs_store_records.specs.Numbered.{HasPlace}
use Rattle.pfs_store_records.specs.Records.{IsAbove, IsRising}

-- the order of falling numbers
abbrev pub falling : ℕ → ℕ → Ordering
falling = flip_args nat_cmp

at_either : (n k : ℕ) → is_at (falling n) k ≡ is_at (nat_cmp n) k
at_either n k = grind (arith, nat_tests)

below_falling : (n k : ℕ) → falling n k ≡ Less → k < n
below_falling n k h = grind (arith, nat_tests)

less_from : (n k : ℕ) → n < k → nat_cmp n k ≡ Less
less_from n k h = grind (arith, nat_tests)

at_lower : (n k m : ℕ) → is_at (nat_cmp n) k ≡ true → m < k → is_at (nat_cmp n) m ≡ false
at_lower n k m t l = grind (arith, nat_tests)

first_last : (e : ℕ × ℕ) (es : List (ℕ × ℕ)) → reverse (e ∷ es) ≡ reverse es ++ e ∷ []
first_last e es = reverse_onto es e []

-- ---- what all entries are

module _ (P : ℕ → Type 0) where
  all_push : (e : ℕ × ℕ) (es : List (ℕ × ℕ)) → AllByRecursion P (keys_of es) → P e.0 → AllByRecursion P (keys_of (es ++ e ∷ []))
  all_push e [] h p = (p, tt)
  all_push e (x ∷ es) (h, hs) p = (h, all_push e es hs p)

  all_reversed : (es : List (ℕ × ℕ)) → AllByRecursion P (keys_of es) → AllByRecursion P (keys_of (reverse es))
  all_reversed [] h = tt
  all_reversed (e ∷ es) (h, hs) = rw (first_last e es) (all_push e (reverse es) (all_reversed es hs) h)

all_weaker : (P Q : ℕ → Type 0) → ((k : ℕ) → P k → Q k) → (ks : List ℕ) → AllByRecursion P ks → AllByRecursion Q ks
all_weaker P Q f [] h = tt
all_weaker P Q f (k ∷ ks) (h, hs) = (f k h, all_weaker P Q f ks hs)

-- ---- rising from falling

rising_push : (e : ℕ × ℕ) (es : List (ℕ × ℕ)) → IsRising (keys_of es) → AllByRecursion (λ k. k < e.0) (keys_of es) → IsRising (keys_of (es ++ e ∷ []))
unfolding IsStrictlySortedBy
rising_push e [] o h = (tt, tt)
rising_push e (x ∷ es) (a, o) (h, hs) = (all_push (λ k. nat_cmp x.0 k ≡ Less) e es a (less_from x.0 e.0 h), rising_push e es o hs)

-- the keys past the first are below it
below_first : (e : ℕ × ℕ) (es : List (ℕ × ℕ)) → IsStrictlySortedBy falling (keys_of (e ∷ es)) → AllByRecursion (λ k. k < e.0) (keys_of es)
below_first e es o = all_weaker (λ k. falling e.0 k ≡ Less) (λ k. k < e.0) (below_falling e.0) (keys_of es) (sorted_head falling e.0 (keys_of es) o)

pub rising-reversed : (es : List (ℕ × ℕ)) → IsStrictlySortedBy falling (keys_of es) → IsRising (keys_of (reverse es))
unfolding IsStrictlySortedBy
rising-reversed [] o = tt
rising-reversed (e ∷ es) o =
    rw (first_last e es)
    (rising_push e (reverse es) (rising-reversed es (sorted_tail falling e.0 (keys_of es) o)) (all_reversed (λ k. k < e.0) es (below_first e es o)))

-- ---- one is looked up, and one leaves

module _ (test : ℕ → Bool) where
  lookup_none : (es : List (ℕ × ℕ)) → AllByRecursion (λ k. test k ≡ false) (keys_of es) → lookup test es ≡ None
  lookup_none [] h = refl
  lookup_none (e ∷ es) (h, hs) = rw h (lookup_none es hs)

  lookup_last : (e : ℕ × ℕ) (es : List (ℕ × ℕ)) → AllByRecursion (λ k. test k ≡ false) (keys_of es) → lookup test (es ++ e ∷ []) ≡ lookup test (e ∷ [])
  lookup_last e [] h = refl
  lookup_last e (x ∷ es) (h, hs) = rw h (lookup_last e es hs)

  lookup_before : (e : ℕ × ℕ) (es : List (ℕ × ℕ)) → test e.0 ≡ false → lookup test (es ++ e ∷ []) ≡ lookup test es
  lookup_before e [] h = rw h refl
  lookup_before e (x ∷ es) h = go (lookup_before e es h) (test x.0)
    where
      go : lookup test (es ++ e ∷ []) ≡ lookup test es → (b : Bool) → cond b (Some x.1) (lookup test (es ++ e ∷ [])) ≡ cond b (Some x.1) (lookup test es)
      go more true = refl
      go more false = more

  remove_last : (e : ℕ × ℕ) (es : List (ℕ × ℕ)) → AllByRecursion (λ k. test k ≡ false) (keys_of es) → test e.0 ≡ true → remove_entry test (es ++ e ∷ []) ≡ es
  remove_last e [] h t = rw t refl
  remove_last e (x ∷ es) (h, hs) t = rw h (ap (λ xs. x ∷ xs) (remove_last e es hs t))

  remove_before : (e : ℕ × ℕ) (es : List (ℕ × ℕ)) → test e.0 ≡ false → remove_entry test (es ++ e ∷ []) ≡ remove_entry test es ++ e ∷ []
  remove_before e [] h = rw h refl
  remove_before e (x ∷ es) h = go (remove_before e es h) (test x.0)
    where
      go : remove_entry test (es ++ e ∷ []) ≡ remove_entry test es ++ e ∷ [] → (b : Bool)
          → cond b (es ++ e ∷ []) (x ∷ remove_entry test (es ++ e ∷ [])) ≡ cond b es (x ∷ remove_entry test es) ++ e ∷ []
      go more true = refl
      go more false = ap (λ xs. x ∷ xs) more

-- no key below one that passes does
none_lower : (n : ℕ) (e : ℕ × ℕ) (es : List (ℕ × ℕ)) → is_at (nat_cmp n) e.0 ≡ true → IsStrictlySortedBy falling (keys_of (e ∷ es)) → AllByRecursion (λ k. is_at (nat_cmp n) k ≡ false) (keys_of (reverse es))
none_lower n e es t o = all_weaker (λ k. k < e.0) (λ k. is_at (nat_cmp n) k ≡ false) (λ k l. at_lower n e.0 k t l) (keys_of (reverse es)) (all_reversed (λ k. k < e.0) es (below_first e es o))

pub lookup-reversed : (n : ℕ) (es : List (ℕ × ℕ)) → IsStrictlySortedBy falling (keys_of es) → lookup (is_at (nat_cmp n)) (reverse es) ≡ lookup (is_at (falling n)) es
lookup-reversed n [] o = refl
lookup-reversed n (e ∷ es) o =
    rw (first_last e es, at_either n e.0) (go (lookup-reversed n es (sorted_tail falling e.0 (keys_of es) o)) (is_at (nat_cmp n) e.0) refl)
  where
    go : lookup (is_at (nat_cmp n)) (reverse es) ≡ lookup (is_at (falling n)) es → (b : Bool) → is_at (nat_cmp n) e.0 ≡ b
        → lookup (is_at (nat_cmp n)) (reverse es ++ e ∷ []) ≡ cond (is_at (nat_cmp n) e.0) (Some e.1) (lookup (is_at (falling n)) es)
    go more true t = lookup_last (is_at (nat_cmp n)) e (reverse es) (none_lower n e es t o) ∙ rw t refl
    go more false t = lookup_before (is_at (nat_cmp n)) e (reverse es) t ∙ more ∙ rw t refl

pub remove-reversed : (n : ℕ) (es : List (ℕ × ℕ)) → IsStrictlySortedBy falling (keys_of es) → reverse (remove_entry (is_at (falling n)) es) ≡ remove_entry (is_at (nat_cmp n)) (reverse es)
remove-reversed n [] o = refl
remove-reversed n (e ∷ es) o =
    rw (first_last e es, at_either n e.0) (go (remove-reversed n es (sorted_tail falling e.0 (keys_of es) o)) (is_at (nat_cmp n) e.0) refl)
  where
    go : reverse (remove_entry (is_at (falling n)) es) ≡ remove_entry (is_at (nat_cmp n)) (reverse es) → (b : Bool) → is_at (nat_cmp n) e.0 ≡ b
        → reverse (cond (is_at (nat_cmp n) e.0) es (e ∷ remove_entry (is_at (falling n)) es)) ≡ remove_entry (is_at (nat_cmp n)) (reverse es ++ e ∷ [])
    go more true t = rw t (sym (remove_last (is_at (nat_cmp n)) e (reverse es) (none_lower n e es t o) t))
    go more false t =
        rw t (first_last e (remove_entry (is_at (falling n)) es) ∙ ap (λ xs. xs ++ e ∷ []) more ∙ sym (remove_before (is_at (nat_cmp n)) e (reverse es) t))

pub place-reversed : (n : ℕ) (w : Option ℕ) (es fs : List (ℕ × ℕ)) → IsStrictlySortedBy falling (keys_of es) → IsStrictlySortedBy falling (keys_of fs)
    → ((q : ℕ) → lookup (is_at (falling q)) fs ≡ cond (is_at (falling n) q) w (lookup (is_at (falling q)) es)) → HasPlace n w (reverse es) (reverse fs)
place-reversed n w es fs o r h q =
    lookup-reversed q fs r ∙ h q ∙ (λ i. cond (at_either n q i) w (sym (lookup-reversed q es o) i))

-- ---- one comes

above_first : (n v : ℕ) (es : List (ℕ × ℕ)) → AllByRecursion (λ k. k < n) (keys_of es) → insert_entry falling es n v ≡ (n, v) ∷ es
above_first n v [] h = refl
above_first n v (e ∷ es) (h, hs) = let y : falling n e.0 ≡ Less = less_from e.0 n h in rw y refl

pub push-reversed : (n v : ℕ) (es fs : List (ℕ × ℕ)) → IsAbove n (keys_of (reverse es)) → fs ≡ insert_entry falling es n v → reverse fs ≡ reverse es ++ (n, v) ∷ []
push-reversed n v es fs h e =
    let a : AllByRecursion (λ k. k < n) (keys_of es) = subst (λ xs. AllByRecursion (λ k. k < n) (keys_of xs)) (reverse-reverse es) (all_reversed (λ k. k < n) (reverse es) h) in
    ap reverse (e ∙ above_first n v es a) ∙ first_last (n, v) es

-- ---- those in a range

module _ (test : ℕ × ℕ → Bool) where
  filter_push : (e : ℕ × ℕ) (es : List (ℕ × ℕ)) → filter test (es ++ e ∷ []) ≡ filter test es ++ filter test (e ∷ [])
  filter_push e [] = refl
  filter_push e (x ∷ es) = go (filter_push e es) (test x)
    where
      go : filter test (es ++ e ∷ []) ≡ filter test es ++ filter test (e ∷ []) → (b : Bool)
          → cond b (x ∷ filter test (es ++ e ∷ [])) (filter test (es ++ e ∷ [])) ≡ cond b (x ∷ filter test es) (filter test es) ++ filter test (e ∷ [])
      go more true = ap (λ xs. x ∷ xs) more
      go more false = more

  filter_reversed : (es : List (ℕ × ℕ)) → reverse (filter test es) ≡ filter test (reverse es)
  filter_reversed [] = refl
  filter_reversed (e ∷ es) = rw (first_last e es, filter_push e (reverse es)) (go (filter_reversed es) (test e))
    where
      go : reverse (filter test es) ≡ filter test (reverse es) → (b : Bool)
          → reverse (cond b (e ∷ filter test es) (filter test es)) ≡ filter test (reverse es) ++ cond b (e ∷ []) []
      go more true = first_last e (filter test es) ∙ ap (λ xs. xs ++ e ∷ []) more
      go more false = more ∙ sym (no_more (filter test (reverse es)))
        where
          no_more : (xs : List (ℕ × ℕ)) → xs ++ [] ≡ xs
          no_more [] = refl
          no_more (x ∷ xs) = ap (λ ys. x ∷ ys) (no_more xs)

range_either : (a m k : ℕ) → range_contains falling (Included m) (Excluded a) k ≡ range_contains nat_cmp (Excluded a) (Included m) k
range_either a m k = grind (arith, nat_tests)

pub between-reversed : (a m : ℕ) (es : List (ℕ × ℕ)) → reverse (entries_between falling (Included m) (Excluded a) es) ≡ entries_between nat_cmp (Excluded a) (Included m) (reverse es)
between-reversed a m es =
    ap (λ (f : ℕ × ℕ → Bool). reverse (filter f es)) (λ i e. range_either a m e.0 i)
    ∙ filter_reversed (λ e. range_contains nat_cmp (Excluded a) (Included m) e.0) es
