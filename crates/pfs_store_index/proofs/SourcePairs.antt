-- The pairs of one source in the ordered set, by number, are its states.
use Rattle.std.proofs.Common.{◌≡◌, ◌∙◌, ◌<◌, ◌≤◌, ◌==◌, ◌&&◌, ◌||◌, ℕ, Bool, true, false, cond, Some, None, List, [], ◌∷◌, slice_get, refl, ap, sym, subst, arith, IfSome, rules, get_or, zero, suc}
use Rattle.std.specs.Cmp.{IsTotalOrder}
use Rattle.std.specs.List.{list_any}
use Rattle.std.specs.BTreeMap.{is_at as is_found}
use Rattle.std.specs.Ordering.{is_eq, is_gt, nat_cmp, ordering_reverse, ordering_then}
use Rattle.std.specs.declared.cmp.Ordering.{Ordering}
use Rattle.std.specs.declared.cmp.Ordering.TheVariants.{Less, Equal, Greater}
use Rattle.std.proofs.lemmas.Bool.Decides.{nat_tests}
use Rattle.std.specs.Prelude.{All, reverse}
use Rattle.std.specs.Int.{w32, from_le_bytes, to_le_bytes}
use Rattle.std.proofs.lemmas.List.{reverse-reverse}
use Rattle.std.proofs.lemmas.List.Elements.{All-head, All-tail}
use Rattle.std.proofs.lemmas.Nat.{le_bytes_4}
use Rattle.pfs_addr_values.proofs.SameLaws.{same_addr_self, same_addr_true}
use Rattle.pfs_addr_values.specs.Sameness.{same_addr}
use Rattle.std.specs.BTreeSet as tree
use Rattle.std.specs.BTreeSet.{BTreeSet}
use Rattle.std.specs.declared.ops.Bound.TheVariants.{Excluded, Included}
use Rattle.pfs_addr_values.specs.Addresses.{IsAddr}
use Rattle.pfs_addr_values.specs.declared.addresses.Addr.{Addr}
use Rattle.pfs_addr_values.specs.declared.addresses.Addr.TheVariants.{V4 as Addr-V4, V6 as Addr-V6}
use Rattle.pfs_addr_values.specs.declared.packets.Dir.{Dir}
use Rattle.pfs_store_contract.specs.declared.records.State.{State}
use Rattle.pfs_store_records.specs.Records.{between}
use Rattle.pfs_store_index.specs.Rounds.{waiting_of}
use Rattle.pfs_conf_values.specs.declared.profiles.Profile.{Profile}
use Rattle.pfs_conf_values.specs.declared.profiles.Profile.TheVariants as profile
use Rattle.pfs_store_contract.specs.Leaving.{is_beside}
use Rattle.pfs_store_index.specs.Filed.{HasPair, LosesPair, SamePairs, filed_under, is_pair, pair_of, pairs_on, pair_cmp, source_cmp, ordered_source}
use Rattle.pfs_store_index.specs.contracts.sources.SourceOrd.TheImpl.Laws.{matches_eq-law, total-law}
use Rattle.pfs_store_index.specs.contracts.sources.SourcePartialEq.TheImpl as source_eq
use Rattle.pfs_store_index.specs.declared.flush_index.FlushIndex.{FlushIndex}
use Rattle.pfs_store_index.specs.declared.sources.Source.{Source}
use Rattle.pfs_store_index.specs.declared.sources.Source.TheVariants.{V4 as Source-V4, V6 as Source-V6}
use Rattle.pfs_store_index.proofs.Leavings.{state_number}
use Rattle.std.proofs.lemmas.Bool.{and_parts, and_from}
use Rattle.pfs_store_records.proofs.Rising.{Above, IsRisingBy, head-above, rest-rising}

-- ---- the order of pairs

source_total : IsTotalOrder source_cmp
source_total = total-law

source_equal : (a b : Source) → source_cmp a b ≡ Equal → a ≡ b
source_equal a b h = same_source a b (matches_eq-law a b ∙ ap is_eq h)
  where
    same_source : (x y : Source) → (source_eq.ghosts).eq x y ≡ true → x ≡ y
    same_source x y e = search rules

source_itself : (a : Source) → source_cmp a a ≡ Equal
source_itself a = go (source_cmp a a) refl
  where
    go : (o : Ordering) → source_cmp a a ≡ o → source_cmp a a ≡ Equal
    go Less e = absurd (cc (source_total.antisymm a a, e, ap ordering_reverse e))
    go Equal e = e
    go Greater e = absurd (cc (source_total.antisymm a a, e, ap ordering_reverse e))

nat_upto : (a b : ℕ) → a ≤ b → is_gt (nat_cmp a b) ≡ false
nat_upto a b h = grind (arith, nat_tests)

nat_not_gt : (a b : ℕ) → is_gt (nat_cmp a b) ≡ false → a ≤ b
nat_not_gt a b h = grind (arith, nat_tests)

nat_less : (a b : ℕ) → nat_cmp a b ≡ Less → a < b
nat_less a b h = grind (arith, nat_tests)

less_nat : (a b : ℕ) → a < b → nat_cmp a b ≡ Less
less_nat a b h = grind (arith, nat_tests)

-- a range of one source runs forward
pub pairs-forward : (a : Source) (m n : ℕ) → m ≤ n → is_gt (pair_cmp (a, m) (a, n)) ≡ false
pairs-forward a m n h = ap (λ o. is_gt (ordering_then o (nat_cmp m n))) (source_itself a) ∙ nat_upto m n h

-- the pair of a number above one and up to another is in the range
pub in-range : (a : Source) (above most n : ℕ) → above < n → n ≤ most
    → (pair_cmp (a, above) (a, n) ≡ Less) × (is_gt (pair_cmp (a, n) (a, most)) ≡ false)
in-range a above most n l m =
    (ap (λ o. ordering_then o (nat_cmp above n)) (source_itself a) ∙ less_nat above n l, pairs-forward a n most m)

-- what is in the range is of the source
pub record IsOfRange (a : Source) (above most : ℕ) (b : Source) (n : ℕ) : Type 0 where
  pub source : b ≡ a
  pub above_it : above < n
  pub most_it : n ≤ most

pub of-range : (a : Source) (above most : ℕ) (b : Source) (n : ℕ) → pair_cmp (a, above) (b, n) ≡ Less → is_gt (pair_cmp (b, n) (a, most)) ≡ false → IsOfRange a above most b n
of-range a above most b n l m = go (source_cmp a b) refl (source_cmp b a) refl
  where
    go : (o : Ordering) → source_cmp a b ≡ o → (p : Ordering) → source_cmp b a ≡ p → IsOfRange a above most b n
    go Less e Less f = absurd (cc (source_total.antisymm a b, e, f, ap ordering_reverse f))
    go Less e Equal f = absurd (cc (source_total.antisymm a b, e, f, ap ordering_reverse f))
    go Less e Greater f =
        let z : is_gt (ordering_then Greater (nat_cmp n most)) ≡ false = ap (λ o. is_gt (ordering_then o (nat_cmp n most))) (sym f) ∙ m in
        absurd (cc z)
    go Greater e p f =
        let z : ordering_then Greater (nat_cmp above n) ≡ Less = ap (λ o. ordering_then o (nat_cmp above n)) (sym e) ∙ l in
        absurd (cc z)
    go Equal e Less f = absurd (cc (source_total.antisymm a b, e, f, ap ordering_reverse f))
    go Equal e Greater f = absurd (cc (source_total.antisymm a b, e, f, ap ordering_reverse f))
    go Equal e Equal f =
        record {
          source = sym (source_equal a b e);
          above_it = nat_less above n (ap (λ o. ordering_then o (nat_cmp above n)) (sym e) ∙ l);
          most_it = nat_not_gt n most (ap (λ o. is_gt (ordering_then o (nat_cmp n most))) (sym f) ∙ m);
        }

-- ---- no two addresses are one source

abbrev number_in : Source → ℕ
number_in (Source-V4 n) = n
number_in (Source-V6 bytes) = 0

abbrev bytes_in : Source → List ℕ
bytes_in (Source-V4 n) = []
bytes_in (Source-V6 bytes) = bytes

byte_in : (bytes : List ℕ) → All (λ b. b < 256) bytes → (i : ℕ) → get_or bytes i 0 < 256
byte_in [] all i = omega arith
byte_in (b ∷ bytes) all zero = All-head (λ x. x < 256) b bytes all
byte_in (b ∷ bytes) all (suc i) = byte_in bytes (All-tail (λ x. x < 256) b bytes all) i

written-again : (bytes : List ℕ) → IsAddr (Addr-V4 bytes) → to_le_bytes w32 (from_le_bytes w32 bytes) ≡ bytes
written-again bytes h = le_bytes_4 bytes (from_le_bytes w32 bytes) h.0 (byte_in bytes h.1) refl

one-source : (a b : Addr) → IsAddr a → IsAddr b → ordered_source a ≡ ordered_source b → a ≡ b
one-source (Addr-V4 x) (Addr-V4 y) h k e = ap Addr-V4 (sym (written-again x h) ∙ ap (λ s. to_le_bytes w32 (number_in s)) e ∙ written-again y k)
one-source (Addr-V6 x) (Addr-V6 y) h k e = ap Addr-V6 (sym (reverse-reverse x) ∙ ap (λ s. reverse (bytes_in s)) e ∙ reverse-reverse y)
one-source (Addr-V4 x) (Addr-V6 y) h k e = absurd (cc e)
one-source (Addr-V6 x) (Addr-V4 y) h k e = absurd (cc e)

-- ---- a pair is found where it is one of a state

pair_number : (a b : Source) (m n : ℕ) → pair_cmp (a, m) (b, n) ≡ Equal → (a ≡ b) × (m ≡ n)
pair_number a b m n h = go (source_cmp a b) refl
  where
    nat_equal : (x y : ℕ) → nat_cmp x y ≡ Equal → x ≡ y
    nat_equal x y k = grind (arith, nat_tests)

    go : (o : Ordering) → source_cmp a b ≡ o → (a ≡ b) × (m ≡ n)
    go Less e = let z : Less ≡ Equal = ap (λ o. ordering_then o (nat_cmp m n)) (sym e) ∙ h in absurd (cc z)
    go Greater e = let z : Greater ≡ Equal = ap (λ o. ordering_then o (nat_cmp m n)) (sym e) ∙ h in absurd (cc z)
    go Equal e = (source_equal a b e, nat_equal m n (ap (λ o. ordering_then o (nat_cmp m n)) (sym e) ∙ h))

pub pair_found : (p q : Source × ℕ) → is_found (pair_cmp p) q ≡ true → p ≡ q
pair_found p q h = go (pair_cmp p q) refl
  where
    go : (o : Ordering) → pair_cmp p q ≡ o → p ≡ q
    go Less e = let z : is_found (λ (x : Source × ℕ). Less) q ≡ true = ap (λ (o : Ordering). is_found (λ (x : Source × ℕ). o) q) (sym e) ∙ h in absurd (cc z)
    go Greater e = let z : is_found (λ (x : Source × ℕ). Greater) q ≡ true = ap (λ (o : Ordering). is_found (λ (x : Source × ℕ). o) q) (sym e) ∙ h in absurd (cc z)
    go Equal e = let w = pair_number p.0 q.0 p.1 q.1 e in (λ i. (w.0 i, w.1 i))

-- a pair that was placed is taken out again
pub pair-undone : (p q : Source × ℕ) (a b c : Bool) → a ≡ false → b ≡ cond (is_found (pair_cmp p) q) true c → (is_found (pair_cmp p) q ≡ true → c ≡ a) → cond (is_found (pair_cmp p) q) false b ≡ c
pair-undone p q a b c z e h = go (is_found (pair_cmp p) q) refl
  where
    go : (t : Bool) → is_found (pair_cmp p) q ≡ t → cond (is_found (pair_cmp p) q) false b ≡ c
    go true i = rw i (sym (h i ∙ z))
    go false i = let e' : b ≡ c = (rw i at e) in rw i e'

pub set-undone : (p : Source × ℕ) (old mid new : BTreeSet (Source × ℕ)) → tree.contains pair_cmp old p ≡ false → HasPair p old mid → LosesPair p mid new → SamePairs old new
set-undone p old mid new z h k q =
    k q ∙ pair-undone p q (tree.contains pair_cmp old p) (tree.contains pair_cmp mid q) (tree.contains pair_cmp old q) z (h q) (λ i. ap (tree.contains pair_cmp old) (sym (pair_found p q i)))

pub filed-undone : (x : Profile) (d : Dir) (s : State) (old mid new : FlushIndex) → tree.contains pair_cmp (pairs_on x d old) (pair_of x d s) ≡ false
    → HasPair (pair_of x d s) (pairs_on x d old) (pairs_on x d mid) → LosesPair (pair_of x d s) (pairs_on x d mid) (pairs_on x d new) → SamePairs (pairs_on x d old) (pairs_on x d new)
filed-undone x d s old mid new z h k = set-undone (pair_of x d s) (pairs_on x d old) (pairs_on x d mid) (pairs_on x d new) z h k

-- ---- the states by an address under which they are filed

module _ (under : State → Addr) where
  -- a state is filed under this one
  abbrev pub filed_at : Addr → State → Bool
  filed_at a s = same_addr (under s) a

  pub pair_test : (s : State) (a : Addr) (n : ℕ) → IsAddr (under s) → IsAddr a → is_found (pair_cmp (ordered_source (under s), s.number)) (ordered_source a, n) ≡ is_pair under a n s
  pair_test s a n u v = go (is_found (pair_cmp (ordered_source (under s), s.number)) (ordered_source a, n)) refl (is_pair under a n s) refl
    where
      same_self : (k : ℕ) → (k == k) ≡ true
      same_self k = grind (arith, nat_tests)

      same_number : (k m : ℕ) → (k == m) ≡ true → k ≡ m
      same_number k m h = grind (arith, nat_tests)

      nat_itself : (k : ℕ) → nat_cmp k k ≡ Equal
      nat_itself k = grind (arith, nat_tests)

      found_self : (b : Source) (k : ℕ) → is_found (pair_cmp (b, k)) (b, k) ≡ true
      found_self b k =
          let z : pair_cmp (b, k) (b, k) ≡ Equal = ap (λ o. ordering_then o (nat_cmp k k)) (source_itself b) ∙ nat_itself k in
          ap (λ (o : Ordering). is_found (λ (x : Source × ℕ). o) (b, k)) z

      go : (x : Bool) → is_found (pair_cmp (ordered_source (under s), s.number)) (ordered_source a, n) ≡ x → (y : Bool) → is_pair under a n s ≡ y
          → is_found (pair_cmp (ordered_source (under s), s.number)) (ordered_source a, n) ≡ is_pair under a n s
      go true e true f = e ∙ sym f
      go false e false f = e ∙ sym f
      go true e false f =
          let w = pair_found (ordered_source (under s), s.number) (ordered_source a, n) e in
          let o : (under s) ≡ a = one-source (under s) a u v (λ i. (w i).0) in
          let z : is_pair under a n s ≡ true = and_from _ _ (ap (λ (b : Addr). same_addr (under s) b) (sym o) ∙ same_addr_self (under s)) (ap (λ (p : Source × ℕ). s.number == p.1) (sym w) ∙ same_self s.number) in
          absurd (cc (z, f))
      go false e true f =
          let p = same_addr_true (under s) a (and_parts (same_addr (under s) a) (s.number == n) f).0 in
          let q = same_number s.number n (and_parts (same_addr (under s) a) (s.number == n) f).1 in
          let z : is_found (pair_cmp (ordered_source (under s), s.number)) (ordered_source a, n) ≡ true =
          ap (λ (x : Source × ℕ). is_found (pair_cmp (ordered_source (under s), s.number)) x) (λ i. (ordered_source (sym p i), sym q i)) ∙ found_self (ordered_source (under s)) s.number in
          absurd (cc (z, e))

  -- ---- the first of the states of a source

  -- a number is the least above one and up to another of the states of a source
  pub record IsFirstOf (a : Addr) (above most n : ℕ) (xs : List State) : Type 0 where
    pub held : list_any (is_pair under a n) xs ≡ true
    pub above_it : above < n
    pub most_it : n ≤ most
    pub least : (k : ℕ) → list_any (is_pair under a k) xs ≡ true → above < k → k ≤ most → n ≤ k

  same_self : (k : ℕ) → (k == k) ≡ true
  same_self k = grind (arith, nat_tests)

  between_true : (above most n : ℕ) → above < n → n ≤ most → between above most n ≡ true
  between_true above most n l m = grind (arith, nat_tests)

  between_low : (above most n : ℕ) → between above most n ≡ true → above < n
  between_low above most n h = grind (arith, nat_tests)

  between_high : (above most n : ℕ) → between above most n ≡ true → n ≤ most
  between_high above most n h = grind (arith, nat_tests)

  or_other : (b c : Bool) → b ≡ false → (b || c) ≡ true → c ≡ true
  or_other true c e h = absurd (cc e)
  or_other false c e h = h

  number_true : (k n : ℕ) → (k == n) ≡ true → k ≡ n
  number_true k n h = grind (arith, nat_tests)

  pair_above : (a : Addr) (k n : ℕ) (xs : List State) → Above state_number k xs → list_any (is_pair under a n) xs ≡ true → k < n
  pair_above a k n [] h any = absurd (cc any)
  pair_above a k n (x ∷ xs) (h, hs) any = go (pair_above a k n xs hs) (is_pair under a n x) refl
    where
      go : (list_any (is_pair under a n) xs ≡ true → k < n) → (b : Bool) → is_pair under a n x ≡ b → k < n
      go more true e = let q = number_true x.number n (and_parts (same_addr (under x) a) (x.number == n) e).1 in omega (arith, h, q)
      go more false e = more (or_other (is_pair under a n x) (list_any (is_pair under a n) xs) e any)

  pub first-some : (a : Addr) (above most n : ℕ) (xs : List State) → IsRisingBy state_number xs → IsFirstOf a above most n xs → slice_get (waiting_of (filed_at a) above most xs) 0 ≡ Some n
  first-some a above most n [] r f = let h = f.held in absurd (cc h)
  first-some a above most n (x ∷ xs) r f = go (first-some a above most n xs (rest-rising state_number x xs r)) (same_addr (under x) a && between above most x.number) refl
    where
      self-held : same_addr (under x) a ≡ true → list_any (is_pair under a x.number) (x ∷ xs) ≡ true
      self-held s = ap (λ b. b || list_any (is_pair under a x.number) xs) (and_from (same_addr (under x) a) (x.number == x.number) s (same_self x.number))

      go : (IsFirstOf a above most n xs → slice_get (waiting_of (filed_at a) above most xs) 0 ≡ Some n) → (b : Bool) → (same_addr (under x) a && between above most x.number) ≡ b → slice_get (waiting_of (filed_at a) above most (x ∷ xs)) 0 ≡ Some n
      go more true e =
          let s = (and_parts (same_addr (under x) a) (between above most x.number) e).0 in
          let w = (and_parts (same_addr (under x) a) (between above most x.number) e).1 in
          let le : n ≤ x.number = f.least x.number (self-held s) (between_low above most x.number w) (between_high above most x.number w) in
          rw e (ap Some (same (is_pair under a n x) refl le))
        where
          same : (b : Bool) → is_pair under a n x ≡ b → n ≤ x.number → x.number ≡ n
          same true i le = number_true x.number n (and_parts (same_addr (under x) a) (x.number == n) i).1
          same false i le =
              let later = or_other (is_pair under a n x) (list_any (is_pair under a n) xs) i f.held in
              let lo = pair_above a x.number n xs (head-above state_number x xs r) later in
              absurd (omega (arith, lo, le))
      go more false e =
          rw e (more (record {
            held = or_other (is_pair under a n x) (list_any (is_pair under a n) xs) (apart (is_pair under a n x) refl) f.held;
            above_it = f.above_it;
            most_it = f.most_it;
            least = λ k any l m. f.least k (later k any) l m;
          }))
        where
          or_true : (b : Bool) → (b || true) ≡ true
          or_true true = refl
          or_true false = refl

          later : (k : ℕ) → list_any (is_pair under a k) xs ≡ true → list_any (is_pair under a k) (x ∷ xs) ≡ true
          later k any = ap (λ b. is_pair under a k x || b) any ∙ or_true (is_pair under a k x)

          apart : (b : Bool) → is_pair under a n x ≡ b → is_pair under a n x ≡ false
          apart true i =
              let s = (and_parts (same_addr (under x) a) (x.number == n) i).0 in
              let q = number_true x.number n (and_parts (same_addr (under x) a) (x.number == n) i).1 in
              let w : between above most x.number ≡ true = ap (between above most) q ∙ between_true above most n f.above_it f.most_it in
              let z = and_from (same_addr (under x) a) (between above most x.number) s w in
              absurd (cc (z, e))
          apart false i = i

  pub first-none : (a : Addr) (above most : ℕ) (xs : List State) → ((n : ℕ) → above < n → n ≤ most → list_any (is_pair under a n) xs ≡ false) → slice_get (waiting_of (filed_at a) above most xs) 0 ≡ None
  first-none a above most [] h = refl
  first-none a above most (x ∷ xs) h = go (first-none a above most xs) (same_addr (under x) a && between above most x.number) refl
    where
      or_no : (b c : Bool) → (b || c) ≡ false → c ≡ false
      or_no true c e = absurd (cc e)
      or_no false c e = e

      go : (((n : ℕ) → above < n → n ≤ most → list_any (is_pair under a n) xs ≡ false) → slice_get (waiting_of (filed_at a) above most xs) 0 ≡ None) → (b : Bool) → (same_addr (under x) a && between above most x.number) ≡ b → slice_get (waiting_of (filed_at a) above most (x ∷ xs)) 0 ≡ None
      go more true e =
          let s = (and_parts (same_addr (under x) a) (between above most x.number) e).0 in
          let w = (and_parts (same_addr (under x) a) (between above most x.number) e).1 in
          let z = h x.number (between_low above most x.number w) (between_high above most x.number w) in
          let y : list_any (is_pair under a x.number) (x ∷ xs) ≡ true = ap (λ b. b || list_any (is_pair under a x.number) xs) (and_from (same_addr (under x) a) (x.number == x.number) s (same_self x.number)) in
          absurd (cc (y, z))
      go more false e = rw e (more (λ n l m. or_no (is_pair under a n x) (list_any (is_pair under a n) xs) (h n l m)))

  -- ---- what a range over the pairs of a source gives

  -- the pairs that are found are those of the states
  abbrev pub ArePairs : BTreeSet (Source × ℕ) → List State → Type 0
  ArePairs pairs xs = (b : Addr) (n : ℕ) → IsAddr b → tree.contains pair_cmp pairs (ordered_source b, n) ≡ list_any (is_pair under b n) xs

  of-own : (above most : ℕ) (pairs : BTreeSet (Source × ℕ)) (r : List (Source × ℕ)) (own other : Source) → own ≡ other
      → tree.IsKeyRangeOf pair_cmp (Excluded (own, above)) (Included (own, most)) pairs r → tree.IsKeyRangeOf pair_cmp (Excluded (other, above)) (Included (other, most)) pairs r
  of-own above most pairs r own other is h = subst (λ (o : Source). tree.IsKeyRangeOf pair_cmp (Excluded (o, above)) (Included (o, most)) pairs r) is h

  pub first-of-range : (a : Addr) (above most : ℕ) (xs : List State) (pairs : BTreeSet (Source × ℕ)) (k : Source × ℕ) (r r' : List (Source × ℕ)) (own : Source)
      → own ≡ ordered_source a → IsAddr a → ArePairs pairs xs → r ≡ k ∷ r'
      → tree.IsKeyRangeOf pair_cmp (Excluded (own, above)) (Included (own, most)) pairs r → IsFirstOf a above most k.1 xs
  first-of-range a above most xs pairs k r r' own is u paired e ranged =
      let h = of-own above most pairs r own (ordered_source a) is ranged in
      let first = subst (λ z. IfSome (slice_get z 0) (tree.IsKeyInRange pair_cmp (Excluded (ordered_source a, above)) (Included (ordered_source a, most)) pairs)) e h.1 in
      let o = of-range (ordered_source a) above most k.0 k.1 first.0.0 first.0.1 in
      record {
        held = sym (paired a k.1 u) ∙ ap (λ (b : Source). tree.contains pair_cmp pairs (b, k.1)) (sym o.source) ∙ first.1;
        above_it = o.above_it;
        most_it = o.most_it;
        least = λ n any l m.
            let z : is_gt (pair_cmp k (ordered_source a, n)) ≡ false =
            subst (λ z. IfSome (slice_get z 0) (λ (q : Source × ℕ). is_gt (pair_cmp q (ordered_source a, n)) ≡ false)) e (h.2 (ordered_source a, n) (in-range (ordered_source a) above most n l m) (paired a n u ∙ any)) in
            nat_not_gt k.1 n (ap (λ o. is_gt (ordering_then o (nat_cmp k.1 n))) (sym (source_itself (ordered_source a)) ∙ ap (λ (b : Source). source_cmp b (ordered_source a)) (sym o.source)) ∙ z);
      }

  pub none-of-range : (a : Addr) (above most : ℕ) (xs : List State) (pairs : BTreeSet (Source × ℕ)) (r : List (Source × ℕ)) (own : Source)
      → own ≡ ordered_source a → IsAddr a → ArePairs pairs xs → r ≡ []
      → tree.IsKeyRangeOf pair_cmp (Excluded (own, above)) (Included (own, most)) pairs r → (n : ℕ) → above < n → n ≤ most → list_any (is_pair under a n) xs ≡ false
  none-of-range a above most xs pairs r own is u paired e ranged n l m = sym (paired a n u) ∙ (of-own above most pairs r own (ordered_source a) is ranged).5 e (ordered_source a, n) (in-range (ordered_source a) above most n l m)

-- what a flush takes for the states of an address are those that are filed under it
pub beside-filed : (q : Profile) (d : Dir) (a : Addr) → filed_at (filed_under q d) a ≡ is_beside q d a
beside-filed profile.Own d a = refl
beside-filed profile.OpenBsd74 d a = refl

-- the pairs of the set for a direction are those of the states that are filed
pub set-pairs : (q own : Profile) (d : Dir) (f : FlushIndex) (pairs : BTreeSet (Source × ℕ)) (xs : List State) → pairs ≡ pairs_on q d f → q ≡ own
    → ArePairs (filed_under own d) (pairs_on own d f) xs → ArePairs (filed_under own d) pairs xs
set-pairs q own d f pairs xs e k h = subst (λ (ps : BTreeSet (Source × ℕ)). ArePairs (filed_under own d) ps xs) (sym (e ∙ ap (λ x. pairs_on x d f) k)) h
