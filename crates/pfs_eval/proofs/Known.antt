-- What a Bloom filter says of the entries of a table: each may be there, and what may not be there is not.
use Rattle.std.proofs.Common.{◌≡◌, ℕ, ◌+◌, ◌<◌, ◌≤◌, ◌==◌, ◌*◌, ◌/◌, ◌%◌, ◌^◌, suc, zero, Bool, true, false, not, cond, List, [], ◌∷◌, ◌++◌, length, get_or, set, Option, Some, None, refl, ap, sym, ◌∙◌, arith, subst, eqb-true, slice_get, ◌⊎◌, inl, inr}
use Rattle.std.specs.Prelude.{bit_and, bit_or}
use Rattle.std.proofs.lemmas.List.Elements.{All-append, All-cons, All-head, All-nil, All-tail}
use Rattle.std.proofs.lemmas.Nat.{and_or_apart, and_or_self, mod_below, one_shl, pow_apart, pow_pos}
use Rattle.std.proofs.lemmas.List.{get_or-set_same, length-set}
use Rattle.std.proofs.lemmas.Option.{slice_get-get_or, slice_get_past}
use Rattle.pfs_eval.proofs.Paths.{some_same}
use Rattle.std.proofs.lemmas.Bool.{and_from, and_parts, cases_eq, false≢true}
use Rattle.pfs_addr_values.specs.declared.addresses.Addr.{Addr}
use Rattle.pfs_addr_values.specs.declared.addresses.Addr.TheVariants.{V4, V6}
use Rattle.pfs_addr_values.specs.Addresses.{IsAddr, same_family}
use Rattle.pfs_addr_values.specs.Prefixes.{Network, covers, first_bits, network_of}
use Rattle.pfs_addr_values.proofs.PrefixLaws.{network_covers}
use Rattle.pfs_eval.specs.Blooms.{AreKnown, bit_of, has_bits, may_have, other_half, prefix_hash, word_has, word_place}
use Rattle.pfs_eval.specs.Entries.{Entry, is_prefix_of, mark_at}
use Rattle.pfs_eval.specs.declared.entries.Mark.{Mark}

-- ---- what is asked of a prefix and of an address that it covers

same_first : (words : List ℕ) (p a : Addr) (n : ℕ) → same_family p a ≡ true → first_bits n p ≡ first_bits n a
    → may_have words p n ≡ may_have words a n
same_first words (V4 x) (V4 y) n f e = ap (λ k. has_bits words (prefix_hash k n)) e
same_first words (V6 x) (V6 y) n f e = refl
same_first words (V4 x) (V6 y) n f e = absurd (cc f)
same_first words (V6 x) (V4 y) n f e = absurd (cc f)

-- the same is said of a prefix and of what it covers
covered-known : (words : List ℕ) (p : Network) (a : Addr) → covers p a ≡ true → may_have words p.addr p.bits ≡ may_have words a p.bits
unfolding covers
covered-known words p a c =
    let both = and_parts (same_family p.addr a) (first_bits p.bits p.addr == first_bits p.bits a) c in
    same_first words p.addr a p.bits both.0 (eqb-true (first_bits p.bits p.addr) (first_bits p.bits a) both.1)

prefix-known : (words : List ℕ) (p : Network) (a : Addr) (n : ℕ) → is_prefix_of a n p ≡ true → may_have words p.addr p.bits ≡ may_have words a n
prefix-known words p a n e =
    let both = and_parts (p.bits == n) (covers p a) e in
    covered-known words p a both.1 ∙ ap (may_have words a) (eqb-true p.bits n both.0)

absent_step : (b : Bool) (m : Mark) (o : Option Mark) → (b ≡ true → false ≡ true) → o ≡ None → cond b (Some m) o ≡ None
absent_step true m o h e = absurd (false≢true (h refl))
absent_step false m o h e = e

-- what may not be there is not
pub not-there : (words : List ℕ) (a : Addr) (n : ℕ) (es : List Entry) → AreKnown words es → may_have words a n ≡ false → mark_at es a n ≡ None
not-there words a n [] k e = refl
not-there words a n (x ∷ es) k e =
    let P : Entry → Type 0 = λ y. may_have words y.0.addr y.0.bits ≡ true in
    absent_step (is_prefix_of a n x.0) x.1 (mark_at es a n)
    (λ t. sym e ∙ sym (prefix-known words x.0 a n t) ∙ All-head P x es k)
    (not-there words a n es (All-tail P x es k) e)

-- ---- one more entry

-- the prefix of an address is noted, beside those that were
pub record NotesPrefix (words more : List ℕ) (a : Addr) (n : ℕ) : Type 0 where
  pub noted : may_have more a n ≡ true
  pub kept : (b : Addr) (m : ℕ) → may_have words b m ≡ true → may_have more b m ≡ true

pub known-added : (es : List Entry) (words more : List ℕ) (a : Addr) (n : ℕ) (mark : Mark) → IsAddr a → AreKnown words es
    → NotesPrefix words more a n → AreKnown more (es ++ (network_of a n, mark) ∷ [])
known-added es words more a n mark h k knows =
    let P : Entry → Type 0 = λ x. may_have more x.0.addr x.0.bits ≡ true in
    All-append P es ((network_of a n, mark) ∷ []) (λ i d l. knows.kept _ _ (k i d l))
    (All-cons P (network_of a n, mark) [] (covered-known more (network_of a n) a (network_covers a n h) ∙ knows.noted) (All-nil P))

-- ---- bits more

-- one, shifted to the bit of a number
pub bit-shift : (n : ℕ) → (1 * 2 ^ (n / 2 ^ 20 % 64)) % 2 ^ 64 ≡ bit_of n
unfolding bit_of
bit-shift n = one_shl (n / 2 ^ 20 % 64) 64 (mod_below (n / 2 ^ 20) 64 (omega arith))

some_bit : (m : ℕ) → 0 < m → not (m == 0) ≡ true
some_bit m h = grind arith

bit_some : (n : ℕ) → not (bit_of n == 0) ≡ true
unfolding bit_of
bit_some n = some_bit (2 ^ (n / 2 ^ 20 % 64)) (pow_pos (n / 2 ^ 20 % 64))

-- two bits are one, or have nothing in common
bits_apart : (g h : ℕ) → (bit_of g ≡ bit_of h) ⊎ (bit_and (bit_of g) (bit_of h) ≡ 0)
unfolding bit_of
bits_apart g h = by (cases_eq (g / 2 ^ 20 % 64) (h / 2 ^ 20 % 64))
  where
    by : ((g / 2 ^ 20 % 64) ≡ (h / 2 ^ 20 % 64)) ⊎ ((g / 2 ^ 20 % 64) ≡ (h / 2 ^ 20 % 64) → ⊥)
        → (2 ^ (g / 2 ^ 20 % 64) ≡ 2 ^ (h / 2 ^ 20 % 64)) ⊎ (bit_and (2 ^ (g / 2 ^ 20 % 64)) (2 ^ (h / 2 ^ 20 % 64)) ≡ 0)
    by (inl e) = inl (ap (λ k. 2 ^ k) e)
    by (inr ne) = inr (pow_apart (g / 2 ^ 20 % 64) (h / 2 ^ 20 % 64) ne)

-- whether a word has the bit of a number
abbrev has : ℕ → ℕ → Bool
has word n = not (bit_and word (bit_of n) == 0)

-- a word in which it was set
one_set : (g word : ℕ) → has (bit_or word (bit_of g)) g ≡ true
one_set g word = ap (λ m. not (m == 0)) (and_or_self (bit_of g) word) ∙ bit_some g

-- that word has the bits that it had
one_kept : (g h word : ℕ) → has word h ≡ true → has (bit_or word (bit_of g)) h ≡ true
one_kept g h word e = by (bits_apart g h)
  where
    by : (bit_of g ≡ bit_of h) ⊎ (bit_and (bit_of g) (bit_of h) ≡ 0) → has (bit_or word (bit_of g)) h ≡ true
    by (inl same) = subst (λ m. not (bit_and (bit_or word (bit_of g)) m == 0) ≡ true) same (one_set g word)
    by (inr apart) = ap (λ m. not (m == 0)) (and_or_apart (bit_of h) word (bit_of g) apart) ∙ e

-- a word in which both bits of a hash were set
abbrev with_both : ℕ → ℕ → ℕ
with_both g word = bit_or (bit_or word (bit_of g)) (bit_of (other_half g))

pub both_of : {m half k : ℕ} (word g : ℕ) → m ≡ bit_of g → half ≡ other_half g → k ≡ bit_of half → bit_or (bit_or word m) k ≡ with_both g word
both_of {m} {half} {k} word g e f h =
    ap (λ b. bit_or (bit_or word b) k) e ∙ ap (bit_or (bit_or word (bit_of g))) (h ∙ ap (λ n. bit_of n) f)

both_set : (g word : ℕ) → word_has g (Some (with_both g word)) ≡ true
both_set g word = and_from _ _ (one_kept (other_half g) g (bit_or word (bit_of g)) (one_set g word)) (one_set (other_half g) (bit_or word (bit_of g)))

both_kept : (g h word : ℕ) → word_has h (Some word) ≡ true → word_has h (Some (with_both g word)) ≡ true
both_kept g h word e =
    let two = and_parts (has word h) (has word (other_half h)) e in
    and_from _ _ (one_kept (other_half g) h (bit_or word (bit_of g)) (one_kept g h word two.0))
    (one_kept (other_half g) (other_half h) (bit_or word (bit_of g)) (one_kept g (other_half h) word two.1))

get_other : (xs : List ℕ) (p q v : ℕ) → (q ≡ p → ⊥) → slice_get (set xs p v) q ≡ slice_get xs q
get_other [] p q v ne = refl
get_other (x ∷ xs) zero zero v ne = absurd (ne refl)
get_other (x ∷ xs) zero (suc q) v ne = refl
get_other (x ∷ xs) (suc p) zero v ne = refl
get_other (x ∷ xs) (suc p) (suc q) v ne = get_other xs p q v (λ e. ne (ap suc e))

get_same : (xs : List ℕ) (p v : ℕ) → p < length xs → slice_get (set xs p v) p ≡ Some v
get_same xs p v h =
    let l = length-set xs p v in
    slice_get-get_or (set xs p v) p 0 (omega (arith, l, h)) ∙ ap (λ w. Some w) (get_or-set_same xs p v 0 h)

-- the bits of a hash, where a word was written anew
has_after : (words : List ℕ) (p v h : ℕ) → has_bits (set words p v) h ≡ word_has h (slice_get (set words p v) (word_place h (length words)))
has_after words p v h = ap (λ n. word_has h (slice_get (set words p v) (word_place h n))) (length-set words p v)

pub set-noted : (words : List ℕ) (g p v : ℕ) → p ≡ word_place g (length words) → v ≡ with_both g (get_or words p 0) → p < length words
    → has_bits (set words p v) g ≡ true
set-noted words g p v e f h =
    has_after words p v g
    ∙ ap (λ q. word_has g (slice_get (set words p v) q)) (sym e)
    ∙ ap (word_has g) (get_same words p v h)
    ∙ ap (λ w. word_has g (Some w)) f
    ∙ both_set g (get_or words p 0)

pub set-kept : (words : List ℕ) (g p v : ℕ) → v ≡ with_both g (get_or words p 0) → p < length words
    → (h : ℕ) → has_bits words h ≡ true → has_bits (set words p v) h ≡ true
set-kept words g p v f within h e = has_after words p v h ∙ by (cases_eq q p)
  where
    q : ℕ
    q = word_place h (length words)

    by : (q ≡ p) ⊎ (q ≡ p → ⊥) → word_has h (slice_get (set words p v) q) ≡ true
    by (inl same) =
        let old : slice_get words q ≡ Some (get_or words p 0) = ap (slice_get words) same ∙ slice_get-get_or words p 0 within in
        ap (λ r. word_has h (slice_get (set words p v) r)) same
        ∙ ap (word_has h) (get_same words p v within)
        ∙ ap (λ w. word_has h (Some w)) f
        ∙ both_kept g h (get_or words p 0) (ap (word_has h) (sym old) ∙ e)
    by (inr other) = ap (word_has h) (get_other words p q v other) ∙ e

-- where there is no word, each bit is set
pub past-noted : (words : List ℕ) (g p : ℕ) → p ≡ word_place g (length words) → length words ≤ p → has_bits words g ≡ true
past-noted words g p e h = ap (word_has g) (ap (slice_get words) (sym e) ∙ slice_get_past words p h)

-- ---- the filter of all entries

-- the entries before a place may be there
abbrev pub AreKnownBefore : ℕ → List ℕ → List Entry → Type 0
AreKnownBefore p words es = (k : ℕ) (x : Entry) → k < p → slice_get es k ≡ Some x → may_have words x.0.addr x.0.bits ≡ true

pub known-none : (words : List ℕ) (es : List Entry) → AreKnownBefore 0 words es
known-none words es k x l at = absurd (omega (arith, l))

pub known-more : (es : List Entry) (words more : List ℕ) (p : ℕ) (y : Entry) (a : Addr) (n : ℕ) → AreKnownBefore p words es
    → slice_get es p ≡ Some y → a ≡ y.0.addr → n ≡ y.0.bits → NotesPrefix words more a n → AreKnownBefore (p + 1) more es
known-more es words more p y a n before at e f knows k x l there = by (cases_eq k p)
  where
    by : (k ≡ p) ⊎ (k ≡ p → ⊥) → may_have more x.0.addr x.0.bits ≡ true
    by (inl same) =
        let is : y ≡ x = some_same (sym at ∙ ap (slice_get es) (sym same) ∙ there) in
        subst (λ (z : Entry). may_have more z.0.addr z.0.bits ≡ true) is
        (ap (λ b. may_have more b y.0.bits) (sym e) ∙ ap (may_have more a) (sym f) ∙ knows.noted)
    by (inr other) = knows.kept x.0.addr x.0.bits (before k x (omega (arith, l, other)) there)

pub known-all : (es : List Entry) (words : List ℕ) (p : ℕ) → AreKnownBefore p words es → length es ≤ p → AreKnown words es
known-all es words p before whole k d l = before k _ (omega (arith, whole, l)) (slice_get-get_or es k d l)
