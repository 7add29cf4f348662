-- Texts of prefixes: the cut at the first slash, the length after it, and what its two parts write.
use Rattle.std.proofs.Common.{ℕ, List, [], ◌∷◌, ◌++◌, ◌≡◌, ◌≤◌, ◌<◌, ◌+◌, Bool, true, false, cond, nat_eq, nat_lt, Option, Some, None, length, get_or, take, drop, position, decimal, refl, sym, ap, subst, arith, inl, inr, one-add, eqb-true, ltb-true, ltb-false, lt-ltb, ◌∙◌}
use Rattle.std.specs.List.{list_all, prefix_len}
use Rattle.std.proofs.lemmas.Bool.{and_from, and_parts, cond-true, cond-false}
use Rattle.std.proofs.lemmas.Bool.Decides.{nat_tests}
use Rattle.std.proofs.lemmas.List.{drop-drop}
use Rattle.std.proofs.lemmas.List.Folds.{list_all-append}
use Rattle.std.proofs.lemmas.List.Sums.{split_at_first, passes_at_first}
use Rattle.pfs_addr_values.specs.Addresses.{IsAddr, IsAddrText, width_of}
use Rattle.pfs_addr.proofs.PieceLaws.{addr_text_lacks}
use Rattle.pfs_addr_values.specs.Numbers.{number_of}
use Rattle.pfs_addr.specs.PrefixParts.{PartsText, is_no_slash, is_padded, small_of, length_of}
use Rattle.pfs_addr_values.specs.Prefixes.{Network, PrefixText, network_of}
use Rattle.pfs_addr_values.specs.declared.addresses.Addr.{Addr}
use Rattle.pfs_addr_values.specs.declared.addresses.Addr.TheVariants.{V4, V6}
use Rattle.pfs_addr.proofs.NumberLaws.{decimal_bare, decimal_of_number, number_of-decimal, number_parts}

-- the text of an address has no slash
addr_text_no_slash : (text : List ℕ) (a : Addr) → IsAddr a → IsAddrText text a → list_all is_no_slash text ≡ true
addr_text_no_slash text a h k = addr_text_lacks text a h k

-- ---- a text cut at its first slash

front_step : (x : ℕ) (xs : List ℕ) (b : Bool) → is_no_slash x ≡ b → list_all is_no_slash (take (prefix_len is_no_slash xs) xs) ≡ true
    → list_all is_no_slash (take (cond b (1 + prefix_len is_no_slash xs) 0) (x ∷ xs)) ≡ true
front_step x xs true e h = rw one-add (and_from _ _ e h)
front_step x xs false e h = refl

front_plain : (xs : List ℕ) → list_all is_no_slash (take (prefix_len is_no_slash xs) xs) ≡ true
front_plain [] = refl
front_plain (x ∷ xs) = front_step x xs (is_no_slash x) refl (front_plain xs)

none_step : (x : ℕ) (xs : List ℕ) (b : Bool) → is_no_slash x ≡ b → (nat_lt (prefix_len is_no_slash xs) (length xs) ≡ false → list_all is_no_slash xs ≡ true)
    → nat_lt (cond b (1 + prefix_len is_no_slash xs) 0) (length (x ∷ xs)) ≡ false → list_all is_no_slash (x ∷ xs) ≡ true
none_step x xs true e h k = let low : nat_lt (prefix_len is_no_slash xs) (length xs) ≡ false = grind (arith, nat_tests) in and_from _ _ e (h low)
none_step x xs false e h k = absurd (omega (arith, ltb-false _ _ k))

none_plain : (xs : List ℕ) → nat_lt (prefix_len is_no_slash xs) (length xs) ≡ false → list_all is_no_slash xs ≡ true
none_plain [] h = refl
none_plain (x ∷ xs) h = none_step x xs (is_no_slash x) refl (none_plain xs) h

place_by : (n len i : ℕ) (b : Bool) → nat_lt n len ≡ b → ◌≡◌ {A = Option ℕ} (Some i) (cond b (Some n) None) → (n < len) × (i ≡ n)
place_by n len i true e h = (ltb-true _ _ e, cc)
place_by n len i false e h = absurd (cc h)

none_by : (n len : ℕ) (b : Bool) → nat_lt n len ≡ b → ◌≡◌ {A = Option ℕ} None (cond b (Some n) None) → nat_lt n len ≡ false
none_by n len true e h = absurd (cc h)
none_by n len false e h = e

-- where no slash is found there is none
pub no_place : (text : List ℕ) → None ≡ position (λ b. nat_eq b 47) text → list_all is_no_slash text ≡ true
no_place text h = none_plain text (none_by (prefix_len is_no_slash text) (length text) (nat_lt (prefix_len is_no_slash text) (length text)) refl h)

-- the parts before and after the place of the first slash
pub cut_parts : (text front back behind : List ℕ) (i : ℕ) → Some i ≡ position (λ b. nat_eq b 47) text → front ≡ take i text → back ≡ drop i text → behind ≡ drop 1 back
    → (list_all is_no_slash front ≡ true) × (text ≡ front ++ 47 ∷ behind)
cut_parts text front back behind i e hf hb hd =
    let place = place_by (prefix_len is_no_slash text) (length text) i (nat_lt (prefix_len is_no_slash text) (length text)) refl e in
    let front_is : front ≡ take (prefix_len is_no_slash text) text = hf ∙ ap (λ (n : ℕ). take n text) place.1 in
    let behind_is : behind ≡ drop (prefix_len is_no_slash text + 1) text =
    hd ∙ (ap (λ (t : List ℕ). drop 1 t) hb ∙ (drop-drop 1 i text ∙ ap (λ (n : ℕ). drop (n + 1) text) place.1)) in
    let slash : get_or text (prefix_len is_no_slash text) 0 ≡ 47 = eqb-true _ _ (passes_at_first (λ b. nat_eq b 47) text 0 place.0) in (
      subst (λ t. list_all is_no_slash t ≡ true) (sym front_is) (front_plain text),
      split_at_first (λ b. nat_eq b 47) text 0 place.0
          ∙ (ap (λ (c : ℕ). take (prefix_len is_no_slash text) text ++ c ∷ drop (prefix_len is_no_slash text + 1) text) slash
          ∙ (ap (λ (t : List ℕ). t ++ 47 ∷ drop (prefix_len is_no_slash text + 1) text) (sym front_is)
          ∙ ap (λ (t : List ℕ). front ++ 47 ∷ t) (sym behind_is))),
    )

-- a text with a slash is not one without
slash_found : (front behind : List ℕ) → list_all is_no_slash (front ++ 47 ∷ behind) ≡ true → ⊥
slash_found front behind h =
    let k = and_parts (list_all is_no_slash front) (list_all is_no_slash (47 ∷ behind)) (sym (list_all-append is_no_slash front (47 ∷ behind)) ∙ h) in
    cc (k.1)

-- a text is cut at its first slash in one way
cut_same : (xs ys us vs : List ℕ) → list_all is_no_slash xs ≡ true → list_all is_no_slash us ≡ true → xs ++ 47 ∷ ys ≡ us ++ 47 ∷ vs → (xs ≡ us) × (ys ≡ vs)
cut_same [] ys [] vs h k e = (refl, cc)
cut_same [] ys (u ∷ us) vs h k e =
    let first : 47 ≡ u = cc in
    let plain : is_no_slash u ≡ true = (and_parts (is_no_slash u) (list_all is_no_slash us) k).0 in
    absurd (cc (subst (λ c. is_no_slash c ≡ true) (sym first) plain))
cut_same (x ∷ xs) ys [] vs h k e =
    let first : x ≡ 47 = cc in
    let plain : is_no_slash x ≡ true = (and_parts (is_no_slash x) (list_all is_no_slash xs) h).0 in
    absurd (cc (subst (λ c. is_no_slash c ≡ true) first plain))
cut_same (x ∷ xs) ys (u ∷ us) vs h k e =
    let first : x ≡ u = cc in
    let rest : xs ++ 47 ∷ ys ≡ us ++ 47 ∷ vs = cc in
    let more = cut_same xs ys us vs (and_parts (is_no_slash x) (list_all is_no_slash xs) h).1 (and_parts (is_no_slash u) (list_all is_no_slash us) k).1 rest in
    (cc (more.0), more.1)

-- ---- the length of a prefix in words

small_by : (n : ℕ) (o : Option ℕ) → small_of o ≡ Some n → (o ≡ Some n) × (n < 256)
small_by n None h = absurd (cc h)
small_by n (Some m) h = small_step m n (nat_lt m 256) refl h
  where
    small_step : (m n : ℕ) (b : Bool) → nat_lt m 256 ≡ b → ◌≡◌ {A = Option ℕ} (cond b (Some m) None) (Some n) → ◌≡◌ {A = Option ℕ} (Some m) (Some n) × (n < 256)
    small_step m n true e k = let same : m ≡ n = cc in (k, subst (λ q. q < 256) same (ltb-true _ _ e))
    small_step m n false e k = absurd (cc k)

small_some : (n : ℕ) → n < 256 → small_of (Some n) ≡ Some n
small_some n h = cond-true (nat_lt n 256) (Some n) None (lt-ltb n 256 h)

unpadded : (text : List ℕ) → is_padded text ≡ false → 0 < length text → get_or text 0 0 ≡ 48 → length text ≡ 1
unpadded text h some zero_first = grind (arith, nat_tests)

-- what is read as a length is the decimal text of a number that a byte can hold
pub length_some : (text : List ℕ) (n : ℕ) → length_of text ≡ Some n → (text ≡ decimal n) × (n < 256)
unfolding length_of
length_some text n h = length_by (is_padded text) refl h
  where
    length_by : (b : Bool) → is_padded text ≡ b → ◌≡◌ {A = Option ℕ} (cond b None (small_of (number_of text))) (Some n) → (text ≡ decimal n) × (n < 256)
    length_by true e k = absurd (cc k)
    length_by false e k =
        let small = small_by n (number_of text) k in
        (decimal_of_number text n small.0 (unpadded text e (number_parts text n small.0).some), small.1)

-- the decimal text of a number that a byte can hold is read as it
pub length_decimal : (n : ℕ) → n < 256 → length_of (decimal n) ≡ Some n
unfolding length_of
length_decimal n h =
    let bare : get_or (decimal n) 0 0 ≡ 48 → length (decimal n) ≡ 1 = decimal_bare n (omega arith) in
    let plain : is_padded (decimal n) ≡ false = grind (arith, nat_tests) in
    cond-false (is_padded (decimal n)) None (small_of (number_of (decimal n))) plain
    ∙ (ap small_of (number_of-decimal n (omega arith)) ∙ small_some n h)

-- ---- the texts of prefixes

width_small : (a : Addr) → width_of a < 256
width_small (V4 bytes) = omega arith
width_small (V6 bytes) = omega arith

-- a text without a slash that writes a prefix is the text of an address alone
pub whole_text : (text : List ℕ) (p : Network) → list_all is_no_slash text ≡ true → PrefixText text p → (a : Addr) × IsAddr a × IsAddrText text a × (p ≡ network_of a (width_of a))
whole_text text p plain h =
    elim h.spelled [
      | inl e ↦ (h.addr, h.is_addr, subst (λ t. IsAddrText t h.addr) (sym e.0) h.address, h.of ∙ ap (network_of h.addr) e.1)
      | inr e ↦ absurd (slash_found h.before (decimal p.bits) (subst (λ t. list_all is_no_slash t ≡ true) e plain))
    ]

-- a text that is cut at its slash and writes a prefix has an address and a length
pub cut_text : (text front behind : List ℕ) (p : Network) → list_all is_no_slash front ≡ true → text ≡ front ++ 47 ∷ behind → PrefixText text p → PartsText front behind p
cut_text text front behind p plain cut h =
    elim h.spelled [
      | inl e ↦ absurd (slash_found front behind (subst (λ t. list_all is_no_slash t ≡ true) (sym e.0 ∙ cut) (addr_text_no_slash h.before h.addr h.is_addr h.address)))
      | inr e ↦
          let same = cut_same front behind h.before (decimal p.bits) plain (addr_text_no_slash h.before h.addr h.is_addr h.address) (sym cut ∙ e) in
          record { addr = h.addr; is_addr = h.is_addr; short = h.short; of = h.of; spelled = subst (λ t. IsAddrText t h.addr) (sym same.0) h.address; counted = same.1 }
    ]

-- the length of parts that write a prefix is read
pub parts_length : (address length : List ℕ) (p : Network) → PartsText address length p → length_of length ≡ Some p.bits
parts_length address length p h =
    let low : p.bits < 256 = omega (arith, h.short, width_small h.addr) in
    ap length_of h.counted ∙ length_decimal p.bits low

-- what is read of the parts is the prefix that they write
pub parts_same : (address length : List ℕ) (a : Addr) (bits : ℕ) (p : Network) (read : Option Addr)
    → ((b : Addr) → IsAddr b → IsAddrText address b → read ≡ Some b) → read ≡ Some a → length_of length ≡ Some bits → PartsText address length p
    → (bits ≤ width_of a) × (p ≡ network_of a bits)
parts_same address length a bits p read only is_a is_bits h =
    let other : read ≡ Some h.addr = only h.addr h.is_addr h.spelled in
    let same_addr : h.addr ≡ a = cc in
    let counted : length_of length ≡ Some p.bits = parts_length address length p h in
    let same_bits : p.bits ≡ bits = cc in (
      subst (λ n. n ≤ width_of a) same_bits (subst (λ b. p.bits ≤ width_of b) same_addr h.short),
      h.of ∙ (ap (λ (b : Addr). network_of b p.bits) same_addr ∙ ap (network_of a) same_bits),
    )

-- the parts write what is read of them
pub parts_read : (address length : List ℕ) (a : Addr) (bits : ℕ) (p : Network) → IsAddr a → IsAddrText address a → length_of length ≡ Some bits → bits ≤ width_of a → p ≡ network_of a bits
    → PartsText address length p
parts_read address length a bits p is_a spelled counted short e =
    let same : p.bits ≡ bits = ap (λ (q : Network). q.bits) e in
    record {
      addr = a;
      is_addr = is_a;
      short = subst (λ n. n ≤ width_of a) (sym same) short;
      of = e ∙ ap (network_of a) (sym same);
      spelled = spelled;
      counted = (length_some length bits counted).0 ∙ ap decimal (sym same);
    }
