-- The texts of IPv6 addresses: which are read, and that the one that is written is.
use Rattle.std.proofs.Common.{if◌then◌else◌, ℕ, zero, suc, List, [], ◌∷◌, ◌++◌, ◌≡◌, ◌≤◌, ◌<◌, ◌+◌, ◌-◌, ◌*◌, ◌/◌, ◌%◌, ◌^◌, Bool, true, false, not, ◌||◌, nat_eq, Option, Some, None, option_map, decimal, length, length-append, replicate, get_or, inl, inr, refl, sym, ap, ◌∙◌, arith, lit≤, subst, append-nil, append_assoc}
use Rattle.std.specs.Prelude.{All}
use Rattle.std.specs.List.{list_all, list_any}
use Rattle.std.specs.Str.Parse.{AllDigits}
use Rattle.std.specs.declared.net.ipv6_addr.Ipv6Addr.{Ipv6Addr}
use Rattle.std.specs.Net.Addr.{segments_of, octets_of, ipv6_octets, ipv6_segments}
use Rattle.std.specs.Net.Grammar.{IsDotted, IsGroupsAfter, IsColonHex, IsIpv6Text}
use Rattle.std.specs.Net.Reader.{read_ipv6, whole_value}
use Rattle.std.proofs.lemmas.Bool.{and_from, and_left, and_parts, and_right, or_left, or_parts, or_right, cond-true, cond-false}
use Rattle.std.proofs.lemmas.Bool.Decides.{nat_tests}
use Rattle.std.proofs.lemmas.List.{length-replicate, nil_from_length}
use Rattle.std.proofs.lemmas.List.Elements.{All-nil, All-cons, All-append, All-head, All-tail}
use Rattle.std.proofs.lemmas.List.Folds.{list_all-append}
use Rattle.std.proofs.lemmas.Int.Digits.{digits_value-lt}
use Rattle.std.proofs.Math.Nat.{pow-le-pow_right}
use Rattle.std.proofs.NetLemmas.Alphabet.{IsHexOrColon, All-hex_groups_text}
use Rattle.std.proofs.NetLemmas.Ipv6.{read_ipv6_complete, read_ipv6_sound, EndsGroups-nil}
use Rattle.std.proofs.NetLemmas.Options.{and_then_some, map_some, cond_some}
use Rattle.std.proofs.NetLemmas.Texts.{AllSegments, IsColonHex-hex_groups_text}
use Rattle.pfs_addr.proofs.NumberLaws.{decimal_digits}
use Rattle.pfs_addr_values.specs.Addresses.{IsAddr, IsAddrText, addr_text, is_no_dot}
use Rattle.pfs_addr_values.specs.Numbers.{is_digit}
use Rattle.pfs_addr.specs.PrefixParts.{is_no_slash}
use Rattle.pfs_addr.specs.Texts.{groups_of}
use Rattle.pfs_addr_values.specs.declared.addresses.Addr.{Addr}
use Rattle.pfs_addr_values.specs.declared.addresses.Addr.TheVariants.{V6}

abbrev IsByte : ℕ → Type 0
IsByte b = b < 256

abbrev IsSegment : ℕ → Type 0
IsSegment s = s < 65536

-- ---- sixteen bytes and eight groups

octets_back : (n : ℕ) (xs : List ℕ) → length xs ≡ 2 * n → All IsByte xs → octets_of (segments_of xs) ≡ xs
octets_back n [] even small = refl
octets_back n (a ∷ []) even small = absurd (omega arith)
octets_back n (a ∷ b ∷ xs) even small =
    let fits : b < 256 = All-head IsByte b xs (All-tail IsByte a (b ∷ xs) small) in
    let high : (a * 256 + b) / 256 ≡ a = omega arith in
    let low : (a * 256 + b) % 256 ≡ b = omega arith in
    let rest = octets_back (n - 1) xs (omega arith) (All-tail IsByte b xs (All-tail IsByte a (b ∷ xs) small)) in
    λ i. high i ∷ low i ∷ rest i

segments_back : (xs : List ℕ) → segments_of (octets_of xs) ≡ xs
segments_back [] = refl
segments_back (s ∷ xs) =
    let whole : s / 256 * 256 + s % 256 ≡ s = omega arith in
    λ i. whole i ∷ segments_back xs i

length_octets : (xs : List ℕ) → length (octets_of xs) ≡ 2 * length xs
length_octets [] = refl
length_octets (s ∷ xs) = omega (arith, length_octets xs)

octets_small : (xs : List ℕ) → All IsSegment xs → All IsByte (octets_of xs)
octets_small [] h = All-nil IsByte
octets_small (s ∷ xs) h =
    let fits : s < 65536 = All-head IsSegment s xs h in
    let high : s / 256 < 256 = omega arith in
    let low : s % 256 < 256 = omega arith in
    All-cons IsByte (s / 256) (s % 256 ∷ octets_of xs) high (All-cons IsByte (s % 256) (octets_of xs) low (octets_small xs (All-tail IsSegment s xs h)))

-- eight groups of sixteen bits are an address
octets_are : (xs : List ℕ) → length xs ≡ 8 → All IsSegment xs → IsAddr (V6 (octets_of xs))
octets_are xs eight small = (omega (arith, length_octets xs), octets_small xs small)

bytes_back : (bytes : List ℕ) → IsAddr (V6 bytes) → octets_of (segments_of bytes) ≡ bytes
bytes_back bytes h = octets_back 8 bytes h.0 h.1

length_segments : (n : ℕ) (xs : List ℕ) → length xs ≡ 2 * n → length (segments_of xs) ≡ n
length_segments n [] even = omega arith
length_segments n (a ∷ []) even = absurd (omega arith)
length_segments n (a ∷ b ∷ xs) even = omega (arith, length_segments (n - 1) xs (omega arith))

pub segments_small : (xs : List ℕ) → All IsByte xs → AllSegments (segments_of xs)
segments_small [] h k = omega arith
segments_small (a ∷ []) h k = omega arith
segments_small (a ∷ b ∷ xs) h k =
    let first : a < 256 = All-head IsByte a (b ∷ xs) h in
    let second : b < 256 = All-head IsByte b xs (All-tail IsByte a (b ∷ xs) h) in
    let later = segments_small xs (All-tail IsByte b xs (All-tail IsByte a (b ∷ xs) h)) in
    elim k as (λ j. get_or ((a * 256 + b) ∷ segments_of xs) j 0 < 2 ^ 16) [ zero ↦ omega arith | suc j ↦ later j ]

-- ---- the groups of a text

-- the groups are of sixteen bits, and no slash is between them
record AreGood (text segments : List ℕ) : Type 0 where
  slashless : list_all is_no_slash text ≡ true
  small : All IsSegment segments

both : (p : ℕ → Bool) (xs ys : List ℕ) → list_all p xs ≡ true → list_all p ys ≡ true → list_all p (xs ++ ys) ≡ true
both p xs ys h k = list_all-append p xs ys ∙ and_from _ _ h k

digits_plain : (ds : List ℕ) → AllDigits 16 ds → list_all is_no_slash ds ≡ true
digits_plain [] h = refl
digits_plain (d ∷ ds) h =
    let other : is_no_slash d ≡ true = grind (arith, nat_tests, h.0) in
    and_from _ _ other (digits_plain ds h.1)

decimal_plain : (n : ℕ) → n < 256 → list_all is_no_slash (decimal n) ≡ true
decimal_plain n h = go (decimal n) (decimal_digits n (omega arith))
  where
    go : (ds : List ℕ) → list_all is_digit ds ≡ true → list_all is_no_slash ds ≡ true
    go [] k = refl
    go (d ∷ ds) k =
        let p = and_parts (is_digit d) (list_all is_digit ds) k in
        let other : is_no_slash d ≡ true = grind (arith, nat_tests, p.0) in
        and_from _ _ other (go ds p.1)

dotted_plain : (text octets : List ℕ) → IsDotted text octets → list_all is_no_slash text ≡ true
dotted_plain text octets h =
    let (fa, fb, fc, fd) = h.fit in
    let dot : list_all is_no_slash (46 ∷ []) ≡ true = refl in
    let first = both is_no_slash (decimal h.a ++ 46 ∷ []) (decimal h.b) (both is_no_slash (decimal h.a) (46 ∷ []) (decimal_plain h.a fa) dot) (decimal_plain h.b fb) in
    let second = both is_no_slash (decimal h.a ++ 46 ∷ [] ++ decimal h.b ++ 46 ∷ []) (decimal h.c) (both is_no_slash (decimal h.a ++ 46 ∷ [] ++ decimal h.b) (46 ∷ []) first dot) (decimal_plain h.c fc) in
    let third = both is_no_slash (decimal h.a ++ 46 ∷ [] ++ decimal h.b ++ 46 ∷ [] ++ decimal h.c ++ 46 ∷ []) (decimal h.d) (both is_no_slash (decimal h.a ++ 46 ∷ [] ++ decimal h.b ++ 46 ∷ [] ++ decimal h.c) (46 ∷ []) second dot) (decimal_plain h.d fd) in
    ap (list_all is_no_slash) h.spelled ∙ third

pairs_small : (a b c d : ℕ) → a < 256 → b < 256 → c < 256 → d < 256 → All IsSegment (segments_of (a ∷ b ∷ c ∷ d ∷ []))
pairs_small a b c d ha hb hc hd =
    let high : a * 256 + b < 65536 = omega arith in
    let low : c * 256 + d < 65536 = omega arith in
    All-cons IsSegment (a * 256 + b) ((c * 256 + d) ∷ []) high (All-cons IsSegment (c * 256 + d) [] low (All-nil IsSegment))

dotted_small : (text octets : List ℕ) → IsDotted text octets → All IsSegment (segments_of octets)
dotted_small text octets h =
    let (fa, fb, fc, fd) = h.fit in
    subst (λ o. All IsSegment (segments_of o)) (sym h.value) (pairs_small h.a h.b h.c h.d fa fb fc fd)

groups_good : (ipv4 : Bool) (lead text segments : List ℕ) → list_all is_no_slash lead ≡ true → IsGroupsAfter ipv4 lead text segments → AreGood text segments
groups_good ipv4 lead text [] plain h =
    record { slashless = ap (list_all is_no_slash) h; small = All-nil IsSegment }
groups_good ipv4 lead text (s ∷ segments) plain (inl h) =
    let (group, rest, split, is_group, more) = h in
    let later = groups_good ipv4 (58 ∷ []) rest segments refl more in
    let below = digits_value-lt 16 group is_group.0.0.1 in
    let most : 16 ^ length group ≤ 16 ^ 4 = pow-le-pow_right (lit≤ tt) is_group.1 in
    let fits : s < 65536 = omega (arith, is_group.0.1) in
    record {
      slashless = ap (list_all is_no_slash) split ∙ both is_no_slash (lead ++ group) rest (both is_no_slash lead group plain (digits_plain group is_group.0.0.1)) later.slashless;
      small = All-cons IsSegment s segments fits later.small;
    }
groups_good ipv4 lead text (s ∷ segments) plain (inr h) =
    let (last, octets, allowed, split, dotted, value) = h in
    record {
      slashless = ap (list_all is_no_slash) split ∙ both is_no_slash lead last plain (dotted_plain last octets dotted);
      small = subst (All IsSegment) (sym value) (dotted_small last octets dotted);
    }

All_both : (xs ys : List ℕ) → All IsSegment xs → All IsSegment ys → All IsSegment (xs ++ ys)
All_both xs ys h k = All-append IsSegment xs ys h k

zeros_small : (n : ℕ) → All IsSegment (replicate n 0)
zeros_small zero = All-nil IsSegment
zeros_small (suc n) = All-cons IsSegment 0 (replicate n 0) (omega arith) (zeros_small n)

colon_hex_good : (text segments : List ℕ) → IsColonHex text segments → AreGood text segments
colon_hex_good text segments (inl h) = groups_good true [] text segments refl h.0
colon_hex_good text segments (inr h) =
    let head = groups_good false [] h.head_text h.head refl h.head_groups in
    let tail = groups_good true [] h.tail_text h.tail refl h.tail_groups in
    record {
      slashless = ap (list_all is_no_slash) h.spelled ∙ both is_no_slash (h.head_text ++ 58 ∷ 58 ∷ []) h.tail_text (both is_no_slash h.head_text (58 ∷ 58 ∷ []) head.slashless refl) tail.slashless;
      small = subst (All IsSegment) (sym h.value) (All_both (h.head ++ replicate (8 - length h.head - length h.tail) 0) h.tail (All_both h.head (replicate (8 - length h.head - length h.tail) 0) head.small (zeros_small (8 - length h.head - length h.tail))) tail.small);
    }

colon_hex_eight : (text segments : List ℕ) → IsColonHex text segments → length segments ≡ 8
colon_hex_eight text segments (inl h) = h.1
colon_hex_eight text segments (inr h) =
    ap length h.value ∙ omega (arith, h.room, length-append (h.head ++ replicate (8 - length h.head - length h.tail) 0) h.tail, length-append h.head (replicate (8 - length h.head - length h.tail) 0), length-replicate {A = ℕ} (8 - length h.head - length h.tail) 0)

-- ---- a text of groups has a colon

any_at : (c : ℕ) (xs ys : List ℕ) → list_any (λ b. nat_eq b c) (xs ++ c ∷ ys) ≡ true
any_at c [] ys =
    let same : nat_eq c c ≡ true = grind (arith, nat_tests) in
    or_left (nat_eq c c) (list_any (λ b. nat_eq b c) ys) same
any_at c (x ∷ xs) ys = or_right (nat_eq x c) (list_any (λ b. nat_eq b c) (xs ++ c ∷ ys)) (any_at c xs ys)

more_colon : (ipv4 : Bool) (text : List ℕ) (s : ℕ) (segments : List ℕ) → IsGroupsAfter ipv4 (58 ∷ []) text (s ∷ segments) → (t : List ℕ) × (text ≡ 58 ∷ t)
more_colon ipv4 text s segments (inl h) = (_, h.2)
more_colon ipv4 text s segments (inr h) = (_, h.3)

groups_colon : (text : List ℕ) (s t : ℕ) (segments : List ℕ) → 0 < length segments → IsGroupsAfter true [] text (s ∷ t ∷ segments) → list_any (λ b. nat_eq b 58) text ≡ true
groups_colon text s t segments more (inl h) =
    let (group, rest, split, is_group, later) = h in
    let (behind, begins) = more_colon true rest t segments later in
    ap (list_any (λ b. nat_eq b 58)) (split ∙ ap (λ (r : List ℕ). [] ++ group ++ r) begins) ∙ any_at 58 group behind
groups_colon text s t segments more (inr h) =
    let (last, octets, allowed, split, dotted, value) = h in
    absurd (omega (arith, more, ap length (value ∙ ap segments_of dotted.value)))

pub colon_hex_colon : (text segments : List ℕ) → IsColonHex text segments → list_any (λ b. nat_eq b 58) text ≡ true
colon_hex_colon text (s ∷ t ∷ u ∷ segments) (inl h) = groups_colon text s t (u ∷ segments) (omega arith) h.0
colon_hex_colon text segments (inl h) = absurd (omega (arith, h.1))
colon_hex_colon text segments (inr h) = ap (list_any (λ b. nat_eq b 58)) (h.spelled ∙ append_assoc h.head_text (58 ∷ 58 ∷ []) h.tail_text) ∙ any_at 58 h.head_text (58 ∷ h.tail_text)

-- ---- what is read

pub whole_groups : (text segments : List ℕ) → IsColonHex text segments → whole_value (read_ipv6 text) ≡ Some segments
whole_groups text segments spelled =
    ap whole_value (ap read_ipv6 (sym (append-nil text)) ∙ read_ipv6_complete text segments [] spelled EndsGroups-nil)

pub groups_whole : (text segments : List ℕ) → whole_value (read_ipv6 text) ≡ Some segments → IsColonHex text segments
groups_whole text segments e =
    and_then_some _ (read_ipv6 text) segments e λ p read kept.
    let (ended, same) = cond_some _ _ _ kept in
    let (front, split, spelled) = read_ipv6_sound text p.0 p.1 read in
    let none : p.1 ≡ [] = nil_from_length p.1 (grind (arith, nat_tests, ended)) in
    let text_is : text ≡ front = split ∙ (ap (λ r. front ++ r) none ∙ append-nil front) in
    subst (λ t. IsColonHex t segments) (sym text_is) (subst (λ x. IsColonHex front x) same spelled)

pub groups_of_text : (text bytes : List ℕ) → IsAddr (V6 bytes) → IsAddrText text (V6 bytes) → groups_of text ≡ Some (V6 bytes)
unfolding groups_of
groups_of_text text bytes h k =
    cond-true (list_all is_no_dot text) _ None k.1
    ∙ (ap (λ o. option_map (λ xs. V6 (octets_of xs)) o) (whole_groups text (segments_of bytes) k.0)
    ∙ ap (λ (bs : List ℕ). Some (V6 bs)) (bytes_back bytes h))

pub groups_of_parts : (text : List ℕ) (a : Addr) → groups_of text ≡ Some a → (bytes : List ℕ) × (a ≡ V6 bytes) × IsAddr (V6 bytes) × IsAddrText text (V6 bytes)
unfolding groups_of
groups_of_parts text a e =
    let (plain, read) = cond_some_of (list_all is_no_dot text) (option_map (λ xs. V6 (octets_of xs)) (whole_value (read_ipv6 text))) a e in
    map_some _ (whole_value (read_ipv6 text)) a read λ xs whole same.
    let spelled = groups_whole text xs whole in (
      octets_of xs,
      sym same,
      octets_are xs (colon_hex_eight text xs spelled) (colon_hex_good text xs spelled).small,
      (subst (IsColonHex text) (sym (segments_back xs)) spelled, plain),
    )
  where
    cond_some_of : (b : Bool) (o : Option Addr) (x : Addr) → (if b then o else None) ≡ Some x → (b ≡ true) × (o ≡ Some x)
    cond_some_of true o x h = (refl, h)
    cond_some_of false o x h = absurd (cc h)

pub groups_slashless : (text bytes : List ℕ) → IsAddrText text (V6 bytes) → list_all is_no_slash text ≡ true
groups_slashless text bytes k = (colon_hex_good text (segments_of bytes) k.0).slashless

-- ---- what is written

no_dots : (xs : List ℕ) → All IsHexOrColon xs → list_all is_no_dot xs ≡ true
no_dots [] h = refl
no_dots (x ∷ xs) h =
    let hex : IsHexOrColon x = All-head IsHexOrColon x xs h in
    let other : is_no_dot x ≡ true = elim hex [ inl r ↦ grind (arith, nat_tests, r) | inr r ↦ grind (arith, nat_tests, r) ] in
    and_from _ _ other (no_dots xs (All-tail IsHexOrColon x xs h))

-- the text that is written of an IPv6 address is one of its texts
pub short_text : (bytes : List ℕ) → IsAddr (V6 bytes) → IsAddrText (addr_text (V6 bytes)) (V6 bytes)
short_text bytes h =
    let fits = segments_small bytes h.1 in
    (IsColonHex-hex_groups_text (segments_of bytes) (length_segments 8 bytes h.0) fits, no_dots _ (All-hex_groups_text (segments_of bytes) fits))

-- ---- a reader that looks for a dot first, and then for groups

dot_found : (text : List ℕ) → true ≡ list_any (λ b. nat_eq b 46) text → list_all is_no_dot text ≡ false
dot_found [] e = absurd (cc e)
dot_found (b ∷ bs) e = go (nat_eq b 46) refl e (dot_found bs)
  where
    go : (x : Bool) → nat_eq b 46 ≡ x → true ≡ (x || list_any (λ c. nat_eq c 46) bs)
        → (true ≡ list_any (λ c. nat_eq c 46) bs → list_all is_no_dot bs ≡ false) → list_all is_no_dot (b ∷ bs) ≡ false
    go true f g later = and_left (is_no_dot b) (list_all is_no_dot bs) (ap not f)
    go false f g later = and_right (is_no_dot b) (list_all is_no_dot bs) (later g)

dot_missing : (text : List ℕ) → false ≡ list_any (λ b. nat_eq b 46) text → list_all is_no_dot text ≡ true
dot_missing [] e = refl
dot_missing (b ∷ bs) e =
    let p = or_parts (nat_eq b 46) (list_any (λ c. nat_eq c 46) bs) (sym e) in
    and_from (is_no_dot b) (list_all is_no_dot bs) (ap not p.0) (dot_missing bs (sym p.1))

pub dots_none : (text : List ℕ) → true ≡ list_any (λ b. nat_eq b 46) text → None ≡ groups_of text
unfolding groups_of
dots_none text e = sym (cond-false (list_all is_no_dot text) _ None (dot_found text e))

pub groups_some : (text : List ℕ) (a : Ipv6Addr) → false ≡ list_any (λ b. nat_eq b 46) text → IsIpv6Text text a → Some (V6 (ipv6_octets a)) ≡ groups_of text
unfolding groups_of
groups_some text a e k =
    sym (cond-true (list_all is_no_dot text) _ None (dot_missing text e)
    ∙ ap (λ o. option_map (λ xs. V6 (octets_of xs)) o) (whole_groups text (ipv6_segments a) k))

pub groups_none : (text : List ℕ) → ((a : Ipv6Addr) → IsIpv6Text text a → ⊥) → None ≡ groups_of text
groups_none text never = none_of (groups_of text) refl
  where
    none_of : (o : Option Addr) → groups_of text ≡ o → None ≡ o
    none_of None is = refl
    none_of (Some a) is =
        let (bytes, a_is, fine, spelled) = groups_of_parts text a is in
        absurd (never (record { segments = segments_of bytes }) spelled.0)
