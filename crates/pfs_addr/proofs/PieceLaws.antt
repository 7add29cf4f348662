-- The address of a text is the one whose text it is; the same of prefixes.
use Rattle.std.proofs.Common.{if◌then◌else◌, ℕ, List, [], ◌∷◌, ◌++◌, ◌≡◌, ◌≤◌, ◌<◌, ◌^◌, ◌/◌, inl, inr, Bool, true, false, not, ◌&&◌, nat_le, nat_lt, nat_eq, Option, Some, None, length, get_or, decimal, refl, sym, ap, ◌∙◌, arith, rules, subst}
use Rattle.std.specs.List.{list_all, list_any, slice_split, onto_first, join_with_byte}
use Rattle.std.proofs.lemmas.Bool.{and_from, and_parts, or_from, cond-true, cond-false, true≢false}
use Rattle.std.proofs.lemmas.Bool.Decides.{nat_tests}
use Rattle.std.proofs.lemmas.List.Splits.{join_with_byte-slice_split}
use Rattle.pfs_addr.proofs.NumberLaws.{decimal_digits, decimal_of_number, decimal_bare, number_of-decimal}
use Rattle.pfs_addr.proofs.ByteLaws.{is_addr_byte, dotted_bytes}
use Rattle.pfs_addr.proofs.GroupLaws.{colon_hex_colon, groups_of_text, groups_of_parts, groups_slashless, short_text}
use Rattle.std.proofs.lemmas.Option.{same_Some}
use Rattle.std.specs.Net.Addr.{segments_of}
use Rattle.pfs_addr_values.specs.Numbers.{is_digit, number_of}
use Rattle.std.specs.Prelude.{All, IfSome}
use Rattle.std.proofs.lemmas.List.Elements.{All-from_get_or, All-get_or}
use Rattle.pfs_addr_values.specs.Addresses.{IsAddr, IsAddrText, addr_text, bytes_of, dotted_decimal, width_of}
use Rattle.pfs_addr_values.specs.declared.addresses.Addr.{Addr}
use Rattle.pfs_addr_values.specs.declared.addresses.Addr.TheVariants.{V4, V6}
use Rattle.pfs_addr_values.specs.Prefixes.{Network, network_of, PrefixText}
use Rattle.pfs_addr.specs.Texts.{up_to, bare_number, four_bytes, quad, quad_of, groups_of, addr_of, with_length, alone, cut_at, prefix_of_pieces, prefix_of}

-- every byte of a piece is another one
abbrev pub lacks : ℕ → List ℕ → Bool
lacks c xs = list_all (λ b. not (nat_eq b c)) xs

-- a piece without the byte is not split
pub split_piece : (c : ℕ) (x : List ℕ) → lacks c x ≡ true → slice_split (λ b. nat_eq b c) x ≡ x ∷ []
split_piece c [] h = refl
split_piece c (b ∷ bs) h =
    let p = and_parts (not (nat_eq b c)) (lacks c bs) h in
    let other : nat_eq b c ≡ false = grind (arith, nat_tests) in
    cond-false (nat_eq b c) _ _ other ∙ ap (λ t. onto_first b t) (split_piece c bs p.1)

-- and the byte after it ends it
pub split_more : (c : ℕ) (x rest : List ℕ) → lacks c x ≡ true → slice_split (λ b. nat_eq b c) (x ++ c ∷ rest) ≡ x ∷ slice_split (λ b. nat_eq b c) rest
split_more c [] rest h =
    let same : nat_eq c c ≡ true = grind (arith, nat_tests) in
    cond-true (nat_eq c c) _ _ same
split_more c (b ∷ bs) rest h =
    let p = and_parts (not (nat_eq b c)) (lacks c bs) h in
    let other : nat_eq b c ≡ false = grind (arith, nat_tests) in
    cond-false (nat_eq b c) _ _ other ∙ ap (λ t. onto_first b t) (split_more c bs rest p.1)

-- digits are neither dots nor slashes
pub digits_lack : (c : ℕ) (xs : List ℕ) → c < 48 → list_all is_digit xs ≡ true → lacks c xs ≡ true
digits_lack c [] low h = refl
digits_lack c (b ∷ bs) low h =
    let p = and_parts (is_digit b) (list_all is_digit bs) h in
    let other : not (nat_eq b c) ≡ true = grind (arith, nat_tests) in
    and_from _ _ other (digits_lack c bs low p.1)

pub decimal_lacks : (c n : ℕ) → c < 48 → n < 2 ^ 64 → lacks c (decimal n) ≡ true
decimal_lacks c n low h = digits_lack c (decimal n) low (decimal_digits n h)

-- the decimal text of a number is read without a zero in front
pub bare_number_decimal : (most n : ℕ) → n ≤ most → n < 10 ^ 10 → bare_number most (decimal n) ≡ Some n
bare_number_decimal most n low h =
    let wide : n < 2 ^ 64 = omega arith in
    let within : nat_le n most ≡ true = grind (arith, nat_tests) in
    let bare : (nat_eq (get_or (decimal n) 0 0) 48 && nat_lt 1 (length (decimal n))) ≡ false = go wide (nat_eq (get_or (decimal n) 0 0) 48) refl in
    cond-false _ _ _ bare ∙ (ap (up_to most) (number_of-decimal n h) ∙ cond-true _ _ _ within)
  where
    go : n < 2 ^ 64 → (b : Bool) → nat_eq (get_or (decimal n) 0 0) 48 ≡ b → (b && nat_lt 1 (length (decimal n))) ≡ false
    go wide true e =
        let zero_first : get_or (decimal n) 0 0 ≡ 48 = grind (arith, nat_tests) in
        let one : length (decimal n) ≡ 1 = decimal_bare n wide zero_first in
        grind (arith, nat_tests)
    go wide false e = refl

-- a byte is read from its decimal text
byte_read : (n : ℕ) → n < 256 → bare_number 255 (decimal n) ≡ Some n
byte_read n h = bare_number_decimal 255 n (omega arith) (omega arith)

byte_lacks : (n : ℕ) → n < 256 → lacks 46 (decimal n) ≡ true
byte_lacks n h = decimal_lacks 46 n (omega arith) (omega arith)

-- the text of an IPv4 address is read as that address
dotted_read : (bytes : List ℕ) → IsAddr (V4 bytes) → quad_of (dotted_decimal bytes) ≡ Some (V4 bytes)
unfolding quad_of
dotted_read (a ∷ b ∷ c ∷ d ∷ []) h =
    let at : (i : ℕ) → i < 4 → get_or (a ∷ b ∷ c ∷ d ∷ []) i 0 < 256 = λ i lt. All-get_or (λ b. b < 256) (a ∷ b ∷ c ∷ d ∷ []) i 0 lt h.1 in
    let pieces : slice_split (λ x. nat_eq x 46) (dotted_decimal (a ∷ b ∷ c ∷ d ∷ [])) ≡ decimal a ∷ decimal b ∷ decimal c ∷ decimal d ∷ [] =
    split_more 46 (decimal a) _ (byte_lacks a (at 0 (omega arith)))
    ∙ (ap (λ t. decimal a ∷ t) (split_more 46 (decimal b) _ (byte_lacks b (at 1 (omega arith))))
    ∙ (ap (λ t. decimal a ∷ decimal b ∷ t) (split_more 46 (decimal c) _ (byte_lacks c (at 2 (omega arith))))
    ∙ ap (λ t. decimal a ∷ decimal b ∷ decimal c ∷ t) (split_piece 46 (decimal d) (byte_lacks d (at 3 (omega arith)))))) in
    ap quad pieces
    ∙ (ap (λ o. four_bytes o (bare_number 255 (decimal b)) (bare_number 255 (decimal c)) (bare_number 255 (decimal d))) (byte_read a (at 0 (omega arith)))
    ∙ (ap (λ o. four_bytes (Some a) o (bare_number 255 (decimal c)) (bare_number 255 (decimal d))) (byte_read b (at 1 (omega arith)))
    ∙ (ap (λ o. four_bytes (Some a) (Some b) o (bare_number 255 (decimal d))) (byte_read c (at 2 (omega arith)))
    ∙ ap (λ o. four_bytes (Some a) (Some b) (Some c) o) (byte_read d (at 3 (omega arith))))))
dotted_read _ h = absurd (omega arith)

pub quad_of_text : (text bytes : List ℕ) → IsAddr (V4 bytes) → text ≡ dotted_decimal bytes → quad_of text ≡ Some (V4 bytes)
quad_of_text text bytes h e = ap quad_of e ∙ dotted_read bytes h

-- what is read without a zero in front is the decimal text of its number
pub record IsBare (most : ℕ) (text : List ℕ) (n : ℕ) : Type 0 where
  pub spelled : text ≡ decimal n
  pub low : n ≤ most

up_to_parts : (most n : ℕ) (o : Option ℕ) → up_to most o ≡ Some n → (o ≡ Some n) × (n ≤ most)
up_to_parts most n None h = absurd (cc h)
up_to_parts most n (Some m) h = go (nat_le m most) refl h
  where
    go : (b : Bool) → nat_le m most ≡ b → (if b then Some m else None) ≡ Some n → (Some m ≡ Some n) × (n ≤ most)
    go true e f =
        let same : m ≡ n = cc f in
        let low : m ≤ most = grind (arith, nat_tests) in
        (f, subst (λ k. k ≤ most) same low)
    go false e f = absurd (cc f)

-- a text whose first byte is a zero has one
begins : (text : List ℕ) → get_or text 0 0 ≡ 48 → 0 < length text
begins [] h = absurd (omega (arith, h))
begins (x ∷ xs) h = omega arith

pub bare_parts : (most n : ℕ) (text : List ℕ) → bare_number most text ≡ Some n → IsBare most text n
bare_parts most n text h = go (nat_eq (get_or text 0 0) 48) refl (nat_lt 1 (length text)) refl h
  where
    read : (get_or text 0 0 ≡ 48 → length text ≡ 1) → up_to most (number_of text) ≡ Some n → IsBare most text n
    read bare f =
        let p = up_to_parts most n (number_of text) f in
        record { spelled = decimal_of_number text n p.0 bare; low = p.1 }

    go : (a : Bool) → nat_eq (get_or text 0 0) 48 ≡ a → (b : Bool) → nat_lt 1 (length text) ≡ b
        → (if a && b then None else up_to most (number_of text)) ≡ Some n → IsBare most text n
    go true e true f g = absurd (cc g)
    go true e false f g = read (λ zero_first. let some : 0 < length text = begins text zero_first in grind (arith, nat_tests)) g
    go false e b f g = read (λ zero_first. grind (arith, nat_tests)) g

-- four numbers below 256 are bytes
all_below : (a b c d : ℕ) → a < 256 → b < 256 → c < 256 → d < 256 → All (λ x. x < 256) (a ∷ b ∷ c ∷ d ∷ [])
all_below a b c d h i j k = search rules

-- what four pieces are read as is an address, and the pieces are its bytes in decimal
pub record AreQuad (a b c d : List ℕ) (x : Addr) : Type 0 where
  pub bytes : List ℕ
  pub is_addr : IsAddr (V4 bytes)
  pub value : x ≡ V4 bytes
  pub spelled : join_with_byte 46 (a ∷ b ∷ c ∷ d ∷ []) ≡ dotted_decimal bytes

quad_parts : (a b c d : List ℕ) (x : Addr) → four_bytes (bare_number 255 a) (bare_number 255 b) (bare_number 255 c) (bare_number 255 d) ≡ Some x → AreQuad a b c d x
quad_parts a b c d x h = go (bare_number 255 a) refl (bare_number 255 b) refl (bare_number 255 c) refl (bare_number 255 d) refl h
  where
    go : (p : Option ℕ) → bare_number 255 a ≡ p → (q : Option ℕ) → bare_number 255 b ≡ q → (r : Option ℕ) → bare_number 255 c ≡ r → (s : Option ℕ) → bare_number 255 d ≡ s
        → four_bytes p q r s ≡ Some x → AreQuad a b c d x
    go None e q f r g s i h = absurd (cc h)
    go (Some k) e None f r g s i h = absurd (cc h)
    go (Some k) e (Some l) f None g s i h = absurd (cc h)
    go (Some k) e (Some l) f (Some m) g None i h = absurd (cc h)
    go (Some k) e (Some l) f (Some m) g (Some n) i h =
        let ka = bare_parts 255 k a e in
        let lb = bare_parts 255 l b f in
        let mc = bare_parts 255 m c g in
        let nd = bare_parts 255 n d i in
        let kl : k < 256 = omega (arith, ka.low) in
        let ll : l < 256 = omega (arith, lb.low) in
        let ml : m < 256 = omega (arith, mc.low) in
        let nl : n < 256 = omega (arith, nd.low) in
        record {
          bytes = k ∷ l ∷ m ∷ n ∷ [];
          is_addr = (refl, all_below k l m n kl ll ml nl);
          value = cc h;
          spelled = ap (λ t. join_with_byte 46 (t ∷ b ∷ c ∷ d ∷ [])) ka.spelled
              ∙ (ap (λ t. join_with_byte 46 (decimal k ∷ t ∷ c ∷ d ∷ [])) lb.spelled
              ∙ (ap (λ t. join_with_byte 46 (decimal k ∷ decimal l ∷ t ∷ d ∷ [])) mc.spelled
              ∙ ap (λ t. join_with_byte 46 (decimal k ∷ decimal l ∷ decimal m ∷ t ∷ [])) nd.spelled));
        }

-- an IPv4 address that is read is one, and the text is its text
pub quad_of_parts : (text : List ℕ) (a : Addr) → quad_of text ≡ Some a → (bytes : List ℕ) × (a ≡ V4 bytes) × IsAddr (V4 bytes) × (text ≡ dotted_decimal bytes)
unfolding quad_of
quad_of_parts text a h = go (slice_split (λ x. nat_eq x 46) text) (join_with_byte-slice_split 46 text) h
  where
    go : (pieces : List (List ℕ)) → join_with_byte 46 pieces ≡ text → quad pieces ≡ Some a → (bytes : List ℕ) × (a ≡ V4 bytes) × IsAddr (V4 bytes) × (text ≡ dotted_decimal bytes)
    go (p ∷ q ∷ r ∷ s ∷ []) e f =
        let w = quad_parts p q r s a f in
        (w.bytes, w.value, w.is_addr, sym e ∙ w.spelled)
    go _ e f = absurd (cc f)

-- ---- both families

digit_no_colon : (xs : List ℕ) → list_all is_addr_byte xs ≡ true → list_any (λ b. nat_eq b 58) xs ≡ false
digit_no_colon [] h = refl
digit_no_colon (x ∷ xs) h =
    let p = and_parts (is_addr_byte x) (list_all is_addr_byte xs) h in
    let other : nat_eq x 58 ≡ false = grind (arith, nat_tests, p.0) in
    or_from _ _ other (digit_no_colon xs p.1)

-- a dotted quad has no colon
dotted_no_colon : (bytes : List ℕ) → IsAddr (V4 bytes) → list_any (λ b. nat_eq b 58) (dotted_decimal bytes) ≡ false
dotted_no_colon bytes h = digit_no_colon (dotted_decimal bytes) (dotted_bytes bytes h.1)

-- a text of an address is read as that address
pub addr_of_text : (text : List ℕ) (a : Addr) → IsAddr a → IsAddrText text a → addr_of text ≡ Some a
unfolding addr_of
addr_of_text text (V4 bytes) h k =
    cond-false (list_any (λ b. nat_eq b 58) text) _ _ (ap (list_any (λ b. nat_eq b 58)) k ∙ dotted_no_colon bytes h) ∙ quad_of_text text bytes h k
addr_of_text text (V6 bytes) h k =
    cond-true (list_any (λ b. nat_eq b 58) text) _ _ (colon_hex_colon text (segments_of bytes) k.0) ∙ groups_of_text text bytes h k

-- an address that is read is one, and the text is one of its texts
pub addr_of_parts : (text : List ℕ) (a : Addr) → addr_of text ≡ Some a → IsAddr a × IsAddrText text a
unfolding addr_of
addr_of_parts text a h = go (list_any (λ b. nat_eq b 58) text) h
  where
    go : (b : Bool) → (if b then groups_of text else quad_of text) ≡ Some a → IsAddr a × IsAddrText text a
    go true e =
        let (bytes, is, fine, spelled) = groups_of_parts text a e in
        subst (λ x. IsAddr x × IsAddrText text x) (sym is) (fine, spelled)
    go false e =
        let (bytes, is, fine, spelled) = quad_of_parts text a e in
        subst (λ x. IsAddr x × IsAddrText text x) (sym is) (fine, spelled)

-- the text that is written of an address is one of its texts
pub addr_text_of : (a : Addr) → IsAddr a → IsAddrText (addr_text a) a
addr_text_of (V4 bytes) h = refl
addr_text_of (V6 bytes) h = short_text bytes h

-- so it is read as that address
pub addr_of_addr_text : (a : Addr) → IsAddr a → addr_of (addr_text a) ≡ Some a
addr_of_addr_text a h = addr_of_text (addr_text a) a h (addr_text_of a h)

-- the same of an address by its bytes
pub read_again : (a : Addr) → length (bytes_of a) ≡ width_of a / 8 → ((k : ℕ) → get_or (bytes_of a) k 0 < 256) → addr_of (addr_text a) ≡ Some a
read_again (V4 bytes) len small = addr_of_addr_text (V4 bytes) (len, All-from_get_or (λ b. b < 256) bytes 0 (λ k h. small k))
read_again (V6 bytes) len small = addr_of_addr_text (V6 bytes) (len, All-from_get_or (λ b. b < 256) bytes 0 (λ k h. small k))

-- a text is that of one address
pub one_addr : (text : List ℕ) (a b : Addr) → IsAddr a → IsAddr b → IsAddrText text a → IsAddrText text b → a ≡ b
one_addr text a b h k s t = same_Some a b (sym (addr_of_text text a h s) ∙ addr_of_text text b k t)

-- a reader of one family after the other finds the address of a text
pub quad_first : (text : List ℕ) (a : Addr) → Some a ≡ quad_of text → Some a ≡ addr_of text
quad_first text a e =
    let (bytes, is, fine, spelled) = quad_of_parts text a (sym e) in
    sym (addr_of_text text (V4 bytes) fine spelled ∙ ap (λ (x : Addr). Some x) (sym is))

pub groups_then : (text : List ℕ) (r : Option Addr) → None ≡ quad_of text → r ≡ groups_of text → r ≡ addr_of text
unfolding addr_of
groups_then text r e f = f ∙ go (list_any (λ b. nat_eq b 58) text) refl
  where
    none_of : (o : Option Addr) → groups_of text ≡ o → list_any (λ b. nat_eq b 58) text ≡ false → o ≡ None
    none_of None is plain = refl
    none_of (Some a) is plain =
        let (bytes, a_is, fine, spelled) = groups_of_parts text a is in
        absurd (true≢false (sym (colon_hex_colon text (segments_of bytes) spelled.0) ∙ plain))

    go : (b : Bool) → list_any (λ b. nat_eq b 58) text ≡ b → groups_of text ≡ (if b then groups_of text else quad_of text)
    go true g = refl
    go false g = none_of (groups_of text) refl g ∙ e

-- what a reader finds is an address, and the text is one of its texts
pub addr_reads : (text : List ℕ) (r : Option Addr) → r ≡ addr_of text → IfSome r (λ a. IsAddr a × IsAddrText text a)
addr_reads text None e = tt
addr_reads text (Some a) e = addr_of_parts text a (sym e)

-- ---- prefixes

lacks_append : (c : ℕ) (xs ys : List ℕ) → lacks c xs ≡ true → lacks c ys ≡ true → lacks c (xs ++ ys) ≡ true
lacks_append c [] ys h k = k
lacks_append c (x ∷ xs) ys h k =
    let p = and_parts (not (nat_eq x c)) (lacks c xs) h in
    and_from _ _ p.0 (lacks_append c xs ys p.1 k)

-- the text of an address has no slash
dotted_lacks : (bytes : List ℕ) → IsAddr (V4 bytes) → lacks 47 (dotted_decimal bytes) ≡ true
dotted_lacks (a ∷ b ∷ c ∷ d ∷ []) h =
    let at : (i : ℕ) → i < 4 → get_or (a ∷ b ∷ c ∷ d ∷ []) i 0 < 256 = λ i lt. All-get_or (λ x. x < 256) (a ∷ b ∷ c ∷ d ∷ []) i 0 lt h.1 in
    let no_slash : (n : ℕ) → n < 256 → lacks 47 (decimal n) ≡ true = λ n lt. decimal_lacks 47 n (omega arith) (omega arith) in
    lacks_append 47 (decimal a) _ (no_slash a (at 0 (omega arith)))
    (lacks_append 47 (decimal b) _ (no_slash b (at 1 (omega arith)))
    (lacks_append 47 (decimal c) _ (no_slash c (at 2 (omega arith)))
    (no_slash d (at 3 (omega arith)))))
dotted_lacks _ h = absurd (omega arith)

pub addr_text_lacks : (text : List ℕ) (a : Addr) → IsAddr a → IsAddrText text a → lacks 47 text ≡ true
addr_text_lacks text (V4 bytes) h k = ap (lacks 47) k ∙ dotted_lacks bytes h
addr_text_lacks text (V6 bytes) h k = groups_slashless text bytes k

-- lengths are small numbers
short_width : (a : Addr) (n : ℕ) → n ≤ width_of a → n < 10 ^ 10
short_width (V4 bytes) n h = omega arith
short_width (V6 bytes) n h = omega arith

-- the text of a prefix is read as that prefix
pub prefix_of_text : (text : List ℕ) (p : Network) → PrefixText text p → prefix_of text ≡ Some p
unfolding prefix_of
prefix_of_text text p t = elim t.spelled [ inl w ↦ alone_read w.0 w.1 | inr w ↦ slashed_read w ]
  where
    alone_read : text ≡ t.before → p.bits ≡ width_of t.addr → prefix_of_pieces (slice_split (λ b. nat_eq b 47) text) ≡ Some p
    alone_read e w =
        ap (λ x. prefix_of_pieces (slice_split (λ b. nat_eq b 47) x)) e
        ∙ (ap prefix_of_pieces (split_piece 47 t.before (addr_text_lacks t.before t.addr t.is_addr t.address))
        ∙ (ap alone (addr_of_text t.before t.addr t.is_addr t.address)
        ∙ (ap (λ n. Some (network_of t.addr n)) (sym w) ∙ ap (λ (x : Network). Some x) (sym t.of))))

    slashed_read : text ≡ t.before ++ 47 ∷ decimal p.bits → prefix_of_pieces (slice_split (λ b. nat_eq b 47) text) ≡ Some p
    slashed_read e =
        let small : p.bits < 10 ^ 10 = short_width t.addr p.bits t.short in
        ap (λ x. prefix_of_pieces (slice_split (λ b. nat_eq b 47) x)) e
        ∙ (ap prefix_of_pieces (split_more 47 t.before (decimal p.bits) (addr_text_lacks t.before t.addr t.is_addr t.address)
        ∙ ap (λ y. t.before ∷ y) (split_piece 47 (decimal p.bits) (decimal_lacks 47 p.bits (omega arith) (omega arith))))
        ∙ (ap (λ o. cut_at o (decimal p.bits)) (addr_of_text t.before t.addr t.is_addr t.address)
        ∙ (ap (with_length t.addr) (bare_number_decimal (width_of t.addr) p.bits t.short small)
        ∙ ap (λ (x : Network). Some x) (sym t.of))))

-- a prefix that is read is one, and the text is its text
pub prefix_of_parts : (text : List ℕ) (p : Network) → prefix_of text ≡ Some p → PrefixText text p
unfolding prefix_of
prefix_of_parts text p h = go (slice_split (λ b. nat_eq b 47) text) (join_with_byte-slice_split 47 text) h
  where
    alone_parts : (address : List ℕ) → address ≡ text → (o : Option Addr) → addr_of address ≡ o → alone o ≡ Some p → PrefixText text p
    alone_parts address e None f g = absurd (cc g)
    alone_parts address e (Some a) f g =
        let w = addr_of_parts address a f in
        let same : network_of a (width_of a) ≡ p = cc g in
        let bits : p.bits ≡ width_of a = sym (ap (λ (x : Network). x.bits) same) in
        record { addr = a; is_addr = w.0; short = omega (arith, bits); of = sym same ∙ ap (network_of a) (sym bits); before = address; address = w.1; spelled = inl (sym e, bits) }

    cut_parts : (address length : List ℕ) → address ++ 47 ∷ length ≡ text → (o : Option Addr) → addr_of address ≡ o → cut_at o length ≡ Some p → PrefixText text p
    cut_parts address length e None f g = absurd (cc g)
    cut_parts address length e (Some a) f g = counted (bare_number (width_of a) length) refl g
      where
        counted : (o : Option ℕ) → bare_number (width_of a) length ≡ o → with_length a o ≡ Some p → PrefixText text p
        counted None i j = absurd (cc j)
        counted (Some n) i j =
            let w = addr_of_parts address a f in
            let b = bare_parts (width_of a) n length i in
            let same : network_of a n ≡ p = cc j in
            let bits : p.bits ≡ n = sym (ap (λ (x : Network). x.bits) same) in
            record {
              addr = a;
              is_addr = w.0;
              short = subst (λ k. k ≤ width_of a) (sym bits) b.low;
              of = sym same ∙ ap (network_of a) (sym bits);
              before = address;
              address = w.1;
              spelled = inr (sym e ∙ ap (λ y. address ++ 47 ∷ y) (b.spelled ∙ ap decimal (sym bits)));
            }

    go : (pieces : List (List ℕ)) → join_with_byte 47 pieces ≡ text → prefix_of_pieces pieces ≡ Some p → PrefixText text p
    go (address ∷ []) e f = alone_parts address e (addr_of address) refl f
    go (address ∷ length ∷ []) e f = cut_parts address length e (addr_of address) refl f
    go _ e f = absurd (cc f)

-- ---- what reads exactly the texts of prefixes gives the prefix of a text

pub prefix_value : (text : List ℕ) (r : Option Network) → IfSome r (λ p. PrefixText text p)
    → ((p : Network) → PrefixText text p → r ≡ Some p) → r ≡ prefix_of text
prefix_value text (Some p) reads only = sym (prefix_of_text text p reads)
prefix_value text None reads only = go (prefix_of text) refl
  where
    go : (o : Option Network) → prefix_of text ≡ o → None ≡ o
    go None e = refl
    go (Some p) e = only p (prefix_of_parts text p e)
