-- The bytes of an IPv4 address, digit by digit.
use Rattle.std.proofs.Common.{ℕ, List, [], ◌∷◌, ◌++◌, ◌≡◌, ◌≤◌, ◌<◌, ◌+◌, ◌*◌, ◌/◌, ◌%◌, Option, Some, None, true, false, append_assoc, decimal, drop, get_or, length, arith, rules, ap, sym, refl, subst, ◌∙◌, lit≤, inl, inr}
use Rattle.std.proofs.lemmas.Bool.Decides.{nat_tests}
use Rattle.std.proofs.lemmas.Bool.{cases_lt}
use Rattle.std.specs.Char.{digit_value}
use Rattle.std.specs.Net.Reader.{read_ipv4, read_octet}
use Rattle.std.proofs.NetLemmas.Numbers.{NoDigit}
use Rattle.std.proofs.NetLemmas.Ipv4.{read_octet_complete, read_octet_sound, read_ipv4_complete, read_ipv4_sound}
use Rattle.std.proofs.NetLemmas.Options.{same_parts}
use Rattle.std.proofs.lemmas.Option.{none-some}
use Rattle.std.proofs.lemmas.List.{append-nil}
use Rattle.std.specs.Prelude.{All}
use Rattle.std.specs.Net.Grammar.{IsDotted}
use Rattle.std.specs.Net.Text.{dotted_text}
use Rattle.pfs_addr.proofs.AddrLaws.{dotted_spelled}
use Rattle.pfs_addr.proofs.PieceLaws.{quad_of_text, quad_of_parts}
use Rattle.pfs_addr.specs.Texts.{quad_of}
use Rattle.pfs_addr_values.specs.Addresses.{IsAddr, bytes_of, dotted_decimal, is_ipv6}
use Rattle.pfs_addr_values.specs.declared.addresses.Addr.{Addr}
use Rattle.pfs_addr_values.specs.declared.addresses.Addr.TheVariants.{V4, V6}
use Rattle.pfs_addr.specs.Octets.{stops}
use Rattle.pfs_addr.proofs.OctetLaws.{decimal_1, decimal_2, decimal_3}

-- what stops is no digit of std's
stops_no_digit : (text : List ℕ) → stops text ≡ true → NoDigit 10 text
stops_no_digit [] h = lit≤ tt
stops_no_digit (c ∷ rest) h = grind (arith, nat_tests)

-- a digit goes on
digit_goes_on : (d : ℕ) (rest text : List ℕ) → d < 10 → text ≡ (48 + d) ∷ rest → NoDigit 10 text → ⊥
digit_goes_on d rest text h is stop =
    let k : 10 ≤ digit_value (48 + d) = subst (λ t. NoDigit 10 t) is stop in
    grind (arith, nat_tests)

digit_no_stop : (d : ℕ) (rest text : List ℕ) → d < 10 → text ≡ (48 + d) ∷ rest → stops text ≡ true → ⊥
digit_no_stop d rest text h is stop =
    let k : stops ((48 + d) ∷ rest) ≡ true = subst (λ t. stops t ≡ true) is stop in
    grind (arith, nat_tests)

-- the text of a number below 256 has one, two or three digits
by_digits : (P : Type 0) (n : ℕ) (r : List ℕ) → n < 256
    → (n < 10 → decimal n ++ r ≡ (48 + n) ∷ r → P)
    → (10 ≤ n → n < 100 → decimal n ++ r ≡ (48 + n / 10) ∷ (48 + n % 10) ∷ r → P)
    → (100 ≤ n → decimal n ++ r ≡ (48 + n / 100) ∷ (48 + n / 10 % 10) ∷ (48 + n % 10) ∷ r → P) → P
by_digits P n r h one two three = elim (cases_lt n 10) [
  | inl small ↦ one small (ap (λ t. t ++ r) (decimal_1 n small))
  | inr more ↦ elim (cases_lt n 100) [
    | inl small ↦ two more small (ap (λ t. t ++ r) (decimal_2 n more small))
    | inr much ↦ three much (ap (λ t. t ++ r) (decimal_3 n much (omega arith)))
  ]
]

-- what begins no byte is not read
none_when : (text : List ℕ) → ((n : ℕ) (r : List ℕ) → n < 256 → text ≡ decimal n ++ r → NoDigit 10 r → ⊥) → read_octet text ≡ None
none_when text h = go (read_octet text) refl
  where
    go : (o : _) → read_octet text ≡ o → o ≡ None
    go None e = refl
    go (Some p) e = let (fits, split, stop) = read_octet_sound text p.1 p.0 e in absurd (h p.0 p.1 fits split stop)

first : (x y : ℕ) (s t : List ℕ) → x ∷ s ≡ y ∷ t → x ≡ y
first x y s t e = ap (λ l. get_or l 0 0) e

rest_of : (x y : ℕ) (s t : List ℕ) → x ∷ s ≡ y ∷ t → s ≡ t
rest_of x y s t e = ap (λ l. drop 1 l) e

-- no digit
pub octet_stops : (text : List ℕ) → stops text ≡ true → read_octet text ≡ None
octet_stops text h = none_when text (λ n r fits split stop. by_digits ⊥ n r fits
    (λ low is. digit_no_stop n r text low (split ∙ is) h)
    (λ low high is. digit_no_stop (n / 10) _ text (omega arith) (split ∙ is) h)
    (λ low is. digit_no_stop (n / 100) _ text (omega arith) (split ∙ is) h))

-- one digit
pub octet_one : (a : ℕ) (text rest : List ℕ) → a < 10 → text ≡ (48 + a) ∷ rest → stops rest ≡ true → read_octet text ≡ Some (a, rest)
octet_one a text rest h is stop =
    let spelled : text ≡ decimal a ++ rest = is ∙ ap (λ t. t ++ rest) (sym (decimal_1 a h)) in
    ap read_octet spelled ∙ read_octet_complete a rest (omega arith) (stops_no_digit rest stop)

-- a zero before another digit
pub octet_zero : (b : ℕ) (text rest : List ℕ) → b < 10 → text ≡ 48 ∷ (48 + b) ∷ rest → read_octet text ≡ None
octet_zero b text rest h is = none_when text (λ n r fits split stop. by_digits ⊥ n r fits
    (λ low e. digit_goes_on b rest r h (sym (rest_of _ _ _ _ (sym is ∙ (split ∙ e)))) stop)
    (λ low high e. let k = first _ _ _ _ (sym is ∙ (split ∙ e)) in omega arith)
    (λ low e. let k = first _ _ _ _ (sym is ∙ (split ∙ e)) in omega arith))

-- two digits
pub octet_two : (a b : ℕ) (text rest : List ℕ) → a < 10 → b < 10 → 0 < a → text ≡ (48 + a) ∷ (48 + b) ∷ rest → stops rest ≡ true → read_octet text ≡ Some (a * 10 + b, rest)
octet_two a b text rest ha hb some is stop =
    let n = a * 10 + b in
    let tens : n / 10 ≡ a = omega arith in
    let ones : n % 10 ≡ b = omega arith in
    let shown : decimal n ≡ (48 + a) ∷ (48 + b) ∷ [] = decimal_2 n (omega arith) (omega arith) ∙ (ap (λ (k : ℕ). (48 + k) ∷ (48 + n % 10) ∷ []) tens ∙ ap (λ (k : ℕ). (48 + a) ∷ (48 + k) ∷ []) ones) in
    ap read_octet (is ∙ ap (λ t. t ++ rest) (sym shown)) ∙ read_octet_complete n rest (omega arith) (stops_no_digit rest stop)

-- three digits
pub octet_three : (a b c : ℕ) (text rest : List ℕ) → a < 10 → b < 10 → c < 10 → 0 < a → a * 100 + b * 10 + c ≤ 255
    → text ≡ (48 + a) ∷ (48 + b) ∷ (48 + c) ∷ rest → stops rest ≡ true → read_octet text ≡ Some (a * 100 + b * 10 + c, rest)
octet_three a b c text rest ha hb hc some low is stop =
    let n = a * 100 + b * 10 + c in
    let hundreds : n / 100 ≡ a = omega arith in
    let tens : n / 10 % 10 ≡ b = omega arith in
    let ones : n % 10 ≡ c = omega arith in
    let shown : decimal n ≡ (48 + a) ∷ (48 + b) ∷ (48 + c) ∷ [] =
    decimal_3 n (omega arith) (omega arith)
    ∙ (ap (λ (k : ℕ). (48 + k) ∷ (48 + n / 10 % 10) ∷ (48 + n % 10) ∷ []) hundreds
    ∙ (ap (λ (k : ℕ). (48 + a) ∷ (48 + k) ∷ (48 + n % 10) ∷ []) tens
    ∙ ap (λ (k : ℕ). (48 + a) ∷ (48 + b) ∷ (48 + k) ∷ []) ones)) in
    ap read_octet (is ∙ ap (λ t. t ++ rest) (sym shown)) ∙ read_octet_complete n rest (omega arith) (stops_no_digit rest stop)

-- three digits that say too much, or more digits
pub octet_past : (a b c : ℕ) (text rest : List ℕ) → a < 10 → b < 10 → c < 10 → text ≡ (48 + a) ∷ (48 + b) ∷ (48 + c) ∷ rest
    → ((n : ℕ) → n ≡ a * 100 + b * 10 + c → n < 256 → NoDigit 10 rest → ⊥) → read_octet text ≡ None
octet_past a b c text rest ha hb hc is past = none_when text (λ n r fits split stop. by_digits ⊥ n r fits
    (λ low e. digit_goes_on b _ r hb (sym (rest_of _ _ _ _ (sym is ∙ (split ∙ e)))) stop)
    (λ low high e. digit_goes_on c _ r hc (sym (rest_of _ _ _ _ (rest_of _ _ _ _ (sym is ∙ (split ∙ e))))) stop)
    (λ low e.
    let same = sym is ∙ (split ∙ e) in
    let x = first _ _ _ _ same in
    let y = first _ _ _ _ (rest_of _ _ _ _ same) in
    let z = first _ _ _ _ (rest_of _ _ _ _ (rest_of _ _ _ _ same)) in
    let r_is : rest ≡ r = rest_of _ _ _ _ (rest_of _ _ _ _ (rest_of _ _ _ _ same)) in
    past n (omega arith) fits (subst (λ t. NoDigit 10 t) (sym r_is) stop)))

pub octet_large : (a b c : ℕ) (text rest : List ℕ) → a < 10 → b < 10 → c < 10 → text ≡ (48 + a) ∷ (48 + b) ∷ (48 + c) ∷ rest
    → 255 < a * 100 + b * 10 + c → read_octet text ≡ None
octet_large a b c text rest ha hb hc is high = octet_past a b c text rest ha hb hc is (λ n same fits stop. omega arith)

pub octet_four : (a b c d : ℕ) (text rest more : List ℕ) → a < 10 → b < 10 → c < 10 → d < 10 → text ≡ (48 + a) ∷ (48 + b) ∷ (48 + c) ∷ rest
    → rest ≡ (48 + d) ∷ more → read_octet text ≡ None
octet_four a b c d text rest more ha hb hc hd is next = octet_past a b c text rest ha hb hc is (λ n same fits stop. digit_goes_on d more rest hd next stop)

-- four numbers below 256 are bytes
all_below : (a b c d : ℕ) → a < 256 → b < 256 → c < 256 → d < 256 → All (λ x. x < 256) (a ∷ b ∷ c ∷ d ∷ [])
all_below a b c d h i j k = search rules

from_dotted : (text bytes : List ℕ) → IsDotted text bytes → IsAddr (V4 bytes) × (text ≡ dotted_decimal bytes)
from_dotted text bytes h =
    let spelled : dotted_decimal (h.a ∷ h.b ∷ h.c ∷ h.d ∷ []) ≡ dotted_text h.a h.b h.c h.d = simp append_assoc in
    subst (λ (bs : List ℕ). IsAddr (V4 bs) × (text ≡ dotted_decimal bs)) (sym h.value)
    ((refl, all_below h.a h.b h.c h.d h.fit.0 h.fit.1 h.fit.2 h.fit.3), h.spelled ∙ sym spelled)

-- four bytes with nothing after them are an address
quad_reads : (text bytes rest : List ℕ) → Some (bytes, rest) ≡ read_ipv4 text → length rest ≡ 0 → IsAddr (V4 bytes) × (text ≡ dotted_decimal bytes)
quad_reads text bytes [] e none =
    let (front, split, h) = read_ipv4_sound text bytes [] (sym e) in
    let same : text ≡ front = split ∙ append-nil front in
    from_dotted text bytes (subst (λ t. IsDotted t bytes) (sym same) h)
quad_reads text bytes (c ∷ rest) e none = absurd (omega (arith, none))

-- the text of an address is read as its four bytes
quad_whole : (text bytes : List ℕ) → IsAddr (V4 bytes) → text ≡ dotted_decimal bytes → read_ipv4 text ≡ Some (bytes, [])
quad_whole text bytes h e =
    ap read_ipv4 (e ∙ sym (append-nil (dotted_decimal bytes))) ∙ read_ipv4_complete (dotted_decimal bytes) bytes [] (dotted_spelled bytes h) (lit≤ tt)

-- ---- so the reader of four bytes gives the IPv4 address of a text

pub quad_none : (text : List ℕ) → None ≡ read_ipv4 text → None ≡ quad_of text
quad_none text e = none_of (quad_of text) refl
  where
    none_of : (o : Option Addr) → quad_of text ≡ o → None ≡ o
    none_of None is = refl
    none_of (Some a) is = let (bytes, a_is, h, k) = quad_of_parts text a is in absurd (none-some _ (e ∙ quad_whole text bytes h k))

pub quad_some : (text rest : List ℕ) (a : Addr) → is_ipv6 a ≡ false → Some (bytes_of a, rest) ≡ read_ipv4 text → length rest ≡ 0 → Some a ≡ quad_of text
quad_some text rest (V4 bytes) family e none =
    let (h, k) = quad_reads text bytes rest e none in
    sym (quad_of_text text bytes h k)
quad_some text rest (V6 bytes) family e none = absurd (cc family)

pub quad_more : (text rest : List ℕ) (a : Addr) → Some (bytes_of a, rest) ≡ read_ipv4 text → 0 < length rest → None ≡ quad_of text
quad_more text rest a e more = none_of (quad_of text) refl
  where
    none_of : (o : Option Addr) → quad_of text ≡ o → None ≡ o
    none_of None is = refl
    none_of (Some b) is =
        let (own, b_is, h, k) = quad_of_parts text b is in
        let (same, none) = same_parts (bytes_of a) own rest [] (e ∙ quad_whole text own h k) in
        absurd (omega (arith, more, ap length none))
