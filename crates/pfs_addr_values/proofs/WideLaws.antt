-- Numbers of sixteen bytes, as two numbers of eight.
use Rattle.std.proofs.Common.{ℕ, zero, suc, List, [], ◌∷◌, ◌++◌, ◌≡◌, ◌<◌, ◌+◌, ◌*◌, ◌/◌, ◌%◌, ◌^◌, length, get_or, refl, sym, ap, ap₂, ◌∙◌, arith}
use Rattle.std.specs.Int.{w64, w128, from_be_bytes, to_be_bytes}
use Rattle.std.proofs.lemmas.Nat.{be_bytes_8, from_be_bytes-to_be_bytes_8, shr_high, mod_low}
use Rattle.std.proofs.NetLemmas.Arrays.{sixteen_items}
use native.Mathlib.Nat.{div-div-eq-div-mul}

-- the first and the last eight bytes
abbrev first : List ℕ → List ℕ
first xs = get_or xs 0 0 ∷ get_or xs 1 0 ∷ get_or xs 2 0 ∷ get_or xs 3 0 ∷ get_or xs 4 0 ∷ get_or xs 5 0 ∷ get_or xs 6 0 ∷ get_or xs 7 0 ∷ []

abbrev last : List ℕ → List ℕ
last xs = get_or xs 8 0 ∷ get_or xs 9 0 ∷ get_or xs 10 0 ∷ get_or xs 11 0 ∷ get_or xs 12 0 ∷ get_or xs 13 0 ∷ get_or xs 14 0 ∷ get_or xs 15 0 ∷ []

-- their numbers
abbrev high : List ℕ → ℕ
high xs = from_be_bytes w64 (first xs)

abbrev low : List ℕ → ℕ
low xs = from_be_bytes w64 (last xs)

from_16 : (xs : List ℕ) → from_be_bytes w128 xs ≡ high xs * 2 ^ 64 + low xs
from_16 xs = omega arith

high_small : (xs : List ℕ) → ((i : ℕ) → get_or xs i 0 < 256) → high xs < 2 ^ 64
high_small xs h = omega (arith, h 0, h 1, h 2, h 3, h 4, h 5, h 6, h 7)

low_small : (xs : List ℕ) → ((i : ℕ) → get_or xs i 0 < 256) → low xs < 2 ^ 64
low_small xs h = omega (arith, h 8, h 9, h 10, h 11, h 12, h 13, h 14, h 15)

-- sixteen bytes are a number below 2 ^ 128
pub below_128 : (xs : List ℕ) → ((i : ℕ) → get_or xs i 0 < 256) → from_be_bytes w128 xs < 2 ^ 128
below_128 xs h = omega (arith, from_16 xs, high_small xs h, low_small xs h)

-- a byte of the upper half
upper : (n p : ℕ) → n / (2 ^ 64 * p) % 256 ≡ n / 2 ^ 64 / p % 256
upper n p = ap (λ m. m % 256) (sym (div-div-eq-div-mul n (2 ^ 64) p))

lower_0 : (n : ℕ) → n % 256 ≡ n % 2 ^ 64 % 256
lower_0 n = omega arith

lower_1 : (n : ℕ) → n / 256 % 256 ≡ n % 2 ^ 64 / 256 % 256
lower_1 n = omega arith

lower_2 : (n : ℕ) → n / 65536 % 256 ≡ n % 2 ^ 64 / 65536 % 256
lower_2 n = omega arith

lower_3 : (n : ℕ) → n / 16777216 % 256 ≡ n % 2 ^ 64 / 16777216 % 256
lower_3 n = omega arith

lower_4 : (n : ℕ) → n / 4294967296 % 256 ≡ n % 2 ^ 64 / 4294967296 % 256
lower_4 n = omega arith

lower_5 : (n : ℕ) → n / 1099511627776 % 256 ≡ n % 2 ^ 64 / 1099511627776 % 256
lower_5 n = omega arith

lower_6 : (n : ℕ) → n / 281474976710656 % 256 ≡ n % 2 ^ 64 / 281474976710656 % 256
lower_6 n = omega arith

lower_7 : (n : ℕ) → n / 72057594037927936 % 256 ≡ n % 2 ^ 64 / 72057594037927936 % 256
lower_7 n = omega arith

-- each half is of bytes
eight_small : (a b c d e f g h : ℕ) → a < 256 → b < 256 → c < 256 → d < 256 → e < 256 → f < 256 → g < 256 → h < 256
    → (i : ℕ) → get_or (a ∷ b ∷ c ∷ d ∷ e ∷ f ∷ g ∷ h ∷ []) i 0 < 256
eight_small a b c d e f g h a' b' c' d' e' f' g' h' zero = a'
eight_small a b c d e f g h a' b' c' d' e' f' g' h' (suc zero) = b'
eight_small a b c d e f g h a' b' c' d' e' f' g' h' (suc (suc zero)) = c'
eight_small a b c d e f g h a' b' c' d' e' f' g' h' (suc (suc (suc zero))) = d'
eight_small a b c d e f g h a' b' c' d' e' f' g' h' (suc (suc (suc (suc zero)))) = e'
eight_small a b c d e f g h a' b' c' d' e' f' g' h' (suc (suc (suc (suc (suc zero))))) = f'
eight_small a b c d e f g h a' b' c' d' e' f' g' h' (suc (suc (suc (suc (suc (suc zero)))))) = g'
eight_small a b c d e f g h a' b' c' d' e' f' g' h' (suc (suc (suc (suc (suc (suc (suc zero))))))) = h'
eight_small a b c d e f g h a' b' c' d' e' f' g' h' (suc (suc (suc (suc (suc (suc (suc (suc i)))))))) = omega arith

firsts : (xs : List ℕ) → ((i : ℕ) → get_or xs i 0 < 256) → (i : ℕ) → get_or (first xs) i 0 < 256
firsts xs h = eight_small _ _ _ _ _ _ _ _ (h 0) (h 1) (h 2) (h 3) (h 4) (h 5) (h 6) (h 7)

lasts : (xs : List ℕ) → ((i : ℕ) → get_or xs i 0 < 256) → (i : ℕ) → get_or (last xs) i 0 < 256
lasts xs h = eight_small _ _ _ _ _ _ _ _ (h 8) (h 9) (h 10) (h 11) (h 12) (h 13) (h 14) (h 15)

-- the bytes of a number are those of its halves
to_16 : (n : ℕ) → to_be_bytes w128 n ≡ to_be_bytes w64 (n / 2 ^ 64) ++ to_be_bytes w64 (n % 2 ^ 64)
to_16 n =
    let u7 = upper n 72057594037927936 in
    let u6 = upper n 281474976710656 in
    let u5 = upper n 1099511627776 in
    let u4 = upper n 4294967296 in
    let u3 = upper n 16777216 in
    let u2 = upper n 65536 in
    let u1 = upper n 256 in
    let l7 = lower_7 n in
    let l6 = lower_6 n in
    let l5 = lower_5 n in
    let l4 = lower_4 n in
    let l3 = lower_3 n in
    let l2 = lower_2 n in
    let l1 = lower_1 n in
    let l0 = lower_0 n in
    λ i. u7 i ∷ u6 i ∷ u5 i ∷ u4 i ∷ u3 i ∷ u2 i ∷ u1 i ∷ (n / 2 ^ 64 % 256) ∷ l7 i ∷ l6 i ∷ l5 i ∷ l4 i ∷ l3 i ∷ l2 i ∷ l1 i ∷ l0 i ∷ []

-- what is written of a number is read as it
pub from_to_16 : (n : ℕ) → n < 2 ^ 128 → from_be_bytes w128 (to_be_bytes w128 n) ≡ n
from_to_16 n fits =
    let halves = ap (from_be_bytes w128) (to_16 n) ∙ from_16 (to_be_bytes w64 (n / 2 ^ 64) ++ to_be_bytes w64 (n % 2 ^ 64)) in
    let upper_half = from_be_bytes-to_be_bytes_8 (n / 2 ^ 64) (omega arith) in
    let lower_half = from_be_bytes-to_be_bytes_8 (n % 2 ^ 64) (omega arith) in
    halves ∙ (ap (λ (h : ℕ). h * 2 ^ 64 + from_be_bytes w64 (to_be_bytes w64 (n % 2 ^ 64))) upper_half ∙ ap (λ (l : ℕ). n / 2 ^ 64 * 2 ^ 64 + l) lower_half ∙ omega arith)

eight : (bs : List ℕ) → length bs ≡ 8 → ((i : ℕ) → get_or bs i 0 < 256) → to_be_bytes w64 (from_be_bytes w64 bs) ≡ bs
eight bs len small = be_bytes_8 bs (from_be_bytes w64 bs) len small refl

-- sixteen bytes are what is written of their number
pub to_from_16 : (xs : List ℕ) → length xs ≡ 16 → ((i : ℕ) → get_or xs i 0 < 256) → to_be_bytes w128 (from_be_bytes w128 xs) ≡ xs
to_from_16 xs len h =
    let upper_half : from_be_bytes w128 xs / 2 ^ 64 ≡ high xs = ap (λ n. n / 2 ^ 64) (from_16 xs) ∙ shr_high (high xs) 64 (low xs) (low_small xs h) in
    let lower_half : from_be_bytes w128 xs % 2 ^ 64 ≡ low xs = ap (λ n. n % 2 ^ 64) (from_16 xs) ∙ mod_low (high xs) 64 (low xs) (low_small xs h) in
    to_16 (from_be_bytes w128 xs)
    ∙ (ap₂ (λ (a b : ℕ). to_be_bytes w64 a ++ to_be_bytes w64 b) upper_half lower_half
    ∙ (ap₂ (λ (a b : List ℕ). a ++ b) (eight (first xs) refl (firsts xs h)) (eight (last xs) refl (lasts xs h))
    ∙ sym (sixteen_items xs len)))
