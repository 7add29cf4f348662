-- The decimal text of a number of one, two or three digits, digit by digit: for push_octet.
use Rattle.std.proofs.Common.{ℕ, List, [], ◌∷◌, ◌++◌, ◌≡◌, ◌≤◌, ◌<◌, ◌+◌, ◌/◌, ◌%◌, decimal, arith, ap, sym, refl, append_assoc, ◌∙◌}
use Rattle.std.proofs.lemmas.Fmt.{decimal_digit, decimal_step}

-- the decimal text of a number of one digit
pub decimal_1 : (n : ℕ) → n < 10 → decimal n ≡ (48 + n) ∷ []
decimal_1 n h = decimal_digit n h

-- of two digits
pub decimal_2 : (n : ℕ) → 10 ≤ n → n < 100 → decimal n ≡ (48 + n / 10) ∷ (48 + n % 10) ∷ []
decimal_2 n low high =
    decimal_step n low (omega arith) ∙ ap (λ (t : List ℕ). t ++ (48 + n % 10) ∷ []) (decimal_digit (n / 10) (omega arith))

-- of three digits
pub decimal_3 : (n : ℕ) → 100 ≤ n → n < 1000 → decimal n ≡ (48 + n / 100) ∷ (48 + n / 10 % 10) ∷ (48 + n % 10) ∷ []
decimal_3 n low high =
    let front : n / 10 / 10 ≡ n / 100 = omega arith in
    decimal_step n (omega arith) (omega arith)
    ∙ ap (λ (t : List ℕ). t ++ (48 + n % 10) ∷ []) (decimal_2 (n / 10) (omega arith) (omega arith) ∙ ap (λ (q : ℕ). (48 + q) ∷ (48 + n / 10 % 10) ∷ []) front)

pub ruleset octets = (decimal_1, decimal_2, decimal_3)

-- two and three digits pushed in turn
pub pushed_2 : (x y : ℕ) (o p q text : List ℕ) → p ≡ o ++ x ∷ [] → q ≡ p ++ y ∷ [] → text ≡ x ∷ y ∷ [] → q ≡ o ++ text
pushed_2 x y o p q text hp hq ht =
    hq ∙ (ap (λ (t : List ℕ). t ++ y ∷ []) hp ∙ (append_assoc o (x ∷ []) (y ∷ []) ∙ ap (λ (t : List ℕ). o ++ t) (sym ht)))

pub pushed_3 : (x y z : ℕ) (o p q r text : List ℕ) → p ≡ o ++ x ∷ [] → q ≡ p ++ y ∷ [] → r ≡ q ++ z ∷ [] → text ≡ x ∷ y ∷ z ∷ [] → r ≡ o ++ text
pushed_3 x y z o p q r text hp hq hr ht =
    hr
    ∙ (ap (λ (t : List ℕ). t ++ z ∷ []) (pushed_2 x y o p q (x ∷ y ∷ []) hp hq refl)
    ∙ (append_assoc o (x ∷ y ∷ []) (z ∷ []) ∙ ap (λ (t : List ℕ). o ++ t) (sym ht)))
