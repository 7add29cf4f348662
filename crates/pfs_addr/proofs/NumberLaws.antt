-- What is read as a number has 1 to 10 digits, and a decimal text is read as the number that it writes.
use Rattle.std.proofs.Common.{ℕ, zero, suc, List, ◌≡◌, ◌≤◌, ◌<◌, ◌^◌, Bool, true, false, not, ◌&&◌, nat_le, nat_eq, Option, Some, None, length, get_or, decimal, refl, sym, ap, ◌∙◌, arith, rules, leb-true, le-leb, subst}
use Rattle.std.specs.List.{list_all}
use Rattle.std.specs.Str.Parse.{digits_value}
use Rattle.std.proofs.lemmas.Bool.{and_from, and_parts, cond-true, cond-false}
use Rattle.std.proofs.lemmas.Bool.Decides.{nat_tests}
use Rattle.std.proofs.lemmas.Fmt.{decimal_nonempty, digits_decimal, digits_value-decimal, length-decimal-le, decimal-digits_value, decimal_digit, first_decimal}
use Rattle.std.proofs.lemmas.Str.Parse.{IsNumeralModel, numerals_by_value, digits_value_short}
use Rattle.pfs_addr_values.specs.Numbers.{is_digit, is_number, number_of}

-- digits are std's digits
own : IsNumeralModel (λ ds. list_all is_digit ds ≡ true) (digits_value 10)
own = numerals_by_value (λ ds. list_all is_digit ds ≡ true) (search rules)

-- the decimal text of a number has digits alone
pub decimal_digits : (n : ℕ) → n < 2 ^ 64 → list_all is_digit (decimal n) ≡ true
decimal_digits n h = digits_decimal own n h

-- what a text has that is read as a number
pub record IsNumberText (text : List ℕ) (n : ℕ) : Type 0 where
  pub some : 0 < length text
  pub short : length text ≤ 10
  pub digits : list_all is_digit text ≡ true
  pub value : digits_value 10 text ≡ n

some_same : (m n : ℕ) → ◌≡◌ {A = Option ℕ} (Some m) (Some n) → m ≡ n
some_same m n h = cc

number_parts_by : (text : List ℕ) (n : ℕ) (b : Bool) → is_number text ≡ b → number_of text ≡ Some n → IsNumberText text n
unfolding number_of
number_parts_by text n true b h =
    let p = and_parts (not (nat_eq (length text) 0) && nat_le (length text) 10) (list_all is_digit text) b in
    let q = and_parts (not (nat_eq (length text) 0)) (nat_le (length text) 10) p.0 in
    record {
      some = grind (arith, nat_tests);
      short = leb-true _ _ q.1;
      digits = p.1;
      value = some_same _ n (sym (cond-true (is_number text) (Some (digits_value 10 text)) None b) ∙ h);
    }
number_parts_by text n false b h = absurd (cc (sym (cond-false (is_number text) (Some (digits_value 10 text)) None b) ∙ h))

pub number_parts : (text : List ℕ) (n : ℕ) → number_of text ≡ Some n → IsNumberText text n
number_parts text n h = number_parts_by text n (is_number text) refl h

-- a number that is read is below 10 ^ 10
pub number_below : (text : List ℕ) (n : ℕ) → number_of text ≡ Some n → n < 10 ^ 10
number_below text n h =
    let p = number_parts text n h in
    subst (λ m. m < 10 ^ 10) p.value (digits_value_short own text 10 p.digits p.short)

-- the decimal text of a number below 10 ^ 10 is read as that number
pub number_of-decimal : (n : ℕ) → n < 10 ^ 10 → number_of (decimal n) ≡ Some n
unfolding number_of
number_of-decimal n h =
    let wide : n < 2 ^ 64 = omega arith in
    let some : 0 < length (decimal n) = decimal_nonempty n wide in
    let short : length (decimal n) ≤ 10 = length-decimal-le 10 n (omega arith) h wide in
    let front : not (nat_eq (length (decimal n)) 0) ≡ true = grind (arith, nat_tests) in
    cond-true (is_number (decimal n)) (Some (digits_value 10 (decimal n))) None (and_from _ _ (and_from _ _ front (le-leb _ _ short)) (decimal_digits n wide))
    ∙ ap (λ (m : ℕ). Some m) (digits_value-decimal own n wide)

-- a text without a zero in front, or just `0`, is the decimal text of the number that it is read as
pub decimal_of_number : (text : List ℕ) (n : ℕ) → number_of text ≡ Some n → (get_or text 0 0 ≡ 48 → length text ≡ 1) → text ≡ decimal n
decimal_of_number text n h bare =
    let p = number_parts text n h in
    let below : digits_value 10 text < 2 ^ 64 = omega (arith, digits_value_short own text 10 p.digits p.short) in
    sym (decimal-digits_value own text p.digits p.some bare below) ∙ ap decimal p.value

-- a decimal text begins with a zero only if it is `0`
pub decimal_bare : (n : ℕ) → n < 2 ^ 64 → get_or (decimal n) 0 0 ≡ 48 → length (decimal n) ≡ 1
decimal_bare zero h e = ap length (decimal_digit 0 (omega arith))
decimal_bare (suc n) h e = absurd (omega (arith, first_decimal (suc n) (omega arith) h))
