-- The bytes of an address's text.
use Rattle.std.proofs.Common.{ℕ, List, [], ◌∷◌, ◌≡◌, ◌<◌, Bool, true, ◌||◌, nat_eq, decimal, refl, arith, ◌∙◌}
use Rattle.std.specs.Prelude.{All}
use Rattle.std.specs.List.{list_all}
use Rattle.std.proofs.lemmas.Bool.{and_from, and_parts}
use Rattle.std.proofs.lemmas.Bool.Decides.{nat_tests}
use Rattle.std.proofs.lemmas.List.Elements.{All-head, All-tail}
use Rattle.std.proofs.lemmas.List.Folds.{list_all-append}
use Rattle.pfs_addr_values.specs.Addresses.{dotted_decimal}
use Rattle.pfs_addr_values.specs.Numbers.{is_digit}
use Rattle.pfs_addr.proofs.NumberLaws.{decimal_digits}

-- a digit or a dot
abbrev pub is_addr_byte : ℕ → Bool
is_addr_byte b = is_digit b || nat_eq b 46

-- what holds of each byte holds of each byte that a stronger test lets through
weaker : (p q : ℕ → Bool) → ((b : ℕ) → p b ≡ true → q b ≡ true) → (xs : List ℕ) → list_all p xs ≡ true → list_all q xs ≡ true
weaker p q f [] h = refl
weaker p q f (x ∷ xs) h = let k = and_parts (p x) (list_all p xs) h in and_from _ _ (f x k.0) (weaker p q f xs k.1)

decimal_bytes : (n : ℕ) → n < 256 → list_all is_addr_byte (decimal n) ≡ true
decimal_bytes n h = weaker is_digit is_addr_byte (λ b k. grind (arith, nat_tests)) (decimal n) (decimal_digits n (omega arith))

-- a dotted quad has digits and dots alone
pub dotted_bytes : (bytes : List ℕ) → All (λ b. b < 256) bytes → list_all is_addr_byte (dotted_decimal bytes) ≡ true
dotted_bytes [] all = refl
dotted_bytes (b ∷ []) all = decimal_bytes b (All-head (λ b. b < 256) b [] all)
dotted_bytes (b ∷ c ∷ rest) all =
    list_all-append is_addr_byte (decimal b) (46 ∷ dotted_decimal (c ∷ rest))
    ∙ and_from _ _ (decimal_bytes b (All-head (λ b. b < 256) b (c ∷ rest) all)) (dotted_bytes (c ∷ rest) (All-tail (λ b. b < 256) b (c ∷ rest) all))
