-- Numbers in words.
use Rattle.std.specs.Prelude.{ℕ, ◌+◌, ◌*◌, ◌-◌, List, [], ◌∷◌, length, take, drop, position, Option, Some, None, nat_lt, ◌==◌, ◌||◌, if◌then◌else◌}

-- decimal digits, after the number that is read already
unfoldable pub digits_from : ℕ → List ℕ → Option ℕ
digits_from n [] = Some n
digits_from n (b ∷ bs) = if nat_lt b 48 || nat_lt 57 b then None else digits_from (n * 10 + (b - 48)) bs

-- a number is 1 to 10 decimal digits; leading zeros are read
unfoldable pub number_written : List ℕ → Option ℕ
number_written text = if (length text == 0) || nat_lt 10 (length text) then None else digits_from 0 text

-- the parts of a word before and after a place
abbrev pub parts_around : List ℕ → Option ℕ → Option (List ℕ × List ℕ)
parts_around text None = None
parts_around text (Some i) = Some (take i text, drop (i + 1) text)

-- the parts of a word before and after the first byte of this value, if it is there
unfoldable pub split_around : ℕ → List ℕ → Option (List ℕ × List ℕ)
split_around byte text = parts_around text (position (λ b. b == byte) text)
