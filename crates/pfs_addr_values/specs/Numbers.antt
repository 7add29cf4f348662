-- Numbers in texts: 1 to 10 decimal digits; zeros in front are read.
use Rattle.std.specs.Prelude.{ℕ, List, Bool, Option, Some, None, if◌then◌else◌, not, ◌&&◌, ◌==◌, nat_le, length}
use Rattle.std.specs.List.{list_all}
use Rattle.std.specs.Str.Parse.{digits_value}

-- a decimal digit
abbrev pub is_digit : ℕ → Bool
is_digit b = nat_le 48 b && nat_le b 57

-- a number is 1 to 10 decimal digits
abbrev pub is_number : List ℕ → Bool
is_number text = not (length text == 0) && nat_le (length text) 10 && list_all is_digit text

-- the number that a text writes, where it is one; zeros in front are read
unfoldable pub number_of : List ℕ → Option ℕ
number_of text = if is_number text then Some (digits_value 10 text) else None
