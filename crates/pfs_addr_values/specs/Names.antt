-- Names of interfaces, tables and anchors: which texts are names, and how a name is kept in place.
use Rattle.std.specs.Prelude.{ℕ, List, Bool, Option, Some, None, not, if◌then◌else◌, ◌≡◌, ◌&&◌, ◌||◌, ◌==◌, ◌-◌, nat_le, length, take, drop, replicate, true}
use Rattle.std.specs.List.{list_all}

-- a letter, a digit, `_`, `-` or `.`
abbrev pub is_name_byte : ℕ → Bool
is_name_byte b =
    (nat_le 97 b && nat_le b 122) || (nat_le 65 b && nat_le b 90) || (nat_le 48 b && nat_le b 57)
    || (b == 95) || (b == 45) || (b == 46)

-- whether a text is a name of at most so many bytes
abbrev pub is_name : ℕ → List ℕ → Bool
is_name most text = not (length text == 0) && nat_le (length text) most && list_all is_name_byte text

-- the name that a text is, seen as its bytes
abbrev pub name_of : ℕ → List ℕ → Option (List ℕ)
name_of most text = if is_name most text then Some text else None

-- how a name is kept in place: its bytes, then zeros
pub record IsPadded (most : ℕ) (bytes : List ℕ) (len : ℕ) : Type 0 where
  pub name : is_name most (take len bytes) ≡ true
  pub size : length (take len bytes) ≡ len
  pub zeros : drop len bytes ≡ replicate (most - len) 0
