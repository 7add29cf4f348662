-- How the reading of a byte of an address goes on. (not promised)
use Rattle.std.specs.Prelude.{ℕ, List, [], ◌∷◌, Bool, true, not}
use Rattle.pfs_addr_values.specs.Numbers.{is_digit}

-- a text does not begin with a digit
abbrev pub stops : List ℕ → Bool
stops [] = true
stops (c ∷ rest) = not (is_digit c)
