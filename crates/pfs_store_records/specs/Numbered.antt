-- Places by their numbers, of which each is above the one before it. (own) (not promised)
use Rattle.std.specs.Prelude.{◌≡◌, ℕ, cond, List, [], ◌∷◌, MatchOption, Option}
use Rattle.std.specs.BTreeMap.{is_at}
use Rattle.std.specs.Map.{lookup}
use Rattle.std.specs.Ordering.{nat_cmp}

pub record NumberedPlaces : Type 0 where
  pub entries : List (ℕ × ℕ)

-- the first of what was left is given, and the others are left; or none was left
abbrev pub IsFirstLeft : List (ℕ × ℕ) → Option (ℕ × ℕ) → List (ℕ × ℕ) → Type 0
IsFirstLeft before given after = MatchOption given ((before ≡ []) × (after ≡ [])) (λ e. before ≡ e ∷ after)

-- a number has this place now, or none, and each other number has what it had
abbrev pub HasPlace : ℕ → Option ℕ → List (ℕ × ℕ) → List (ℕ × ℕ) → Type 0
HasPlace number place before after = (n : ℕ) → lookup (is_at (nat_cmp n)) after ≡ cond (is_at (nat_cmp number) n) place (lookup (is_at (nat_cmp n)) before)
