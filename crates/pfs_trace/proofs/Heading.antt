-- A header is a record of nine fields, each the name of its column.
use Rattle.std.proofs.Common.{◌≡◌, ℕ, List, [], ◌∷◌, Bool, true, false, refl, arith, length, suc}
use Rattle.std.specs.Prelude.{◌==◌, ◌&&◌, codes}
use Rattle.std.specs.Str.{bytes_eq}
use Rattle.std.proofs.lemmas.Bool.Decides.{nat_tests}
use Rattle.csv.specs.Records.{field_at}
use Rattle.pfs_trace.specs.Columns.{column_of, is_header}

-- a record has nine fields, the names of the columns
abbrev pub has_names : List (List ℕ) → Bool
has_names fields =
    (length fields == 9)
    && bytes_eq (column_of fields 1) (codes "time")
    && bytes_eq (column_of fields 2) (codes "dir")
    && bytes_eq (column_of fields 3) (codes "if")
    && bytes_eq (column_of fields 4) (codes "proto")
    && bytes_eq (column_of fields 5) (codes "src")
    && bytes_eq (column_of fields 6) (codes "sport")
    && bytes_eq (column_of fields 7) (codes "dst")
    && bytes_eq (column_of fields 8) (codes "dport")
    && bytes_eq (column_of fields 9) (codes "flags")

-- tests joined from the left, and from the right
and-assoc : (a b c : Bool) → (a && b) && c ≡ a && (b && c)
and-assoc true b c = refl
and-assoc false b c = refl

and-true : (a : Bool) → a && true ≡ a
and-true true = refl
and-true false = refl

and-false : (a : Bool) → a && false ≡ false
and-false true = refl
and-false false = refl

longer : (n : ℕ) → (suc (suc (suc (suc (suc (suc (suc (suc (suc (suc n))))))))) == 9) ≡ false
longer n = grind (arith, nat_tests)

pub header-names : (fields : List (List ℕ)) → has_names fields ≡ is_header fields
unfolding field_at
header-names [] = refl
header-names (a ∷ []) = simp (and-false)
header-names (a ∷ b ∷ []) = simp (and-false)
header-names (a ∷ b ∷ c ∷ []) = simp (and-false)
header-names (a ∷ b ∷ c ∷ d ∷ []) = simp (and-false)
header-names (a ∷ b ∷ c ∷ d ∷ e ∷ []) = simp (and-false)
header-names (a ∷ b ∷ c ∷ d ∷ e ∷ f ∷ []) = simp (and-false)
header-names (a ∷ b ∷ c ∷ d ∷ e ∷ f ∷ g ∷ []) = simp (and-false)
header-names (a ∷ b ∷ c ∷ d ∷ e ∷ f ∷ g ∷ h ∷ []) = simp (and-false)
header-names (a ∷ b ∷ c ∷ d ∷ e ∷ f ∷ g ∷ h ∷ i ∷ []) = simp (and-assoc, and-true)
header-names (a ∷ b ∷ c ∷ d ∷ e ∷ f ∷ g ∷ h ∷ i ∷ j ∷ rest) = rw (longer (length rest)) (simp (and-false))
