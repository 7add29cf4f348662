-- The flags of a text, letter by letter: for parse_flags.
use Rattle.std.proofs.Common.{ℕ, List, [], ◌∷◌, ◌≡◌, ◌<◌, ◌+◌, Bool, true, false, ◌||◌, ◌&&◌, Some, None, add-one, ap, drop, get_or, length, refl, sym, ◌∙◌}
use Rattle.std.proofs.Math.Seq.{drop-cons}
use Rattle.std.proofs.lemmas.Bool.{cond-true}
use Rattle.std.specs.List.{list_all}
use Rattle.pfs_addr_values.specs.FlagSets.{flags_of, is_flag_letter}
use Rattle.pfs_addr.specs.LetterSteps.{no_letter, with_letter, with_letters}
use Rattle.pfs_addr_values.specs.declared.flag_sets.Flags.{Flags}

or_assoc : (x y z : Bool) → ((x || y) || z) ≡ (x || (y || z))
or_assoc true y z = refl
or_assoc false y z = refl

or_false : (x : Bool) → (x || false) ≡ x
or_false true = refl
or_false false = refl

-- the first letter of those that are left
with_letters_more : (f : Flags) (b : ℕ) (rest : List ℕ) → with_letters (with_letter f b) rest ≡ with_letters f (b ∷ rest)
with_letters_more f b rest = simp or_assoc

-- no letter is left
with_letters_none : (f : Flags) → with_letters f [] ≡ f
with_letters_none f = simp or_false

first_left : (text : List ℕ) (i : ℕ) → i < length text → drop i text ≡ get_or text i 0 ∷ drop (i + 1) text
first_left text i h = rw (add-one, drop-cons text i 0)

-- a letter is taken: those that are left are letters if all were, and with them the flags come to the same
pub letters_left : (text : List ℕ) (i : ℕ) (all : Bool) → i < length text → is_flag_letter (get_or text i 0) ≡ true
    → list_all is_flag_letter (drop i text) ≡ all → list_all is_flag_letter (drop (i + 1) text) ≡ all
letters_left text i all h letter left =
    ap (λ (t : Bool). t && list_all is_flag_letter (drop (i + 1) text)) (sym letter) ∙ rw (first_left text i h) at left

pub flags_left : (f whole : Flags) (text : List ℕ) (i : ℕ) → i < length text
    → with_letters f (drop i text) ≡ whole → with_letters (with_letter f (get_or text i 0)) (drop (i + 1) text) ≡ whole
flags_left f whole text i h left = with_letters_more f (get_or text i 0) (drop (i + 1) text) ∙ rw (first_left text i h) at left

-- nothing is left
pub flags_found : (f : Flags) (text rest : List ℕ) → rest ≡ [] → list_all is_flag_letter rest ≡ list_all is_flag_letter text
    → with_letters f rest ≡ with_letters no_letter text → Some f ≡ flags_of text
flags_found f text [] e all same =
    ap (λ (g : Flags). Some g) (sym (with_letters_none f) ∙ same) ∙ sym (cond-true (list_all is_flag_letter text) (Some (with_letters no_letter text)) None (sym all))
flags_found f text (b ∷ rest) e all same = cc
