-- A word's key is found among the words of its length.
use Rattle.std.proofs.Common.{◌≡◌, ◌∙◌, refl, sym, ap, arith, ℕ, List, [], ◌∷◌, ◌++◌, length, true, false, cond, Option, Some}
use Rattle.std.specs.Prelude.{◌==◌, unwrap_or}
use Rattle.std.specs.Map.{lookup}
use Rattle.std.specs.Str.{bytes_eq}
use Rattle.std.proofs.lemmas.Grind.{common_steps}
use Rattle.std.proofs.lemmas.Map.Entries.{lookup-filter-keys}
use Rattle.std.proofs.lemmas.Slice.Eq.{bytes_eq-Decides}
use Rattle.pfs_conf_tokens.specs.declared.keys.Key.{Key}
use Rattle.pfs_conf_tokens.specs.declared.keys.Key.TheVariants as key
use Rattle.pfs_conf_tokens.specs.WordLengths.{all_words, words_of_length}
use Rattle.pfs_conf_tokens.specs.Words.{foreign_words, key_among, key_of_text, named_words, option_words, starts_with_digit, statement_words}

among-append : (xs ys : List (List ℕ × Key)) (w : List ℕ) (k : Key) → key_among (xs ++ ys) w k ≡ key_among xs w (key_among ys w k)
among-append [] ys w k = refl
among-append (x ∷ xs) ys w k =
    elim (bytes_eq w x.0) as (λ b. unwrap_or (cond b (Some x.1) (lookup (bytes_eq w) (xs ++ ys))) k ≡ unwrap_or (cond b (Some x.1) (lookup (bytes_eq w) xs)) (key_among ys w k))
    [ true ↦ refl | false ↦ among-append xs ys w k ]

same-length : (w v : List ℕ) → bytes_eq w v ≡ true → (length v == length w) ≡ true
same-length w v e = grind (arith, common_steps, bytes_eq-Decides w v)

found-among : (w : List ℕ) → lookup (bytes_eq w) (words_of_length (length w)) ≡ lookup (bytes_eq w) all_words
found-among w = lookup-filter-keys (bytes_eq w) (λ v. length v == length w) true (same-length w) all_words

-- the key of a word that begins with no digit
pub key-found : (w : List ℕ) → starts_with_digit w ≡ false → key_of_text w ≡ key_among (words_of_length (length w)) w key.Name
unfolding key_of_text
key-found w d =
    rw d (sym (ap (λ o. unwrap_or o key.Name) (found-among w)
    ∙ among-append (statement_words ++ option_words ++ named_words) foreign_words w key.Name
    ∙ among-append (statement_words ++ option_words) named_words w (key_among foreign_words w key.Name)
    ∙ among-append statement_words option_words w (key_among named_words w (key_among foreign_words w key.Name))))

-- the key that is told of it, where this was found among these words
pub key-told : (w : List ℕ) (entries : List (List ℕ × Key)) (found : Option Key) → starts_with_digit w ≡ false → entries ≡ words_of_length (length w)
    → found ≡ lookup (bytes_eq w) entries → unwrap_or found key.Name ≡ key_of_text w
key-told w entries found d e f = ap (λ (o : Option Key). unwrap_or o key.Name) (f ∙ ap (λ (es : List (List ℕ × Key)). lookup (bytes_eq w) es) e) ∙ sym (key-found w d)
