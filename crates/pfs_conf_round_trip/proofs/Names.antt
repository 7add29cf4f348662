-- Names as words: which bytes and which key they have.
use Rattle.std.proofs.Common.{◌≡◌, ℕ, Bool, true, false, List, [], ◌∷◌, Some, None, refl, sym, ap, ◌∙◌, arith}
use Rattle.std.specs.Prelude.{codes, ◌&&◌, ◌||◌, ◌==◌, not, nat_le, length, if◌then◌else◌, unwrap_or}
use Rattle.std.specs.List.{list_all}
use Rattle.std.specs.Map.{lookup}
use Rattle.std.specs.Str.{bytes_eq}
use Rattle.std.proofs.lemmas.Bool.{cond-true, and_parts, and_from}
use Rattle.std.proofs.lemmas.Bool.Decides.{nat_tests}
use Rattle.std.proofs.lemmas.Slice.Eq.{bytes_eq-Decides}
use Rattle.pfs_conf_tokens.specs.declared.keys.Key.{Key}
use Rattle.pfs_conf_tokens.specs.declared.keys.Key.TheVariants as key
use Rattle.pfs_conf_tokens.specs.declared.lexer.Run.TheVariants as run
use Rattle.pfs_conf_tokens.specs.Keys.{is_word_key}
use Rattle.pfs_conf_tokens.specs.Lexis.{goes_on, is_word_byte}
use Rattle.pfs_conf_tokens.specs.Words.{key_of_text, key_among, statement_words, option_words, named_words, foreign_words, starts_with_digit}
use Rattle.pfs_conf_tokens.proofs.ShownLaws.{is_word_text}
use Rattle.pfs_addr_values.specs.Names.{is_name, is_name_byte, name_of}
use Rattle.pfs_conf_filters.specs.Values.{may_name_interface}

-- ---- bytes

name_byte_word : (b : ℕ) → is_name_byte b ≡ true → is_word_byte b ≡ true
name_byte_word b h = grind (arith, nat_tests)

names_word : (w : List ℕ) → list_all is_name_byte w ≡ true → list_all is_word_byte w ≡ true
names_word [] h = refl
names_word (b ∷ w) h =
    let p = and_parts (is_name_byte b) (list_all is_name_byte w) h in
    and_from (is_word_byte b) (list_all is_word_byte w) (name_byte_word b p.0) (names_word w p.1)

-- the bytes of a name
pub name_bytes : (most : ℕ) (w : List ℕ) → is_name most w ≡ true → list_all is_name_byte w ≡ true
name_bytes most w h = (and_parts (not (length w == 0) && nat_le (length w) most) (list_all is_name_byte w) h).1

-- a name is a word
pub name_text : (most : ℕ) (w : List ℕ) → is_name most w ≡ true → is_word_text w ≡ true
name_text most [] h = absurd cc
name_text most (b ∷ w) h = names_word (b ∷ w) (name_bytes most (b ∷ w) h)

-- a name is read as itself
pub name_again : (most : ℕ) (w : List ℕ) → is_name most w ≡ true → name_of most w ≡ Some w
name_again most w h = cond-true (is_name most w) (Some w) None h

name_byte_quote : (b : ℕ) → is_name_byte b ≡ true → goes_on run.Quote b ≡ true
name_byte_quote b h = grind (arith, nat_tests)

-- a name may be in quotes
pub name_quoted : (w : List ℕ) → list_all is_name_byte w ≡ true → list_all (goes_on run.Quote) w ≡ true
name_quoted [] h = refl
name_quoted (b ∷ w) h =
    let p = and_parts (is_name_byte b) (list_all is_name_byte w) h in
    and_from (goes_on run.Quote b) (list_all (goes_on run.Quote) w) (name_byte_quote b p.0) (name_quoted w p.1)

-- ---- keys

-- a test that a table's words pass, or that are not this one
abbrev pub passes : (Key → Bool) → List ℕ → (List ℕ × Key) → Bool
passes g w entry = not (bytes_eq w entry.0) || g entry.1

-- what a table of words gives, or else another key, passes a test
found : (g : Key → Bool) (w : List ℕ) (entries : List (List ℕ × Key)) (k : Key) → list_all (passes g w) entries ≡ true → g k ≡ true → g (key_among entries w k) ≡ true
found g w [] k h e = e
found g w (entry ∷ entries) k h e =
    let p = and_parts (passes g w entry) (list_all (passes g w) entries) h in
    go p.0 (found g w entries k p.1 e) (bytes_eq w entry.0) refl
  where
    go : passes g w entry ≡ true → g (key_among entries w k) ≡ true → (b : Bool) → bytes_eq w entry.0 ≡ b
        → g (unwrap_or (if b then Some entry.1 else lookup (bytes_eq w) entries) k) ≡ true
    go one others true q = sym (ap (λ (b : Bool). not b || g entry.1) q) ∙ one
    go one others false q = others

-- every entry of a table passes
all_pass : (g : Key → Bool) (w : List ℕ) (entries : List (List ℕ × Key)) → list_all (λ (entry : List ℕ × Key). g entry.1) entries ≡ true → list_all (passes g w) entries ≡ true
all_pass g w [] h = refl
all_pass g w (entry ∷ entries) h =
    let p = and_parts (g entry.1) (list_all (λ (e : List ℕ × Key). g e.1) entries) h in
    and_from (passes g w entry) (list_all (passes g w) entries) (one (bytes_eq w entry.0) p.0) (all_pass g w entries p.1)
  where
    one : (b : Bool) → g entry.1 ≡ true → (not b || g entry.1) ≡ true
    one true e = e
    one false e = refl

if_digit : (g : Key → Bool) (b : Bool) (k : Key) → g key.Number ≡ true → g k ≡ true → g (if b then key.Number else k) ≡ true
if_digit g true k h e = h
if_digit g false k h e = e

-- the key of a word passes a test that all keys pass which words may have
pub key_passes : (g : Key → Bool) (w : List ℕ) → g key.Number ≡ true → g key.Name ≡ true
    → list_all (passes g w) statement_words ≡ true → list_all (passes g w) option_words ≡ true
    → list_all (passes g w) named_words ≡ true → list_all (passes g w) foreign_words ≡ true → g (key_of_text w) ≡ true
unfolding key_of_text
key_passes g w number name h1 h2 h3 h4 =
    if_digit g (starts_with_digit w) _ number
    (found g w statement_words _ h1 (found g w option_words _ h2 (found g w named_words _ h3 (found g w foreign_words key.Name h4 name))))

-- every word has the key of a word
pub key_of_word : (w : List ℕ) → is_word_key (key_of_text w) ≡ true
key_of_word w =
    let g = is_word_key in
    key_passes g w refl refl (all_pass g w statement_words refl) (all_pass g w option_words refl) (all_pass g w named_words refl) (all_pass g w foreign_words refl)

-- the entries of a table pass with a word that is not excepted, if all others pass with any word
all_but : (g : Key → Bool) (w : List ℕ) (excepted : List ℕ → Bool) (entries : List (List ℕ × Key)) → excepted w ≡ false
    → list_all (λ (entry : List ℕ × Key). excepted entry.0 || g entry.1) entries ≡ true → list_all (passes g w) entries ≡ true
all_but g w excepted [] e h = refl
all_but g w excepted (entry ∷ entries) e h =
    let p = and_parts (excepted entry.0 || g entry.1) (list_all (λ (x : List ℕ × Key). excepted x.0 || g x.1) entries) h in
    and_from (passes g w entry) (list_all (passes g w) entries) (one (bytes_eq w entry.0) refl p.0) (all_but g w excepted entries e p.1)
  where
    one : (b : Bool) → bytes_eq w entry.0 ≡ b → (excepted entry.0 || g entry.1) ≡ true → (not b || g entry.1) ≡ true
    one false q r = refl
    one true q r =
        let other : excepted entry.0 ≡ false = sym (ap excepted ((bytes_eq-Decides w entry.0).0 q)) ∙ e in
        sym (ap (λ (b : Bool). b || g entry.1) other) ∙ r

-- a word that is neither `any` nor `rdomain` may name an interface
pub may_name : (w : List ℕ) → bytes_eq w (codes "any") ≡ false → bytes_eq w (codes "rdomain") ≡ false → may_name_interface (key_of_text w) ≡ true
may_name w any rdomain =
    let g = may_name_interface in
    key_passes g w refl refl
    (all_but g w (λ (v : List ℕ). bytes_eq v (codes "any") || bytes_eq v (codes "rdomain")) statement_words (ap (λ (b : Bool). b || bytes_eq w (codes "rdomain")) any ∙ rdomain) refl)
    (all_pass g w option_words refl) (all_pass g w named_words refl) (all_pass g w foreign_words refl)

-- whether a key is not that of `any`
abbrev pub is_other : Key → Bool
is_other key.Any = false
is_other k = true

-- a word that is not `any` has not its key
pub not_any : (w : List ℕ) → bytes_eq w (codes "any") ≡ false → is_other (key_of_text w) ≡ true
not_any w any =
    let g = is_other in
    key_passes g w refl refl
    (all_but g w (λ (v : List ℕ). bytes_eq v (codes "any")) statement_words any refl)
    (all_pass g w option_words refl) (all_pass g w named_words refl) (all_pass g w foreign_words refl)
