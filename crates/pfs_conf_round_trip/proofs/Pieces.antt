-- The tokens of small pieces of a text, after other tokens of their line: a word, a mark, a number.
use Rattle.std.proofs.Common.{◌≡◌, ◌≤◌, ◌<◌, ◌^◌, ℕ, suc, Bool, true, false, List, [], ◌∷◌, ◌++◌, refl, sym, ap, ◌∙◌, arith, append-nil, append_assoc}
use Rattle.std.specs.Prelude.{decimal}
use Rattle.std.specs.List.{list_all}
use Rattle.std.proofs.lemmas.Bool.{and_parts, and_from}
use Rattle.std.proofs.lemmas.List.Folds.{list_all-append}
use Rattle.pfs_conf_tokens.specs.declared.keys.Key.{Key}
use Rattle.pfs_conf_tokens.specs.declared.keys.Key.TheVariants as key
use Rattle.pfs_conf_tokens.specs.Grammar.{Word, Number}
use Rattle.pfs_conf_tokens.specs.Lexis.{is_mark, is_word_byte, mark_key, tokens}
use Rattle.pfs_conf_tokens.specs.Tokens.{Tok, token}
use Rattle.pfs_conf_tokens.specs.Words.{key_of_text}
use Rattle.pfs_conf_tokens.proofs.ShownLaws.{breaks, decimal_text, is_word_text, key_of_decimal, line_then, mark_then, number_of-decimal, space_then, word_then}

-- the tokens of a text after others of its line
abbrev pub at : ℕ → List ℕ → List Tok
at line text = tokens 0 true line text

-- ---- words

-- a word that begins a line or not
pub word_first : (busy : Bool) (line : ℕ) (w more : List ℕ) {k : Key} → is_word_text w ≡ true → breaks more ≡ true → key_of_text w ≡ k → Word k (tokens 0 busy line (w ++ more)) (at line more)
word_first busy line w more h b e = (token line (key_of_text w) w, word_then busy line w more h b, e)

-- a word after a space
pub word : (line : ℕ) (w more : List ℕ) {k : Key} → is_word_text w ≡ true → breaks more ≡ true → key_of_text w ≡ k → Word k (at line (32 ∷ (w ++ more))) (at line more)
word line w more h b e = (token line (key_of_text w) w, space_then true line (w ++ more) ∙ word_then true line w more h b, e)

-- a word and the space after it
pub word_space : (busy : Bool) (line : ℕ) (w more : List ℕ) {k : Key} → is_word_text w ≡ true → key_of_text w ≡ k → Word k (tokens 0 busy line (w ++ 32 ∷ more)) (at line more)
word_space busy line w more h e =
    (token line (key_of_text w) w, word_then busy line w (32 ∷ more) h refl ∙ ap (λ (z : List Tok). token line (key_of_text w) w ∷ z) (space_then true line more), e)

-- a word and the space after it, in front of a number
pub word_number : (line : ℕ) (w : List ℕ) (n : ℕ) (more : List ℕ) {k : Key} → is_word_text w ≡ true → key_of_text w ≡ k → Word k (at line ((w ++ 32 ∷ decimal n) ++ more)) (at line (decimal n ++ more))
word_number line w n more h e =
    let p = word_space true line w (decimal n ++ more) h e in
    (p.0, ap (at line) (append_assoc w (32 ∷ decimal n) more) ∙ p.1, p.2)

-- a word between spaces
pub word_between : (line : ℕ) (w more : List ℕ) {k : Key} → is_word_text w ≡ true → key_of_text w ≡ k → Word k (at line (32 ∷ (w ++ 32 ∷ more))) (at line more)
word_between line w more h e =
    let p = word_space true line w more h e in
    (p.0, space_then true line (w ++ 32 ∷ more) ∙ p.1, p.2)

-- ---- marks

pub mark : (busy : Bool) (line b : ℕ) (more : List ℕ) → is_mark b ≡ true → Word (mark_key b) (tokens 0 busy line (b ∷ more)) (at line more)
mark busy line b more h = (token line (mark_key b) (b ∷ []), mark_then busy line b more h, refl)

-- a mark after a space
pub mark_behind : (line b : ℕ) (more : List ℕ) → is_mark b ≡ true → Word (mark_key b) (at line (32 ∷ b ∷ more)) (at line more)
mark_behind line b more h = (token line (mark_key b) (b ∷ []), space_then true line (b ∷ more) ∙ mark_then true line b more h, refl)

-- a mark and the space after it
pub mark_space : (busy : Bool) (line b : ℕ) (more : List ℕ) → is_mark b ≡ true → Word (mark_key b) (tokens 0 busy line (b ∷ 32 ∷ more)) (at line more)
mark_space busy line b more h =
    (token line (mark_key b) (b ∷ []), mark_then busy line b (32 ∷ more) h ∙ ap (λ (z : List Tok). token line (mark_key b) (b ∷ []) ∷ z) (space_then true line more), refl)

-- a mark between spaces
pub mark_between : (line b : ℕ) (more : List ℕ) → is_mark b ≡ true → Word (mark_key b) (at line (32 ∷ b ∷ 32 ∷ more)) (at line more)
mark_between line b more h =
    let p = mark_space true line b more h in
    (p.0, space_then true line (b ∷ 32 ∷ more) ∙ p.1, p.2)

-- the end of a line
pub line_end : (busy : Bool) (line : ℕ) (more : List ℕ) → Word key.LineEnd (tokens 0 busy line (10 ∷ more)) (tokens 0 false (suc line) more)
line_end busy line more = (token line key.LineEnd [], line_then busy line more, refl)

-- ---- bytes of words

pub text_all : (w : List ℕ) → is_word_text w ≡ true → list_all is_word_byte w ≡ true
text_all [] h = refl
text_all (b ∷ w) h = h

pub decimal_all : (n : ℕ) → n < 2 ^ 64 → list_all is_word_byte (decimal n) ≡ true
decimal_all n h = text_all (decimal n) (decimal_text n h)

pub all_append : (p : ℕ → Bool) (v w : List ℕ) → list_all p v ≡ true → list_all p w ≡ true → list_all p (v ++ w) ≡ true
all_append p v w h g = list_all-append p v w ∙ and_from (list_all p v) (list_all p w) h g

-- a word with more bytes after it is a word
pub text_append : (v w : List ℕ) → is_word_text v ≡ true → list_all is_word_byte w ≡ true → is_word_text (v ++ w) ≡ true
text_append [] w h g = absurd cc
text_append (b ∷ v) w h g =
    let p = and_parts (is_word_byte b) (list_all is_word_byte v) h in
    and_from (is_word_byte b) (list_all is_word_byte (v ++ w)) p.0 (all_append is_word_byte v w p.1 g)

-- ---- numbers

-- a number that is written, in front of what ends a word
pub number : (busy : Bool) (line low high n : ℕ) (more : List ℕ) → low ≤ n → n ≤ high → n < 10 ^ 10 → breaks more ≡ true → Number low high (tokens 0 busy line (decimal n ++ more)) n (at line more)
number busy line low high n more l h lt b =
    let small : n < 2 ^ 64 = omega arith in
    let k : key_of_text (decimal n) ≡ key.Number = ap key_of_text (sym (append-nil (decimal n))) ∙ key_of_decimal n [] small in
    (token line (key_of_text (decimal n)) (decimal n), word_then busy line (decimal n) more (decimal_text n small) b, k, number_of-decimal n lt, l, h)
