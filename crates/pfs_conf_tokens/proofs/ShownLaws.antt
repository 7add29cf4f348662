-- What is written is read again as tokens: each piece of a text, whatever follows it.
--
-- Each law gives the tokens of a piece followed by any bytes. So the tokens of a line are these laws joined by `∙`,
-- each under `ap` of the tokens before it. `busy` says whether the line has tokens already.
use Rattle.std.proofs.Common.{◌≡◌, ℕ, zero, suc, ◌+◌, ◌-◌, ◌*◌, ◌≤◌, ◌<◌, ◌^◌, Bool, true, false, cond, List, [], ◌∷◌, ◌++◌, length, take, drop, position, Some, refl, sym, ap, ◌∙◌, arith, ◌&&◌, ◌||◌, ◌==◌, not, leb, ltb, rules, length-append, append-nil}
use Rattle.std.specs.Prelude.{decimal}
use Rattle.std.specs.Char.{is_ascii_digit}
use Rattle.std.specs.Str.{all_ascii_digits}
use Rattle.std.specs.List.{list_all, prefix_len}
use Rattle.std.proofs.lemmas.Bool.{eq-eqb, le-ltb, and_parts, and_from, or_parts, leb-true, lt-ltb, ne_eqb, not-true, or_from, and_left, cond-true, cond-false}
use Rattle.std.proofs.lemmas.List.{take_at, drop_at, drop-drop}
use Rattle.std.proofs.lemmas.List.Folds.{list_all-append}
use Rattle.std.proofs.lemmas.Bool.Decides.{nat_tests}
use Rattle.std.proofs.lemmas.Str.Parse.{IsNumeralModel, numerals_by_fold}
use Rattle.std.proofs.lemmas.Fmt.{digits_decimal, digits_value-decimal, length-decimal-le, decimal_nonempty}
use Rattle.pfs_conf_tokens.specs.Tokens.{Tok, token}
use Rattle.pfs_conf_tokens.specs.declared.keys.Key.{Key}
use Rattle.pfs_conf_tokens.specs.declared.keys.Key.TheVariants as key
use Rattle.pfs_conf_tokens.specs.declared.lexer.Run.TheVariants as run
use Rattle.pfs_conf_tokens.specs.Words.{key_of_text}
use Rattle.pfs_conf_tokens.specs.Numbers.{number_written, digits_from, split_around, parts_around}
use Rattle.pfs_conf_tokens.specs.Lexis.{is_word_byte, is_space, is_mark, mark_key, goes_on, run_of, is_closed, piece, bytes_behind, tokens, tokens_of, in_front}
use Rattle.pfs_conf_tokens.proofs.LexisLaws.{tokens_piece, tokens_space, tokens_line}
use Rattle.pfs_conf_tokens.proofs.Laws.{HasEnd, end_here, end_behind}

-- ---- any text

if_has : (b : Bool) (x y : List Tok) → HasEnd x → HasEnd y → HasEnd (cond b x y)
if_has true x y h g = h
if_has false x y h g = g

have_end : (n : ℕ) (busy : Bool) (line : ℕ) (bytes : List ℕ) → HasEnd (tokens n busy line bytes)
unfolding tokens
have_end n busy line [] = if_has busy _ _ (end_behind (end_here refl)) (end_here refl)
have_end (suc n) busy line (b ∷ bs) = have_end n busy line bs
have_end zero busy line (b ∷ bs) =
    if_has (is_space b) _ _ (have_end 0 busy line bs) (
    if_has (b == 10) _ _ (end_behind (have_end 0 false (suc line) bs)) (
    if_has (b == 35) _ _ (have_end (run_of run.Comment bs) busy line bs) (
    if_has (b == 92 && in_front 10 bs) _ _ (have_end 1 busy (suc line) bs) (end_behind (have_end (bytes_behind b bs) true line bs)))))

-- the tokens of a text have an end
pub tokens_have_end : (text : List ℕ) → HasEnd (tokens_of text)
tokens_have_end text = have_end 0 false 1 text

-- ---- words

-- no byte of a word comes next
abbrev pub breaks : List ℕ → Bool
breaks [] = true
breaks (b ∷ bs) = not (is_word_byte b)

-- a word's bytes: for one that is written out, `refl` shows it
abbrev pub is_word_text : List ℕ → Bool
is_word_text [] = false
is_word_text (b ∷ bs) = is_word_byte b && list_all is_word_byte bs

run_word : (w more : List ℕ) → list_all is_word_byte w ≡ true → breaks more ≡ true → run_of run.Word (w ++ more) ≡ length w
unfolding run_of
run_word [] [] h e = refl
run_word [] (b ∷ bs) h e = let f : is_word_byte b ≡ false = not-true (is_word_byte b) e in rw f refl
run_word (b ∷ w) more h e = let p = and_parts (is_word_byte b) (list_all is_word_byte w) h in rw p.0 (ap suc (run_word w more p.1 e))

-- a byte of a word separates nothing, and begins no comment and no continued line
record PlainByte (b : ℕ) (more : List ℕ) : Type 0 where
  space : is_space b ≡ false
  line : (b == 10) ≡ false
  comment : (b == 35) ≡ false
  joined : (b == 92 && in_front 10 more) ≡ false

word_plain : (b : ℕ) (more : List ℕ) → is_word_byte b ≡ true → PlainByte b more
word_plain b more e =
    let p = and_parts (leb 33 b && leb b 126) (not (is_mark b || b == 35 || b == 34 || b == 92)) e in
    let q = and_parts (leb 33 b) (leb b 126) p.0 in
    let low : 33 ≤ b = leb-true 33 b q.0 in
    let n = or_parts (is_mark b || b == 35 || b == 34) (b == 92) (not-true (is_mark b || b == 35 || b == 34 || b == 92) p.1) in
    let m = or_parts (is_mark b || b == 35) (b == 34) n.0 in
    let o = or_parts (is_mark b) (b == 35) m.0 in
    record {
      space = or_from (b == 32 || b == 9) (b == 13) (or_from (b == 32) (b == 9) (ne_eqb b 32 (λ h. omega arith)) (ne_eqb b 9 (λ h. omega arith))) (ne_eqb b 13 (λ h. omega arith));
      line = ne_eqb b 10 (λ h. omega arith);
      comment = o.1;
      joined = and_left (b == 92) (in_front 10 more) n.1;
    }

word_from : (busy : Bool) (line b : ℕ) (w more : List ℕ) → is_word_byte b ≡ true → list_all is_word_byte w ≡ true → breaks more ≡ true
    → tokens 0 busy line (b ∷ (w ++ more)) ≡ token line (key_of_text (b ∷ w)) (b ∷ w) ∷ tokens 0 true line more
word_from busy line b w more hb hw hm =
    let n = run_word w more hw hm in
    let t : bytes_behind b (w ++ more) ≡ length w = rw hb n in
    let le : bytes_behind b (w ++ more) ≤ length (w ++ more) = omega (arith, t, length-append w more) in
    let p = word_plain b (w ++ more) hb in
    let one = tokens_piece busy line b (b ∷ (w ++ more)) (w ++ more) refl p.space p.line p.comment p.joined le in
    let made : piece line b (w ++ more) ≡ token line (key_of_text (b ∷ w)) (b ∷ w) = rw (hb, n, take_at w more (length w) refl) refl in
    let left : drop (bytes_behind b (w ++ more)) (w ++ more) ≡ more = rw (t, drop_at w more (length w) refl) refl in
    one ∙ rw (made, left) refl

-- a word, in front of what ends a word
pub word_then : (busy : Bool) (line : ℕ) (w more : List ℕ) → is_word_text w ≡ true → breaks more ≡ true
    → tokens 0 busy line (w ++ more) ≡ token line (key_of_text w) w ∷ tokens 0 true line more
word_then busy line [] more h e = absurd cc
word_then busy line (b ∷ w) more h e = let p = and_parts (is_word_byte b) (list_all is_word_byte w) h in word_from busy line b w more p.0 p.1 e

-- two words' bytes in a row are a word's
pub word_text_append : (v w : List ℕ) → is_word_text v ≡ true → is_word_text w ≡ true → is_word_text (v ++ w) ≡ true
word_text_append [] w h g = absurd cc
word_text_append (b ∷ v) w h g =
    let p = and_parts (is_word_byte b) (list_all is_word_byte v) h in
    and_from (is_word_byte b) (list_all is_word_byte (v ++ w)) p.0 (list_all-append is_word_byte v w ∙ and_from (list_all is_word_byte v) (list_all is_word_byte w) p.1 (word_text_all w g))
  where
    word_text_all : (u : List ℕ) → is_word_text u ≡ true → list_all is_word_byte u ≡ true
    word_text_all [] e = refl
    word_text_all (c ∷ u) e = e

-- ---- numbers

read_on : ℕ → List ℕ → ℕ
read_on n [] = n
read_on n (c ∷ cs) = read_on (n * 10 + (c - 48)) cs

own : IsNumeralModel (λ ds. all_ascii_digits ds ≡ true) (read_on 0)
unfolding read_on
own = numerals_by_fold (λ ds. all_ascii_digits ds ≡ true) (search rules) read_on (search rules)

digits_are : (n : ℕ) (ds : List ℕ) → all_ascii_digits ds ≡ true → digits_from n ds ≡ Some (read_on n ds)
unfolding digits_from read_on
digits_are n [] e = refl
digits_are n (c ∷ cs) e =
    let p = and_parts (is_ascii_digit c) (all_ascii_digits cs) e in
    let q = and_parts (leb 48 c) (leb c 57) p.0 in
    let plain : (ltb c 48 || ltb 57 c) ≡ false = or_from (ltb c 48) (ltb 57 c) (le-ltb c 48 (leb-true 48 c q.0)) (le-ltb 57 c (leb-true c 57 q.1)) in
    cond-false (ltb c 48 || ltb 57 c) _ _ plain ∙ digits_are (n * 10 + (c - 48)) cs p.1

digit_word : (b : ℕ) → is_ascii_digit b ≡ true → is_word_byte b ≡ true
digit_word b e = grind (arith, nat_tests)

digits_word : (ds : List ℕ) → all_ascii_digits ds ≡ true → list_all is_word_byte ds ≡ true
digits_word [] e = refl
digits_word (c ∷ cs) e =
    let p = and_parts (is_ascii_digit c) (all_ascii_digits cs) e in
    and_from (is_word_byte c) (list_all is_word_byte cs) (digit_word c p.0) (digits_word cs p.1)

digits_text : (ds : List ℕ) → all_ascii_digits ds ≡ true → 0 < length ds → is_word_text ds ≡ true
digits_text [] e lt = absurd (omega arith)
digits_text (c ∷ cs) e lt = digits_word (c ∷ cs) e

digits_key : (ds more : List ℕ) → all_ascii_digits ds ≡ true → 0 < length ds → key_of_text (ds ++ more) ≡ key.Number
unfolding key_of_text
digits_key [] more e lt = absurd (omega arith)
digits_key (c ∷ cs) more e lt = let p = and_parts (is_ascii_digit c) (all_ascii_digits cs) e in cond-true (is_ascii_digit c) _ _ p.0

-- a number that is written is a word
pub decimal_text : (n : ℕ) → n < 2 ^ 64 → is_word_text (decimal n) ≡ true
decimal_text n lt = digits_text (decimal n) (digits_decimal own n lt) (decimal_nonempty n lt)

-- a word that begins with a written number has the key of numbers
pub key_of_decimal : (n : ℕ) (more : List ℕ) → n < 2 ^ 64 → key_of_text (decimal n ++ more) ≡ key.Number
key_of_decimal n more lt = digits_key (decimal n) more (digits_decimal own n lt) (decimal_nonempty n lt)

-- what is written of a number is read as it
pub number_of-decimal : (n : ℕ) → n < 10 ^ 10 → number_written (decimal n) ≡ Some n
unfolding number_written
number_of-decimal n lt =
    let small : n < 2 ^ 64 = omega arith in
    let some : 0 < length (decimal n) = decimal_nonempty n small in
    let few : length (decimal n) ≤ 10 = length-decimal-le 10 n (omega arith) lt small in
    let plain : ((length (decimal n) == 0) || ltb 10 (length (decimal n))) ≡ false = or_from (length (decimal n) == 0) (ltb 10 (length (decimal n))) (ne_eqb (length (decimal n)) 0 (λ h. omega arith)) (le-ltb 10 (length (decimal n)) few) in
    cond-false ((length (decimal n) == 0) || ltb 10 (length (decimal n))) _ _ plain ∙ (digits_are 0 (decimal n) (digits_decimal own n small) ∙ ap (λ z. Some z) (digits_value-decimal own n small))

-- a written number, in front of what ends a word
pub number_then : (busy : Bool) (line n : ℕ) (more : List ℕ) → n < 2 ^ 64 → breaks more ≡ true
    → tokens 0 busy line (decimal n ++ more) ≡ token line key.Number (decimal n) ∷ tokens 0 true line more
number_then busy line n more lt e =
    let k : key_of_text (decimal n) ≡ key.Number = ap key_of_text (sym (append-nil (decimal n))) ∙ key_of_decimal n [] lt in
    word_then busy line (decimal n) more (decimal_text n lt) e ∙ ap (λ (z : Key). token line z (decimal n) ∷ tokens 0 true line more) k

-- ---- the parts of a word

prefix_before : (byte : ℕ) (front behind : List ℕ) → list_all (λ b. not (b == byte)) front ≡ true → prefix_len (λ b. not (b == byte)) (front ++ byte ∷ behind) ≡ length front
prefix_before byte [] behind e = cond-false (not (byte == byte)) _ _ (ap not (eq-eqb byte byte refl))
prefix_before byte (b ∷ front) behind e =
    let p = and_parts (not (b == byte)) (list_all (λ c. not (c == byte)) front) e in
    let h = prefix_before byte front behind p.1 in
    cond-true (not (b == byte)) _ _ p.0 ∙ omega (arith, h)

-- two parts joined by a byte that does not occur in the first are split there
pub split_around_append : (byte : ℕ) (front behind : List ℕ) → list_all (λ b. not (b == byte)) front ≡ true → split_around byte (front ++ byte ∷ behind) ≡ Some (front, behind)
unfolding split_around
split_around_append byte front behind e =
    let text = front ++ byte ∷ behind in
    let at : prefix_len (λ b. not (b == byte)) text ≡ length front = prefix_before byte front behind e in
    let long : length text ≡ length front + suc (length behind) = length-append front (byte ∷ behind) in
    let found : position (λ b. b == byte) text ≡ Some (length front) = cond-true (ltb (prefix_len (λ b. not (b == byte)) text) (length text)) _ _ (lt-ltb (prefix_len (λ b. not (b == byte)) text) (length text) (omega (arith, at, long))) ∙ ap (λ z. Some z) at in
    let f : take (length front) text ≡ front = take_at front (byte ∷ behind) (length front) refl in
    let b : drop (length front + 1) text ≡ behind = sym (drop-drop 1 (length front) text) ∙ ap (λ (z : List ℕ). drop 1 z) (drop_at front (byte ∷ behind) (length front) refl) in
    let parts : ◌≡◌ {A = List ℕ × List ℕ} (take (length front) text, drop (length front + 1) text) (front, behind) = rw (f, b) refl in
    ap (parts_around text) found ∙ ap (λ (z : List ℕ × List ℕ). Some z) parts

-- ---- marks, spaces, quoted names, line ends

mark_plain : (b : ℕ) (more : List ℕ) → is_mark b ≡ true → PlainByte b more
mark_plain b more e = record {
  space = grind (arith, nat_tests);
  line = grind (arith, nat_tests);
  comment = grind (arith, nat_tests);
  joined = and_left (b == 92) (in_front 10 more) (grind (arith, nat_tests));
}

mark_no_word : (b : ℕ) → is_mark b ≡ true → is_word_byte b ≡ false
mark_no_word b e = grind (arith, nat_tests)

mark_no_quote : (b : ℕ) → is_mark b ≡ true → (b == 34) ≡ false
mark_no_quote b e = grind (arith, nat_tests)

-- a mark, whatever follows
pub mark_then : (busy : Bool) (line b : ℕ) (more : List ℕ) → is_mark b ≡ true → tokens 0 busy line (b ∷ more) ≡ token line (mark_key b) (b ∷ []) ∷ tokens 0 true line more
mark_then busy line b more e =
    let p = mark_plain b more e in
    let w = mark_no_word b e in
    let q : (b == 34 && is_closed more) ≡ false = and_left (b == 34) (is_closed more) (mark_no_quote b e) in
    let t : bytes_behind b more ≡ 0 = cond-false (is_word_byte b) _ _ w ∙ cond-false (b == 34 && is_closed more) _ _ q in
    let made : piece line b more ≡ token line (mark_key b) (b ∷ []) = cond-false (is_word_byte b) _ _ w ∙ cond-false (b == 34 && is_closed more) _ _ q in
    let one = tokens_piece busy line b (b ∷ more) more refl p.space p.line p.comment p.joined (omega (arith, t)) in
    one ∙ rw (made, t) refl

-- a space
pub space_then : (busy : Bool) (line : ℕ) (more : List ℕ) → tokens 0 busy line (32 ∷ more) ≡ tokens 0 busy line more
space_then busy line more = tokens_space busy line 32 (32 ∷ more) more refl refl

-- the end of a line
pub line_then : (busy : Bool) (line : ℕ) (more : List ℕ) → tokens 0 busy line (10 ∷ more) ≡ token line key.LineEnd [] ∷ tokens 0 false (suc line) more
line_then busy line more = tokens_line busy line 10 (10 ∷ more) more refl refl refl

-- the end of a text whose last line is ended
pub end_then : (line : ℕ) → tokens 0 false line [] ≡ token line key.End [] ∷ []
unfolding tokens
end_then line = refl

run_quote : (w more : List ℕ) → list_all (goes_on run.Quote) w ≡ true → run_of run.Quote (w ++ 34 ∷ more) ≡ length w
unfolding run_of
run_quote [] more h = refl
run_quote (b ∷ w) more h = let p = and_parts (goes_on run.Quote b) (list_all (goes_on run.Quote) w) h in rw p.0 (ap suc (run_quote w more p.1))

-- a quoted string without quotes or line feeds inside
pub quoted_then : (busy : Bool) (line : ℕ) (w more : List ℕ) → list_all (goes_on run.Quote) w ≡ true
    → tokens 0 busy line (34 ∷ (w ++ 34 ∷ more)) ≡ token line key.Quoted w ∷ tokens 0 true line more
quoted_then busy line w more h =
    let bs = w ++ 34 ∷ more in
    let n : run_of run.Quote bs ≡ length w = run_quote w more h in
    let behind : drop (length w) bs ≡ 34 ∷ more = drop_at w (34 ∷ more) (length w) refl in
    let closed : is_closed bs ≡ true = rw (n, behind) refl in
    let t : bytes_behind 34 bs ≡ suc (length w) = rw (closed, n) refl in
    let long : length bs ≡ length w + suc (length more) = length-append w (34 ∷ more) in
    let one = tokens_piece busy line 34 (34 ∷ bs) bs refl refl refl refl refl (omega (arith, t, long)) in
    let made : piece line 34 bs ≡ token line key.Quoted w = rw (closed, n, take_at w (34 ∷ more) (length w) refl) refl in
    let up : suc (length w) ≡ length w + 1 = omega arith in
    let left : drop (suc (length w)) bs ≡ more = ap (λ (k : ℕ). drop k bs) up ∙ (sym (drop-drop 1 (length w) bs) ∙ ap (λ (z : List ℕ). drop 1 z) behind) in
    one ∙ rw (made, t, left) refl
