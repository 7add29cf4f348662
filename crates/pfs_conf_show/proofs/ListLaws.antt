-- Lists that are written item by item.
use Rattle.std.proofs.Common.{◌≡◌, ℕ, ◌+◌, ◌<◌, Bool, true, false, Some, Result, Ok, Err, List, [], ◌∷◌, ◌++◌, length, take, map, get_or, refl, sym, ap, ◌∙◌, append_assoc, append-nil}
use Rattle.std.specs.Prelude.{codes, OnOk, slice_get}
use Rattle.std.proofs.lemmas.Option.{slice_get_within, get_or_from_slice_get}
use Rattle.std.specs.List.{flat_map}
use Rattle.std.proofs.lemmas.Grind.{flat_map-append}
use Rattle.std.proofs.lemmas.List.{take_more, map-append}
use Rattle.pfs_conf_show.specs.Pieces.{begun_after, going_on, separator, word_and_number}

pub going_on_append : (opening : List ℕ) (begun : Bool) (xs ys : List (List ℕ))
    → going_on opening begun (xs ++ ys) ≡ going_on opening begun xs ++ going_on opening (begun_after begun xs) ys
going_on_append opening begun [] ys = refl
going_on_append opening begun (x ∷ xs) ys = rw (going_on_append opening true xs ys) (rest xs)
  where
    true_after : (zs : List (List ℕ)) → begun_after true zs ≡ true
    true_after [] = refl
    true_after (z ∷ zs) = refl

    rest : (zs : List (List ℕ)) → separator opening begun ++ (x ++ (going_on opening true zs ++ going_on opening (begun_after true zs) ys)) ≡ (separator opening begun ++ (x ++ going_on opening true zs)) ++ going_on opening true ys
    rest zs = rw (true_after zs) (simp append_assoc)

pub begun_after_append : (begun : Bool) (xs ys : List (List ℕ)) → begun_after begun (xs ++ ys) ≡ begun_after (begun_after begun xs) ys
begun_after_append begun [] ys = refl
begun_after_append begun (x ∷ xs) [] = refl
begun_after_append begun (x ∷ xs) (y ∷ ys) = refl

-- one more item
pub going_on_push : (opening : List ℕ) (begun : Bool) (xs : List (List ℕ)) (x : List ℕ)
    → going_on opening begun (xs ++ x ∷ []) ≡ going_on opening begun xs ++ (separator opening (begun_after begun xs) ++ x)
going_on_push opening begun xs x = going_on_append opening begun xs (x ∷ []) ∙ ap (λ (z : List ℕ). going_on opening begun xs ++ (separator opening (begun_after begun xs) ++ z)) (append-nil x)

pub begun_after_push : (begun : Bool) (xs : List (List ℕ)) (x : List ℕ) → begun_after begun (xs ++ x ∷ []) ≡ true
begun_after_push begun [] x = refl
begun_after_push begun (y ∷ xs) x = refl

-- ---- what is written one after the other

pub behind : (o a b : List ℕ) {o1 o2 : List ℕ} → o1 ≡ o ++ a → o2 ≡ o1 ++ b → o2 ≡ o ++ (a ++ b)
behind o a b e f = f ∙ (ap (λ (z : List ℕ). z ++ b) e ∙ append_assoc o a b)

-- the items of one list after those of another
pub goes_on : (opening : List ℕ) (begun now : Bool) (xs ys : List (List ℕ)) (o o1 o2 : List ℕ) → o1 ≡ o ++ going_on opening begun xs → now ≡ begun_after begun xs
    → o2 ≡ o1 ++ going_on opening now ys → o2 ≡ o ++ going_on opening begun (xs ++ ys)
goes_on opening begun now xs ys o o1 o2 e h f =
    behind o (going_on opening begun xs) (going_on opening (begun_after begun xs) ys) e (f ∙ ap (λ (z : Bool). o1 ++ going_on opening z ys) h)
    ∙ ap (λ (z : List ℕ). o ++ z) (sym (going_on_append opening begun xs ys))

pub begun_then : (begun now : Bool) (xs ys : List (List ℕ)) {last : Bool} → now ≡ begun_after begun xs → last ≡ begun_after now ys → last ≡ begun_after begun (xs ++ ys)
begun_then begun now xs ys h e = e ∙ (ap (λ (z : Bool). begun_after z ys) h ∙ sym (begun_after_append begun xs ys))

-- ---- loops over a list

map_more : {X : Type 0} (f : X → List ℕ) (xs : List X) (i : ℕ) (d : X) → i < length xs → map f (take (i + 1) xs) ≡ map f (take i xs) ++ f (get_or xs i d) ∷ []
map_more f xs i d h = ap (map f) (take_more xs i d h) ∙ map-append f (take i xs) (get_or xs i d ∷ [])

-- one item more of a list has been written
pub list_step : {X : Type 0} (opening : List ℕ) (f : X → List ℕ) (xs : List X) (i : ℕ) (d : X) (old o1 o2 : List ℕ) (b : Bool) (x : List ℕ) → i < length xs
    → o1 ≡ old ++ going_on opening false (map f (take i xs)) → b ≡ begun_after false (map f (take i xs)) → x ≡ f (get_or xs i d)
    → o2 ≡ o1 ++ (separator opening b ++ x) → o2 ≡ old ++ going_on opening false (map f (take (i + 1) xs))
list_step opening f xs i d old o1 o2 b x h e g k l =
    let done = map f (take i xs) in
    let one : o2 ≡ o1 ++ (separator opening (begun_after false done) ++ f (get_or xs i d)) = l ∙ (ap (λ (z : Bool). o1 ++ (separator opening z ++ x)) g ∙ ap (λ (z : List ℕ). o1 ++ (separator opening (begun_after false done) ++ z)) k) in
    behind old (going_on opening false done) (separator opening (begun_after false done) ++ f (get_or xs i d)) e one
    ∙ ap (λ (z : List ℕ). old ++ z) (sym (going_on_push opening false done (f (get_or xs i d))) ∙ ap (going_on opening false) (sym (map_more f xs i d h)))

pub begun_step : {X : Type 0} (f : X → List ℕ) (xs : List X) (i : ℕ) (d : X) → i < length xs → true ≡ begun_after false (map f (take (i + 1) xs))
begun_step f xs i d h = sym (ap (begun_after false) (map_more f xs i d h) ∙ begun_after_push false (map f (take i xs)) (f (get_or xs i d)))

-- the items of one element more have been written
flat_more : {X : Type 0} (f : X → List (List ℕ)) (xs : List X) (i : ℕ) (d : X) → i < length xs → flat_map f (take (i + 1) xs) ≡ flat_map f (take i xs) ++ f (get_or xs i d)
flat_more f xs i d h = ap (flat_map f) (take_more xs i d h) ∙ (flat_map-append f (take i xs) (get_or xs i d ∷ []) ∙ ap (λ (z : List (List ℕ)). flat_map f (take i xs) ++ z) (append-nil (f (get_or xs i d))))

pub flat_step : {X : Type 0} (opening : List ℕ) (f : X → List (List ℕ)) (xs : List X) (i : ℕ) (d : X) (old o1 o2 : List ℕ) (begun b : Bool) (ys : List (List ℕ)) → i < length xs
    → o1 ≡ old ++ going_on opening begun (flat_map f (take i xs)) → b ≡ begun_after begun (flat_map f (take i xs)) → ys ≡ f (get_or xs i d)
    → o2 ≡ o1 ++ going_on opening b ys → o2 ≡ old ++ going_on opening begun (flat_map f (take (i + 1) xs))
flat_step opening f xs i d old o1 o2 begun b ys h e g k l =
    goes_on opening begun b (flat_map f (take i xs)) (f (get_or xs i d)) old o1 o2 e g (l ∙ ap (λ (z : List (List ℕ)). o1 ++ going_on opening b z) k)
    ∙ ap (λ (z : List (List ℕ)). old ++ going_on opening begun z) (sym (flat_more f xs i d h))

pub flat_begun : {X : Type 0} (f : X → List (List ℕ)) (xs : List X) (i : ℕ) (d : X) (begun b last : Bool) (ys : List (List ℕ)) → i < length xs
    → b ≡ begun_after begun (flat_map f (take i xs)) → ys ≡ f (get_or xs i d) → last ≡ begun_after b ys → last ≡ begun_after begun (flat_map f (take (i + 1) xs))
flat_begun f xs i d begun b last ys h g k l =
    begun_then begun b (flat_map f (take i xs)) (f (get_or xs i d)) g (l ∙ ap (begun_after b) k)
    ∙ ap (begun_after begun) (sym (flat_more f xs i d h))

-- ---- lines of settings

-- a line with its list
pub line : (o o1 o2 o3 words list : List ℕ) → o1 ≡ o ++ words → o2 ≡ o1 ++ list → o3 ≡ o2 ++ codes " }\n" → o3 ≡ o ++ (words ++ ((list ++ codes " }") ++ codes "\n"))
line o o1 o2 o3 words list e f g =
    behind o words (list ++ codes " }\n") e (behind o1 list (codes " }\n") f g)
    ∙ ap (λ (z : List ℕ). o ++ (words ++ z)) (sym (append_assoc list (codes " }") (codes "\n")))

-- four items
four : (w1 w2 w3 w4 : List ℕ) → (codes " { " ++ w1) ++ ((codes ", " ++ w2) ++ ((codes ", " ++ w3) ++ (codes ", " ++ w4))) ≡ going_on (codes " { ") false (w1 ∷ w2 ∷ w3 ∷ w4 ∷ [])
four w1 w2 w3 w4 = simp (append_assoc, append-nil)

-- one item after what is written, with the value that is meant
item : (o o1 before word : List ℕ) (n m : ℕ) → o1 ≡ o ++ (before ++ word_and_number word n) → n ≡ m → o1 ≡ o ++ (before ++ word_and_number word m)
item o o1 before word n m e h = e ∙ ap (λ (k : ℕ). o ++ (before ++ word_and_number word k)) h

pub four_items : (v1 v2 v3 v4 : List ℕ) (a b c d s n t e : ℕ) (o o1 o2 o3 o4 : List ℕ)
    → o1 ≡ o ++ (codes " { " ++ word_and_number v1 a) → o2 ≡ o1 ++ (codes ", " ++ word_and_number v2 b) → o3 ≡ o2 ++ (codes ", " ++ word_and_number v3 c) → o4 ≡ o3 ++ (codes ", " ++ word_and_number v4 d)
    → a ≡ s → b ≡ n → c ≡ t → d ≡ e
    → o4 ≡ o ++ going_on (codes " { ") false (word_and_number v1 s ∷ word_and_number v2 n ∷ word_and_number v3 t ∷ word_and_number v4 e ∷ [])
four_items v1 v2 v3 v4 a b c d s n t e o o1 o2 o3 o4 f g h k p q r u =
    let w1 = codes " { " ++ word_and_number v1 s in
    let w2 = codes ", " ++ word_and_number v2 n in
    let w3 = codes ", " ++ word_and_number v3 t in
    let w4 = codes ", " ++ word_and_number v4 e in
    behind o w1 (w2 ++ (w3 ++ w4)) (item o o1 (codes " { ") v1 a s f p)
    (behind o1 w2 (w3 ++ w4) (item o1 o2 (codes ", ") v2 b n g q)
    (behind o2 w3 w4 (item o2 o3 (codes ", ") v3 c t h r) (item o3 o4 (codes ", ") v4 d e k u)))
    ∙ ap (λ (z : List ℕ). o ++ z) (four (word_and_number v1 s) (word_and_number v2 n) (word_and_number v3 t) (word_and_number v4 e))

-- what follows where a call succeeds
pub on_ok : {A E : Type 0} (P Q : Type 0) (r : Result A E) → (P → Q) → OnOk r P → OnOk r Q
on_ok P Q (Ok x) f h = f h
on_ok P Q (Err e) f h = h

-- the same, where the element has been looked up
pub step_at : {X : Type 0} (opening : List ℕ) (f : X → List ℕ) (xs : List X) (i : ℕ) (e : X) (old o1 o2 o3 : List ℕ) (b : Bool) → slice_get xs i ≡ Some e
    → o1 ≡ old ++ going_on opening false (map f (take i xs)) → b ≡ begun_after false (map f (take i xs))
    → o2 ≡ o1 ++ separator opening b → o3 ≡ o2 ++ f e → o3 ≡ old ++ going_on opening false (map f (take (i + 1) xs))
step_at opening f xs i e old o1 o2 o3 b h g k l m =
    list_step opening f xs i e old o1 o3 b (f e) (slice_get_within xs i e h) g k (sym (ap f (get_or_from_slice_get xs i e e h))) (behind o1 (separator opening b) (f e) l m)

-- one element more of a list whose texts follow one another
pub text_at : {X : Type 0} (f : X → List ℕ) (xs : List X) (i : ℕ) (e : X) (old o1 o2 : List ℕ) → slice_get xs i ≡ Some e
    → o1 ≡ old ++ flat_map f (take i xs) → o2 ≡ o1 ++ f e → o2 ≡ old ++ flat_map f (take (i + 1) xs)
text_at f xs i e old o1 o2 h g k =
    let within : i < length xs = slice_get_within xs i e h in
    let last : flat_map f (get_or xs i e ∷ []) ≡ f e = append-nil (f (get_or xs i e)) ∙ ap f (get_or_from_slice_get xs i e e h) in
    let more : flat_map f (take (i + 1) xs) ≡ flat_map f (take i xs) ++ f e =
    ap (flat_map f) (take_more xs i e within) ∙ (flat_map-append f (take i xs) (get_or xs i e ∷ []) ∙ ap (λ (z : List ℕ). flat_map f (take i xs) ++ z) last) in
    behind old (flat_map f (take i xs)) (f e) g k ∙ ap (λ (z : List ℕ). old ++ z) (sym more)
