-- A list whose elements are read one after the other.
use Rattle.std.proofs.Common.{◌≡◌, ◌<◌, ◌≤◌, ◌+◌, ◌∙◌, ℕ, suc, List, [], ◌∷◌, ◌++◌, map, drop, get_or, length, Option, Some, None, ap, sym, refl, add-one, drop-cons, append_assoc, append-nil}
use Rattle.std.proofs.lemmas.List.{drop_all}
use Rattle.std.specs.Prelude.{option_and_then, option_map}
use Rattle.pfs_capture_jobs.specs.Asked.{all_read}

-- the element of an index, and then those behind it
pub drop-here : {A : Type 0} (xs : List A) (i : ℕ) (x o : A) → x ≡ get_or xs i o → i < length xs → drop i xs ≡ x ∷ drop (i + 1) xs
drop-here xs i x o e lt =
    drop-cons xs i o lt ∙ (ap (λ (z : _). z ∷ drop (suc i) xs) (sym e) ∙ ap (λ (n : ℕ). x ∷ drop n xs) (sym (add-one i)))

-- texts are read as what is behind the references to them
pub read-behind : {A B C : Type 0} (read : B → Option C) (f : A → B) (xs : List A) → all_read read (map f xs) ≡ all_read (λ x. read (f x)) xs
read-behind read f [] = refl
read-behind read f (x ∷ xs) = ap (λ (more : Option (List _)). option_and_then (λ y. option_map (λ ys. y ∷ ys) more) (read (f x))) (read-behind read f xs)

-- what was read, and then what is left
abbrev pub so-far : {A B : Type 0} → (A → Option B) → List B → List A → Option (List B)
so-far read done left = option_map (λ ys. done ++ ys) (all_read read left)

joined : {B : Type 0} (done : List B) (y : B) (o : Option (List B)) → option_map (λ ys. done ++ ys) (option_map (λ ys. y ∷ ys) o) ≡ option_map (λ ys. (done ++ y ∷ []) ++ ys) o
joined done y None = refl
joined done y (Some ys) = ap Some (sym (append_assoc done (y ∷ []) ys))

-- one element more is read
pub read-step : {A B : Type 0} (read : A → Option B) (xs : List A) (i : ℕ) (x o : A) (y : B) (done : List B) → x ≡ get_or xs i o → i < length xs → read x ≡ Some y
    → so-far read done (drop i xs) ≡ so-far read (done ++ y ∷ []) (drop (i + 1) xs)
read-step read xs i x o y done e lt is =
    ap (λ (left : List _). so-far read done left) (drop-here xs i x o e lt)
    ∙ (ap (λ (r : Option _). option_map (λ ys. done ++ ys) (option_and_then (λ z. option_map (λ ys. z ∷ ys) (all_read read (drop (i + 1) xs))) r)) is
    ∙ joined done y (all_read read (drop (i + 1) xs)))

-- one that can't be read
pub read-none : {A B : Type 0} (read : A → Option B) (xs : List A) (i : ℕ) (x o : A) (done : List B) → x ≡ get_or xs i o → i < length xs → read x ≡ None → so-far read done (drop i xs) ≡ None
read-none read xs i x o done e lt is =
    ap (λ (left : List _). so-far read done left) (drop-here xs i x o e lt)
    ∙ ap (λ (r : Option _). option_map (λ ys. done ++ ys) (option_and_then (λ z. option_map (λ ys. z ∷ ys) (all_read read (drop (i + 1) xs))) r)) is

-- at last nothing is left
pub read-end : {A B : Type 0} (read : A → Option B) (xs : List A) (i : ℕ) (done : List B) → length xs ≤ i → so-far read done (drop i xs) ≡ Some done
read-end read xs i done le = ap (λ (left : List _). so-far read done left) (drop_all i xs le) ∙ ap Some (append-nil done)

-- the same of what stands behind the element of an index
pub read-next : {A T B : Type 0} (read : T → Option B) (f : A → T) (xs : List A) (i : ℕ) (t : T) (o : A) (y : B) (done after : List B) → t ≡ f (get_or xs i o) → read t ≡ Some y → i < length xs → after ≡ done ++ y ∷ []
    → so-far (λ x. read (f x)) done (drop i xs) ≡ so-far (λ x. read (f x)) after (drop (i + 1) xs)
read-next read f xs i t o y done after e is lt more =
    read-step (λ x. read (f x)) xs i (get_or xs i o) o y done refl lt (ap read (sym e) ∙ is) ∙ ap (λ (ys : List _). so-far (λ x. read (f x)) ys (drop (i + 1) xs)) (sym more)

pub read-stop : {A T B : Type 0} (read : T → Option B) (f : A → T) (xs : List A) (i : ℕ) (t : T) (o : A) (done : List B) → t ≡ f (get_or xs i o) → read t ≡ None → i < length xs
    → so-far (λ x. read (f x)) done (drop i xs) ≡ None
read-stop read f xs i t o done e is lt = read-none (λ x. read (f x)) xs i (get_or xs i o) o done refl lt (ap read (sym e) ∙ is)
