-- What holds of each element of a list, after the list has changed.
use Rattle.std.proofs.Common.{◌≡◌, ◌&&◌, Bool, true, false, cond, List, [], ◌∷◌, ◌++◌, Some, filter, map, refl, ap, sym, ◌∙◌, subst, arith}
use Rattle.std.specs.List.{AllByRecursion, find}
use Rattle.std.specs.Prelude.{◌<◌, length}
use Rattle.std.proofs.lemmas.Bool.{false≢true}

pub each-of : {X : Type 0} (P Q : X → Type 0) → ((x : X) → P x → Q x) → (xs : List X) → AllByRecursion P xs → AllByRecursion Q xs
each-of P Q f [] h = h
each-of P Q f (x ∷ xs) h = (f x h.0, each-of P Q f xs h.1)

pub each-map : {X : Type 0} (P Q : X → Type 0) (g : X → X) → ((x : X) → P x → Q (g x)) → (xs : List X) → AllByRecursion P xs → AllByRecursion Q (map g xs)
each-map P Q g f [] h = h
each-map P Q g f (x ∷ xs) h = (f x h.0, each-map P Q g f xs h.1)

pub each-filter : {X : Type 0} (P : X → Type 0) (p : X → Bool) (xs : List X) → AllByRecursion P xs → AllByRecursion P (filter p xs)
each-filter P p [] h = h
each-filter {X = X} P p (x ∷ xs) h = go (p x) (each-filter P p xs h.1)
  where
    go : (b : Bool) → AllByRecursion P (filter p xs) → AllByRecursion P (cond b (x ∷ filter p xs) (filter p xs))
    go true i = (h.0, i)
    go false i = i

pub each-push : {X : Type 0} (P : X → Type 0) (xs : List X) (x : X) → AllByRecursion P xs → P x → AllByRecursion P (xs ++ x ∷ [])
each-push P [] x h here = (here, tt)
each-push P (y ∷ xs) x h here = (h.0, each-push P xs x h.1 here)

-- what is found passes the test, and is what is known of each
pub found : {X : Type 0} (P : X → Type 0) (test : X → Bool) (x : X) (xs : List X) → AllByRecursion P xs → find test xs ≡ Some x → (test x ≡ true) × P x
found P test x [] all e = cc
found {X = X} P test x (y ∷ ys) all e = go (test y) refl e (λ k. found P test x ys all.1 k)
  where
    go : (b : Bool) → test y ≡ b → cond b (Some y) (find test ys) ≡ Some x → (find test ys ≡ Some x → (test x ≡ true) × P x) → (test x ≡ true) × P x
    go true f g i = let is : y ≡ x = cc in (ap test (sym is) ∙ f, subst P is all.0)
    go false f g i = i g

-- one that is found is counted
pub count-found : {X : Type 0} (p q : X → Bool) (x : X) (xs : List X) → find p xs ≡ Some x → q x ≡ true → 0 < length (filter q xs)
count-found p q x [] e here = cc
count-found {X = X} p q x (y ∷ ys) e here = go (p y) e (λ f. count-found p q x ys f here)
  where
    here_is : (b : Bool) → b ≡ true → 0 < length (cond b (y ∷ filter q ys) (filter q ys))
    here_is true f = omega arith
    here_is false f = absurd (false≢true f)

    more : (b : Bool) → 0 < length (filter q ys) → 0 < length (cond b (y ∷ filter q ys) (filter q ys))
    more true i = omega arith
    more false i = i

    go : (b : Bool) → cond b (Some y) (find p ys) ≡ Some x → (find p ys ≡ Some x → 0 < length (filter q ys)) → 0 < length (filter q (y ∷ ys))
    go true f i = let same : y ≡ x = cc in here_is (q y) (ap q same ∙ here)
    go false f i = more (q y) (i f)

-- both sides of a test that passes
pub both : (a b : Bool) → (a && b) ≡ true → (a ≡ true) × (b ≡ true)
both true b e = (refl, e)
both false b e = absurd (false≢true e)
