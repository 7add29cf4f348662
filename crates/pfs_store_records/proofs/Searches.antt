-- What was found by a test, and what a map or one element more changes of a search.
use Rattle.std.proofs.Common.{◌≡◌, ◌∙◌, ◌+◌, ◌≤◌, ◌||◌, suc, Bool, true, false, cond, Option, Some, None, is_some, List, [], ◌∷◌, ◌++◌, length, map, filter, option_map, refl, ap, sym, subst, arith}
use Rattle.std.specs.List.{find, list_any, AllByRecursion}

module _ {X : Type 0} where
  pub found-passes : (p : X → Bool) (s : X) (xs : List X) → find p xs ≡ Some s → p s ≡ true
  found-passes p s [] f = absurd cc
  found-passes p s (x ∷ xs) f = go (found-passes p s xs) (p x) refl
    where
      go : (find p xs ≡ Some s → p s ≡ true) → (b : Bool) → p x ≡ b → p s ≡ true
      go more true t = let f' : Some x ≡ Some s = (rw t at f) in let q : x ≡ s = cc in ap p (sym q) ∙ t
      go more false t = more (rw t at f)

  pub found-any : (p : X → Bool) (s : X) (xs : List X) → find p xs ≡ Some s → list_any p xs ≡ true
  found-any p s [] f = absurd cc
  found-any p s (x ∷ xs) f = go (found-any p s xs) (p x) refl
    where
      go : (find p xs ≡ Some s → list_any p xs ≡ true) → (b : Bool) → p x ≡ b → list_any p (x ∷ xs) ≡ true
      go more true t = rw t refl
      go more false t = rw t (more (rw t at f))

  pub found-all : (P : X → Type 0) (p : X → Bool) (s : X) (xs : List X) → AllByRecursion P xs → find p xs ≡ Some s → P s
  found-all P p s [] h f = absurd cc
  found-all P p s (x ∷ xs) (h, hs) f = go (found-all P p s xs hs) (p x) refl
    where
      go : (find p xs ≡ Some s → P s) → (b : Bool) → p x ≡ b → P s
      go more true t = let f' : Some x ≡ Some s = (rw t at f) in let q : x ≡ s = cc in subst P q h
      go more false t = more (rw t at f)

  -- what passes one test at what another finds is somewhere
  pub any-also : (p q : X → Bool) (s : X) (xs : List X) → find p xs ≡ Some s → q s ≡ true → list_any q xs ≡ true
  any-also p q s [] f h = absurd cc
  any-also p q s (x ∷ xs) f h = go (λ f'. any-also p q s xs f' h) (p x) refl
    where
      or_true : (b : Bool) → (b || true) ≡ true
      or_true true = refl
      or_true false = refl

      go : (find p xs ≡ Some s → list_any q xs ≡ true) → (b : Bool) → p x ≡ b → (q x || list_any q xs) ≡ true
      go more true t =
          let f' : Some x ≡ Some s = (rw t at f) in
          let e : x ≡ s = cc in
          let y : q x ≡ true = ap q e ∙ h in
          rw y refl
      go more false t = let m = more (rw t at f) in rw m (or_true (q x))

  pub any-found : (p : X → Bool) (xs : List X) → is_some (find p xs) ≡ list_any p xs
  any-found p [] = refl
  any-found p (x ∷ xs) = go (p x) (any-found p xs)
    where
      go : (b : Bool) → is_some (find p xs) ≡ list_any p xs → is_some (cond b (Some x) (find p xs)) ≡ (b || list_any p xs)
      go true m = refl
      go false m = m

  pub none-any : (p : X → Bool) (xs : List X) → find p xs ≡ None → list_any p xs ≡ false
  none-any p xs f = sym (any-found p xs) ∙ ap is_some f

  pub any-none : (p : X → Bool) (xs : List X) → list_any p xs ≡ false → find p xs ≡ None
  any-none p [] h = refl
  any-none p (x ∷ xs) h = go (any-none p xs) (p x) refl
    where
      go : (list_any p xs ≡ false → find p xs ≡ None) → (b : Bool) → p x ≡ b → find p (x ∷ xs) ≡ None
      go m true t = let h' = (rw t at h) in absurd (cc h')
      go m false t = rw t (m (rw t at h))

  pub any-map : (p : X → Bool) (g : X → X) → ((x : X) → p (g x) ≡ p x) → (xs : List X) → list_any p (map g xs) ≡ list_any p xs
  any-map p g same [] = refl
  any-map p g same (x ∷ xs) = (λ i. same x i || any-map p g same xs i)

  pub any-push : (p : X → Bool) (s : X) (xs : List X) → list_any p (xs ++ s ∷ []) ≡ (p s || list_any p xs)
  any-push p s [] = refl
  any-push p s (x ∷ xs) = go (p x) (p s) (any-push p s xs)
    where
      go : (a b : Bool) → list_any p (xs ++ s ∷ []) ≡ (b || list_any p xs) → (a || list_any p (xs ++ s ∷ [])) ≡ (b || (a || list_any p xs))
      go true true h = refl
      go true false h = refl
      go false b h = h

  pub all-push : (P : X → Type 0) (s : X) (xs : List X) → AllByRecursion P xs → P s → AllByRecursion P (xs ++ s ∷ [])
  all-push P s [] h p = (p, tt)
  all-push P s (x ∷ xs) (h, hs) p = (h, all-push P s xs hs p)

  pub all-map : (P : X → Type 0) (g : X → X) → ((x : X) → P x → P (g x)) → (xs : List X) → AllByRecursion P xs → AllByRecursion P (map g xs)
  all-map P g keep [] h = tt
  all-map P g keep (x ∷ xs) (h, hs) = (keep x h, all-map P g keep xs hs)

  pub all-weaker : (P Q : X → Type 0) → ((x : X) → P x → Q x) → (xs : List X) → AllByRecursion P xs → AllByRecursion Q xs
  all-weaker P Q weak [] h = tt
  all-weaker P Q weak (x ∷ xs) (h, hs) = (weak x h, all-weaker P Q weak xs hs)

  pub count-push : (p : X → Bool) (s : X) (xs : List X) → length (filter p (xs ++ s ∷ [])) ≡ length (filter p xs) + cond (p s) 1 0
  count-push p s [] = go (p s)
    where
      go : (b : Bool) → length (cond b (s ∷ []) []) ≡ 0 + cond b 1 0
      go true = refl
      go false = refl
  count-push p s (x ∷ xs) = go (count-push p s xs) (p x)
    where
      go : length (filter p (xs ++ s ∷ [])) ≡ length (filter p xs) + cond (p s) 1 0 → (b : Bool)
          → length (cond b (x ∷ filter p (xs ++ s ∷ [])) (filter p (xs ++ s ∷ []))) ≡ length (cond b (x ∷ filter p xs) (filter p xs)) + cond (p s) 1 0
      go m true = omega (arith, m)
      go m false = m

  pub count-le : (p : X → Bool) (xs : List X) → length (filter p xs) ≤ length xs
  count-le p [] = omega arith
  count-le p (x ∷ xs) = go (count-le p xs) (p x)
    where
      go : length (filter p xs) ≤ length xs → (b : Bool) → length (cond b (x ∷ filter p xs) (filter p xs)) ≤ suc (length xs)
      go h true = omega (arith, h)
      go h false = omega (arith, h)

module _ {X Y : Type 0} where
  -- what is found in a list of parts is the part of what is found
  pub find-part : (part : X → Y) (p : Y → Bool) (xs : List X) → find p (map part xs) ≡ option_map part (find (λ x. p (part x)) xs)
  find-part part p [] = refl
  find-part part p (x ∷ xs) = go (p (part x)) (find-part part p xs)
    where
      go : (b : Bool) → find p (map part xs) ≡ option_map part (find (λ y. p (part y)) xs)
          → cond b (Some (part x)) (find p (map part xs)) ≡ option_map part (cond b (Some x) (find (λ y. p (part y)) xs))
      go true m = refl
      go false m = m

  -- that of which a part was found
  pub record IsWholeOf (part : X → Y) (p : Y → Bool) (y : Y) (xs : List X) : Type 0 where
    pub whole : X
    pub found : find (λ x. p (part x)) xs ≡ Some whole
    pub same : part whole ≡ y

  pub part-found : (part : X → Y) (p : Y → Bool) (y : Y) (xs : List X) → find p (map part xs) ≡ Some y → IsWholeOf part p y xs
  part-found part p y xs f = go (find (λ x. p (part x)) xs) refl
    where
      go : (o : Option X) → find (λ x. p (part x)) xs ≡ o → IsWholeOf part p y xs
      go None e =
          let z : None ≡ Some y = sym (find-part part p xs ∙ ap (option_map part) e) ∙ f in
          absurd (cc z)
      go (Some x) e =
          let z : Some (part x) ≡ Some y = sym (find-part part p xs ∙ ap (option_map part) e) ∙ f in
          let q : part x ≡ y = cc in
          record { whole = x; found = e; same = q }

  pub any-part : (part : X → Y) (p : Y → Bool) (xs : List X) → list_any p (map part xs) ≡ list_any (λ x. p (part x)) xs
  any-part part p [] = refl
  any-part part p (x ∷ xs) = ap (λ b. p (part x) || b) (any-part part p xs)

  pub all-part : (part : X → Y) (P : Y → Type 0) (xs : List X) → AllByRecursion P (map part xs) → AllByRecursion (λ x. P (part x)) xs
  all-part part P [] h = tt
  all-part part P (x ∷ xs) (h, hs) = (h, all-part part P xs hs)

  pub map-push : (f : X → Y) (s : X) (xs : List X) → map f (xs ++ s ∷ []) ≡ map f xs ++ f s ∷ []
  map-push f s [] = refl
  map-push f s (x ∷ xs) = ap (λ ys. f x ∷ ys) (map-push f s xs)
