-- The walk over the records in a range of numbers, from the least on.
use Rattle.std.proofs.Common.{length, suc, ◌+◌, ◌≡◌, ℕ, ◌<◌, ◌≤◌, ◌==◌, Bool, true, false, Option, Some, None, List, [], ◌∷◌, ◌++◌, refl, sym, ap, subst, ◌∙◌, arith, filter, slice_get, take, drop, min}
use Rattle.std.specs.List.{AllByRecursion, find}
use Rattle.std.specs.List.Sorted.{IsStrictlySortedBy}
use Rattle.std.specs.Ordering.{nat_cmp}
use Rattle.std.specs.declared.cmp.Ordering.TheVariants.{Less}
use Rattle.std.specs.Map.{keys_of}
use Rattle.std.specs.BTreeMap.Range.{entries_between}
use Rattle.std.specs.declared.ops.Bound.TheVariants.{Included, Excluded}
use Rattle.std.proofs.lemmas.Bool.Decides.{nat_tests}
use Rattle.std.proofs.lemmas.Map.Keys.{sorted_head, sorted_tail}
use Rattle.slab.specs.Slab.{Slab, get, ContainsKey}
use Rattle.pfs_store_contract.specs.Purging.{state_numbers}
use Rattle.pfs_store_contract.specs.declared.records.State.{State}
use Rattle.pfs_store_records.specs.RecordPlaces.{AreInPlace, IsPlaced, values_at, number_in, RecordIsAt, record_in}
use Rattle.pfs_store_records.specs.Records.{between, states_of}
use Rattle.pfs_store_records.specs.Walks.{IsLeaver, IsWalk, StayUntil}
use Rattle.pfs_store_records.proofs.Ordered.{found, less_apart, look-between, numbers-held, range_between}
use Rattle.pfs_store_records.proofs.RecordLaws.{has_place, numbers-states, read-value, state_at}

-- ---- numbers in a range

narrow : (last most k x : ℕ) → between last most k ≡ true → between last most x ≡ false → between k most x ≡ false
narrow last most k x b h = grind (arith, nat_tests)

past : (last most k x : ℕ) → between last most k ≡ true → k < x → between last most x ≡ between k most x
past last most k x b h = grind (arith, nat_tests)

not_self : (k most : ℕ) → between k most k ≡ false
not_self k most = grind (arith, nat_tests)

up_to_self : (last most k : ℕ) → between last most k ≡ true → between last k k ≡ true
up_to_self last most k b = grind (arith, nat_tests)

up_to_past : (a k x : ℕ) → k < x → between a k x ≡ false
up_to_past a k x h = grind (arith, nat_tests)

up_to_not : (last most k x : ℕ) → between last most k ≡ true → between last most x ≡ false → between last k x ≡ false
up_to_not last most k x b h = grind (arith, nat_tests)

bounds : (last most k : ℕ) → between last most k ≡ true → (last < k) × (k ≤ most)
bounds last most k b = (grind (arith, nat_tests), grind (arith, nat_tests))

empty_range : (a x : ℕ) → between a a x ≡ false
empty_range a x = grind (arith, nat_tests)

lower : (a l m x : ℕ) → a ≤ l → l ≤ m → between a l x ≡ true → (between a m x ≡ true) × (between l m x ≡ false)
lower a l m x p q h = (grind (arith, nat_tests, p, q), grind (arith, nat_tests, p, q))

upper : (a l m x : ℕ) → a ≤ l → l ≤ m → between l m x ≡ true → (between a m x ≡ true) × (l < x)
upper a l m x p q h = (grind (arith, nat_tests, p, q), grind (arith, nat_tests, p, q))

neither : (a l m x : ℕ) → a ≤ l → l ≤ m → between a l x ≡ false → between l m x ≡ false → between a m x ≡ false
neither a l m x p q h k = grind (arith, nat_tests, p, q)

apart_from : (a last most k x : ℕ) → between last most k ≡ true → between a k x ≡ true → between a last x ≡ false → between last most x ≡ true
apart_from a last most k x b h g = grind (arith, nat_tests)

less_through : (l m k : ℕ) → l < m → nat_cmp m k ≡ Less → nat_cmp l k ≡ Less
less_through l m k h d = grind (arith, nat_tests)

raised : (l m : ℕ) (ks : List ℕ) → l < m → AllByRecursion (λ k. nat_cmp m k ≡ Less) ks → AllByRecursion (λ k. nat_cmp l k ≡ Less) ks
raised l m [] h d = tt
raised l m (k ∷ ks) h (d, ds) = (less_through l m k h d, raised l m ks h ds)

pub take-front : (xs ys : List ℕ) → take (length xs) (xs ++ ys) ≡ xs
take-front [] ys = refl
take-front (x ∷ xs) ys = ap (λ zs. x ∷ zs) (take-front xs ys)

pub drop-front : (xs ys : List ℕ) → drop (length xs) (xs ++ ys) ≡ ys
drop-front [] ys = refl
drop-front (x ∷ xs) ys = drop-front xs ys

module _ {P : Type 0} where
  -- the entries whose numbers are in a range
  abbrev pub span : ℕ → ℕ → List (ℕ × P) → List (ℕ × P)
  span a m es = filter (λ (e : ℕ × P). between a m e.0) es

  pub span-entries : (a m : ℕ) (es : List (ℕ × P)) → entries_between nat_cmp (Excluded a) (Included m) es ≡ span a m es
  span-entries a m [] = refl
  span-entries a m (e ∷ es) = rw (range_between a m e.0, span-entries a m es) refl

  pub span-keys : (a m : ℕ) (es : List (ℕ × P)) → keys_of (span a m es) ≡ filter (between a m) (keys_of es)
  span-keys a m [] = refl
  span-keys a m (e ∷ es) = go (span-keys a m es) (between a m e.0) refl
    where
      go : keys_of (span a m es) ≡ filter (between a m) (keys_of es) → (b : Bool) → between a m e.0 ≡ b → keys_of (span a m (e ∷ es)) ≡ filter (between a m) (keys_of (e ∷ es))
      go more true t = rw t (ap (λ xs. e.0 ∷ xs) more)
      go more false t = rw t more

  pub head-in : (a m k : ℕ) (p : P) (rest es : List (ℕ × P)) → (k, p) ∷ rest ≡ span a m es → between a m k ≡ true
  head-in a m k p rest [] x = absurd cc
  head-in a m k p rest (e ∷ es) x = go (head-in a m k p rest es) (between a m e.0) refl
    where
      go : ((k, p) ∷ rest ≡ span a m es → between a m k ≡ true) → (b : Bool) → between a m e.0 ≡ b → between a m k ≡ true
      go more true t =
          let x' : (k, p) ∷ rest ≡ e ∷ span a m es = (rw t at x) in
          let y : (k, p) ≡ e = cc in
          ap (λ (f : ℕ × P). between a m f.0) y ∙ t
      go more false t = more (rw t at x)

  span-none : (a k : ℕ) (es : List (ℕ × P)) → AllByRecursion (λ x. nat_cmp k x ≡ Less) (keys_of es) → span a k es ≡ []
  span-none a k [] h = refl
  span-none a k (e ∷ es) (h, hs) =
      let d = less_apart k e.0 h in
      rw (up_to_past a k e.0 d) (span-none a k es hs)

  span-past : (last most k : ℕ) (es : List (ℕ × P)) → between last most k ≡ true → AllByRecursion (λ x. nat_cmp k x ≡ Less) (keys_of es) → span last most es ≡ span k most es
  span-past last most k [] b h = refl
  span-past last most k (e ∷ es) b (h, hs) =
      let d = less_apart k e.0 h in
      rw (past last most k e.0 b d, span-past last most k es b hs) refl

  span-empty : (a : ℕ) (es : List (ℕ × P)) → span a a es ≡ []
  span-empty a [] = refl
  span-empty a (e ∷ es) = rw (empty_range a e.0) (span-empty a es)

  pub rest-span : (last most k : ℕ) (p : P) (rest es : List (ℕ × P)) → IsStrictlySortedBy nat_cmp (keys_of es) → between last most k ≡ true → (k, p) ∷ rest ≡ span last most es → rest ≡ span k most es
  rest-span last most k p rest [] o b x = absurd cc
  rest-span last most k p rest (e ∷ es) o b x = go (rest-span last most k p rest es (sorted_tail nat_cmp e.0 (keys_of es) o) b) (between last most e.0) refl
    where
      go : ((k, p) ∷ rest ≡ span last most es → rest ≡ span k most es) → (c : Bool) → between last most e.0 ≡ c → rest ≡ span k most (e ∷ es)
      go more true t =
          let x' : (k, p) ∷ rest ≡ e ∷ span last most es = (rw t at x) in
          let y : (k, p) ≡ e = cc in
          let z : rest ≡ span last most es = cc in
          let q : k ≡ e.0 = ap (λ (f : ℕ × P). f.0) y in
          let f : between k most e.0 ≡ false = ap (between k most) (sym q) ∙ not_self k most in
          let hd = sorted_head nat_cmp e.0 (keys_of es) o in
          rw f (z ∙ span-past last most k es b (rw q hd))
      go more false t = rw (narrow last most k e.0 b t) (more (rw t at x))

  one-span : (last most k : ℕ) (p : P) (rest es : List (ℕ × P)) → IsStrictlySortedBy nat_cmp (keys_of es) → between last most k ≡ true → (k, p) ∷ rest ≡ span last most es → length (span last k es) ≡ 1
  one-span last most k p rest [] o b x = absurd cc
  one-span last most k p rest (e ∷ es) o b x = go (one-span last most k p rest es (sorted_tail nat_cmp e.0 (keys_of es) o) b) (between last most e.0) refl
    where
      go : ((k, p) ∷ rest ≡ span last most es → length (span last k es) ≡ 1) → (c : Bool) → between last most e.0 ≡ c → length (span last k (e ∷ es)) ≡ 1
      go more true t =
          let x' : (k, p) ∷ rest ≡ e ∷ span last most es = (rw t at x) in
          let y : (k, p) ≡ e = cc in
          let q : k ≡ e.0 = ap (λ (f : ℕ × P). f.0) y in
          let f : between last k e.0 ≡ true = ap (between last k) (sym q) ∙ up_to_self last most k b in
          let hd = sorted_head nat_cmp e.0 (keys_of es) o in
          rw f (ap (λ (xs : List (ℕ × P)). length (e ∷ xs)) (span-none last k es (rw q hd)))
      go more false t = rw (up_to_not last most k e.0 b t) (more (rw t at x))

  pub split-span : (a l m : ℕ) (es : List (ℕ × P)) → IsStrictlySortedBy nat_cmp (keys_of es) → a ≤ l → l ≤ m → span a m es ≡ span a l es ++ span l m es
  split-span a l m [] o p q = refl
  split-span a l m (e ∷ es) o p q = go (split-span a l m es (sorted_tail nat_cmp e.0 (keys_of es) o) p q) (between a l e.0) refl (between l m e.0) refl
    where
      go : span a m es ≡ span a l es ++ span l m es → (b : Bool) → between a l e.0 ≡ b → (c : Bool) → between l m e.0 ≡ c → span a m (e ∷ es) ≡ span a l (e ∷ es) ++ span l m (e ∷ es)
      go more true s c t =
          let f = lower a l m e.0 p q s in
          rw (f.0, s, f.1) (ap (λ (xs : List (ℕ × P)). e ∷ xs) more)
      go more false s true t =
          let f = upper a l m e.0 p q t in
          let hd = sorted_head nat_cmp e.0 (keys_of es) o in
          let none = span-none a l es (raised l e.0 (keys_of es) f.1 hd) in
          rw (f.0, s, t, none) (ap (λ (xs : List (ℕ × P)). e ∷ xs) (more ∙ ap (λ (xs : List (ℕ × P)). xs ++ span l m es) none))
      go more false s false t = rw (neither a l m e.0 p q s t, s, t) more

  length-both : (xs ys : List (ℕ × P)) → length (xs ++ ys) ≡ length xs + length ys
  length-both [] ys = omega arith
  length-both (x ∷ xs) ys = let h = length-both xs ys in omega (arith, h)

  pub map-both : (xs ys : List (ℕ × P)) → keys_of (xs ++ ys) ≡ keys_of xs ++ keys_of ys
  map-both [] ys = refl
  map-both (x ∷ xs) ys = ap (λ zs. x.0 ∷ zs) (map-both xs ys)

  pub length-keys : (xs : List (ℕ × P)) → length (keys_of xs) ≡ length xs
  length-keys [] = refl
  length-keys (x ∷ xs) = ap suc (length-keys xs)

  -- ---- what holds of each entry in a range

  module _ (R : ℕ × P → Type 0) where
    abbrev pub Each : ℕ → ℕ → List (ℕ × P) → Type 0
    Each a m es = AllByRecursion (λ (e : ℕ × P). between a m e.0 ≡ true → R e) es

    pub each-empty : (a : ℕ) (es : List (ℕ × P)) → Each a a es
    each-empty a [] = tt
    each-empty a (e ∷ es) = ((λ t. let f = empty_range a e.0 in absurd (cc (f, t))), each-empty a es)

    each-none : (a k : ℕ) (es : List (ℕ × P)) → AllByRecursion (λ x. nat_cmp k x ≡ Less) (keys_of es) → Each a k es
    each-none a k [] h = tt
    each-none a k (e ∷ es) (h, hs) = ((λ t. let d = less_apart k e.0 h in let f = up_to_past a k e.0 d in absurd (cc (f, t))), each-none a k es hs)

    pub each-more : (a last most k : ℕ) (p : P) (rest es : List (ℕ × P)) → IsStrictlySortedBy nat_cmp (keys_of es) → between last most k ≡ true → (k, p) ∷ rest ≡ span last most es
        → Each a last es → R (k, p) → Each a k es
    each-more a last most k p rest [] o b x h r = tt
    each-more a last most k p rest (e ∷ es) o b x (h, hs) r = go (λ x'. each-more a last most k p rest es (sorted_tail nat_cmp e.0 (keys_of es) o) b x' hs r) (between last most e.0) refl
      where
        here : between last most e.0 ≡ false → between a k e.0 ≡ true → (c : Bool) → between a last e.0 ≡ c → R e
        here t u true s = h s
        here t u false s = let f = apart_from a last most k e.0 b u s in absurd (cc (f, t))

        go : ((k, p) ∷ rest ≡ span last most es → Each a k es) → (c : Bool) → between last most e.0 ≡ c → Each a k (e ∷ es)
        go more true t =
            let x' : (k, p) ∷ rest ≡ e ∷ span last most es = (rw t at x) in
            let y : (k, p) ≡ e = cc in
            let q : k ≡ e.0 = ap (λ (f : ℕ × P). f.0) y in
            let hd = sorted_head nat_cmp e.0 (keys_of es) o in
            ((λ u. subst R y r), each-none a k es (rw q hd))
        go more false t = ((λ u. here t u (between a last e.0) refl), more (rw t at x))

    -- ---- the walk so far

    pub record Walking (es left : List (ℕ × P)) (above last most stayed : ℕ) : Type 0 where
      pub rest : left ≡ span last most es
      pub from : above ≤ last
      pub to : last ≤ most
      pub count : stayed ≡ length (span above last es)
      pub stay : Each above last es

    pub walking-init : (es left : List (ℕ × P)) (above most : ℕ) → above ≤ most → left ≡ entries_between nat_cmp (Excluded above) (Included most) es → Walking es left above above most 0
    walking-init es left above most h e = record {
      rest = e ∙ span-entries above most es;
      from = omega arith;
      to = h;
      count = sym (ap length (span-empty above es));
      stay = each-empty above es;
    }

    pub walking-step : (es rest : List (ℕ × P)) (above last most stayed k : ℕ) (p : P) → IsStrictlySortedBy nat_cmp (keys_of es) → Walking es ((k, p) ∷ rest) above last most stayed → R (k, p)
        → Walking es rest above k most (stayed + 1)
    walking-step es rest above last most stayed k p o w r =
        let b = head-in last most k p rest es w.rest in
        let n = bounds last most k b in
        let u = w.from in
        let one = one-span last most k p rest es o b w.rest in
        let split = ap length (split-span above last k es o w.from (omega (arith, n.0))) ∙ length-both (span above last es) (span last k es) in
        let count = w.count in
        record {
          rest = rest-span last most k p rest es o b w.rest;
          from = omega (arith, u, n.0);
          to = n.1;
          count = omega (arith, one, split, count);
          stay = each-more above last most k p rest es o b w.rest w.stay r;
        }

-- ---- in terms of states

-- an entry whose state does not pass
abbrev pub Stays : (State → Bool) → Slab State → ℕ × ℕ → Type 0
Stays passes slab e = (s : State) → get slab e.1 ≡ Some s → passes s ≡ false

-- an entry whose state has a property
abbrev pub OfState : (State → Type 0) → Slab State → ℕ × ℕ → Type 0
OfState Q slab e = (s : State) → get slab e.1 ≡ Some s → Q s

each-state : (Q : State → Type 0) (slab : Slab State) (a m : ℕ) (es : List (ℕ × ℕ)) → AllByRecursion (IsPlaced number_in RecordIsAt (record_in slab)) es → Each (OfState Q slab) a m es
    → AllByRecursion (λ (s : State). between a m s.number ≡ true → Q s) (states_of (values_at (record_in slab) es))
each-state Q slab a m [] h w = tt
each-state Q slab a m (e ∷ es) (h, hs) (w, ws) = rw h.1 (here, each-state Q slab a m es hs ws)
  where
    here : between a m h.0.state.number ≡ true → Q h.0.state
    here b = w (ap (between a m) (sym h.2) ∙ b) h.0.state (state_at (get slab e.1) e.1 h.0 h.1)

-- ---- up to when the states do not pass

-- the state of an entry does not pass up to a moment
abbrev pub Until : (State → ℕ) → Slab State → ℕ → ℕ × ℕ → Type 0
Until moment slab until = OfState (λ (s : State). until ≤ moment s) slab

pub until-states : (moment : State → ℕ) (slab : Slab State) (above last until : ℕ) (es : List (ℕ × ℕ)) → AreInPlace number_in RecordIsAt (record_in slab) es
    → Each (Until moment slab until) above last es → StayUntil moment (states_of (values_at (record_in slab) es)) above last until
until-states moment slab above last until es k u = each-state (λ (s : State). until ≤ moment s) slab above last es k.placed u

until-less : (moment : State → ℕ) (slab : Slab State) (above last until less : ℕ) (es : List (ℕ × ℕ)) → less ≤ until
    → Each (Until moment slab until) above last es → Each (Until moment slab less) above last es
until-less moment slab above last until less [] h u = tt
until-less moment slab above last until less (e ∷ es) h (u, us) =
    ((λ b s g. let x = u b s g in omega (arith, h, x)), until-less moment slab above last until less es h us)

-- one state more stays
pub until-more : (moment : State → ℕ) (slab : Slab State) (es rest : List (ℕ × ℕ)) (above last most stayed until m k p : ℕ) (st : State) (passes : State → Bool)
    → AreInPlace number_in RecordIsAt (record_in slab) es → Walking (Stays passes slab) es ((k, p) ∷ rest) above last most stayed
    → get slab p ≡ Some st → m ≤ moment st → Each (Until moment slab until) above last es → Each (Until moment slab (min until m)) above k es
until-more moment slab es rest above last most stayed until m k p st passes kept w g h u =
    each-more (Until moment slab (min until m)) above last most k p rest es kept.ordered (head-in last most k p rest es w.rest) w.rest
    (until-less moment slab above last until (min until m) es (omega arith) u)
    (λ s e. let q : s ≡ st = cc (e, g) in let x = ap moment q in omega (arith, h, x))

pub numbers-keys : (slab : Slab State) (es : List (ℕ × ℕ)) → AllByRecursion (IsPlaced number_in RecordIsAt (record_in slab)) es → state_numbers (states_of (values_at (record_in slab) es)) ≡ keys_of es
numbers-keys slab es h = numbers-states (values_at (record_in slab) es) ∙ numbers-held number_in RecordIsAt (record_in slab) es h

pub split-keys : {P : Type 0} (above last most : ℕ) (es : List (ℕ × P)) → IsStrictlySortedBy nat_cmp (keys_of es) → above ≤ last → last ≤ most
    → filter (between above most) (keys_of es) ≡ filter (between above last) (keys_of es) ++ filter (between last most) (keys_of es)
split-keys above last most es o p q =
    sym (span-keys above most es) ∙ ap keys_of (split-span above last most es o p q) ∙ map-both (span above last es) (span last most es)
    ∙ (λ i. span-keys above last es i ++ span-keys last most es i)

-- the walk ends here
pub is-walk : (passes : State → Bool) (slab : Slab State) (es left : List (ℕ × ℕ)) (above last most share stayed : ℕ) (leaver : Option State)
    → AreInPlace number_in RecordIsAt (record_in slab) es → Walking (Stays passes slab) es left above last most stayed → stayed ≤ share
    → IsLeaver passes (states_of (values_at (record_in slab) es)) last most stayed share leaver
    → IsWalk passes (states_of (values_at (record_in slab) es)) above most share stayed last leaver
is-walk passes slab es left above last most share stayed leaver k w s l = record {
  from = w.from;
  to = w.to;
  stay = each-state (λ (s : State). passes s ≡ false) slab above last es k.placed w.stay;
  count = rw numbers length_is;
  passed = rw (numbers, split, length_is) (sym (take-front (filter (between above last) (keys_of es)) (filter (between last most) (keys_of es))));
  rest = rw (numbers, split, length_is) (sym (drop-front (filter (between above last) (keys_of es)) (filter (between last most) (keys_of es))));
  within = s;
  leaver = l;
}
  where
    numbers : state_numbers (states_of (values_at (record_in slab) es)) ≡ keys_of es
    numbers = numbers-keys slab es k.placed

    split : filter (between above most) (keys_of es) ≡ filter (between above last) (keys_of es) ++ filter (between last most) (keys_of es)
    split = split-keys above last most es k.ordered w.from w.to

    length_is : stayed ≡ length (filter (between above last) (keys_of es))
    length_is = w.count ∙ sym (length-keys (span above last es)) ∙ ap length (span-keys above last es)

-- the state of the next entry leaves
pub next-leaves : (passes : State → Bool) (slab : Slab State) (es rest : List (ℕ × ℕ)) (last most share stayed k p : ℕ) (st : State)
    → AreInPlace number_in RecordIsAt (record_in slab) es → (k, p) ∷ rest ≡ span last most es → get slab p ≡ Some st → passes st ≡ true → stayed < share
    → IsLeaver passes (states_of (values_at (record_in slab) es)) last most stayed share (Some st)
next-leaves passes slab es rest last most share stayed k p st kept x g t s =
    let l = look-between last most k p rest es kept.ordered (x ∙ sym (span-entries last most es)) in
    let f = found number_in RecordIsAt (record_in slab) k p es kept.placed l in
    let a : get slab p ≡ Some f.0.state = state_at (get slab p) p f.0 f.1 in
    let b : st ≡ f.0.state = cc (a, g) in
    let n : st.number ≡ k = ap (λ (y : State). y.number) b ∙ f.2 in
    let q : k ∷ keys_of rest ≡ filter (between last most) (keys_of es) = ap keys_of x ∙ span-keys last most es in
    let z = read-value k slab es p st kept.placed l g in
    record {
      within = s;
      next = rw (numbers-keys slab es kept.placed, n) (ap (λ (xs : List ℕ). slice_get xs 0) (sym q));
      found = subst (λ (m : ℕ). find (λ (u : State). u.number == m) (states_of (values_at (record_in slab) es)) ≡ Some st) (sym n) (sym z);
      passes = t;
    }

-- and none is left
pub none-leaves : (passes : State → Bool) (slab : Slab State) (es : List (ℕ × ℕ)) (last most share stayed : ℕ)
    → AreInPlace number_in RecordIsAt (record_in slab) es → [] ≡ span last most es → IsLeaver passes (states_of (values_at (record_in slab) es)) last most stayed share None
none-leaves passes slab es last most share stayed kept x s =
    rw (numbers-keys slab es kept.placed) (sym (ap keys_of x ∙ span-keys last most es))

pub share-used : (passes : State → Bool) (states : List State) (last most share stayed : ℕ) → share ≤ stayed → IsLeaver passes states last most stayed share None
share-used passes states last most share stayed h s = absurd (omega (arith, h, s))

-- the place of the next entry has a record
pub next-there : (slab : Slab State) (es rest : List (ℕ × ℕ)) (last most k p : ℕ) → AreInPlace number_in RecordIsAt (record_in slab) es → (k, p) ∷ rest ≡ span last most es → ContainsKey slab p
next-there slab es rest last most k p kept x =
    let l = look-between last most k p rest es kept.ordered (x ∙ sym (span-entries last most es)) in
    let f = found number_in RecordIsAt (record_in slab) k p es kept.placed l in
    has_place slab p f.0 f.1

-- the one state at a place does not pass
pub one-stays : (passes : State → Bool) (slab : Slab State) (k p : ℕ) (st : State) → get slab p ≡ Some st → passes st ≡ false → Stays passes slab (k, p)
one-stays passes slab k p st g t s h = let e : s ≡ st = cc (g, h) in ap passes e ∙ t
