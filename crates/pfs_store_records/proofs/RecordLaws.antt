-- The records of states: what a slab holds, seen as records by number, and as states alone.
use Rattle.std.proofs.Common.{◌≡◌, ℕ, ◌==◌, Bool, true, false, Option, Some, None, IsSome, List, [], ◌∷◌, ◌++◌, ◌&&◌, ◌||◌, if◌then◌else◌, map, option_map, refl, sym, ap, subst, ◌∙◌, ◌+◌, ◌≤◌, arith, filter}
use Rattle.std.specs.List.{list_any, find, AllByRecursion}
use Rattle.std.specs.Map.{lookup}
use Rattle.std.specs.BTreeMap.{is_at}
use Rattle.std.specs.Ordering.{nat_cmp}
use Rattle.std.proofs.lemmas.Bool.Decides.{nat_tests}
use Rattle.slab.specs.Slab.{Slab, get, Updates, ContainsKey, with_value}
use Rattle.slab.proofs.SlabLemmas.{Updates-with_value}
use Rattle.pfs_track.specs.declared.state_phases.StatePhase.{StatePhase}
use Rattle.pfs_store_contract.specs.Calls.{other_than}
use Rattle.pfs_store_contract.specs.Counts.{half_open}
use Rattle.pfs_store_contract.specs.Purging.{state_numbers}
use Rattle.pfs_store_contract.specs.declared.records.State.{State}
use Rattle.pfs_store_records.specs.RecordPlaces.{values_at, IsPlaced, AreCounted, AreInPlace, number_in, RecordIsAt, record_in}
use Rattle.pfs_store_records.specs.Records.{IsRecordAt, IsRising, Placed, is_placed, leaves_number, placed_at, renewed, renewed_at, stands_at, states_of}
use Rattle.pfs_store_records.proofs.HalfOpens.{half-found, half-put, opens, put_state}
use Rattle.pfs_store_records.proofs.Ordered.{IsUpdated, find_placed, found, held-all, kept-all, kept-written, look-placed, rising-held, view-written}

-- ---- records as states

pub any-states : (n : ℕ) (ps : List Placed) → list_any (λ (s : State). s.number == n) (states_of ps) ≡ list_any (λ (p : Placed). number_in p == n) ps
any-states n [] = refl
any-states n (p ∷ ps) = rw (any-states n ps) refl

pub numbers-states : (ps : List Placed) → state_numbers (states_of ps) ≡ map number_in ps
numbers-states [] = refl
numbers-states (p ∷ ps) = ap (λ xs. p.state.number ∷ xs) (numbers-states ps)

pub find-states : (n : ℕ) (ps : List Placed) → find (λ (s : State). s.number == n) (states_of ps) ≡ option_map (λ (p : Placed). p.state) (find (λ (p : Placed). number_in p == n) ps)
find-states n [] = refl
find-states n (p ∷ ps) = go (find-states n ps) (p.state.number == n) refl
  where
    go : find (λ (s : State). s.number == n) (states_of ps) ≡ option_map (λ (q : Placed). q.state) (find (λ (q : Placed). number_in q == n) ps) → (b : Bool) → (p.state.number == n) ≡ b
        → find (λ (s : State). s.number == n) (states_of (p ∷ ps)) ≡ option_map (λ (q : Placed). q.state) (find (λ (q : Placed). number_in q == n) (p ∷ ps))
    go more true t = rw t refl
    go more false t = rw t more

pub states-filter : (n : ℕ) (ps : List Placed) → states_of (filter (leaves_number n) ps) ≡ filter (other_than n) (states_of ps)
states-filter n [] = refl
states-filter n (p ∷ ps) = go (states-filter n ps) (p.state.number == n) refl
  where
    go : states_of (filter (leaves_number n) ps) ≡ filter (other_than n) (states_of ps) → (b : Bool) → (p.state.number == n) ≡ b
        → states_of (filter (leaves_number n) (p ∷ ps)) ≡ filter (other_than n) (states_of (p ∷ ps))
    go more true t = rw t more
    go more false t = rw t (ap (λ xs. p.state ∷ xs) more)

-- the record of a number, with this state in place of the one that it had
abbrev pub put : State → Placed → Placed
put state p = if p.state.number == state.number then placed_at p.place state else p

put-state : (st : State) (p : Placed) → (put st p).state ≡ put_state st p.state
put-state st p = go (p.state.number == st.number) refl
  where
    go : (b : Bool) → (p.state.number == st.number) ≡ b → (put st p).state ≡ put_state st p.state
    go true t = rw t refl
    go false t = rw t refl

pub states-put : (st : State) (ps : List Placed) → states_of (map (put st) ps) ≡ map (put_state st) (states_of ps)
states-put st [] = refl
states-put st (p ∷ ps) = λ i. put-state st p i ∷ states-put st ps i

pub states-push : (place : ℕ) (s : State) (ps : List Placed) → states_of (ps ++ placed_at place s ∷ []) ≡ states_of ps ++ s ∷ []
states-push place s [] = refl
states-push place s (p ∷ ps) = ap (λ xs. p.state ∷ xs) (states-push place s ps)

-- ---- what a slab holds

pub updated : (s t : Slab State) (p : ℕ) (w : Option State) → Updates s t p w → IsUpdated (record_in s) (record_in t) p (option_map (placed_at p) w)
updated s t p w u = record {
  changed = ap (option_map (placed_at p)) u.changed;
  others = λ q d. ap (option_map (placed_at q)) (u.others q d);
}

pub vacant : (s : Slab State) (p : ℕ) → get s p ≡ None → record_in s p ≡ None
vacant s p h = ap (option_map (placed_at p)) h

pub grown : (s t : Slab State) (c : ℕ) → t ≡ record s { capacity = c } → (q : ℕ) → record_in t q ≡ record_in s q
grown s t c e q = ap (λ x. record_in x q) e

-- what is kept stays so where room is made
pub counted-grown : (s t : Slab State) (es : List (ℕ × ℕ)) (count : ℕ) → ((q : ℕ) → record_in t q ≡ record_in s q) → AreCounted s es count → AreCounted t es count
counted-grown s t es count g k = record {
  kept = kept-all number_in RecordIsAt (record_in s) (record_in t) es g k.kept;
  counted = k.counted ∙ sym (ap (λ (ps : List Placed). half_open (states_of ps)) (held-all number_in RecordIsAt (record_in s) (record_in t) es g));
}

has_state : (o : Option State) (p : ℕ) (v : Placed) → option_map (placed_at p) o ≡ Some v → IsSome o
has_state None p v h = absurd (cc h)
has_state (Some s) p v h = refl

pub has_place : (s : Slab State) (p : ℕ) (v : Placed) → record_in s p ≡ Some v → ContainsKey s p
has_place s p v h = has_state (get s p) p v h

pub state_at : (o : Option State) (p : ℕ) (v : Placed) → option_map (placed_at p) o ≡ Some v → o ≡ Some v.state
state_at None p v h = absurd (cc h)
state_at (Some s) p v h = ap (option_map (λ (q : Placed). q.state)) h

-- a record at a place is there
pub stands : (place : ℕ) (s : Slab State) (es : List (ℕ × ℕ)) → AllByRecursion (IsPlaced number_in RecordIsAt (record_in s)) es → list_any (stands_at place) (values_at (record_in s) es) ≡ true → ContainsKey s place
stands place s [] h a = absurd (cc a)
stands place s (e ∷ es) (h, hs) a =
    let a' : list_any (stands_at place) (h.0 ∷ values_at (record_in s) es) ≡ true = (rw h.1 at a) in
    go (stands place s es hs) a' (h.0.place == place) refl
  where
    go : (list_any (stands_at place) (values_at (record_in s) es) ≡ true → ContainsKey s place) → list_any (stands_at place) (h.0 ∷ values_at (record_in s) es) ≡ true → (b : Bool) → (h.0.place == place) ≡ b → ContainsKey s place
    go more a' true t =
        let q : h.0.place ≡ place = grind (arith, nat_tests) in
        subst (λ (p : ℕ). ContainsKey s p) (sym h.3 ∙ q) (has_place s e.1 h.0 h.1)
    go more a' false t = more (rw t at a')

-- and the state at a place is that of each record there
pub records-at : (place : ℕ) (st : State) (s : Slab State) (es : List (ℕ × ℕ)) → get s place ≡ Some st → AllByRecursion (IsPlaced number_in RecordIsAt (record_in s)) es → IsRecordAt place st (values_at (record_in s) es)
records-at place st s [] g h = tt
records-at place st s (e ∷ es) g (h, hs) = rw h.1 (here, records-at place st s es g hs)
  where
    here : h.0.place ≡ place → h.0.state ≡ st
    here q =
        let a : get s e.1 ≡ Some h.0.state = state_at (get s e.1) e.1 h.0 h.1 in
        let b : get s e.1 ≡ Some st = ap (get s) (sym h.3 ∙ q) ∙ g in
        cc

-- the state of a number is that at its place
pub read-value : (n : ℕ) (s : Slab State) (es : List (ℕ × ℕ)) (p : ℕ) (st : State) → AllByRecursion (IsPlaced number_in RecordIsAt (record_in s)) es → lookup (is_at (nat_cmp n)) es ≡ Some p → get s p ≡ Some st
    → Some st ≡ find (λ (x : State). x.number == n) (states_of (values_at (record_in s) es))
read-value n s es p st h l g =
    let f = find_placed number_in RecordIsAt (record_in s) n es p h l in
    let r : record_in s p ≡ Some (placed_at p st) = ap (option_map (placed_at p)) g in
    sym (find-states n (values_at (record_in s) es) ∙ ap (option_map (λ (q : Placed). q.state)) (f ∙ r))

pub rising-states : (s : Slab State) (es : List (ℕ × ℕ)) → AreInPlace number_in RecordIsAt (record_in s) es → IsRising (state_numbers (states_of (values_at (record_in s) es)))
rising-states s es k = rw (numbers-states (values_at (record_in s) es)) (rising-held number_in RecordIsAt (record_in s) es k)

-- ---- a record is written

pub placed_true : (n p : ℕ) (v : Placed) → is_placed n p v ≡ true → (number_in v ≡ n) × ((q : ℕ) → RecordIsAt v q → q ≡ p)
placed_true n p v h =
    let a : v.place ≡ p = grind (arith, nat_tests) in
    (grind (arith, nat_tests), λ q e. sym e ∙ a)

pub put-elsewhere : (st : State) (v : Placed) → (number_in v == st.number) ≡ false → put st v ≡ v
put-elsewhere st v t = rw t refl

pub put-here : (s : Slab State) (p : ℕ) (st : State) → IsPlaced number_in RecordIsAt (record_in s) (st.number, p) → (v : Placed) → record_in s p ≡ Some v → put st v ≡ placed_at p st
put-here s p st r v h =
    let e : v ≡ r.0 = cc (h, r.1) in
    let k : number_in v ≡ st.number = ap number_in e ∙ r.2 in
    let y : (number_in v == st.number) ≡ true = grind (arith, nat_tests, k) in
    rw y (ap (λ q. placed_at q st) (ap (λ (q : Placed). q.place) e ∙ r.3))

abbrev pub Stands : Slab State → List (ℕ × ℕ) → ℕ → State → Type 0
Stands s es p st = list_any (is_placed st.number p) (values_at (record_in s) es) ≡ true

at_number : (s : Slab State) (es : List (ℕ × ℕ)) (p : ℕ) (st : State) → AreInPlace number_in RecordIsAt (record_in s) es → Stands s es p st → lookup (is_at (nat_cmp st.number)) es ≡ Some p
at_number s es p st k a = look-placed number_in RecordIsAt (is_placed st.number p) (record_in s) st.number p es (placed_true st.number p) k.ordered k.placed a

pub has-written : (s : Slab State) (es : List (ℕ × ℕ)) (p : ℕ) (st : State) → AreInPlace number_in RecordIsAt (record_in s) es → Stands s es p st → ContainsKey s p
has-written s es p st k a =
    let f = found number_in RecordIsAt (record_in s) st.number p es k.placed (at_number s es p st k a) in
    has_place s p f.0 f.1

with_record : (s : Slab State) (es : List (ℕ × ℕ)) (p : ℕ) (st : State) → AreInPlace number_in RecordIsAt (record_in s) es → Stands s es p st → IsUpdated (record_in s) (record_in (with_value s p st)) p (Some (placed_at p st))
with_record s es p st k a = updated s (with_value s p st) p (Some st) (Updates-with_value s p st (has-written s es p st k a))

pub kept-put : (s : Slab State) (es : List (ℕ × ℕ)) (p : ℕ) (st : State) → AreInPlace number_in RecordIsAt (record_in s) es → Stands s es p st → AreInPlace number_in RecordIsAt (record_in (with_value s p st)) es
kept-put s es p st k a =
    kept-written number_in RecordIsAt (record_in s) (record_in (with_value s p st)) p st.number (placed_at p st) es refl refl (at_number s es p st k a) (with_record s es p st k a) k

pub view-put : (s : Slab State) (es : List (ℕ × ℕ)) (p : ℕ) (st : State) → AreInPlace number_in RecordIsAt (record_in s) es → Stands s es p st → values_at (record_in (with_value s p st)) es ≡ map (put st) (values_at (record_in s) es)
view-put s es p st k a =
    let l = at_number s es p st k a in
    let f = found number_in RecordIsAt (record_in s) st.number p es k.placed l in
    view-written number_in RecordIsAt (put st) (record_in s) (record_in (with_value s p st)) p st.number (placed_at p st) es (put-elsewhere st) (put-here s p st f) l (with_record s es p st k a) k

-- ---- how many are half open

abbrev half_of : List Placed → ℕ
half_of ps = half_open (states_of ps)

-- the state in the record at the place of a number at the place of its number
was-there : (s : Slab State) (es : List (ℕ × ℕ)) (p : ℕ) (st before : State) → AreInPlace number_in RecordIsAt (record_in s) es → Stands s es p st → get s p ≡ Some before
    → find (λ (x : State). x.number == st.number) (states_of (values_at (record_in s) es)) ≡ Some before
was-there s es p st before k a g = sym (read-value st.number s es p before k.placed (at_number s es p st k a) g)

pub counted-there : (s : Slab State) (es : List (ℕ × ℕ)) (p : ℕ) (st before : State) (count : ℕ) → AreCounted s es count → Stands s es p st → get s p ≡ Some before → opens before ≤ count
counted-there s es p st before count k a g =
    omega (arith, k.counted, half-found st.number before (states_of (values_at (record_in s) es)) (was-there s es p st before k.kept a g))

pub counted-put : (s : Slab State) (es : List (ℕ × ℕ)) (p : ℕ) (st before : State) (count rest after : ℕ) → AreCounted s es count → Stands s es p st → get s p ≡ Some before
    → rest + opens before ≡ count → after ≡ rest + opens st → AreCounted (with_value s p st) es after
counted-put s es p st before count rest after k a g e f =
    let vs = values_at (record_in s) es in
    let put-count = half-put st before (states_of vs) (rising-states s es k.kept) (was-there s es p st before k.kept a g) in
    let now = ap half_of (view-put s es p st k.kept a) ∙ ap half_open (states-put st vs) in
    record {
      kept = kept-put s es p st k.kept a;
      counted = omega (arith, k.counted, e, f, put-count, now);
    }

-- ---- a state is renewed at a place

-- the record at a place is that of its number
pub stands-placed : (s : Slab State) (es : List (ℕ × ℕ)) (p : ℕ) (before : State) → AllByRecursion (IsPlaced number_in RecordIsAt (record_in s)) es → get s p ≡ Some before
    → list_any (stands_at p) (values_at (record_in s) es) ≡ true → Stands s es p before
stands-placed s [] p before h g a = absurd cc
stands-placed s (e ∷ es) p before (h, hs) g a =
    let a' : list_any (stands_at p) (h.0 ∷ values_at (record_in s) es) ≡ true = (rw h.1 at a) in
    rw h.1 (go (stands-placed s es p before hs g) a' (h.0.place == p) refl)
  where
    same_self : (n : ℕ) → (n == n) ≡ true
    same_self n = grind (arith, nat_tests)

    or_true : (b : Bool) → (b || true) ≡ true
    or_true true = refl
    or_true false = refl

    go : (list_any (stands_at p) (values_at (record_in s) es) ≡ true → Stands s es p before) → list_any (stands_at p) (h.0 ∷ values_at (record_in s) es) ≡ true → (b : Bool) → (h.0.place == p) ≡ b
        → list_any (is_placed before.number p) (h.0 ∷ values_at (record_in s) es) ≡ true
    go more a' true t =
        let q : h.0.place ≡ p = grind (arith, nat_tests) in
        let x : get s e.1 ≡ Some h.0.state = state_at (get s e.1) e.1 h.0 h.1 in
        let y : get s e.1 ≡ Some before = ap (get s) (sym h.3 ∙ q) ∙ g in
        let z : h.0.state ≡ before = cc in
        let n : (h.0.state.number == before.number) ≡ true = ap (λ (u : State). u.number == before.number) z ∙ same_self before.number in
        rw (n, t) refl
    go more a' false t =
        let m = more (rw t at a') in
        rw m (or_true (h.0.state.number == before.number && (h.0.place == p)))

pub view-renewed : (s : Slab State) (es : List (ℕ × ℕ)) (p : ℕ) (phase : StatePhase) (last : ℕ) (before : State) → AllByRecursion (IsPlaced number_in RecordIsAt (record_in s)) es → get s p ≡ Some before
    → values_at (record_in (with_value s p (renewed phase last before))) es ≡ map (renewed_at p phase last) (values_at (record_in s) es)
view-renewed s [] p phase last before h g = refl
view-renewed s (e ∷ es) p phase last before (h, hs) g =
    go (view-renewed s es p phase last before hs g) (h.0.place == p) refl
  where
    new : Slab State
    new = with_value s p (renewed phase last before)

    u : IsUpdated (record_in s) (record_in new) p (Some (placed_at p (renewed phase last before)))
    u = updated s new p (Some (renewed phase last before)) (Updates-with_value s p (renewed phase last before) (rw g refl))

    go : values_at (record_in new) es ≡ map (renewed_at p phase last) (values_at (record_in s) es) → (b : Bool) → (h.0.place == p) ≡ b
        → values_at (record_in new) (e ∷ es) ≡ map (renewed_at p phase last) (values_at (record_in s) (e ∷ es))
    go more true t =
        let q : h.0.place ≡ p = grind (arith, nat_tests) in
        let k : e.1 ≡ p = sym h.3 ∙ q in
        let x : get s e.1 ≡ Some h.0.state = state_at (get s e.1) e.1 h.0 h.1 in
        let y : get s e.1 ≡ Some before = ap (get s) k ∙ g in
        let z : h.0.state ≡ before = cc in
        let c : record_in new e.1 ≡ Some (placed_at p (renewed phase last before)) = ap (record_in new) k ∙ u.changed in
        let w : renewed_at p phase last h.0 ≡ placed_at p (renewed phase last before) =
        ap (λ (b : Bool). if b then placed_at h.0.place (renewed phase last h.0.state) else h.0) t ∙ (λ i. placed_at (q i) (renewed phase last (z i))) in
        rw (h.1, c) (λ i. sym w i ∷ more i)
    go more false t =
        let d : record_in new e.1 ≡ Some h.0 = u.others e.1 (λ k. let y : (h.0.place == p) ≡ true = grind (arith, nat_tests, h.3, k) in absurd (cc (y, t))) ∙ h.1 in
        rw (h.1, d) (λ i. (ap (λ (b : Bool). if b then placed_at h.0.place (renewed phase last h.0.state) else h.0) (sym t) i) ∷ more i)
