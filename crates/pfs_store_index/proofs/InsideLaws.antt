-- The record that has a key inside: one whose keys are apart, or one that has the key on the wire too.
use Rattle.std.proofs.Common.{◌≡◌, ◌∙◌, ◌<◌, ◌==◌, ℕ, Bool, true, false, cond, Option, Some, None, List, [], ◌∷◌, length, map, option_map, refl, ap, sym, unwrap_or, arith}
use Rattle.std.specs.List.{find, IsDistinct, AllByRecursion}
use Rattle.std.specs.Option.{option_and_then}
use Rattle.std.proofs.lemmas.Bool.Decides.{nat_tests}
use Rattle.std.proofs.lemmas.Map.Keys.{IsDistinct-head, IsDistinct-tail}
use Rattle.pfs_addr_values.proofs.SameLaws.{same_key_self, same_key_true}
use Rattle.pfs_addr_values.specs.Sameness.{same_key}
use Rattle.pfs_addr_values.specs.declared.packets.Dir.TheVariants.{In}
use Rattle.pfs_addr_values.specs.declared.packets.FlowKey.{FlowKey}
use Rattle.pfs_store_contract.specs.Calls.{onward_key}
use Rattle.pfs_store_contract.specs.Purging.{state_numbers}
use Rattle.pfs_store_contract.specs.declared.records.State.{State}
use Rattle.pfs_store_records.specs.Records.{IsRising, Placed, states_of}
use Rattle.pfs_store_index.specs.declared.indexes.IndexEntry.{IndexEntry}
use Rattle.pfs_store_index.specs.IndexInvariants.{entry_of, has_apart, has_inside, has_key, inner_in, is_inner, key_in}
use Rattle.pfs_store_index.proofs.Leavings.{record_number, state_number}
use Rattle.pfs_store_index.proofs.Removals.{none-passes, passing-found}
use Rattle.pfs_store_records.proofs.Rising.{IsRisingBy, has_number, head-above, rest-rising}
use Rattle.pfs_store_records.proofs.Searches.{find-part, found-all, found-passes}

inside-tells : (k : FlowKey) (x : Placed) → has_inside k x ≡ true → inner_in x ≡ k
inside-tells k x h = same_key_true (inner_in x) k h

key-tells : (k : FlowKey) (x : Placed) → has_key k x ≡ true → key_in x ≡ k
key-tells k x h = same_key_true (key_in x) k h

apart-also : (k : FlowKey) (x : Placed) → has_apart k x ≡ true → has_inside k x ≡ true
apart-also k x h = go x.state.inner h
  where
    go : (o : Option FlowKey) → is_inner k o ≡ true → same_key (unwrap_or o x.state.key) k ≡ true
    go None e = absurd (cc e)
    go (Some i) e = e

-- the keys of the record are apart
pub inside-apart : (k : FlowKey) (p : Placed) (rs : List Placed) → IsDistinct same_key (map inner_in rs) → find (has_apart k) rs ≡ Some p → find (has_inside k) rs ≡ Some p
inside-apart k p rs d f = passing-found record_number inner_in (has_inside k) k (inside-tells k) p rs (has_apart k) d (apart-also k p (found-passes (has_apart k) p rs f)) f

-- they are not
pub inside-alike : (k : FlowKey) (p : Placed) (rs : List Placed) → IsDistinct same_key (map inner_in rs) → find (has_key k) rs ≡ Some p → p.state.inner ≡ None → find (has_inside k) rs ≡ Some p
inside-alike k p rs d f e =
    passing-found record_number inner_in (has_inside k) k (inside-tells k) p rs (has_key k) d
    (ap (λ (o : Option FlowKey). same_key (unwrap_or o p.state.key) k) e ∙ found-passes (has_key k) p rs f) f

-- no record has it
pub inside-none : (k : FlowKey) (rs : List Placed) → find (has_apart k) rs ≡ None → find (has_key k) rs ≡ None → find (has_inside k) rs ≡ None
inside-none k [] f g = refl
inside-none k (x ∷ xs) f g = go (inside-none k xs) x.state.inner refl (same_key x.state.key k) refl
  where
    go : (find (has_apart k) xs ≡ None → find (has_key k) xs ≡ None → find (has_inside k) xs ≡ None) → (o : Option FlowKey) → x.state.inner ≡ o → (b : Bool) → same_key x.state.key k ≡ b → find (has_inside k) (x ∷ xs) ≡ None
    go more None e true t = let g' : Some x ≡ None = (rw t at g) in absurd (cc g')
    go more None e false t =
        let a : has_apart k x ≡ false = ap (is_inner k) e in
        let b : has_inside k x ≡ false = ap (λ (o : Option FlowKey). same_key (unwrap_or o x.state.key) k) e ∙ t in
        rw b (more (rw a at f) (rw t at g))
    go more (Some i) e b t = on b t (same_key i k) refl
      where
        on : (b : Bool) → same_key x.state.key k ≡ b → (c : Bool) → same_key i k ≡ c → find (has_inside k) (x ∷ xs) ≡ None
        on true t c u = let g' : Some x ≡ None = (rw t at g) in absurd (cc g')
        on false t true u =
            let a : has_apart k x ≡ true = ap (is_inner k) e ∙ u in
            let f' : Some x ≡ None = (rw a at f) in
            absurd (cc f')
        on false t false u =
            let a : has_apart k x ≡ false = ap (is_inner k) e ∙ u in
            let d : has_inside k x ≡ false = ap (λ (o : Option FlowKey). same_key (unwrap_or o x.state.key) k) e ∙ u in
            rw d (more (rw a at f) (rw t at g))

-- the record that has it on the wire has another inside
pub inside-other : (k i : FlowKey) (p : Placed) (rs : List Placed) → IsDistinct same_key (map key_in rs) → find (has_apart k) rs ≡ None → find (has_key k) rs ≡ Some p → p.state.inner ≡ Some i
    → find (has_inside k) rs ≡ None
inside-other k i p [] d f g e = absurd cc
inside-other k i p (x ∷ xs) d f g e =
    go (inside-other k i p xs (IsDistinct-tail same_key (key_in x) (map key_in xs) d)) (IsDistinct-head same_key (key_in x) (map key_in xs) d) (has_apart k x) refl (has_key k x) refl
  where
    none : (b : Bool) → has_apart k x ≡ b → find (has_apart k) (x ∷ xs) ≡ None → (has_apart k x ≡ false) × (find (has_apart k) xs ≡ None)
    none true t h = let h' : Some x ≡ None = (rw t at h) in absurd (cc h')
    none false t h = (t, (rw t at h))

    -- it has the key inside only where it has it on the wire and no other
    only : has_apart k x ≡ false → (o : Option FlowKey) → x.state.inner ≡ o → (x.state.inner ≡ None → has_key k x ≡ false) → has_inside k x ≡ false
    only a None q h = ap (λ (o : Option FlowKey). same_key (unwrap_or o x.state.key) k) q ∙ h q
    only a (Some j) q h = ap (λ (o : Option FlowKey). same_key (unwrap_or o x.state.key) k) q ∙ sym (ap (is_inner k) q) ∙ a

    go : (find (has_apart k) xs ≡ None → find (has_key k) xs ≡ Some p → p.state.inner ≡ Some i → find (has_inside k) xs ≡ None) → AllByRecursion (λ y. same_key (key_in x) y ≡ false) (map key_in xs)
        → (a : Bool) → has_apart k x ≡ a → (b : Bool) → has_key k x ≡ b → find (has_inside k) (x ∷ xs) ≡ None
    go more hd a t true u =
        let n = none a t f in
        let g' : Some x ≡ Some p = (rw u at g) in
        let q : x ≡ p = cc in
        let away : has_inside k x ≡ false = only n.0 x.state.inner refl (λ z. let y : None ≡ Some i = sym z ∙ ap (λ (r : Placed). r.state.inner) q ∙ e in absurd (cc y)) in
        rw away (inside-none k xs n.1 (none-passes record_number key_in (has_key k) k (key-tells k) x xs hd u))
    go more hd a t false u =
        let n = none a t f in
        let away : has_inside k x ≡ false = only n.0 x.state.inner refl (λ z. u) in
        rw away (more n.1 (rw u at g) e)

-- where no keys are apart, the key inside is that on the wire
pub inside-same : (k : FlowKey) (rs : List Placed) → ((j : FlowKey) → find (has_apart j) rs ≡ None) → find (has_inside k) rs ≡ find (has_key k) rs
inside-same k [] h = refl
inside-same k (x ∷ xs) h = go x.state.inner refl (inside-same k xs)
  where
    go : (o : Option FlowKey) → x.state.inner ≡ o → (((j : FlowKey) → find (has_apart j) xs ≡ None) → find (has_inside k) xs ≡ find (has_key k) xs) → find (has_inside k) (x ∷ xs) ≡ find (has_key k) (x ∷ xs)
    go None e more =
        let b : has_inside k x ≡ has_key k x = ap (λ (o : Option FlowKey). same_key (unwrap_or o x.state.key) k) e in
        rw b (ap (λ o. cond (has_key k x) (Some x) o) (more (λ j. let a : has_apart j x ≡ false = ap (is_inner j) e in let h' : find (has_apart j) (x ∷ xs) ≡ None = h j in (rw a at h'))))
    go (Some i) e more =
        let a : has_apart i x ≡ true = ap (is_inner i) e ∙ same_key_self i in
        let h' : find (has_apart i) (x ∷ xs) ≡ None = h i in
        let z : Some x ≡ None = (rw a at h') in
        absurd (cc z)

-- ---- what the indexes have of it

pub no-entry : (o : Option Placed) → None ≡ option_map entry_of o → o ≡ None
no-entry None h = refl
no-entry (Some p) h = absurd (cc h)

pub apart-entry : (k : FlowKey) (e : IndexEntry) (rs : List Placed) → IsDistinct same_key (map inner_in rs) → Some e ≡ option_map entry_of (find (has_apart k) rs) → Some e ≡ option_map entry_of (find (has_inside k) rs)
apart-entry k e rs d h = go (find (has_apart k) rs) refl
  where
    go : (o : Option Placed) → find (has_apart k) rs ≡ o → Some e ≡ option_map entry_of (find (has_inside k) rs)
    go None f = let z : Some e ≡ None = h ∙ ap (option_map entry_of) f in absurd (cc z)
    go (Some p) f = h ∙ ap (option_map entry_of) f ∙ sym (ap (option_map entry_of) (inside-apart k p rs d f))

pub none-held : {X : Type 0} (xs : List X) → length xs ≡ 0 → xs ≡ []
none-held [] h = refl
none-held (x ∷ xs) h = absurd (omega (arith, h))

-- ---- by number

lower_differs : (a b : ℕ) → a < b → (a == b) ≡ false
lower_differs a b h = grind (arith, nat_tests)

same_self : (n : ℕ) → (n == n) ≡ true
same_self n = grind (arith, nat_tests)

-- a state that is found is found by its number
by-number : (p : State → Bool) (s : State) (xs : List State) → IsRisingBy state_number xs → find p xs ≡ Some s → find (has_number state_number s.number) xs ≡ Some s
by-number p s [] r f = absurd cc
by-number p s (x ∷ xs) r f = go (by-number p s xs (rest-rising state_number x xs r)) (p x) refl
  where
    go : (find p xs ≡ Some s → find (has_number state_number s.number) xs ≡ Some s) → (b : Bool) → p x ≡ b → find (has_number state_number s.number) (x ∷ xs) ≡ Some s
    go more true t =
        let f' : Some x ≡ Some s = (rw t at f) in
        let q : x ≡ s = cc in
        let y : (x.number == s.number) ≡ true = ap (λ (z : State). z.number == s.number) q ∙ same_self s.number in
        rw y f'
    go more false t =
        let f' : find p xs ≡ Some s = (rw t at f) in
        let l : x.number < s.number = found-all (λ (y : State). x.number < y.number) p s xs (head-above state_number x xs r) f' in
        let y : (x.number == s.number) ≡ false = lower_differs x.number s.number l in
        rw y (more f')

-- the record of an entry of the index by key, and whether its keys are apart
pub record IsEntryOf (k : FlowKey) (e : IndexEntry) (rs : List Placed) : Type 0 where
  pub whole : Placed
  pub found : find (has_key k) rs ≡ Some whole
  pub same : e ≡ entry_of whole
  pub inner : option_and_then (onward_key In) (find (λ (s : State). s.number == e.number) (states_of rs)) ≡ whole.state.inner

pub entry-is : (k : FlowKey) (e : IndexEntry) (rs : List Placed) → IsRising (state_numbers (states_of rs)) → Some e ≡ option_map entry_of (find (has_key k) rs) → IsEntryOf k e rs
entry-is k e rs r h = go (find (has_key k) rs) refl
  where
    go : (o : Option Placed) → find (has_key k) rs ≡ o → IsEntryOf k e rs
    go None f = let z : Some e ≡ None = h ∙ ap (option_map entry_of) f in absurd (cc z)
    go (Some p) f =
        let z : Some e ≡ Some (entry_of p) = h ∙ ap (option_map entry_of) f in
        let q : e ≡ entry_of p = cc in
        let g : find (λ (s : State). same_key s.key k) (states_of rs) ≡ Some p.state = find-part (λ (x : Placed). x.state) (λ (s : State). same_key s.key k) rs ∙ ap (option_map (λ (x : Placed). x.state)) f in
        record {
          whole = p;
          found = f;
          same = q;
          inner = ap (λ (x : IndexEntry). option_and_then (onward_key In) (find (λ (s : State). s.number == x.number) (states_of rs))) q
              ∙ ap (option_and_then (onward_key In)) (by-number (λ (s : State). same_key s.key k) p.state (states_of rs) r g);
        }
