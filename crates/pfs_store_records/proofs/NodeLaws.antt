-- The source nodes: what a table holds by scope and source, seen by number, and how many each scope has.
use Rattle.std.proofs.Common.{length, ◌+◌, ◌≡◌, ◌≢◌, ℕ, ◌<◌, ◌≤◌, ◌==◌, ◌&&◌, Bool, true, false, cond, Option, Some, None, IsSome, List, [], ◌∷◌, ◌++◌, map, refl, sym, ap, ◌∙◌, arith, rules}
use Rattle.std.specs.List.{find, AllByRecursion, IsDistinct}
use Rattle.std.specs.List.Sorted.{IsStrictlySortedBy}
use Rattle.std.specs.Map.{keys_of, lookup, remove_entry}
use Rattle.std.specs.BTreeMap.{is_at}
use Rattle.std.specs.Ordering.{nat_cmp}
use Rattle.std.specs.declared.cmp.Ordering.TheVariants.{Less}
use Rattle.std.proofs.lemmas.Bool.Decides.{nat_tests}
use Rattle.std.proofs.lemmas.Map.Keys.{IsDistinct-cons, sorted_head, sorted_tail}
use Rattle.indexmap.specs.IndexMap as index_map
use Rattle.indexmap.specs.IndexMap.{IndexMap}
use Rattle.slab.specs.Slab.{Slab, get, ContainsKey, Updates}
use Rattle.pfs_addr_values.proofs.SameLaws.{same_addr_self, same_addr_true}
use Rattle.pfs_addr_values.specs.Sameness.{same_addr}
use Rattle.pfs_addr_values.specs.declared.addresses.Addr.{Addr}
use Rattle.pfs_store_contract.specs.Counts.{same_scope, scope_nodes}
use Rattle.pfs_store_contract.specs.Purging.{node_numbers}
use Rattle.pfs_store_contract.specs.declared.records.NodeScope.{NodeScope}
use Rattle.pfs_store_records.specs.RecordPlaces.{Anywhere, AreInPlace, IsFoundAt, IsNoted, IsPlaced, NodeIsAt, SameCounts, number_of_node, one_if, same_source, source_of_node, tally_in, values_at}
use Rattle.pfs_store_records.specs.Records.{IsAbove, IsRising}
use Rattle.pfs_store_records.specs.Tallies.{IsOrderly, IsTallied, count_of, has_node_number, is_tally, nodes_of, put_tally, same_node}
use Rattle.pfs_store_records.specs.declared.nodes.NodeTally.{NodeTally}
use Rattle.pfs_store_contract.proofs.ScopeLaws.{same_scope_self, same_scope_true}
use Rattle.pfs_store_records.proofs.Ordered.{IsUpdated, at_same, at_self, below-keys, filter-removed, find-held, find-vacant, found, held-all, held-pushed, held-removed, kept-pushed, kept-removed, kept-written, length-held, less_apart, look-placed, none-above, rising-held, view-written}

-- ---- the test of scope and source decides

pub source_true : (a b : NodeScope × Addr) → same_source a b ≡ true → a ≡ b
source_true a b h = go (same_scope a.0 b.0) refl (same_addr a.1 b.1) refl
  where
    go : (x : Bool) → same_scope a.0 b.0 ≡ x → (y : Bool) → same_addr a.1 b.1 ≡ y → a ≡ b
    go true s true t =
        let p = same_scope_true a.0 b.0 s in
        let q = same_addr_true a.1 b.1 t in
        λ i. (p i, q i)
    go true s false t = let h' : false ≡ true = (rw (s, t) at h) in absurd (cc h')
    go false s y t = let h' : false ≡ true = (rw s at h) in absurd (cc h')

pub source_self : (a : NodeScope × Addr) → same_source a a ≡ true
source_self a = rw (same_scope_self a.0, same_addr_self a.1) refl

pub source_apart : (a b : NodeScope × Addr) → a ≢ b → same_source a b ≡ false
source_apart a b d = go (same_source a b) refl
  where
    go : (x : Bool) → same_source a b ≡ x → same_source a b ≡ false
    go true t = absurd (d (source_true a b t))
    go false t = t

-- a table that has this for a source, and for each other what it had
pub updated-table : (T U : NodeScope × Addr → Option ℕ) (p : NodeScope × Addr) (w : Option ℕ) → ((q : NodeScope × Addr) → U q ≡ cond (same_source p q) w (T q)) → IsUpdated T U p w
updated-table T U p w h = record {
  changed = h p ∙ rw (source_self p) refl;
  others = λ q d. h q ∙ rw (source_apart p q (λ e. d (sym e))) refl;
}

pub updated-slab : (s t : Slab NodeTally) (p : ℕ) (w : Option NodeTally) → Updates s t p w → IsUpdated (tally_in s) (tally_in t) p w
updated-slab s t p w u = record { changed = u.changed; others = u.others }

pub grown-slab : (s t : Slab NodeTally) (c : ℕ) → t ≡ record s { capacity = c } → (q : ℕ) → tally_in t q ≡ tally_in s q
grown-slab s t c e q = ap (λ x. tally_in x q) e

has_tally : (o : Option NodeTally) (t : NodeTally) → o ≡ Some t → IsSome o
has_tally o t h = rw h refl

pub has_key : (s : Slab NodeTally) (p : ℕ) (t : NodeTally) → tally_in s p ≡ Some t → ContainsKey s p
has_key s p t h = has_tally (get s p) t h

-- ---- a node is found

tally_true : (scope : NodeScope) (source : Addr) (t : NodeTally) → is_tally scope source t ≡ true → source_of_node t ≡ (scope, source)
tally_true scope source t h = source_true (source_of_node t) (scope, source) h

tally_self : (scope : NodeScope) (source : Addr) (t : NodeTally) → source_of_node t ≡ (scope, source) → is_tally scope source t ≡ true
tally_self scope source t e = ap (λ a. same_source a (scope, source)) e ∙ source_self (scope, source)

module _ (T : NodeScope × Addr → Option ℕ) (at : ℕ → Option NodeTally) (es : List (ℕ × ℕ)) (rules : List ℕ) (global : ℕ) (k : IsNoted T at es rules global) where
  pub get-found : (scope : NodeScope) (source : Addr) (p : ℕ) → T (scope, source) ≡ Some p → at p ≡ find (is_tally scope source) (values_at at es)
  get-found scope source p h =
      let f = k.found (scope, source) p h in
      f.1 ∙ sym (find-held number_of_node (NodeIsAt T) (is_tally scope source) at p f.0 es here (tally_self scope source f.0 f.2) f.1 f.3 k.kept.placed)
    where
      here : (u : NodeTally) (q : ℕ) → is_tally scope source u ≡ true → NodeIsAt T u q → q ≡ p
      here u q t a = let b : T (source_of_node u) ≡ Some p = ap T (tally_true scope source u t) ∙ h in cc (a, b)

  pub get-absent : (scope : NodeScope) (source : Addr) → T (scope, source) ≡ None → find (is_tally scope source) (values_at at es) ≡ None
  get-absent scope source h = find-vacant number_of_node (NodeIsAt T) (is_tally scope source) at es nowhere k.kept.placed
    where
      nowhere : (v : NodeTally) (q : ℕ) → is_tally scope source v ≡ true → NodeIsAt T v q → ⊥
      nowhere v q t a = let b : T (source_of_node v) ≡ None = ap T (tally_true scope source v t) ∙ h in absurd (cc (a, b))

  -- the table has nothing for a source that no node has
  pub none-noted : (scope : NodeScope) (source : Addr) → find (is_tally scope source) (values_at at es) ≡ None → T (scope, source) ≡ None
  none-noted scope source n = go (T (scope, source)) refl
    where
      go : (o : Option ℕ) → T (scope, source) ≡ o → T (scope, source) ≡ None
      go None h = h
      go (Some p) h =
          let f = k.found (scope, source) p h in
          let a : at p ≡ None = get-found scope source p h ∙ n in
          absurd (cc (a, f.1))

-- ---- the list is orderly

pub numbers-nodes : (ts : List NodeTally) → node_numbers (nodes_of ts) ≡ map number_of_node ts
numbers-nodes [] = refl
numbers-nodes (t ∷ ts) = ap (λ xs. t.node.number ∷ xs) (numbers-nodes ts)

apart : (T : NodeScope × Addr → Option ℕ) (at : ℕ → Option NodeTally) (t : NodeTally) (p m : ℕ) (es : List (ℕ × ℕ)) → at p ≡ Some t → NodeIsAt T t p → number_of_node t ≡ m → AllByRecursion (λ k. nat_cmp m k ≡ Less) (keys_of es)
    → AllByRecursion (IsPlaced number_of_node (NodeIsAt T) at) es → AllByRecursion (λ u. same_node t u ≡ false) (values_at at es)
apart T at t p m [] g a n d h = tt
apart T at t p m (e ∷ es) g a n (d, ds) (h, hs) = rw h.1 (go (same_node t h.0) refl, apart T at t p m es g a n ds hs)
  where
    go : (b : Bool) → same_node t h.0 ≡ b → same_node t h.0 ≡ false
    go true s =
        let q : source_of_node h.0 ≡ source_of_node t = source_true (source_of_node h.0) (source_of_node t) s in
        let x : T (source_of_node h.0) ≡ Some p = ap T q ∙ a in
        let r : e.1 ≡ p = cc (x, h.3) in
        let w : at e.1 ≡ Some t = ap at r ∙ g in
        let y : h.0 ≡ t = cc (w, h.1) in
        let z : e.0 ≡ m = sym h.2 ∙ ap number_of_node y ∙ n in
        let l = less_apart m e.0 d in
        absurd (omega (arith, z, l))
    go false s = s

IsDistinct-nil : IsDistinct same_node []
unfolding IsDistinct
IsDistinct-nil = tt

distinct-held : (T : NodeScope × Addr → Option ℕ) (at : ℕ → Option NodeTally) (es : List (ℕ × ℕ)) → IsStrictlySortedBy nat_cmp (keys_of es) → AllByRecursion (IsPlaced number_of_node (NodeIsAt T) at) es
    → IsDistinct same_node (values_at at es)
distinct-held T at [] o h = IsDistinct-nil
distinct-held T at (e ∷ es) o (h, hs) =
    rw h.1 (IsDistinct-cons same_node h.0 (values_at at es)
    (apart T at h.0 e.1 e.0 es h.1 h.3 h.2 (sorted_head nat_cmp e.0 (keys_of es) o) hs)
    (distinct-held T at es (sorted_tail nat_cmp e.0 (keys_of es) o) hs))

pub orderly : (T : NodeScope × Addr → Option ℕ) (at : ℕ → Option NodeTally) (es : List (ℕ × ℕ)) → AreInPlace number_of_node (NodeIsAt T) at es → IsOrderly (values_at at es)
orderly T at es k = record {
  rising = rw (numbers-nodes (values_at at es)) (rising-held number_of_node (NodeIsAt T) at es k);
  distinct = distinct-held T at es k.ordered k.placed;
}

-- a walk asks for no place
placed-anywhere : (T : NodeScope × Addr → Option ℕ) (at : ℕ → Option NodeTally) (es : List (ℕ × ℕ)) → AllByRecursion (IsPlaced number_of_node (NodeIsAt T) at) es → AllByRecursion (IsPlaced number_of_node Anywhere at) es
placed-anywhere T at [] h = tt
placed-anywhere T at (e ∷ es) (h, hs) = ((h.0, h.1, h.2, tt), placed-anywhere T at es hs)

pub kept-anywhere : (T : NodeScope × Addr → Option ℕ) (at : ℕ → Option NodeTally) (es : List (ℕ × ℕ)) → AreInPlace number_of_node (NodeIsAt T) at es → AreInPlace number_of_node Anywhere at es
kept-anywhere T at es k = record { placed = placed-anywhere T at es k.placed; ordered = k.ordered }

-- ---- counts of scopes

scope-more : (s : NodeScope) (t : NodeTally) (ts : List NodeTally) → scope_nodes s (nodes_of (t ∷ ts)) ≡ scope_nodes s (nodes_of ts) + one_if (same_scope t.node.scope s)
scope-more s t ts = go (same_scope t.node.scope s) refl
  where
    go : (b : Bool) → same_scope t.node.scope s ≡ b → scope_nodes s (nodes_of (t ∷ ts)) ≡ scope_nodes s (nodes_of ts) + one_if (same_scope t.node.scope s)
    go true e = rw e (omega arith)
    go false e = rw e (omega arith)

scope-pushed : (s : NodeScope) (t : NodeTally) (ts : List NodeTally) → scope_nodes s (nodes_of (ts ++ t ∷ [])) ≡ scope_nodes s (nodes_of ts) + one_if (same_scope t.node.scope s)
scope-pushed s t [] = scope-more s t []
scope-pushed s t (u ∷ ts) =
    let a = scope-more s u (ts ++ t ∷ []) in
    let b = scope-pushed s t ts in
    let c = scope-more s u ts in
    omega (arith, a, b, c)

scope-few : (s : NodeScope) (ts : List NodeTally) → scope_nodes s (nodes_of ts) ≤ length ts
scope-few s [] = omega arith
scope-few s (t ∷ ts) = go (scope-few s ts) (same_scope t.node.scope s) refl
  where
    go : scope_nodes s (nodes_of ts) ≤ length ts → (b : Bool) → same_scope t.node.scope s ≡ b → scope_nodes s (nodes_of (t ∷ ts)) ≤ length (t ∷ ts)
    go more true e = rw e (omega (arith, more))
    go more false e = rw e (omega (arith, more))

module _ (At : NodeTally → ℕ → Type 0) (s : NodeScope) (at : ℕ → Option NodeTally) where
  scope-removed : (n p : ℕ) (v : NodeTally) (es : List (ℕ × ℕ)) → lookup (is_at (nat_cmp n)) es ≡ Some p → at p ≡ Some v → AllByRecursion (IsPlaced number_of_node At at) es
      → scope_nodes s (nodes_of (values_at at es)) ≡ scope_nodes s (nodes_of (values_at at (remove_entry (is_at (nat_cmp n)) es))) + one_if (same_scope v.node.scope s)
  scope-removed n p v [] l g h = absurd cc
  scope-removed n p v (e ∷ es) l g (h, hs) = go (λ l'. scope-removed n p v es l' g hs) (is_at (nat_cmp n) e.0) refl
    where
      go : (lookup (is_at (nat_cmp n)) es ≡ Some p → scope_nodes s (nodes_of (values_at at es)) ≡ scope_nodes s (nodes_of (values_at at (remove_entry (is_at (nat_cmp n)) es))) + one_if (same_scope v.node.scope s))
          → (b : Bool) → is_at (nat_cmp n) e.0 ≡ b
          → scope_nodes s (nodes_of (values_at at (e ∷ es))) ≡ scope_nodes s (nodes_of (values_at at (remove_entry (is_at (nat_cmp n)) (e ∷ es)))) + one_if (same_scope v.node.scope s)
      go more true i =
          let l' : Some e.1 ≡ Some p = (rw i at l) in
          let q : e.1 ≡ p = cc in
          let a : at e.1 ≡ Some v = ap at q ∙ g in
          rw (i, a) (scope-more s v (values_at at es))
      go more false i =
          let m = more (rw i at l) in
          let b = scope-more s h.0 (values_at at es) in
          let c = scope-more s h.0 (values_at at (remove_entry (is_at (nat_cmp n)) es)) in
          rw (i, h.1) (omega (arith, m, b, c))

  scope-written : (at' : ℕ → Option NodeTally) (p : ℕ) (v t : NodeTally) (es : List (ℕ × ℕ)) → at p ≡ Some v → v.node.scope ≡ t.node.scope → IsUpdated at at' p (Some t) → AllByRecursion (IsPlaced number_of_node At at) es
      → scope_nodes s (nodes_of (values_at at' es)) ≡ scope_nodes s (nodes_of (values_at at es))
  scope-written at' p v t [] g c u h = refl
  scope-written at' p v t (e ∷ es) g c u (h, hs) = go (scope-written at' p v t es g c u hs) (e.1 == p) refl
    where
      go : scope_nodes s (nodes_of (values_at at' es)) ≡ scope_nodes s (nodes_of (values_at at es)) → (b : Bool) → (e.1 == p) ≡ b
          → scope_nodes s (nodes_of (values_at at' (e ∷ es))) ≡ scope_nodes s (nodes_of (values_at at (e ∷ es)))
      go more true i =
          let q : e.1 ≡ p = grind (arith, nat_tests) in
          let x : at e.1 ≡ Some v = ap at q ∙ g in
          let y : at' e.1 ≡ Some t = ap at' q ∙ u.changed in
          let a = scope-more s v (values_at at es) in
          let b = scope-more s t (values_at at' es) in
          let d : one_if (same_scope v.node.scope s) ≡ one_if (same_scope t.node.scope s) = ap (λ x'. one_if (same_scope x' s)) c in
          rw (x, y) (omega (arith, more, a, b, d))
      go more false i =
          let q : e.1 ≢ p = λ z. grind (arith, nat_tests) in
          let y : at' e.1 ≡ Some h.0 = u.others e.1 q ∙ h.1 in
          let a = scope-more s h.0 (values_at at es) in
          let b = scope-more s h.0 (values_at at' es) in
          rw (h.1, y) (omega (arith, more, a, b))

-- ---- changes

-- what stays where memory is refused
placed-all : (T T' : NodeScope × Addr → Option ℕ) (at at' : ℕ → Option NodeTally) (es : List (ℕ × ℕ)) → ((q : NodeScope × Addr) → T' q ≡ T q) → ((p : ℕ) → at' p ≡ at p)
    → AllByRecursion (IsPlaced number_of_node (NodeIsAt T) at) es → AllByRecursion (IsPlaced number_of_node (NodeIsAt T') at') es
placed-all T T' at at' [] h g p = tt
placed-all T T' at at' (e ∷ es) h g (p, ps) = ((p.0, g e.1 ∙ p.1, p.2, h (source_of_node p.0) ∙ p.3), placed-all T T' at at' es h g ps)

pub noted-all : (T T' : NodeScope × Addr → Option ℕ) (at at' : ℕ → Option NodeTally) (es : List (ℕ × ℕ)) (rules rules' : List ℕ) (global global' : ℕ) → ((q : NodeScope × Addr) → T' q ≡ T q) → ((p : ℕ) → at' p ≡ at p)
    → SameCounts (count_of rules global) (count_of rules' global') → IsNoted T at es rules global → IsNoted T' at' es rules' global'
noted-all T T' at at' es rules rules' global global' h g s k = record {
  kept = record { placed = placed-all T T' at at' es h g k.kept.placed; ordered = k.kept.ordered };
  found = λ q p a. let f = k.found q p (sym (h q) ∙ a) in (f.0, g p ∙ f.1, f.2, f.3);
  counted = λ c. s c ∙ k.counted c ∙ ap (λ xs. scope_nodes c (nodes_of xs)) (sym (held-all number_of_node (NodeIsAt T) at at' es g));
}

-- the table changes for a source that none of these has
placed-moved : (T T' : NodeScope × Addr → Option ℕ) (at : ℕ → Option NodeTally) (q : NodeScope × Addr) (w : Option ℕ) (es : List (ℕ × ℕ)) → IsUpdated T T' q w
    → ((u : NodeTally) (r : ℕ) → at r ≡ Some u → NodeIsAt T u r → source_of_node u ≢ q)
    → AllByRecursion (IsPlaced number_of_node (NodeIsAt T) at) es → AllByRecursion (IsPlaced number_of_node (NodeIsAt T') at) es
placed-moved T T' at q w [] u d h = tt
placed-moved T T' at q w (e ∷ es) u d (h, hs) =
    ((h.0, h.1, h.2, u.others (source_of_node h.0) (d h.0 e.1 h.1 h.3) ∙ h.3), placed-moved T T' at q w es u d hs)

apart_from : (a q : NodeScope × Addr) → same_source a q ≡ false → q ≢ a
apart_from a q s e = let x : same_source a q ≡ true = ap (same_source a) e ∙ source_self a in absurd (cc (x, s))

-- a node comes
pub noted-pushed : (T T' : NodeScope × Addr → Option ℕ) (at at' : ℕ → Option NodeTally) (t : NodeTally) (p : ℕ) (es fs : List (ℕ × ℕ)) (rules rules' : List ℕ) (global global' : ℕ)
    → T (source_of_node t) ≡ None → IsUpdated T T' (source_of_node t) (Some p) → at p ≡ None → IsUpdated at at' p (Some t) → IsAbove t.node.number (node_numbers (nodes_of (values_at at es)))
    → fs ≡ es ++ (t.node.number, p) ∷ [] → IsStrictlySortedBy nat_cmp (keys_of fs)
    → ((q : ℕ) → lookup (is_at (nat_cmp q)) fs ≡ cond (is_at (nat_cmp t.node.number) q) (Some p) (lookup (is_at (nat_cmp q)) es))
    → ((s : NodeScope) → count_of rules' global' s ≡ count_of rules global s + one_if (same_scope t.node.scope s))
    → IsNoted T at es rules global → IsNoted T' at' fs rules' global'
noted-pushed T T' at at' t p es fs rules rules' global global' n m v u a e o g c k = record {
  kept = kept-pushed number_of_node (NodeIsAt T') at at' p t es fs v u moved above m.changed e o;
  found = λ q r h. is_found q r h (same_source (source_of_node t) q) refl;
  counted = λ s. c s ∙ rw (k.counted s, held) (sym (scope-pushed s t (values_at at es)));
}
  where
    above : AllByRecursion (λ m. m < t.node.number) (map number_of_node (values_at at es))
    above = rw (numbers-nodes (values_at at es)) at a

    below : AllByRecursion (λ m. m < t.node.number) (keys_of es)
    below = below-keys number_of_node (NodeIsAt T) t.node.number at es k.kept.placed above

    other : (w : NodeTally) (r : ℕ) → at r ≡ Some w → NodeIsAt T w r → source_of_node w ≢ source_of_node t
    other w r h d q = let x : T (source_of_node w) ≡ None = ap T q ∙ n in absurd (cc (x, d))

    moved : AreInPlace number_of_node (NodeIsAt T') at es
    moved = record { placed = placed-moved T T' at (source_of_node t) (Some p) es m other k.kept.placed; ordered = k.kept.ordered }

    held : values_at at' fs ≡ values_at at es ++ t ∷ []
    held = held-pushed number_of_node (NodeIsAt T) at at' p t es fs v u k.kept above e

    elsewhere : (r : ℕ) (w : NodeTally) → lookup (is_at (nat_cmp w.node.number)) es ≡ Some r → (b : Bool) → is_at (nat_cmp t.node.number) w.node.number ≡ b → lookup (is_at (nat_cmp w.node.number)) fs ≡ Some r
    elsewhere r w l true i =
        let x : lookup (is_at (nat_cmp w.node.number)) es ≡ None = none-above w.node.number es (rw (at_same t.node.number w.node.number i) at below) in
        absurd (cc (x, l))
    elsewhere r w l false i = g w.node.number ∙ rw i l

    is_found : (q : NodeScope × Addr) (r : ℕ) → T' q ≡ Some r → (b : Bool) → same_source (source_of_node t) q ≡ b → IsFoundAt at' fs q r
    is_found q r h true s =
        let x = source_true (source_of_node t) q s in
        let y : T' q ≡ Some p = ap T' (sym x) ∙ m.changed in
        let z : p ≡ r = cc (y, h) in
        let i = at_self t.node.number t.node.number refl in
        (t, ap at' (sym z) ∙ u.changed, x, g t.node.number ∙ rw i (ap Some z))
    is_found q r h false s =
        let f = k.found q r (sym (m.others q (apart_from (source_of_node t) q s)) ∙ h) in
        let d : r ≢ p = λ z. (let x : at r ≡ None = ap at z ∙ v in absurd (cc (x, f.1))) in
        (f.0, u.others r d ∙ f.1, f.2, elsewhere r f.0 f.3 (is_at (nat_cmp t.node.number) f.0.node.number) refl)

-- a node leaves
pub noted-removed : (T T' : NodeScope × Addr → Option ℕ) (at at' : ℕ → Option NodeTally) (n p : ℕ) (v : NodeTally) (es fs : List (ℕ × ℕ)) (rules rules' : List ℕ) (global global' : ℕ)
    → lookup (is_at (nat_cmp n)) es ≡ Some p → at p ≡ Some v → IsUpdated T T' (source_of_node v) None → IsUpdated at at' p None
    → fs ≡ remove_entry (is_at (nat_cmp n)) es → IsStrictlySortedBy nat_cmp (keys_of fs)
    → ((q : ℕ) → lookup (is_at (nat_cmp q)) fs ≡ cond (is_at (nat_cmp n) q) None (lookup (is_at (nat_cmp q)) es))
    → ((s : NodeScope) → count_of rules global s ≡ count_of rules' global' s + one_if (same_scope v.node.scope s))
    → IsNoted T at es rules global → IsNoted T' at' fs rules' global'
noted-removed T T' at at' n p v es fs rules rules' global global' l h m u e o g c k = record {
  kept = record { placed = placed-moved T T' at' (source_of_node v) None fs m other kept.placed; ordered = o };
  found = λ q r a. is_found q r a (same_source (source_of_node v) q) refl;
  counted = counted;
}
  where
    kept : AreInPlace number_of_node (NodeIsAt T) at' fs
    kept = kept-removed number_of_node (NodeIsAt T) at at' p n es fs l u k.kept e o

    here : T (source_of_node v) ≡ Some p
    here =
        let f = found number_of_node (NodeIsAt T) at n p es k.kept.placed l in
        let x : v ≡ f.0 = cc (h, f.1) in
        ap (λ (w : NodeTally). T (source_of_node w)) x ∙ f.3

    other : (w : NodeTally) (r : ℕ) → at' r ≡ Some w → NodeIsAt T w r → source_of_node w ≢ source_of_node v
    other w r a d q =
        let x : T (source_of_node w) ≡ Some p = ap T q ∙ here in
        let y : r ≡ p = cc (x, d) in
        let z : at' r ≡ None = ap at' y ∙ u.changed in
        absurd (cc (z, a))

    held : values_at at' fs ≡ values_at at (remove_entry (is_at (nat_cmp n)) es)
    held = held-removed number_of_node (NodeIsAt T) at at' p n es fs l u k.kept e ∙ sym (filter-removed number_of_node (NodeIsAt T) n at es k.kept.ordered k.kept.placed)

    counted : (s : NodeScope) → count_of rules' global' s ≡ scope_nodes s (nodes_of (values_at at' fs))
    counted s =
        let a = k.counted s in
        let b : scope_nodes s (nodes_of (values_at at' fs)) ≡ scope_nodes s (nodes_of (values_at at (remove_entry (is_at (nat_cmp n)) es))) = ap (λ xs. scope_nodes s (nodes_of xs)) held in
        let r = scope-removed (NodeIsAt T) s at n p v es l h k.kept.placed in
        let d = c s in
        omega (arith, a, b, r, d)

    elsewhere : (r : ℕ) (w : NodeTally) → r ≢ p → lookup (is_at (nat_cmp w.node.number)) es ≡ Some r → (b : Bool) → is_at (nat_cmp n) w.node.number ≡ b → lookup (is_at (nat_cmp w.node.number)) fs ≡ Some r
    elsewhere r w d f true i =
        let x : lookup (is_at (nat_cmp w.node.number)) es ≡ Some p = ap (λ j. lookup (is_at (nat_cmp j)) es) (sym (at_same n w.node.number i)) ∙ l in
        let y : r ≡ p = cc (x, f) in
        absurd (d y)
    elsewhere r w d f false i = g w.node.number ∙ rw i f

    is_found : (q : NodeScope × Addr) (r : ℕ) → T' q ≡ Some r → (b : Bool) → same_source (source_of_node v) q ≡ b → IsFoundAt at' fs q r
    is_found q r a true s =
        let x = source_true (source_of_node v) q s in
        let y : T' q ≡ None = ap T' (sym x) ∙ m.changed in
        absurd (cc (y, a))
    is_found q r a false s =
        let b = apart_from (source_of_node v) q s in
        let f = k.found q r (sym (m.others q b) ∙ a) in
        let d : r ≢ p = λ z. (let x : at r ≡ Some v = ap at z ∙ h in let y : f.0 ≡ v = cc (x, f.1) in absurd (b (sym f.2 ∙ ap source_of_node y))) in
        (f.0, u.others r d ∙ f.1, f.2, elsewhere r f.0 d f.3 (is_at (nat_cmp n) f.0.node.number) refl)

-- a tally is written
pub noted-written : (T : NodeScope × Addr → Option ℕ) (at at' : ℕ → Option NodeTally) (t : NodeTally) (p : ℕ) (es : List (ℕ × ℕ)) (rules : List ℕ) (global : ℕ)
    → T (source_of_node t) ≡ Some p → lookup (is_at (nat_cmp t.node.number)) es ≡ Some p → IsUpdated at at' p (Some t) → IsNoted T at es rules global → IsNoted T at' es rules global
noted-written T at at' t p es rules global a l u k = record {
  kept = kept-written number_of_node (NodeIsAt T) at at' p t.node.number t es refl a l u k.kept;
  found = λ q r h. is_found q r h (r == p) refl;
  counted = λ s. k.counted s ∙ sym (scope-written (NodeIsAt T) s at at' p old.0 t es old.1 (ap (λ (x : NodeScope × Addr). x.0) old.2) u k.kept.placed);
}
  where
    old : IsFoundAt at es (source_of_node t) p
    old = k.found (source_of_node t) p a

    is_found : (q : NodeScope × Addr) (r : ℕ) → T q ≡ Some r → (b : Bool) → (r == p) ≡ b → IsFoundAt at' es q r
    is_found q r h true i =
        let f = k.found q r h in
        let z : r ≡ p = grind (arith, nat_tests) in
        let x : at r ≡ Some old.0 = ap at z ∙ old.1 in
        let y : old.0 ≡ f.0 = cc (x, f.1) in
        (t, ap at' z ∙ u.changed, sym old.2 ∙ ap source_of_node y ∙ f.2, l ∙ ap Some (sym z))
    is_found q r h false i =
        let f = k.found q r h in
        let d : r ≢ p = λ z. grind (arith, nat_tests) in
        (f.0, u.others r d ∙ f.1, f.2, f.3)

tallied_true : (t v : NodeTally) → (is_tally t.node.scope t.node.source v && has_node_number t.node.number v) ≡ true → (number_of_node v ≡ t.node.number) × (source_of_node v ≡ source_of_node t)
tallied_true t v h = go (is_tally t.node.scope t.node.source v) refl
  where
    go : (b : Bool) → is_tally t.node.scope t.node.source v ≡ b → (number_of_node v ≡ t.node.number) × (source_of_node v ≡ source_of_node t)
    go true s =
        let h' : (v.node.number == t.node.number) ≡ true = (rw s at h) in
        (grind (arith, nat_tests), tally_true t.node.scope t.node.source v s)
    go false s = let h' : false ≡ true = (rw s at h) in absurd (cc h')

module _ (T : NodeScope × Addr → Option ℕ) (at : ℕ → Option NodeTally) (t : NodeTally) (es : List (ℕ × ℕ)) (k : AreInPlace number_of_node (NodeIsAt T) at es) (a : IsTallied t (values_at at es)) where
  pub at_tally : (p : ℕ) → T (source_of_node t) ≡ Some p → lookup (is_at (nat_cmp t.node.number)) es ≡ Some p
  at_tally p h =
      look-placed number_of_node (NodeIsAt T) (λ (v : NodeTally). is_tally t.node.scope t.node.source v && has_node_number t.node.number v) at t.node.number p es here k.ordered k.placed a
    where
      here : (v : NodeTally) → (is_tally t.node.scope t.node.source v && has_node_number t.node.number v) ≡ true → (number_of_node v ≡ t.node.number) × ((q : ℕ) → NodeIsAt T v q → q ≡ p)
      here v s =
          let f = tallied_true t v s in
          (f.0, λ q d. (let x : T (source_of_node v) ≡ Some p = ap T f.1 ∙ h in cc (x, d)))

put-elsewhere : (t v : NodeTally) → (number_of_node v == t.node.number) ≡ false → put_tally t v ≡ v
put-elsewhere t v s = rw s refl

put-here : (T : NodeScope × Addr → Option ℕ) (at : ℕ → Option NodeTally) (t : NodeTally) (p : ℕ) → IsPlaced number_of_node (NodeIsAt T) at (t.node.number, p) → (v : NodeTally) → at p ≡ Some v → put_tally t v ≡ t
put-here T at t p r v h =
    let e : v ≡ r.0 = cc (h, r.1) in
    let k : number_of_node v ≡ t.node.number = ap number_of_node e ∙ r.2 in
    let y : (number_of_node v == t.node.number) ≡ true = grind (arith, nat_tests, k) in
    rw y refl

pub view-tally : (T : NodeScope × Addr → Option ℕ) (at at' : ℕ → Option NodeTally) (t : NodeTally) (p : ℕ) (es : List (ℕ × ℕ)) → lookup (is_at (nat_cmp t.node.number)) es ≡ Some p → IsUpdated at at' p (Some t)
    → AreInPlace number_of_node (NodeIsAt T) at es → values_at at' es ≡ map (put_tally t) (values_at at es)
view-tally T at at' t p es l u k =
    let f = found number_of_node (NodeIsAt T) at t.node.number p es k.placed l in
    view-written number_of_node (NodeIsAt T) (put_tally t) at at' p t.node.number t es (put-elsewhere t) (put-here T at t p f) l u k

-- no nodes are orderly
none-rising : IsRising (node_numbers (nodes_of []))
unfolding IsStrictlySortedBy
none-rising = tt

pub orderly-nil : IsOrderly []
orderly-nil = record { rising = none-rising; distinct = IsDistinct-nil }

-- ---- what the calls pass on

pub noted-reserved : {S : Type 0} (m m' : IndexMap (NodeScope × Addr) ℕ S) (at at' : ℕ → Option NodeTally) (es : List (ℕ × ℕ)) (rules rules' : List ℕ) (global global' : ℕ) → m'.entries ≡ m.entries → ((p : ℕ) → at' p ≡ at p)
    → SameCounts (count_of rules global) (count_of rules' global') → IsNoted (index_map.get same_source m) at es rules global → IsNoted (index_map.get same_source m') at' es rules' global'
noted-reserved m m' at at' es rules rules' global global' e g s k =
    noted-all (index_map.get same_source m) (index_map.get same_source m') at at' es rules rules' global global' (λ q. ap (λ fs. lookup (same_source q) fs) e) g s k

pub few-noted : (T : NodeScope × Addr → Option ℕ) (at : ℕ → Option NodeTally) (es : List (ℕ × ℕ)) (rules : List ℕ) (global : ℕ) → IsNoted T at es rules global → (s : NodeScope) → count_of rules global s ≤ length es
few-noted T at es rules global k s =
    let a = k.counted s in
    let b = scope-few s (values_at at es) in
    let c = length-held number_of_node (NodeIsAt T) at es k.kept.placed in
    omega (arith, a, b, c)

pub some-noted : (T : NodeScope × Addr → Option ℕ) (at : ℕ → Option NodeTally) (n p : ℕ) (v : NodeTally) (es : List (ℕ × ℕ)) (rules : List ℕ) (global : ℕ) → IsNoted T at es rules global
    → lookup (is_at (nat_cmp n)) es ≡ Some p → at p ≡ Some v → 0 < count_of rules global v.node.scope
some-noted T at n p v es rules global k l h =
    let a = k.counted v.node.scope in
    let b = scope-removed (NodeIsAt T) v.node.scope at n p v es l h k.kept.placed in
    let c : one_if (same_scope v.node.scope v.node.scope) ≡ 1 = rw (same_scope_self v.node.scope) refl in
    omega (arith, a, b, c)
