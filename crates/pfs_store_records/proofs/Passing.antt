-- A walk by nodes that stay: of the entries in a range, and of their tallies.
use Rattle.std.proofs.Common.{◌≡◌, ◌∙◌, ◌<◌, ◌≤◌, ◌==◌, ℕ, Bool, true, false, Option, None, Some, List, [], ◌∷◌, ◌++◌, length, map, filter, is_some, ap, sym, subst, arith}
use Rattle.std.specs.List.{AllByRecursion, find}
use Rattle.std.specs.List.Sorted.{IsStrictlySortedBy}
use Rattle.std.specs.Map.{keys_of}
use Rattle.std.specs.Ordering.{nat_cmp}
use Rattle.slab.specs.Slab.{ContainsKey, Slab}
use Rattle.pfs_store_records.specs.RecordPlaces.{AreInPlace, IsPlaced, number_of_node, tally_in, values_at}
use Rattle.pfs_store_records.specs.Records.{between}
use Rattle.pfs_store_records.specs.Retaining.{IsKeptUntil}
use Rattle.pfs_store_records.specs.Walks.{IsPassing, StopsWalkAt}
use Rattle.pfs_store_records.specs.declared.nodes.NodeTally.{NodeTally}
use Rattle.pfs_store_records.proofs.Ordered.{find_placed, first_between, found, look-between, numbers-held}
use Rattle.pfs_store_records.proofs.Walking.{Each, Walking, drop-front, each-more, head-in, length-keys, span, span-entries, span-keys, split-keys, take-front}

-- ---- entries in a range

module _ {P V : Type 0} where
  -- an entry whose value has a property
  abbrev pub OfValue : (V → Type 0) → (P → Option V) → ℕ × P → Type 0
  OfValue Q at e = (v : V) → at e.1 ≡ Some v → Q v

  pub one-value : (Q : V → Type 0) (at : P → Option V) (e : ℕ × P) (v : V) → at e.1 ≡ Some v → Q v → OfValue Q at e
  one-value Q at e v g q u h = let s : u ≡ v = cc (h, g) in subst Q (sym s) q

  each-weaker : (Q R : V → Type 0) → ((v : V) → Q v → R v) → (at : P → Option V) (a m : ℕ) (es : List (ℕ × P)) → Each (OfValue Q at) a m es → Each (OfValue R at) a m es
  each-weaker Q R f at a m [] u = tt
  each-weaker Q R f at a m (e ∷ es) (u, us) = ((λ b v g. f v (u b v g)), each-weaker Q R f at a m es us)

  -- one value more has a property that holds of all so far
  pub each-value-more : (Q R : V → Type 0) → ((v : V) → Q v → R v) → (at : P → Option V) (above last most k : ℕ) (p : P) (v : V) (rest es : List (ℕ × P)) → IsStrictlySortedBy nat_cmp (keys_of es)
      → (k, p) ∷ rest ≡ span last most es → at p ≡ Some v → R v → Each (OfValue Q at) above last es → Each (OfValue R at) above k es
  each-value-more Q R f at above last most k p v rest es o x g r u =
      each-more (OfValue R at) above last most k p rest es o (head-in last most k p rest es x) x (each-weaker Q R f at above last es u)
      (λ w h. let q : w ≡ v = cc (h, g) in subst R (sym q) r)

module _ {P V : Type 0} (number : V → ℕ) (At : V → P → Type 0) where
  pub each-value : (Q : V → Type 0) (at : P → Option V) (a m : ℕ) (es : List (ℕ × P)) → AllByRecursion (IsPlaced number At at) es → Each (OfValue Q at) a m es
      → AllByRecursion (λ (v : V). between a m (number v) ≡ true → Q v) (values_at at es)
  each-value Q at a m [] h w = tt
  each-value Q at a m (e ∷ es) (h, hs) (w, ws) = rw h.1 (here, each-value Q at a m es hs ws)
    where
      here : between a m (number h.0) ≡ true → Q h.0
      here b = w (ap (between a m) (sym h.2) ∙ b) h.0 h.1

  -- the walk so far
  pub is-passing : (test : V → Bool) (at : P → Option V) (es left : List (ℕ × P)) (above last most share stayed : ℕ) → AreInPlace number At at es
      → Walking (OfValue (λ (v : V). test v ≡ false) at) es left above last most stayed → stayed ≤ share → IsPassing number test (values_at at es) above most share stayed last
  is-passing test at es left above last most share stayed k w s = record {
    from = w.from;
    to = w.to;
    stay = each-value (λ (v : V). test v ≡ false) at above last es k.placed w.stay;
    count = rw numbers length_is;
    passed = rw (numbers, split, length_is) (sym (take-front (filter (between above last) (keys_of es)) (filter (between last most) (keys_of es))));
    rest = rw (numbers, split, length_is) (sym (drop-front (filter (between above last) (keys_of es)) (filter (between last most) (keys_of es))));
    within = s;
  }
    where
      numbers : map number (values_at at es) ≡ keys_of es
      numbers = numbers-held number At at es k.placed

      split : filter (between above most) (keys_of es) ≡ filter (between above last) (keys_of es) ++ filter (between last most) (keys_of es)
      split = split-keys above last most es k.ordered w.from w.to

      length_is : stayed ≡ length (filter (between above last) (keys_of es))
      length_is = w.count ∙ sym (length-keys (span above last es)) ∙ ap length (span-keys above last es)

-- ---- where a walk stops

module _ (At : NodeTally → ℕ → Type 0) where
  -- the place of the next entry has a node
  pub next-node-there : (slab : Slab NodeTally) (es rest : List (ℕ × ℕ)) (last most k p : ℕ) → AreInPlace number_of_node At (tally_in slab) es → (k, p) ∷ rest ≡ span last most es → ContainsKey slab p
  next-node-there slab es rest last most k p kept x =
      let l = look-between last most k p rest es kept.ordered (x ∙ sym (span-entries last most es)) in
      let f = found number_of_node At (tally_in slab) k p es kept.placed l in
      ap is_some f.1

  -- the node of the next entry passes
  pub stops-next : (test : NodeTally → Bool) (slab : Slab NodeTally) (es rest : List (ℕ × ℕ)) (last most stayed share k p : ℕ) (t : NodeTally)
      → AreInPlace number_of_node At (tally_in slab) es → (k, p) ∷ rest ≡ span last most es → tally_in slab p ≡ Some t → test t ≡ true → stayed < share
      → StopsWalkAt number_of_node test (values_at (tally_in slab) es) last most stayed share (Some t)
  stops-next test slab es rest last most stayed share k p t kept x g h s =
      let e = x ∙ sym (span-entries last most es) in
      let l = look-between last most k p rest es kept.ordered e in
      let f = found number_of_node At (tally_in slab) k p es kept.placed l in
      let b : t ≡ f.0 = cc (f.1, g) in
      let n : number_of_node t ≡ k = ap number_of_node b ∙ f.2 in
      record {
        within = s;
        next = sym (ap Some n ∙ first_between number_of_node At last most (tally_in slab) k p rest es kept.placed e);
        found = subst (λ (m : ℕ). find (λ (u : NodeTally). number_of_node u == m) (values_at (tally_in slab) es) ≡ Some t) (sym n)
            (find_placed number_of_node At (tally_in slab) k es p kept.placed l ∙ g);
        passes = h;
      }

  -- none is left
  pub stops-none : (test : NodeTally → Bool) (slab : Slab NodeTally) (es : List (ℕ × ℕ)) (last most stayed share : ℕ) → AreInPlace number_of_node At (tally_in slab) es
      → [] ≡ span last most es → StopsWalkAt number_of_node test (values_at (tally_in slab) es) last most stayed share None
  stops-none test slab es last most stayed share kept x s =
      rw (numbers-held number_of_node At (tally_in slab) es kept.placed) (sym (ap keys_of x ∙ span-keys last most es))

-- or the share is used up
pub stops-used : (test : NodeTally → Bool) (ts : List NodeTally) (last most stayed share : ℕ) → share ≤ stayed → StopsWalkAt number_of_node test ts last most stayed share None
stops-used test ts last most stayed share h s = absurd (omega (arith, h, s))

-- ---- tallies

pub kept-less : (u v : ℕ) (t : NodeTally) → v ≤ u → IsKeptUntil u t → IsKeptUntil v t
kept-less u v t h k = λ z. let l = k z in omega (arith, h, l)
