-- A state comes: each fact of the indexes and counts, of the states and nodes with it.
use Rattle.std.proofs.Common.{◌≡◌, ◌≢◌, ◌∙◌, ◌+◌, ◌<◌, ◌≤◌, ◌==◌, ◌&&◌, ◌||◌, ℕ, Bool, true, false, cond, not, if◌then◌else◌, Option, Some, None, is_some, unwrap_or, List, [], ◌∷◌, ◌++◌, length, map, filter, option_map, slice_index, slice_set, length-set, refl, ap, sym, subst, arith, Result, Ok, Err, OnOk, OnErr}
use Rattle.std.specs.List.{find, list_any, AllByRecursion, IsDistinct}
use Rattle.std.proofs.lemmas.Bool.Decides.{nat_tests}
use Rattle.std.proofs.lemmas.List.{get_or-set_other}
use Rattle.std.proofs.lemmas.Grind.{get_or-set_at}
use Rattle.std.proofs.lemmas.Map.Keys.{IsDistinct-head, IsDistinct-tail, IsDistinct-cons}
use Rattle.pfs_addr_values.proofs.SameLaws.{same_addr_self, same_addr_true, same_key_true}
use Rattle.pfs_addr_values.specs.Keys.{first_end, key_of, second_end}
use Rattle.pfs_addr_values.specs.Packets.{PacketView, run_limit}
use Rattle.pfs_addr_values.specs.Sameness.{same_addr, same_key}
use Rattle.pfs_addr_values.specs.declared.addresses.Addr.{Addr}
use Rattle.pfs_addr_values.specs.declared.packets.Dir.{Dir}
use Rattle.pfs_addr_values.specs.declared.packets.Dir.TheVariants.{In, Out}
use Rattle.pfs_addr_values.specs.declared.packets.FlowKey.{FlowKey}
use Rattle.pfs_addr_values.specs.declared.protocols.Proto.{Proto}
use Rattle.pfs_addr_values.specs.declared.protocols.Proto.TheVariants.{Tcp, Udp, Other}
use Rattle.pfs_conf_values.specs.Configs.{Conf, scope_of, tracks_fully}
use Rattle.pfs_conf_values.specs.declared.actions.Scope.{Scope}
use Rattle.pfs_conf_values.specs.declared.actions.Scope.TheVariants as scope
use Rattle.pfs_track.specs.StatePhases.{first_phase, is_done, proxied_phase}
use Rattle.pfs_store_contract.specs.Admission.{apart, inner_side, is_answered, new_node, new_phase, nodes_with, wire_side}
use Rattle.pfs_store_contract.specs.Counts.{has_node, in_scope, is_connection, is_node, is_of_node, is_of_rule, is_of_source, node_connections, node_scope_under, node_scope_of, node_states, rule_states}
use Rattle.pfs_conf_values.specs.Bounds.{is_global}
use Rattle.pfs_store_contract.specs.Leaving.{sent_on_side}
use Rattle.pfs_store_contract.specs.Plain.{AreCounts}
use Rattle.pfs_store_contract.specs.Worlds.{inner_key}
use Rattle.pfs_store_contract.specs.declared.records.NodeScope.{NodeScope}
use Rattle.pfs_store_contract.specs.declared.records.NodeScope.TheVariants as node_scope
use Rattle.pfs_store_contract.specs.declared.records.State.{State}
use Rattle.pfs_store_records.specs.Records.{IsAbove, Placed}
use Rattle.pfs_store_records.specs.Sourced.{source_at}
use Rattle.pfs_store_records.specs.Tallies.{is_tally, nodes_of}
use Rattle.pfs_store_records.specs.declared.nodes.NodeTally.{NodeTally}
use Rattle.pfs_store_index.specs.declared.indexes.IndexEntry.{IndexEntry}
use Rattle.pfs_store_index.specs.Filed.{is_pair}
use Rattle.pfs_store_index.specs.IndexInvariants.{HasRule, IsCounted, entry_of}
use Rattle.pfs_store_records.specs.Changes.{HasTally, IsFew, IsScope, IsScored, IsScoped, at_node, is_at, tallies_with_state, joined_of, new_tally}
use Rattle.pfs_store_records.proofs.OneNode.{of_node, scope_of-IsScope, scoped-at, tally-at}
use Rattle.std.proofs.lemmas.Bool.{and_parts, and_from, and_right}
use Rattle.pfs_store_contract.proofs.ScopeLaws.{same_scope_self}
use Rattle.pfs_store_records.proofs.Searches.{all-map, all-push, all-weaker, any-found, any-push, count-le, count-push, map-push, none-any}
use Rattle.pfs_store_records.proofs.TallyLaws.{joined-faithful}

-- ---- the node of the state

-- a count with one state more
count-more : (p : State → Bool) (s : State) (xs : List State) → p s ≡ true → length (filter p (xs ++ s ∷ [])) ≡ length (filter p xs) + 1
count-more p s xs h = count-push p s xs ∙ ap (λ b. length (filter p xs) + cond b 1 0) h

count-same : (p : State → Bool) (s : State) (xs : List State) → p s ≡ false → length (filter p (xs ++ s ∷ [])) ≡ length (filter p xs)
count-same p s xs h = let e = count-push p s xs ∙ ap (λ b. length (filter p xs) + cond b 1 0) h in omega (arith, e)

counted-joined : (conf : Conf) (s : State) (xs : List State) (t : NodeTally) → is_done s.phase ≡ false → IsScoped conf t → IsCounted conf xs t
    → IsCounted conf (xs ++ s ∷ []) (at_node (node_scope_of conf s.rule.0) s.source joined_of t)
counted-joined conf s xs t p h e = go (is_at (node_scope_of conf s.rule.0) s.source t) refl
  where
    es : t.states ≡ node_states conf t.node.scope t.node.source xs
    es = ap (λ (u : NodeTally). u.states) e

    ec : t.connections ≡ node_connections conf t.node.scope t.node.source xs
    ec = ap (λ (u : NodeTally). u.connections) e

    d : node_connections conf t.node.scope t.node.source (xs ++ s ∷ []) ≡ node_connections conf t.node.scope t.node.source xs
    d = count-same (is_connection conf t.node.scope t.node.source) s xs (rw p refl)

    go : (b : Bool) → is_at (node_scope_of conf s.rule.0) s.source t ≡ b → IsCounted conf (xs ++ s ∷ []) (at_node (node_scope_of conf s.rule.0) s.source joined_of t)
    go true i =
        let o : is_of_node conf t.node.scope t.node.source s ≡ true = of_node conf s t h ∙ i in
        let c = count-more (is_of_node conf t.node.scope t.node.source) s xs o in
        let m : t.states + 1 ≡ node_states conf t.node.scope t.node.source (xs ++ s ∷ []) = omega (arith, c, es) in
        let n : t.connections ≡ node_connections conf t.node.scope t.node.source (xs ++ s ∷ []) = ec ∙ sym d in
        let w : at_node (node_scope_of conf s.rule.0) s.source joined_of t ≡ joined_of t = ap (λ (b : Bool). if b then joined_of t else t) i in
        subst (IsCounted conf (xs ++ s ∷ [])) (sym w) (λ j. record { node = t.node; states = m j; connections = n j })
    go false i =
        let o : is_of_node conf t.node.scope t.node.source s ≡ false = of_node conf s t h ∙ i in
        let c = count-same (is_of_node conf t.node.scope t.node.source) s xs o in
        let m : t.states ≡ node_states conf t.node.scope t.node.source (xs ++ s ∷ []) = es ∙ sym c in
        let n : t.connections ≡ node_connections conf t.node.scope t.node.source (xs ++ s ∷ []) = ec ∙ sym d in
        let w : at_node (node_scope_of conf s.rule.0) s.source joined_of t ≡ t = ap (λ (b : Bool). if b then joined_of t else t) i in
        subst (IsCounted conf (xs ++ s ∷ [])) (sym w) (λ j. record { node = t.node; states = m j; connections = n j })

-- a state of a rule without a scope counts for no node
counted-apart : (conf : Conf) (s : State) (xs : List State) (t : NodeTally) → is_done s.phase ≡ false → IsScoped conf t → is_at (node_scope_of conf s.rule.0) s.source t ≡ false
    → IsCounted conf xs t → IsCounted conf (xs ++ s ∷ []) t
counted-apart conf s xs t p h i e =
    subst (IsCounted conf (xs ++ s ∷ [])) (ap (λ (b : Bool). if b then joined_of t else t) i) (counted-joined conf s xs t p h e)

all-joined : (conf : Conf) (s : State) (xs : List State) (ts : List NodeTally) → is_done s.phase ≡ false → AllByRecursion (IsScoped conf) ts → AllByRecursion (IsCounted conf xs) ts
    → AllByRecursion (IsCounted conf (xs ++ s ∷ [])) (map (at_node (node_scope_of conf s.rule.0) s.source joined_of) ts)
all-joined conf s xs [] p g h = tt
all-joined conf s xs (t ∷ ts) p (g, gs) (h, hs) = (counted-joined conf s xs t p g h, all-joined conf s xs ts p gs hs)

all-apart : (conf : Conf) (s : State) (xs : List State) (ts : List NodeTally) → is_done s.phase ≡ false → AllByRecursion (IsScoped conf) ts
    → AllByRecursion (λ t. is_at (node_scope_of conf s.rule.0) s.source t ≡ false) ts → AllByRecursion (IsCounted conf xs) ts → AllByRecursion (IsCounted conf (xs ++ s ∷ [])) ts
all-apart conf s xs [] p g a h = tt
all-apart conf s xs (t ∷ ts) p (g, gs) (a, more) (h, hs) = (counted-apart conf s xs t p g a h, all-apart conf s xs ts p gs more hs)

-- ---- a source without a node has no states in the scope

-- a rule that counts in a scope has it
pub in_scope-of : (conf : Conf) (sc : NodeScope) (rule : ℕ) → IsScope conf sc → in_scope conf sc rule ≡ true → node_scope_of conf rule ≡ Some sc
in_scope-of conf (node_scope.Rule r) rule k h =
    let q : rule ≡ r.0 = grind (arith, nat_tests) in
    ap (node_scope_of conf) q ∙ ap (node_scope_under r.0) k
in_scope-of conf node_scope.Global rule k h = by (scope_of conf rule) refl h
  where
    by : (o : Option Scope) → scope_of conf rule ≡ o → is_global o ≡ true → node_scope_under rule o ≡ Some node_scope.Global
    by None e z = absurd cc
    by (Some scope.Rule) e z = absurd cc
    by (Some scope.Global) e z = refl

none-counted : (conf : Conf) (sc : NodeScope) (a : Addr) (xs : List State) (ts : List NodeTally) → IsScope conf sc → list_any (is_tally sc a) ts ≡ false → AllByRecursion (HasTally conf ts) xs
    → node_states conf sc a xs ≡ 0
none-counted conf sc a [] ts k f h = refl
none-counted conf sc a (x ∷ xs) ts k f (h, hs) = go (none-counted conf sc a xs ts k f hs) (is_of_node conf sc a x) refl
  where
    go : node_states conf sc a xs ≡ 0 → (b : Bool) → is_of_node conf sc a x ≡ b → node_states conf sc a (x ∷ xs) ≡ 0
    go m true i =
        let r = in_scope-of conf sc x.rule.0 k (and_parts (in_scope conf sc x.rule.0) (is_of_source a x) i).0 in
        let q = same_addr_true x.source a (and_parts (in_scope conf sc x.rule.0) (is_of_source a x) i).1 in
        let z : list_any (is_tally sc a) ts ≡ true = ap (λ (b : Addr). list_any (is_tally sc b) ts) (sym q) ∙ h sc r in
        absurd (cc (z, f))
    go m false i = rw i m

connections-le : (conf : Conf) (sc : NodeScope) (a : Addr) (xs : List State) → node_connections conf sc a xs ≤ node_states conf sc a xs
connections-le conf sc a [] = omega arith
connections-le conf sc a (x ∷ xs) = go (connections-le conf sc a xs) (is_done x.phase) (is_of_node conf sc a x)
  where
    go : node_connections conf sc a xs ≤ node_states conf sc a xs → (b c : Bool)
        → length (cond (b && c) (x ∷ filter (is_connection conf sc a) xs) (filter (is_connection conf sc a) xs)) ≤ length (cond c (x ∷ filter (is_of_node conf sc a) xs) (filter (is_of_node conf sc a) xs))
    go m true true = omega (arith, m)
    go m true false = m
    go m false true = omega (arith, m)
    go m false false = m

own-node : (conf : Conf) (sc : NodeScope) (s : State) → node_scope_of conf s.rule.0 ≡ Some sc → is_of_node conf sc s.source s ≡ true
own-node conf sc s e =
    let k = scope_of-IsScope conf s.rule.0 sc e in
    of_node conf s (new_tally sc s) k
    ∙ ap (λ (o : Option NodeScope). is_at o s.source (new_tally sc s)) e
    ∙ and_from _ _ (same_scope_self sc) (same_addr_self s.source)

new-counted : (conf : Conf) (sc : NodeScope) (s : State) (xs : List State) (ts : List NodeTally) → node_scope_of conf s.rule.0 ≡ Some sc → is_done s.phase ≡ false
    → list_any (is_tally sc s.source) ts ≡ false → AllByRecursion (HasTally conf ts) xs → IsCounted conf (xs ++ s ∷ []) (new_tally sc s)
new-counted conf sc s xs ts e p f h =
    let n = none-counted conf sc s.source xs ts (scope_of-IsScope conf s.rule.0 sc e) f h in
    let c = count-more (is_of_node conf sc s.source) s xs (own-node conf sc s e) in
    let d : node_connections conf sc s.source (xs ++ s ∷ []) ≡ node_connections conf sc s.source xs = count-same (is_connection conf sc s.source) s xs (rw p refl) in
    let m : 1 ≡ node_states conf sc s.source (xs ++ s ∷ []) = omega (arith, c, n) in
    let z : 0 ≡ node_connections conf sc s.source (xs ++ s ∷ []) = omega (arith, d, n, connections-le conf sc s.source xs) in
    (λ j. record { node = new_node s.number sc s.source s.last; states = m j; connections = z j })

-- a node that comes without a state has none
pub stateless-counted : (conf : Conf) (number : ℕ) (sc : NodeScope) (a : Addr) (now : ℕ) (xs : List State) (ts : List NodeTally) → IsScope conf sc → list_any (is_tally sc a) ts ≡ false
    → AllByRecursion (HasTally conf ts) xs → IsCounted conf xs (record { node = new_node number sc a now; states = 0; connections = 0 })
stateless-counted conf number sc a now xs ts k f h =
    let n = none-counted conf sc a xs ts k f h in
    let m : 0 ≡ node_states conf sc a xs = sym n in
    let z : 0 ≡ node_connections conf sc a xs = omega (arith, n, connections-le conf sc a xs) in
    (λ j. record { node = new_node number sc a now; states = m j; connections = z j })

none-of : (sc : NodeScope) (a : Addr) (ts : List NodeTally) → find (is_tally sc a) ts ≡ None → AllByRecursion (λ t. is_at (Some sc) a t ≡ false) ts
none-of sc a [] f = tt
none-of sc a (t ∷ ts) f = go (none-of sc a ts) (is_tally sc a t) refl
  where
    go : (find (is_tally sc a) ts ≡ None → AllByRecursion (λ t. is_at (Some sc) a t ≡ false) ts) → (b : Bool) → is_tally sc a t ≡ b
        → AllByRecursion (λ t. is_at (Some sc) a t ≡ false) (t ∷ ts)
    go m true i = let f' : Some t ≡ None = (rw i at f) in absurd (cc f')
    go m false i = (i, m (rw i at f))

none-untracked : (a : Addr) (ts : List NodeTally) → AllByRecursion (λ t. is_at None a t ≡ false) ts
none-untracked a [] = tt
none-untracked a (t ∷ ts) = (refl, none-untracked a ts)

pub counted-came : (conf : Conf) (o : Option NodeScope) (s : State) (xs : List State) (ts : List NodeTally) → node_scope_of conf s.rule.0 ≡ o → is_done s.phase ≡ false
    → AllByRecursion (IsScoped conf) ts → AllByRecursion (IsCounted conf xs) ts → AllByRecursion (HasTally conf ts) xs
    → AllByRecursion (IsCounted conf (xs ++ s ∷ [])) (tallies_with_state o s ts)
counted-came conf None s xs ts e p g h n =
    all-apart conf s xs ts p g (subst (λ (o : Option NodeScope). AllByRecursion (λ t. is_at o s.source t ≡ false) ts) (sym e) (none-untracked s.source ts)) h
counted-came conf (Some sc) s xs ts e p g h n = go (find (is_tally sc s.source) ts) refl
  where
    go : (o : Option NodeTally) → find (is_tally sc s.source) ts ≡ o → AllByRecursion (IsCounted conf (xs ++ s ∷ [])) (tallies_with_state (Some sc) s ts)
    go (Some t) f =
        let w = subst (λ (o : Option NodeScope). AllByRecursion (IsCounted conf (xs ++ s ∷ [])) (map (at_node o s.source joined_of) ts)) e (all-joined conf s xs ts p g h) in
        rw f w
    go None f =
        let w = all-apart conf s xs ts p g (subst (λ (o : Option NodeScope). AllByRecursion (λ t. is_at o s.source t ≡ false) ts) (sym e) (none-of sc s.source ts f)) h in
        rw f (all-push (IsCounted conf (xs ++ s ∷ [])) (new_tally sc s) ts w (new-counted conf sc s xs ts e p (none-any (is_tally sc s.source) ts f) n))

-- ---- what the tallies are of

pub scoped-came : (conf : Conf) (o : Option NodeScope) (s : State) (ts : List NodeTally) → node_scope_of conf s.rule.0 ≡ o → AllByRecursion (IsScoped conf) ts
    → AllByRecursion (IsScoped conf) (tallies_with_state o s ts)
scoped-came conf None s ts e h = h
scoped-came conf (Some sc) s ts e h = go (is_some (find (is_tally sc s.source) ts))
  where
    go : (b : Bool) → AllByRecursion (IsScoped conf) (if b then map (at_node (Some sc) s.source joined_of) ts else ts ++ new_tally sc s ∷ [])
    go true = scoped-at conf (Some sc) s.source joined_of joined-faithful ts h
    go false = all-push (IsScoped conf) (new_tally sc s) ts h (scope_of-IsScope conf s.rule.0 sc e)

pub scored-came : (o : Option NodeScope) (s : State) (ts : List NodeTally) → AllByRecursion IsScored ts → AllByRecursion IsScored (tallies_with_state o s ts)
scored-came None s ts h = h
scored-came (Some sc) s ts h = go (is_some (find (is_tally sc s.source) ts))
  where
    keep : (t : NodeTally) → IsScored t → IsScored (at_node (Some sc) s.source joined_of t)
    keep t k = by (is_tally sc s.source t)
      where
        by : (b : Bool) → IsScored (if b then joined_of t else t)
        by true = k
        by false = k

    go : (b : Bool) → AllByRecursion IsScored (if b then map (at_node (Some sc) s.source joined_of) ts else ts ++ new_tally sc s ∷ [])
    go true = all-map IsScored (at_node (Some sc) s.source joined_of) keep ts h
    go false = all-push IsScored (new_tally sc s) ts h (omega arith)

or_true : (b : Bool) → (b || true) ≡ true
or_true true = refl
or_true false = refl

-- what is there is there with one more
pub any-more : (test : NodeTally → Bool) (t : NodeTally) (ts : List NodeTally) → list_any test ts ≡ true → list_any test (ts ++ t ∷ []) ≡ true
any-more test t ts h = any-push test t ts ∙ ap (λ b. test t || b) h ∙ or_true (test t)

has-joined : (o : Option NodeScope) (s : State) (ts : List NodeTally) (sc : NodeScope) (a : Addr) → list_any (is_tally sc a) ts ≡ true → list_any (is_tally sc a) (tallies_with_state o s ts) ≡ true
has-joined None s ts sc a h = h
has-joined (Some own) s ts sc a h = go (is_some (find (is_tally own s.source) ts))
  where
    go : (b : Bool) → list_any (is_tally sc a) (if b then map (at_node (Some own) s.source joined_of) ts else ts ++ new_tally own s ∷ []) ≡ true
    go true = tally-at sc a (Some own) s.source joined_of joined-faithful ts ∙ h
    go false = any-more (is_tally sc a) (new_tally own s) ts h

has-own : (sc : NodeScope) (s : State) (ts : List NodeTally) → list_any (is_tally sc s.source) (tallies_with_state (Some sc) s ts) ≡ true
has-own sc s ts = go (is_some (find (is_tally sc s.source) ts)) refl
  where
    go : (b : Bool) → is_some (find (is_tally sc s.source) ts) ≡ b → list_any (is_tally sc s.source) (if b then map (at_node (Some sc) s.source joined_of) ts else ts ++ new_tally sc s ∷ []) ≡ true
    go true f = tally-at sc s.source (Some sc) s.source joined_of joined-faithful ts ∙ sym (any-found (is_tally sc s.source) ts) ∙ f
    go false f =
        let y : is_tally sc s.source (new_tally sc s) ≡ true = and_from _ _ (same_scope_self sc) (same_addr_self s.source) in
        any-push (is_tally sc s.source) (new_tally sc s) ts ∙ ap (λ b. b || list_any (is_tally sc s.source) ts) y

pub noded-came : (conf : Conf) (o : Option NodeScope) (s : State) (xs : List State) (ts : List NodeTally) → node_scope_of conf s.rule.0 ≡ o → AllByRecursion (HasTally conf ts) xs
    → AllByRecursion (HasTally conf (tallies_with_state o s ts)) (xs ++ s ∷ [])
noded-came conf o s xs ts e h =
    all-push (HasTally conf (tallies_with_state o s ts)) s xs
    (all-weaker (HasTally conf ts) (HasTally conf (tallies_with_state o s ts)) (λ x k sc f. has-joined o s ts sc x.source (k sc f)) xs h)
    (λ sc f. subst (λ (z : Option NodeScope). list_any (is_tally sc s.source) (tallies_with_state z s ts) ≡ true) (sym f ∙ e) (has-own sc s ts))

-- a list that has one element more, or is as it was, has what both have
pub on-either : {T E : Type 0} (r : Result T E) (P : List NodeTally → Type 0) (old more new : List NodeTally) → OnOk r (new ≡ more) → OnErr r (new ≡ old) → P more → P old → P new
on-either (Ok x) P old more new h k m n = subst P (sym h) m
on-either (Err e) P old more new h k m n = subst P (sym k) n

nodes-joined : (o : Option NodeScope) (a : Addr) (ts : List NodeTally) → nodes_of (map (at_node o a joined_of) ts) ≡ nodes_of ts
nodes-joined o a [] = refl
nodes-joined o a (t ∷ ts) = (λ j. go (is_at o a t) j ∷ nodes-joined o a ts j)
  where
    go : (b : Bool) → (if b then joined_of t else t).node ≡ t.node
    go true = refl
    go false = refl

has_node-of : (sc : NodeScope) (a : Addr) (ts : List NodeTally) → has_node sc a (nodes_of ts) ≡ list_any (is_tally sc a) ts
has_node-of sc a [] = refl
has_node-of sc a (t ∷ ts) = ap (λ b. is_node sc a t.node || b) (has_node-of sc a ts)

pub has_node-tally : (sc : NodeScope) (a : Addr) (ts : List NodeTally) → has_node sc a (nodes_of ts) ≡ is_some (find (is_tally sc a) ts)
has_node-tally sc a ts = has_node-of sc a ts ∙ sym (any-found (is_tally sc a) ts)

pub node-absent : (sc : NodeScope) (a : Addr) (ts : List NodeTally) → has_node sc a (nodes_of ts) ≡ false → find (is_tally sc a) ts ≡ None
node-absent sc a ts h = go (find (is_tally sc a) ts) (sym (has_node-tally sc a ts) ∙ h)
  where
    go : (o : Option NodeTally) → is_some o ≡ false → o ≡ None
    go None k = refl
    go (Some t) k = absurd (cc k)

pub nodes-came : (o : Option NodeScope) (s : State) (ts : List NodeTally) → nodes_of (tallies_with_state o s ts) ≡ nodes_with (nodes_of ts) s.number s.source s.last o
nodes-came None s ts = refl
nodes-came (Some sc) s ts =
    go (is_some (find (is_tally sc s.source) ts))
    ∙ ap (λ (b : Bool). if b then nodes_of ts else nodes_of ts ++ new_node s.number sc s.source s.last ∷ []) (sym (has_node-tally sc s.source ts))
  where
    go : (b : Bool) → nodes_of (if b then map (at_node (Some sc) s.source joined_of) ts else ts ++ new_tally sc s ∷ []) ≡ (if b then nodes_of ts else nodes_of ts ++ new_node s.number sc s.source s.last ∷ [])
    go true = nodes-joined (Some sc) s.source ts
    go false = map-push (λ (t : NodeTally). t.node) (new_tally sc s) ts

-- ---- the indexes by key

find-push : (p : Placed → Bool) (s : Placed) (xs : List Placed) → (p s ≡ true → find p xs ≡ None) → find p (xs ++ s ∷ []) ≡ cond (p s) (Some s) (find p xs)
find-push p s [] f = refl
find-push p s (x ∷ xs) f = go (find-push p s xs) (p x) refl (p s) refl
  where
    go : ((p s ≡ true → find p xs ≡ None) → find p (xs ++ s ∷ []) ≡ cond (p s) (Some s) (find p xs)) → (a : Bool) → p x ≡ a → (b : Bool) → p s ≡ b
        → find p (x ∷ xs ++ s ∷ []) ≡ cond (p s) (Some s) (find p (x ∷ xs))
    go m true t true u = let f' : Some x ≡ None = (rw t at f u) in absurd (cc f')
    go m true t false u = rw (t, u) refl
    go m false t b u = rw t (m (λ e. (rw t at f e)))

-- a new key is that of no other record
module _ (key : Placed → FlowKey) where
  -- where no record has the key of this one, none has a key that it has
  pub none-alike : (k : FlowKey) (s : Placed) (xs : List Placed) → find (λ (p : Placed). same_key (key p) (key s)) xs ≡ None → same_key (key s) k ≡ true → find (λ (p : Placed). same_key (key p) k) xs ≡ None
  none-alike k s xs f t = ap (λ j. find (λ (p : Placed). same_key (key p) j) xs) (sym (same_key_true (key s) k t)) ∙ f

  pub distinct-came : (s : Placed) (xs : List Placed) → find (λ (p : Placed). same_key (key p) (key s)) xs ≡ None → IsDistinct same_key (map key xs) → IsDistinct same_key (map key (xs ++ s ∷ []))
  distinct-came s [] f d = IsDistinct-cons same_key (key s) [] tt d
  distinct-came s (x ∷ xs) f d = go (distinct-came s xs) (IsDistinct-head same_key (key x) (map key xs) d) (IsDistinct-tail same_key (key x) (map key xs) d) (same_key (key x) (key s)) refl
    where
      also : (ys : List Placed) → AllByRecursion (λ y. same_key (key x) y ≡ false) (map key ys) → same_key (key x) (key s) ≡ false
          → AllByRecursion (λ y. same_key (key x) y ≡ false) (map key (ys ++ s ∷ []))
      also [] h e = (e, tt)
      also (y ∷ ys) (h, hs) e = (h, also ys hs e)

      go : (find (λ (p : Placed). same_key (key p) (key s)) xs ≡ None → IsDistinct same_key (map key xs) → IsDistinct same_key (map key (xs ++ s ∷ [])))
          → AllByRecursion (λ y. same_key (key x) y ≡ false) (map key xs) → IsDistinct same_key (map key xs)
          → (b : Bool) → same_key (key x) (key s) ≡ b → IsDistinct same_key (map key (x ∷ xs ++ s ∷ []))
      go m hd tl true i = let f' : Some x ≡ None = (rw i at f) in absurd (cc f')
      go m hd tl false i = IsDistinct-cons same_key (key x) (map key (xs ++ s ∷ [])) (also xs hd i) (m (rw i at f) tl)

pub entry-came : (p : Placed → Bool) (s : Placed) (xs : List Placed) (g g' : Option IndexEntry) → (p s ≡ true → find p xs ≡ None) → g ≡ option_map entry_of (find p xs)
    → g' ≡ cond (p s) (Some (entry_of s)) g → g' ≡ option_map entry_of (find p (xs ++ s ∷ []))
entry-came p s xs g g' f e e' = rw (e', e, find-push p s xs f) (go (p s))
  where
    go : (b : Bool) → cond b (Some (entry_of s)) (option_map entry_of (find p xs)) ≡ option_map entry_of (cond b (Some s) (find p xs))
    go true = refl
    go false = refl

-- ---- the index by source

pub pair-came : (under : State → Addr) (s : State) (xs : List State) (a : Addr) (n : ℕ) (g g' : Bool) → g ≡ list_any (is_pair under a n) xs → g' ≡ cond (is_pair under a n s) true g → g' ≡ list_any (is_pair under a n) (xs ++ s ∷ [])
pair-came under s xs a n g g' e e' = rw (e', e, any-push (is_pair under a n) s xs) (go (is_pair under a n s))
  where
    go : (b : Bool) → cond b true (list_any (is_pair under a n) xs) ≡ (b || list_any (is_pair under a n) xs)
    go true = refl
    go false = refl

lower_differs : (n k : ℕ) → k < n → (k == n) ≡ false
lower_differs n k h = grind (arith, nat_tests)

pub pair-fresh : (under : State → Addr) (a : Addr) (n : ℕ) (xs : List State) → IsAbove n (map (λ (x : State). x.number) xs) → list_any (is_pair under a n) xs ≡ false
pair-fresh under a n [] h = refl
pair-fresh under a n (x ∷ xs) (h, hs) = rw (and_right (same_addr (under x) a) (x.number == n) (lower_differs n x.number h)) (pair-fresh under a n xs hs)

-- what was placed is taken out again
pub push-undone : (s : State) (xs : List Placed) (p : Placed) → p.state ≡ s → IsAbove s.number (map (λ (x : Placed). x.state.number) xs)
    → filter (λ (x : Placed). not (x.state.number == s.number)) (xs ++ p ∷ []) ≡ xs
push-undone s [] p e h = let y : (p.state.number == s.number) ≡ true = ap (λ (x : State). x.number == s.number) e ∙ self s.number in rw y refl
  where
    self : (n : ℕ) → (n == n) ≡ true
    self n = grind (arith, nat_tests)
push-undone s (x ∷ xs) p e (h, hs) = rw (lower_differs s.number x.state.number h) (ap (λ ys. x ∷ ys) (push-undone s xs p e hs))

-- ---- the counts of the rules

pub rule-came : (s : State) (xs : List State) (counts : List ℕ) (v : ℕ) → s.rule.0 < length counts → v ≡ slice_index counts s.rule.0 → AreCounts counts xs
    → AreCounts (slice_set counts s.rule.0 (v + 1)) (xs ++ s ∷ [])
rule-came s xs counts v w e h r l = go (s.rule.0 == r) refl
  where
    c : length (filter (is_of_rule r) (xs ++ s ∷ [])) ≡ length (filter (is_of_rule r) xs) + cond (s.rule.0 == r) 1 0
    c = count-push (is_of_rule r) s xs

    l' : r < length counts
    l' = omega (arith, length-set counts s.rule.0 (v + 1))

    go : (b : Bool) → (s.rule.0 == r) ≡ b → slice_index (slice_set counts s.rule.0 (v + 1)) r ≡ rule_states r (xs ++ s ∷ [])
    go true i =
        let q : r ≡ s.rule.0 = grind (arith, nat_tests) in
        let c' : length (filter (is_of_rule r) (xs ++ s ∷ [])) ≡ length (filter (is_of_rule r) xs) + 1 = (rw i at c) in
        let hv = h r l' in
        let vv : v ≡ slice_index counts r = e ∙ ap (slice_index counts) (sym q) in
        get_or-set_at counts s.rule.0 r (v + 1) 0 q w ∙ omega (arith, c', hv, vv)
    go false i =
        let q : r ≢ s.rule.0 = (λ z. let i' : (s.rule.0 == r) ≡ true = grind (arith, nat_tests) in absurd (cc (i, i'))) in
        let c' : length (filter (is_of_rule r) (xs ++ s ∷ [])) ≡ length (filter (is_of_rule r) xs) + 0 = (rw i at c) in
        let hv = h r l' in
        get_or-set_other counts s.rule.0 r (v + 1) 0 q ∙ omega (arith, c', hv)

pub ruled-came : (counts : List ℕ) (i v : ℕ) (s : State) (xs : List State) → s.rule.0 < length counts → AllByRecursion (HasRule (length counts)) xs
    → AllByRecursion (HasRule (length (slice_set counts i v))) (xs ++ s ∷ [])
ruled-came counts i v s xs w h =
    subst (λ n. AllByRecursion (HasRule n) (xs ++ s ∷ [])) (sym (length-set counts i v)) (all-push (HasRule (length counts)) s xs h w)

-- ---- the counts can rise

pub few-counted : (conf : Conf) (xs : List State) (t : NodeTally) → length xs ≤ run_limit → IsCounted conf xs t → IsFew t
few-counted conf xs t l h =
    let e : t.states ≡ node_states conf t.node.scope t.node.source xs = ap (λ (u : NodeTally). u.states) h in
    let d : t.connections ≡ node_connections conf t.node.scope t.node.source xs = ap (λ (u : NodeTally). u.connections) h in
    (omega (arith, e, count-le (is_of_node conf t.node.scope t.node.source) xs), omega (arith, d, count-le (is_connection conf t.node.scope t.node.source) xs))

-- ---- the source of a state that a packet makes

-- the source of a packet is the end of its key from which packets of its direction come
pub key-sourced : (d : Dir) (p : PacketView) → p.source.addr ≡ source_at d (record { proto = p.proto; a = first_end d p; b = second_end d p })
key-sourced In p = refl
key-sourced Out p = refl

-- an inner key that is another than that on the wire, or that one
pub apart-whole : (wire inner : FlowKey) → unwrap_or (apart wire inner) wire ≡ inner
apart-whole wire inner = go (same_key wire inner) refl
  where
    go : (b : Bool) → same_key wire inner ≡ b → unwrap_or (if b then None else Some inner) wire ≡ inner
    go true e = same_key_true wire inner e
    go false e = refl

-- the key of the packet that makes a state is that with which it was sent
pub sent-as : (d : Dir) (p going : PacketView) (s : State) → s.key ≡ wire_side d (key_of p) (key_of going) → inner_key s ≡ inner_side d (key_of p) (key_of going) → sent_on_side d s ≡ key_of p
sent-as In p going s h k = h
sent-as Out p going s h k = k

-- no handshake of a new state has completed, or it does not count
pub new-undone : (conf : Conf) (rule : ℕ) (p : PacketView) (cookie : Bool) → is_done (new_phase conf rule p cookie) ≡ false
new-undone conf rule p true = refl
new-undone conf rule p false = go (is_answered conf rule p) (tracks_fully conf rule) p.proto
  where
    go : (answered full : Bool) (o : Proto) → is_done (if answered then proxied_phase full else first_phase full o) ≡ false
    go true full o = refl
    go false true Tcp = refl
    go false false Tcp = refl
    go false full Udp = refl
    go false full (Other n) = refl
