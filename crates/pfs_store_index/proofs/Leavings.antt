-- A state leaves: each fact of the indexes and counts, of the states and nodes that are left.
use Rattle.std.proofs.Common.{◌≡◌, ◌≢◌, ◌∙◌, ◌+◌, ◌-◌, ◌<◌, ◌≤◌, ◌==◌, ◌&&◌, ℕ, nat_lt, Bool, true, false, cond, not, if◌then◌else◌, Option, Some, None, List, [], ◌∷◌, length, map, filter, option_map, slice_index, slice_set, length-set, refl, ap, sym, subst, arith}
use Rattle.std.specs.List.{find, list_any, AllByRecursion, IsDistinct}
use Rattle.std.proofs.lemmas.Bool.Decides.{nat_tests}
use Rattle.std.proofs.lemmas.List.{get_or-set_other}
use Rattle.std.proofs.lemmas.Grind.{get_or-set_at}
use Rattle.pfs_addr_values.specs.Sameness.{same_addr, same_key}
use Rattle.pfs_addr_values.specs.declared.addresses.Addr.{Addr}
use Rattle.pfs_addr_values.specs.declared.packets.FlowKey.{FlowKey}
use Rattle.pfs_conf_values.specs.Configs.{Conf}
use Rattle.pfs_track.specs.StatePhases.{is_done}
use Rattle.pfs_store_contract.specs.Counts.{is_connection, is_of_node, is_of_rule, node_connections, node_scope_of, node_states, rule_states}
use Rattle.pfs_store_contract.specs.Leaving.{node_after_leaving, node_retention}
use Rattle.pfs_store_contract.specs.Calls.{other_than}
use Rattle.pfs_store_contract.specs.Plain.{AreCounts}
use Rattle.pfs_store_contract.specs.declared.records.Node.{Node}
use Rattle.pfs_store_contract.specs.declared.records.NodeScope.{NodeScope}
use Rattle.pfs_store_contract.specs.declared.records.State.{State}
use Rattle.pfs_store_records.specs.Records.{Placed}
use Rattle.pfs_store_records.specs.Tallies.{nodes_of}
use Rattle.pfs_store_records.specs.declared.nodes.NodeTally.{NodeTally}
use Rattle.pfs_store_index.specs.declared.indexes.IndexEntry.{IndexEntry}
use Rattle.pfs_store_index.specs.Filed.{is_pair}
use Rattle.pfs_store_index.specs.IndexInvariants.{HasRule, IsCounted, entry_of, left_at}
use Rattle.pfs_store_records.specs.Changes.{HasTally, IsScored, IsScoped, is_at, left_of}
use Rattle.pfs_store_records.proofs.OneNode.{of_node, tally-at}
use Rattle.pfs_store_index.proofs.Removals.{any-kept, any-removed, count-removed, passing-removed}
use Rattle.std.proofs.lemmas.Bool.{and_parts, and_right}
use Rattle.pfs_store_records.proofs.Rising.{IsRisingBy, has_number}
use Rattle.pfs_store_records.proofs.TallyLaws.{left-faithful, left-node}

-- the number of a state, and of a record
abbrev pub state_number : State → ℕ
state_number s = s.number

abbrev pub record_number : Placed → ℕ
record_number p = p.state.number

-- ---- the node of the state

-- a node's tally in the states that are left
abbrev parted : Conf → List State → List State → ℕ → NodeTally → NodeTally
parted conf before after now t = record {
  node = node_after_leaving conf before after now t.node;
  states = node_states conf t.node.scope t.node.source after;
  connections = node_connections conf t.node.scope t.node.source after;
}

last_no : (c d : ℕ) → c ≡ d → (nat_lt 0 c && (d == 0)) ≡ false
last_no c d e = grind (arith, nat_tests)

last_yes : (c d : ℕ) → d + 1 ≡ c → (nat_lt 0 c && (d == 0)) ≡ (d == 0)
last_yes c d e = let p : nat_lt 0 c ≡ true = grind (arith, nat_tests) in rw p refl

done_first : (a b : Bool) → b ≡ true → (a && b) ≡ a
done_first true b h = h
done_first false b h = refl

left-parted : (conf : Conf) (s : State) (now : ℕ) (xs : List State) (t : NodeTally) → IsRisingBy state_number xs → find (has_number state_number s.number) xs ≡ Some s
    → IsScoped conf t → IsCounted conf xs t → left_at conf s now t ≡ parted conf xs (filter (other_than s.number) xs) now t
left-parted conf s now xs t r f h e = go (is_at (node_scope_of conf s.rule.0) s.source t) refl
  where
    ys : List State
    ys = filter (other_than s.number) xs

    sc : NodeScope
    sc = t.node.scope

    a : Addr
    a = t.node.source

    c : length (filter (is_of_node conf t.node.scope t.node.source) (filter (other_than s.number) xs)) + cond (is_of_node conf t.node.scope t.node.source s) 1 0
        ≡ length (filter (is_of_node conf t.node.scope t.node.source) xs)
    c = count-removed state_number (is_of_node conf t.node.scope t.node.source) s.number s xs r f

    d : length (filter (is_connection conf t.node.scope t.node.source) (filter (other_than s.number) xs)) + cond (is_connection conf t.node.scope t.node.source s) 1 0
        ≡ length (filter (is_connection conf t.node.scope t.node.source) xs)
    d = count-removed state_number (is_connection conf t.node.scope t.node.source) s.number s xs r f

    es : t.states ≡ length (filter (is_of_node conf t.node.scope t.node.source) xs)
    es = ap (λ (u : NodeTally). u.states) e

    ec : t.connections ≡ length (filter (is_connection conf t.node.scope t.node.source) xs)
    ec = ap (λ (u : NodeTally). u.connections) e

    go : (b : Bool) → is_at (node_scope_of conf s.rule.0) s.source t ≡ b → left_at conf s now t ≡ parted conf xs (filter (other_than s.number) xs) now t
    go true i =
        let o : is_of_node conf t.node.scope t.node.source s ≡ true = of_node conf s t h ∙ i in
        let c1 : length (filter (is_of_node conf t.node.scope t.node.source) (filter (other_than s.number) xs)) + 1 ≡ length (filter (is_of_node conf t.node.scope t.node.source) xs) =
        ap (λ (b : Bool). length (filter (is_of_node conf t.node.scope t.node.source) (filter (other_than s.number) xs)) + cond b 1 0) (sym o) ∙ c in
        let z : is_connection conf t.node.scope t.node.source s ≡ is_done s.phase = done_first (is_done s.phase) (is_of_node conf t.node.scope t.node.source s) o in
        let d1 : length (filter (is_connection conf t.node.scope t.node.source) (filter (other_than s.number) xs)) + cond (is_done s.phase) 1 0 ≡ length (filter (is_connection conf t.node.scope t.node.source) xs) =
        ap (λ (b : Bool). length (filter (is_connection conf t.node.scope t.node.source) (filter (other_than s.number) xs)) + cond b 1 0) (sym z) ∙ d in
        let m : t.states - 1 ≡ length (filter (is_of_node conf t.node.scope t.node.source) (filter (other_than s.number) xs)) = omega (arith, c1, es) in
        let n : t.connections - cond (is_done s.phase) 1 0 ≡ length (filter (is_connection conf t.node.scope t.node.source) (filter (other_than s.number) xs)) = omega (arith, d1, ec) in
        let l = last_yes (length (filter (is_of_node conf t.node.scope t.node.source) xs)) (length (filter (is_of_node conf t.node.scope t.node.source) (filter (other_than s.number) xs))) c1 in
        let w : left_at conf s now t ≡ left_of conf s now t = ap (λ (b : Bool). if b then left_of conf s now t else t) i in
        w ∙ (λ j. record {
          node = if (ap (λ k. k == 0) m ∙ sym l) j then record t.node { expires = now + node_retention conf t.node.scope } else t.node;
          states = m j;
          connections = n j;
        })
    go false i =
        let o : is_of_node conf t.node.scope t.node.source s ≡ false = of_node conf s t h ∙ i in
        let c1 : length (filter (is_of_node conf t.node.scope t.node.source) (filter (other_than s.number) xs)) + 0 ≡ length (filter (is_of_node conf t.node.scope t.node.source) xs) =
        ap (λ (b : Bool). length (filter (is_of_node conf t.node.scope t.node.source) (filter (other_than s.number) xs)) + cond b 1 0) (sym o) ∙ c in
        let z : is_connection conf t.node.scope t.node.source s ≡ false = and_right (is_done s.phase) (is_of_node conf t.node.scope t.node.source s) o in
        let d1 : length (filter (is_connection conf t.node.scope t.node.source) (filter (other_than s.number) xs)) + 0 ≡ length (filter (is_connection conf t.node.scope t.node.source) xs) =
        ap (λ (b : Bool). length (filter (is_connection conf t.node.scope t.node.source) (filter (other_than s.number) xs)) + cond b 1 0) (sym z) ∙ d in
        let m : t.states ≡ length (filter (is_of_node conf t.node.scope t.node.source) (filter (other_than s.number) xs)) = omega (arith, c1, es) in
        let n : t.connections ≡ length (filter (is_connection conf t.node.scope t.node.source) (filter (other_than s.number) xs)) = omega (arith, d1, ec) in
        let k : length (filter (is_of_node conf t.node.scope t.node.source) xs) ≡ length (filter (is_of_node conf t.node.scope t.node.source) (filter (other_than s.number) xs)) = omega (arith, c1) in
        let l = last_no (length (filter (is_of_node conf t.node.scope t.node.source) xs)) (length (filter (is_of_node conf t.node.scope t.node.source) (filter (other_than s.number) xs))) k in
        let w : left_at conf s now t ≡ t = ap (λ (b : Bool). if b then left_of conf s now t else t) i in
        w ∙ (λ j. record {
          node = if sym l j then record t.node { expires = now + node_retention conf t.node.scope } else t.node;
          states = m j;
          connections = n j;
        })

pub counted-left : (conf : Conf) (s : State) (now : ℕ) (xs : List State) (ts : List NodeTally) → IsRisingBy state_number xs → find (has_number state_number s.number) xs ≡ Some s
    → AllByRecursion (IsScoped conf) ts → AllByRecursion (IsCounted conf xs) ts → AllByRecursion (IsCounted conf (filter (other_than s.number) xs)) (map (left_at conf s now) ts)
counted-left conf s now xs [] r f g h = tt
counted-left conf s now xs (t ∷ ts) r f (g, gs) (h, hs) =
    (still (left_at conf s now t) (left-parted conf s now xs t r f g h), counted-left conf s now xs ts r f gs hs)
  where
    same_scope_of : (node_after_leaving conf xs (filter (other_than s.number) xs) now t.node).scope ≡ t.node.scope
    same_scope_of = kept-part (λ (n : Node). n.scope) refl
      where
        kept-part : {Y : Type 0} (part : Node → Y) → part (record t.node { expires = now + node_retention conf t.node.scope }) ≡ part t.node → part (node_after_leaving conf xs (filter (other_than s.number) xs) now t.node) ≡ part t.node
        kept-part part e = go (nat_lt 0 (node_states conf t.node.scope t.node.source xs) && (node_states conf t.node.scope t.node.source (filter (other_than s.number) xs) == 0))
          where
            go : (b : Bool) → part (if b then record t.node { expires = now + node_retention conf t.node.scope } else t.node) ≡ part t.node
            go true = e
            go false = refl

    same_source_of : (node_after_leaving conf xs (filter (other_than s.number) xs) now t.node).source ≡ t.node.source
    same_source_of = go (nat_lt 0 (node_states conf t.node.scope t.node.source xs) && (node_states conf t.node.scope t.node.source (filter (other_than s.number) xs) == 0))
      where
        go : (b : Bool) → (if b then record t.node { expires = now + node_retention conf t.node.scope } else t.node).source ≡ t.node.source
        go true = refl
        go false = refl

    still : (u : NodeTally) → u ≡ parted conf xs (filter (other_than s.number) xs) now t → IsCounted conf (filter (other_than s.number) xs) u
    still u e = subst (IsCounted conf (filter (other_than s.number) xs)) (sym e)
        (λ j. record {
          node = node_after_leaving conf xs (filter (other_than s.number) xs) now t.node;
          states = node_states conf (sym same_scope_of j) (sym same_source_of j) (filter (other_than s.number) xs);
          connections = node_connections conf (sym same_scope_of j) (sym same_source_of j) (filter (other_than s.number) xs);
        })

pub nodes-left : (conf : Conf) (s : State) (now : ℕ) (xs : List State) (ts : List NodeTally) → IsRisingBy state_number xs → find (has_number state_number s.number) xs ≡ Some s
    → AllByRecursion (IsScoped conf) ts → AllByRecursion (IsCounted conf xs) ts
    → nodes_of (map (left_at conf s now) ts) ≡ map (node_after_leaving conf xs (filter (other_than s.number) xs) now) (nodes_of ts)
nodes-left conf s now xs [] r f g h = refl
nodes-left conf s now xs (t ∷ ts) r f (g, gs) (h, hs) =
    (λ i. (left-parted conf s now xs t r f g h i).node ∷ nodes-left conf s now xs ts r f gs hs i)

pub scored-left : (conf : Conf) (s : State) (now : ℕ) (ts : List NodeTally) → AllByRecursion IsScored ts → AllByRecursion IsScored (map (left_at conf s now) ts)
scored-left conf s now [] h = tt
scored-left conf s now (t ∷ ts) (h, hs) = (go (is_at (node_scope_of conf s.rule.0) s.source t), scored-left conf s now ts hs)
  where
    go : (b : Bool) → IsScored (if b then left_of conf s now t else t)
    go true = subst (λ n. n ≤ 4294968000) (sym (left-node (λ n. n.score.value) conf s now t (λ e. refl))) h
    go false = h

pub noded-left : (conf : Conf) (s : State) (now : ℕ) (ts : List NodeTally) (xs : List State) → AllByRecursion (HasTally conf ts) xs → AllByRecursion (HasTally conf (map (left_at conf s now) ts)) xs
noded-left conf s now ts [] h = tt
noded-left conf s now ts (x ∷ xs) (h, hs) =
    ((λ sc e. tally-at sc x.source (node_scope_of conf s.rule.0) s.source (left_of conf s now) (left-faithful conf s now) ts ∙ h sc e), noded-left conf s now ts xs hs)

-- ---- the index by key

pub entry-left : (p : Placed → Bool) (key : Placed → FlowKey) (k : FlowKey) → ((x : Placed) → p x ≡ true → key x ≡ k) → (s : Placed) (records : List Placed) (g g' : Option IndexEntry)
    → IsRisingBy record_number records → IsDistinct same_key (map key records) → find (has_number record_number s.state.number) records ≡ Some s
    → g ≡ option_map entry_of (find p records) → g' ≡ cond (p s) None g
    → g' ≡ option_map entry_of (find p (filter (λ (q : Placed). not (q.state.number == s.state.number)) records))
entry-left p key k tells s records g g' r d f e e' = rw (e', e, passing-removed record_number key p k tells s.state.number s records r d f) (go (p s))
  where
    go : (b : Bool) → cond b None (option_map entry_of (find p records)) ≡ option_map entry_of (cond b None (find p records))
    go true = refl
    go false = refl

-- ---- the counts of the rules

pub rule-left : (s : State) (xs : List State) (counts : List ℕ) (v : ℕ) → IsRisingBy state_number xs → find (has_number state_number s.number) xs ≡ Some s
    → s.rule.0 < length counts → v ≡ slice_index counts s.rule.0 → AreCounts counts xs → AreCounts (slice_set counts s.rule.0 (v - 1)) (filter (other_than s.number) xs)
rule-left s xs counts v ri f w e h r l = go (s.rule.0 == r) refl
  where
    c : length (filter (is_of_rule r) (filter (other_than s.number) xs)) + cond (s.rule.0 == r) 1 0 ≡ length (filter (is_of_rule r) xs)
    c = count-removed state_number (is_of_rule r) s.number s xs ri f

    l' : r < length counts
    l' = omega (arith, length-set counts s.rule.0 (v - 1))

    go : (b : Bool) → (s.rule.0 == r) ≡ b → slice_index (slice_set counts s.rule.0 (v - 1)) r ≡ rule_states r (filter (other_than s.number) xs)
    go true i =
        let q : r ≡ s.rule.0 = grind (arith, nat_tests) in
        let c' : length (filter (is_of_rule r) (filter (other_than s.number) xs)) + 1 ≡ length (filter (is_of_rule r) xs) = (rw i at c) in
        let hv = h r l' in
        let vv : v ≡ slice_index counts r = e ∙ ap (slice_index counts) (sym q) in
        get_or-set_at counts s.rule.0 r (v - 1) 0 q w ∙ omega (arith, c', hv, vv)
    go false i =
        let q : r ≢ s.rule.0 = (λ z. let i' : (s.rule.0 == r) ≡ true = grind (arith, nat_tests) in absurd (cc (i, i'))) in
        let c' : length (filter (is_of_rule r) (filter (other_than s.number) xs)) + 0 ≡ length (filter (is_of_rule r) xs) = (rw i at c) in
        let hv = h r l' in
        get_or-set_other counts s.rule.0 r (v - 1) 0 q ∙ omega (arith, c', hv)

pub rule-held : (s : State) (xs : List State) (counts : List ℕ) (v : ℕ) → IsRisingBy state_number xs → find (has_number state_number s.number) xs ≡ Some s
    → s.rule.0 < length counts → v ≡ slice_index counts s.rule.0 → AreCounts counts xs → 1 ≤ v
rule-held s xs counts v ri f w e h =
    let c = count-removed state_number (is_of_rule s.rule.0) s.number s xs ri f in
    let i : (s.rule.0 == s.rule.0) ≡ true = grind (arith, nat_tests) in
    let c' : length (filter (is_of_rule s.rule.0) (filter (other_than s.number) xs)) + 1 ≡ length (filter (is_of_rule s.rule.0) xs) = (rw i at c) in
    let hv = h s.rule.0 w in
    omega (arith, c', hv, e)

pub ruled-set : (counts : List ℕ) (i v : ℕ) (xs : List State) → AllByRecursion (HasRule (length counts)) xs → AllByRecursion (HasRule (length (slice_set counts i v))) xs
ruled-set counts i v xs h = subst (λ n. AllByRecursion (HasRule n) xs) (sym (length-set counts i v)) h

-- ---- the index by source

pub pair-left : (under : State → Addr) (s : State) (xs : List State) (a : Addr) (n : ℕ) (g g' : Bool) → IsRisingBy state_number xs → find (has_number state_number s.number) xs ≡ Some s
    → g ≡ list_any (is_pair under a n) xs → g' ≡ cond (is_pair under a n s) false g → g' ≡ list_any (is_pair under a n) (filter (other_than s.number) xs)
pair-left under s xs a n g g' r f e e' = rw (e', e) (go (is_pair under a n s) refl)
  where
    second : (x : State) → is_pair under a n x ≡ true → x.number ≡ n
    second x h = let t = (and_parts (same_addr (under x) a) (x.number == n) h).1 in grind (arith, nat_tests)

    go : (b : Bool) → is_pair under a n s ≡ b → cond (is_pair under a n s) false (list_any (is_pair under a n) xs) ≡ list_any (is_pair under a n) (filter (other_than s.number) xs)
    go true t = rw t (sym (any-removed state_number (is_pair under a n) s.number s xs r f (λ x h. second x h ∙ sym (second s t)) t))
    go false t = rw t (sym (any-kept state_number (is_pair under a n) s.number s xs r f t))
