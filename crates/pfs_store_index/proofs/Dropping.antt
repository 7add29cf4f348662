-- A node without states goes: every state keeps its node.
use Rattle.std.proofs.Common.{◌≡◌, ◌∙◌, ◌==◌, ℕ, Bool, true, false, not, if◌then◌else◌, Option, Some, None, IfSome, option_map, List, [], ◌∷◌, length, filter, refl, ap, sym, arith}
use Rattle.std.specs.HashMap.{HashMap}
use Rattle.std.specs.List.{find, list_any, AllByRecursion}
use Rattle.pfs_addr_values.specs.declared.packets.FlowKey.{FlowKey}
use Rattle.pfs_conf_values.specs.Configs.{Conf}
use Rattle.pfs_store_contract.specs.Counts.{is_of_node, node_states}
use Rattle.pfs_store_contract.specs.Purging.{node_numbers}
use Rattle.pfs_store_contract.specs.declared.records.Node.{Node}
use Rattle.pfs_store_contract.specs.declared.records.NodeScope.{NodeScope}
use Rattle.pfs_store_contract.specs.declared.records.State.{State}
use Rattle.pfs_store_records.specs.Records.{IsRising, Placed, states_of}
use Rattle.pfs_store_records.specs.Tallies.{has_node_number, is_tally, nodes_of, other_node}
use Rattle.pfs_store_records.specs.declared.nodes.NodeTally.{NodeTally}
use Rattle.pfs_store_index.specs.declared.indexes.IndexEntry.{IndexEntry}
use Rattle.pfs_store_index.specs.declared.flush_index.FlushIndex.{FlushIndex}
use Rattle.pfs_store_records.specs.Changes.{HasTally, IsScored, IsScoped, is_at}
use Rattle.pfs_store_index.specs.IndexInvariants.{IsCounted, IsTied}
use Rattle.pfs_store_records.proofs.OneNode.{of_node}
use Rattle.pfs_store_index.proofs.Removals.{all-filter, any-kept}
use Rattle.pfs_store_records.proofs.Searches.{find-part, found-all, found-any, part-found}
use Rattle.pfs_store_records.proofs.TallyLaws.{rising-tallies}

none-first : (p : State → Bool) (x : State) (xs : List State) → length (filter p (x ∷ xs)) ≡ 0 → (p x ≡ false) × (length (filter p xs) ≡ 0)
none-first p x xs h = go (p x) refl
  where
    go : (b : Bool) → p x ≡ b → (p x ≡ false) × (length (filter p xs) ≡ 0)
    go true e = let h' : length (x ∷ filter p xs) ≡ 0 = (rw e at h) in absurd (omega arith)
    go false e = (e, (rw e at h))

noded-dropped : (conf : Conf) (n : ℕ) (t : NodeTally) (ts : List NodeTally) (xs : List State) → IsRising (node_numbers (nodes_of ts)) → find (has_node_number n) ts ≡ Some t → IsScoped conf t
    → node_states conf t.node.scope t.node.source xs ≡ 0 → AllByRecursion (HasTally conf ts) xs → AllByRecursion (HasTally conf (filter (other_node n) ts)) xs
noded-dropped conf n t ts [] r f k z h = tt
noded-dropped conf n t ts (x ∷ xs) r f k z (h, hs) =
    let w = none-first (is_of_node conf t.node.scope t.node.source) x xs z in (
      (λ sc e.
          let apart : is_tally sc x.source t ≡ false = ap (λ (o : Option NodeScope). is_at o x.source t) (sym e) ∙ sym (of_node conf x t k) ∙ w.0 in
          any-kept (λ (u : NodeTally). u.node.number) (is_tally sc x.source) n t ts (rising-tallies ts r) f apart ∙ h sc e),
      noded-dropped conf n t ts xs r f k w.1 hs,
    )

pub tied-dropped : {S : Type 0} (conf : Conf) (rs : List Placed) (keys insides : HashMap FlowKey IndexEntry S) (counts : List ℕ) (ts : List NodeTally) (filing : FlushIndex) (n : Node)
    → IsTied conf rs keys insides counts ts filing → IsRising (node_numbers (nodes_of ts)) → find (λ (m : Node). m.number == n.number) (nodes_of ts) ≡ Some n
    → node_states conf n.scope n.source (states_of rs) ≡ 0 → IsTied conf rs keys insides counts (filter (other_node n.number) ts) filing
tied-dropped conf rs keys insides counts ts filing n i r f z =
    let t = part-found (λ (u : NodeTally). u.node) (λ (m : Node). m.number == n.number) n ts f in
    let k = found-all (IsScoped conf) (has_node_number n.number) t.whole ts i.scoped t.found in
    let y : node_states conf t.whole.node.scope t.whole.node.source (states_of rs) ≡ 0 = ap (λ (m : Node). node_states conf m.scope m.source (states_of rs)) t.same ∙ z in
    record {
      by_key = i.by_key;
      by_inner = i.by_inner;
      distinct = i.distinct;
      distinct_inside = i.distinct_inside;
      by_rule = i.by_rule;
      size = i.size;
      ruled = i.ruled;
      counted = all-filter (other_node n.number) (IsCounted conf (states_of rs)) ts i.counted;
      scoped = all-filter (other_node n.number) (IsScoped conf) ts i.scoped;
      scored = all-filter (other_node n.number) IsScored ts i.scored;
      noded = noded-dropped conf n.number t.whole ts (states_of rs) r t.found k y i.noded;
      paired = i.paired;
    }

pub node-held : (n : Node) (ts : List NodeTally) → find (λ (m : Node). m.number == n.number) (nodes_of ts) ≡ Some n → list_any (has_node_number n.number) ts ≡ true
node-held n ts f = let t = part-found (λ (u : NodeTally). u.node) (λ (m : Node). m.number == n.number) n ts f in found-any (has_node_number n.number) t.whole ts t.found

pub nodes-dropped : (k : ℕ) (ts : List NodeTally) → nodes_of (filter (other_node k) ts) ≡ filter (λ (m : Node). not (m.number == k)) (nodes_of ts)
nodes-dropped k [] = refl
nodes-dropped k (t ∷ ts) = go (t.node.number == k) (nodes-dropped k ts)
  where
    go : (b : Bool) → nodes_of (filter (other_node k) ts) ≡ filter (λ (m : Node). not (m.number == k)) (nodes_of ts)
        → nodes_of (if not b then t ∷ filter (other_node k) ts else filter (other_node k) ts) ≡ (if not b then t.node ∷ filter (λ (m : Node). not (m.number == k)) (nodes_of ts) else filter (λ (m : Node). not (m.number == k)) (nodes_of ts))
    go true e = e
    go false e = ap (λ xs. t.node ∷ xs) e

-- ---- the node of a tally

pub node-of : (o : Option NodeTally) (ts : List NodeTally) → IfSome o (λ t. find (has_node_number t.node.number) ts ≡ Some t) → IfSome o (λ t. find (λ (n : Node). n.number == t.node.number) (nodes_of ts) ≡ Some t.node)
node-of None ts h = h
node-of (Some t) ts h = find-part (λ (u : NodeTally). u.node) (λ (n : Node). n.number == t.node.number) ts ∙ ap (λ (o : Option NodeTally). option_map (λ (u : NodeTally). u.node) o) h
