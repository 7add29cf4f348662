-- Answers of IndexStore::slice_nodes: what it keeps, up to when its nodes stay (`until`), its looks (`most`).
use Rattle.std.proofs.Common.{◌≡◌, ◌∙◌, ◌≤◌, ℕ, List, length-take, length, take, ap, arith, rules, subst, sym}
use Rattle.std.specs.Map.{keys_of}
use Rattle.pfs_store_contract.specs.Purging.{node_numbers, node_share, round}
use Rattle.pfs_store_index.specs.Holdings.{Indexed}
use Rattle.pfs_store_index.specs.QuietPurges.{NodeSliceStays}
use Rattle.pfs_store_index.specs.Rounds.{waiting}
use Rattle.pfs_store_index.specs.Staying.{NodesHold}
use Rattle.pfs_store_index.specs.declared.passages.SliceTold.{SliceTold}
use Rattle.pfs_store_index.proofs.Retained.{node_number}
use Rattle.pfs_store_index.proofs.RisingWalks.{all-fewer}
use Rattle.pfs_store_index.proofs.Storing.{few-numbers, stored-nodes}
use Rattle.pfs_store_index.proofs.Turning.{over-empty}
use Rattle.pfs_store_index.proofs.store.IndexStore.slice_nodes.Goals as goal

pub invariant_of-self : goal.invariant_of-self
invariant_of-self g c =
    let steps = c.walk_nodes-steps.ensures in
    let made : c.walk_nodes-steps.result.round.mark ≤ c.self.inside.made = omega (arith, steps.mark, c.under_way-round.ensures.mark) in
    stored-nodes _ c.self.inside.indexes c.walk_nodes-steps.new.indexes _ _ _ _ _ _ _ _ steps.config steps.states steps.nodes c.self.invariant steps.order made

-- the numbers that are held after the slice
numbers-after : (g : _) (c : goal.After-told g) → keys_of c.order-2.result.now.entries ≡ node_numbers c.walk_nodes-steps.new.indexes.nodes
numbers-after g c = c.order-2.ensures.numbers ∙ ap node_numbers c.nodes-2.ensures

-- the numbers that the slice finds waiting are those of the round
pending : (g : _) (c : goal.After-told g) → waiting c.under_way-round.result.cursor c.under_way-round.result.mark (node_numbers c.self.inside.indexes.nodes)
    ≡ round (node_numbers c.self.inside.indexes.nodes) (waiting c.self.inside.nodes_round.cursor c.self.inside.nodes_round.mark (node_numbers c.self.inside.indexes.nodes))
pending g c =
    let numbers : keys_of c.order.result.now.entries ≡ node_numbers c.self.inside.indexes.nodes = c.order.ensures.numbers ∙ ap node_numbers c.nodes.ensures in
    rw numbers at c.under_way-round.ensures.waiting

pub returns-clause-until : goal.returns-clause-until
returns-clause-until g c =
    let h = c.self.inside.indexes in
    let steps = c.walk_nodes-steps in
    let kept = steps.new.indexes.nodes in
    let share : c.share_of-share.result ≡ node_share h.config = search rules in
    let until : c.told.result.until ≡ steps.result.until = ap (λ (t : SliceTold). t.until) c.told.ensures in
    subst (λ (p : Indexed). NodeSliceStays p.config p.world c.told.result.until kept) c.self.view_is
    (subst (λ (q : ℕ × List ℕ × ℕ). NodesHold h.config h.states (take q.0 q.1) q.2 kept) (λ i. (share i, pending g c i, sym until i)) steps.ensures.until)

pub returns-clause-over : goal.returns-clause-over
returns-clause-over g c = λ o.
    let steps = c.walk_nodes-steps in
    let over = ap (λ (t : SliceTold). t.over) c.told.ensures in
    sym (ap (waiting steps.result.round.cursor steps.result.round.mark) (numbers-after g c)) ∙ over-empty _ (sym c.is_over.ensures ∙ sym over ∙ o)

pub returns-clause-most : goal.returns-clause-most
returns-clause-most g c =
    let h = c.self.inside.indexes in
    let round = c.under_way-round.result in
    let ws = waiting round.cursor round.mark (node_numbers h.nodes) in
    let a : length (take c.share_of-share.result ws) ≤ length ws = omega (arith, length-take c.share_of-share.result ws) in
    let b : length ws ≤ length h.nodes = all-fewer node_number round.cursor round.mark h.nodes in
    omega (arith, c.walk_nodes-steps.ensures.looks, c.walk_nodes-steps.ensures.examined, a, b, few-numbers node_number c.self.inside.made h.nodes c.node_numbers_rise.ensures c.self.invariant.node_numbered, c.self.invariant.few)
