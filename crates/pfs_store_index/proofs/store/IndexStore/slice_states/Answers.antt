-- Answers of IndexStore::slice_states: the slice of the definition, up to when its states stay, its looks.
use Rattle.std.proofs.Common.{◌≡◌, ◌∙◌, ◌≤◌, ℕ, true, List, length-take, ap, length, subst, sym, take, arith, rules}
use Rattle.std.specs.Map.{keys_of}
use Rattle.pfs_store_index.specs.Rounds.{waiting}
use Rattle.pfs_store_index.specs.Stored.{IsStored}
use Rattle.pfs_store_index.specs.Holdings.{Indexed}
use Rattle.pfs_store_contract.specs.Purging.{is_among, round, state_numbers, state_share, state_slice}
use Rattle.pfs_store_index.specs.QuietPurges.{SliceStays, StateStays}
use Rattle.pfs_store_index.specs.declared.passages.SliceTold.{SliceTold}
use Rattle.pfs_store_contract.specs.declared.records.State.{State}
use Rattle.std.specs.List.{AllByRecursion}
use Rattle.pfs_store_index.proofs.Leavings.{state_number}
use Rattle.pfs_store_index.proofs.Storing.{few-numbered, stored-without, world-slice}
use Rattle.pfs_store_index.proofs.Turning.{over-empty}
use Rattle.pfs_store_index.proofs.RisingWalks.{all-fewer}
use Rattle.pfs_store_index.proofs.store.IndexStore.slice_states.Goals as goal

-- the numbers that the slice finds waiting are those of the round
pending : (g : _) (c : goal.After-told g) → waiting c.under_way-round.result.cursor c.under_way-round.result.mark (state_numbers c.self.inside.indexes.states)
    ≡ round (state_numbers c.self.inside.indexes.states) (waiting c.self.inside.states_round.cursor c.self.inside.states_round.mark (state_numbers c.self.inside.indexes.states))
pending g c =
    let numbers : keys_of c.order.result.now.entries ≡ state_numbers c.self.inside.indexes.states = c.order.ensures.numbers ∙ ap state_numbers c.records.ensures in
    rw numbers at c.under_way-round.ensures.waiting

pub invariant_of-self : goal.invariant_of-self
invariant_of-self g c =
    let steps = c.walk_states-steps.ensures in
    let made : c.walk_states-steps.result.round.mark ≤ c.self.inside.made = omega (arith, steps.mark, c.under_way-round.ensures.mark) in
    let l : length c.self.inside.counts.items ≡ length c.copy_from_slice.new.self.items =
    search rules in
    subst (λ n. IsStored c.walk_states-steps.new.indexes c.walk_states-steps.result.round.cursor c.walk_states-steps.result.round.mark c.self.inside.nodes_round.cursor c.self.inside.nodes_round.mark c.self.inside.made n) l
    (stored-without _ c.args.now c.self.inside.indexes c.walk_states-steps.new.indexes _ _ _ _ _ _ _ _ steps.config steps.states steps.nodes c.self.invariant steps.order made)

pub returns-clause-world : goal.returns-clause-world
returns-clause-world g c =
    let h = c.self.inside.indexes in
    let steps = c.walk_states-steps in
    let s : c.share_of-share.result ≡ state_share c.self.inside.indexes.config = search rules in
    world-slice c.args.now c.share_of-share.result h steps.new.indexes c.self.inside.states_round.cursor c.self.inside.states_round.mark
    steps.result.round.cursor steps.result.round.mark c.self.inside.nodes_round.cursor c.self.inside.nodes_round.mark c.self.inside.made
    (waiting c.under_way-round.result.cursor c.under_way-round.result.mark (state_numbers h.states)) s (pending g c)
    steps.ensures.states steps.ensures.nodes steps.ensures.waiting
    ∙ ap (λ (p : Indexed). state_slice p.config p.world c.args.now) c.self.view_is

-- the numbers that are held after the slice
numbers-after : (g : _) (c : goal.After-told g) → keys_of c.order-2.result.now.entries ≡ state_numbers c.walk_states-steps.new.indexes.states
numbers-after g c = c.order-2.ensures.numbers ∙ ap state_numbers c.records-2.ensures

pub returns-clause-until : goal.returns-clause-until
returns-clause-until g c =
    let h = c.self.inside.indexes in
    let steps = c.walk_states-steps in
    let kept = steps.new.indexes.states in
    let share : c.share_of-share.result ≡ state_share h.config = search rules in
    let until : c.told.result.until ≡ steps.result.until = ap (λ (t : SliceTold). t.until) c.told.ensures in
    subst (λ (p : Indexed). SliceStays p.config p.world c.told.result.until kept) c.self.view_is
    (subst (λ (q : ℕ × List ℕ × ℕ). AllByRecursion (λ (s : State). is_among (take q.0 q.1) s.number ≡ true → StateStays h.config h.states q.2 s) kept)
    (λ i. (share i, pending g c i, sym until i)) steps.ensures.until)

pub returns-clause-over : goal.returns-clause-over
returns-clause-over g c = λ o.
    let steps = c.walk_states-steps in
    let over = ap (λ (t : SliceTold). t.over) c.told.ensures in
    sym (ap (waiting steps.result.round.cursor steps.result.round.mark) (numbers-after g c)) ∙ over-empty _ (sym c.is_over.ensures ∙ sym over ∙ o)

pub returns-clause-most : goal.returns-clause-most
returns-clause-most g c =
    let h = c.self.inside.indexes in
    let round = c.under_way-round.result in
    let ws = waiting round.cursor round.mark (state_numbers h.states) in
    let a : length (take c.share_of-share.result ws) ≤ length ws = omega (arith, length-take c.share_of-share.result ws) in
    let b : length ws ≤ length h.states = all-fewer state_number round.cursor round.mark h.states in
    omega (arith, c.walk_states-steps.ensures.looks, c.walk_states-steps.ensures.examined, a, b, few-numbered c.self.inside.made h.states c.state_numbers_rise.ensures c.self.invariant.numbered, c.self.invariant.few)
