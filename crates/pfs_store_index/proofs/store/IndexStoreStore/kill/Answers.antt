-- Answers of IndexStore's kill: the state is there to be taken out, and the world without it is as defined.
use Rattle.std.proofs.Common.{◌≡◌, ◌∙◌, Some, ap, subst, sym, map}
use Rattle.std.specs.List.{find}
use Rattle.pfs_store_contract.specs.Leaving.{node_after_leaving}
use Rattle.pfs_store_contract.specs.Calls.{world_killed, other_than}
use Rattle.pfs_store_index.specs.Holdings.{Indexed, is_reached}
use Rattle.pfs_store_index.proofs.Leavings.{state_number}
use Rattle.pfs_store_index.proofs.Storing.{stored-without, world-without}
use Rattle.pfs_store_records.proofs.Rising.{found-number, has_number}
use Rattle.pfs_store_index.proofs.store.IndexStoreStore.kill.Goals as goal

pub read_found-state-requires-clause-reached : goal.read_found-state-requires-clause-reached
read_found-state-requires-clause-reached g c = ap (λ (p : Indexed). is_reached p.records c.args.found) c.self.view_is ∙ c.requires.reached

pub take_out-requires-clause-held : goal.take_out-requires-clause-held
take_out-requires-clause-held g c =
    let f = c.read_found-state.ensures.value in
    subst (λ k. find (has_number state_number k) c.self.inside.indexes.states ≡ Some c.read_found-state.result) (sym (found-number state_number c.args.found.number.0 c.read_found-state.result c.self.inside.indexes.states f)) f

pub invariant_of-self : goal.invariant_of-self
invariant_of-self g c =
    let h = c.self.inside.indexes in
    let i = c.self.invariant in
    let ns : c.take_out.new.self.nodes ≡ map (node_after_leaving h.config h.states c.take_out.new.self.states c.args.now) h.nodes =
    c.take_out.ensures.nodes ∙ ap (λ xs. map (node_after_leaving h.config h.states xs c.args.now) h.nodes) (sym c.take_out.ensures.states) in
    stored-without (other_than c.read_found-state.result.number) c.args.now h c.take_out.new.self _ _ _ _ _ _ _ _ c.take_out.ensures.config c.take_out.ensures.states ns i i.order i.mark_made

pub returns-clause-world : goal.returns-clause-world
returns-clause-world g c =
    let h = c.self.inside.indexes in
    let ns : c.take_out.new.self.nodes ≡ map (node_after_leaving h.config h.states c.take_out.new.self.states c.args.now) h.nodes =
    c.take_out.ensures.nodes ∙ ap (λ xs. map (node_after_leaving h.config h.states xs c.args.now) h.nodes) (sym c.take_out.ensures.states) in
    let q = found-number state_number c.args.found.number.0 c.read_found-state.result h.states c.read_found-state.ensures.value in
    world-without (other_than c.read_found-state.result.number) c.args.now h c.take_out.new.self c.self.inside.states_round.cursor c.self.inside.states_round.mark c.self.inside.nodes_round.cursor c.self.inside.nodes_round.mark c.self.inside.made
    c.state_numbers_rise.ensures c.take_out.ensures.states ns
    ∙ (λ j. world_killed (c.self.view_is j).config (c.self.view_is j).world (q j) c.args.now)
