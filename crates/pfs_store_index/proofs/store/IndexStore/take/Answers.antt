-- Answers of IndexStore::take: the state is held; the `world` after it and the `answer` are as defined.
use Rattle.std.proofs.Common.{◌≡◌, ◌∙◌, ◌||◌, Option, Some, ap, map, option_map, sym, arith}
use Rattle.pfs_store_contract.specs.Calls.{told_at, touch_of, world_touched}
use Rattle.pfs_store_contract.specs.Touching.{completes_at, nodes_touched, numbered_state_after}
use Rattle.pfs_store_contract.specs.Worlds.{holds_number, state_numbered}
use Rattle.pfs_store_contract.specs.declared.records.State.{State}
use Rattle.pfs_store_index.specs.Holdings.{Indexed, is_reached}
use Rattle.pfs_store_index.specs.Stored.{world_of}
use Rattle.pfs_store_index.proofs.Renewing.{IsHeldAs, held-as}
use Rattle.pfs_store_index.proofs.Storing.{few-numbered, stored-touched, world-touched}
use Rattle.pfs_store_index.proofs.store.IndexStore.take.Goals as goal

pub renew-requires-clause-reached : goal.renew-requires-clause-reached
renew-requires-clause-reached g c = ap (λ (p : Indexed). is_reached p.records c.args.found) c.self.view_is ∙ c.requires.reached

pub renew-requires-clause-few : goal.renew-requires-clause-few
renew-requires-clause-few g c =
    omega (arith, few-numbered c.self.inside.made c.self.inside.indexes.states c.state_numbers_rise.ensures c.self.invariant.numbered, c.self.invariant.few)

pub invariant_of-self : goal.invariant_of-self
invariant_of-self g c =
    let h : IsHeldAs c.args.found.number.0 c.self.inside.indexes.states =
    held-as c.args.found.number.0 c.self.inside.indexes.states (ap (λ (p : Indexed). holds_number p.world.states c.args.found.number.0) c.self.view_is ∙ c.requires.held) in
    let s = h.state in
    let states : c.renew.new.self.states ≡ map (numbered_state_after s.number c.args.packet.now c.args.now) c.self.inside.indexes.states =
    c.renew.ensures.states ∙ ap (λ n. map (numbered_state_after n c.args.packet.now c.args.now) c.self.inside.indexes.states) (sym h.number) in
    let some-nodes : Some c.renew.new.self.nodes ≡ Some (nodes_touched c.self.inside.indexes.config c.self.inside.indexes.nodes s c.args.now (completes_at c.args.packet.now s)) =
    c.renew.ensures.nodes ∙ ap (option_map (λ (x : State). nodes_touched c.self.inside.indexes.config c.self.inside.indexes.nodes x c.args.now (completes_at c.args.packet.now x))) h.found in
    let nodes : c.renew.new.self.nodes ≡ nodes_touched c.self.inside.indexes.config c.self.inside.indexes.nodes s c.args.now (completes_at c.args.packet.now s) = cc in
    stored-touched s c.args.packet.now c.args.now c.self.inside.indexes c.renew.new.self _ _ _ _ _ _ c.renew.ensures.config states nodes c.self.invariant

pub returns-clause-world : goal.returns-clause-world
returns-clause-world g c =
    let w = world_of c.self.inside.indexes c.self.inside.states_round.cursor c.self.inside.states_round.mark c.self.inside.nodes_round.cursor c.self.inside.nodes_round.mark c.self.inside.made in
    let h : IsHeldAs c.args.found.number.0 c.self.inside.indexes.states =
    held-as c.args.found.number.0 c.self.inside.indexes.states (ap (λ (p : Indexed). holds_number p.world.states c.args.found.number.0) c.self.view_is ∙ c.requires.held) in
    let s = h.state in
    let states : c.renew.new.self.states ≡ map (numbered_state_after s.number c.args.packet.now c.args.now) c.self.inside.indexes.states =
    c.renew.ensures.states ∙ ap (λ n. map (numbered_state_after n c.args.packet.now c.args.now) c.self.inside.indexes.states) (sym h.number) in
    let some-nodes : Some c.renew.new.self.nodes ≡ Some (nodes_touched c.self.inside.indexes.config c.self.inside.indexes.nodes s c.args.now (completes_at c.args.packet.now s)) =
    c.renew.ensures.nodes ∙ ap (option_map (λ (x : State). nodes_touched c.self.inside.indexes.config c.self.inside.indexes.nodes x c.args.now (completes_at c.args.packet.now x))) h.found in
    let nodes : c.renew.new.self.nodes ≡ nodes_touched c.self.inside.indexes.config c.self.inside.indexes.nodes s c.args.now (completes_at c.args.packet.now s) = cc in
    world-touched s c.args.packet.now c.args.now c.self.inside.indexes c.renew.new.self c.self.inside.states_round.cursor c.self.inside.states_round.mark c.self.inside.nodes_round.cursor c.self.inside.nodes_round.mark c.self.inside.made states nodes
    ∙ ap (λ (o : Option State). world_touched c.self.inside.indexes.config w c.args.packet.now c.args.now o) (sym h.found)
    ∙ ap (λ (p : Indexed). world_touched p.config p.world c.args.packet.now c.args.now (state_numbered c.args.found.number.0 p.world)) c.self.view_is

pub returns-clause-answer : goal.returns-clause-answer
returns-clause-answer g c =
    c.renew.ensures.told
    ∙ ap (λ (p : Indexed). option_map (λ (x : State). told_at (c.args.asked || completes_at c.args.packet.now x) (touch_of p.config p.world c.args.packet.now c.args.now x)) (state_numbered c.args.found.number.0 p.world)) c.self.view_is

-- stated here, so another count of looks is refused without a search
pub returns-clause-looks : goal.returns-clause-looks
returns-clause-looks g c = c.renew.ensures.looks
