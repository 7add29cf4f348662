-- Answers of IndexStore's kill_from_to: the world without those states (`world`), how many they are (`answer`), and the looks.
use Rattle.std.proofs.Common.{◌≡◌, ◌∙◌, ◌-◌, ap, length, arith, rules}
use Rattle.pfs_store_contract.specs.Calls.{from_to_count, stays_elsewhere, world_elsewhere}
use Rattle.pfs_store_contract.specs.Leaving.{is_from_to}
use Rattle.pfs_store_records.proofs.Searches.{count-le}
use Rattle.pfs_store_index.specs.Holdings.{Indexed}
use Rattle.pfs_store_index.proofs.Storing.{few-numbered, left-count, stored-without, world-without}
use Rattle.pfs_store_index.proofs.store.IndexStoreStore.kill_from_to.Goals as goal

pub kill_from_to-requires-clause-few : goal.kill_from_to-requires-clause-few
kill_from_to-requires-clause-few g c =
    omega (arith, few-numbered c.self.inside.made c.self.inside.indexes.states c.state_numbers_rise.ensures c.self.invariant.numbered, c.self.invariant.few)

pub invariant_of-self : goal.invariant_of-self
invariant_of-self g c =
    let i = c.self.invariant in
    stored-without (stays_elsewhere c.args.hosts.now) c.args.now c.self.inside.indexes c.kill_from_to.new.indexes _ _ _ _ _ _ _ _ c.kill_from_to.ensures.config c.kill_from_to.ensures.states c.kill_from_to.ensures.nodes i i.order i.mark_made

pub returns-clause-world : goal.returns-clause-world
returns-clause-world g c =
    world-without (stays_elsewhere c.args.hosts.now) c.args.now c.self.inside.indexes c.kill_from_to.new.indexes c.self.inside.states_round.cursor c.self.inside.states_round.mark c.self.inside.nodes_round.cursor c.self.inside.nodes_round.mark c.self.inside.made
    c.state_numbers_rise.ensures c.kill_from_to.ensures.states c.kill_from_to.ensures.nodes
    ∙ ap (λ (p : Indexed). world_elsewhere p.config p.world c.args.hosts.now c.args.now) c.self.view_is

pub returns-clause-answer : goal.returns-clause-answer
returns-clause-answer g c =
    let h = c.self.inside.indexes in
    let e : c.saturating_sub.result ≡ length h.states - length c.kill_from_to.new.indexes.states = search rules in
    e ∙ ap (λ xs. length h.states - length xs) c.kill_from_to.ensures.states ∙ left-count (is_from_to c.args.hosts.now) h.states
    ∙ ap (λ (p : Indexed). from_to_count p.world c.args.hosts.now) c.self.view_is

pub returns-clause-looks : goal.returns-clause-looks
returns-clause-looks g c = λ _.
    let h = c.self.inside.indexes in
    let e : c.saturating_sub.result ≡ length h.states - length c.kill_from_to.new.indexes.states = search rules in
    let k = e ∙ ap (λ xs. length h.states - length xs) c.kill_from_to.ensures.states ∙ left-count (is_from_to c.args.hosts.now) h.states in
    omega (arith, k, c.kill_from_to.ensures.looks, count-le (is_from_to c.args.hosts.now) h.states)

pub returns-clause-few_looks : goal.returns-clause-few_looks
returns-clause-few_looks g c = λ _.
    omega (arith, c.kill_from_to.ensures.looks, ap (λ (p : Indexed). length p.world.states) c.self.view_is)

pub returns-clause-most : goal.returns-clause-most
returns-clause-most g c =
    let h = c.self.inside.indexes in
    omega (arith, c.kill_from_to.ensures.looks, few-numbered c.self.inside.made h.states c.state_numbers_rise.ensures c.self.invariant.numbered, c.self.invariant.few)
