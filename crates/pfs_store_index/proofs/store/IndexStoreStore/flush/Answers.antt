-- Answers of IndexStore's flush: the world without the flushed (`world`), how many (`answer`), and the looks.
use Rattle.std.proofs.Common.{◌≡◌, ◌∙◌, ◌-◌, ap, length, arith, rules}
use Rattle.pfs_store_contract.specs.Calls.{source_states, world_flushed, flushed_count, stays_unflushed}
use Rattle.pfs_store_index.specs.Holdings.{Indexed}
use Rattle.pfs_store_records.proofs.Searches.{count-le}
use Rattle.pfs_store_contract.specs.Leaving.{is_beside}
use Rattle.pfs_store_index.proofs.Storing.{few-numbered, flushed-count, flushed-le, stored-without, world-without}
use Rattle.pfs_store_index.proofs.store.IndexStoreStore.flush.Goals as goal

pub flush-requires-clause-few : goal.flush-requires-clause-few
flush-requires-clause-few g c =
    omega (arith, few-numbered c.self.inside.made c.self.inside.indexes.states c.state_numbers_rise.ensures c.self.invariant.numbered, c.self.invariant.few)

pub invariant_of-self : goal.invariant_of-self
invariant_of-self g c =
    let i = c.self.invariant in
    stored-without (stays_unflushed c.self.inside.indexes.config.profile c.args.dir c.args.source c.args.rule) c.args.now c.self.inside.indexes c.flush.new.indexes _ _ _ _ _ _ _ _ c.flush.ensures.config c.flush.ensures.states c.flush.ensures.nodes i i.order i.mark_made

pub returns-clause-world : goal.returns-clause-world
returns-clause-world g c =
    world-without (stays_unflushed c.self.inside.indexes.config.profile c.args.dir c.args.source c.args.rule) c.args.now c.self.inside.indexes c.flush.new.indexes c.self.inside.states_round.cursor c.self.inside.states_round.mark c.self.inside.nodes_round.cursor c.self.inside.nodes_round.mark c.self.inside.made
    c.state_numbers_rise.ensures c.flush.ensures.states c.flush.ensures.nodes
    ∙ ap (λ (p : Indexed). world_flushed p.config p.world c.args.dir c.args.source c.args.rule c.args.now) c.self.view_is

pub returns-clause-answer : goal.returns-clause-answer
returns-clause-answer g c =
    let h = c.self.inside.indexes in
    let e : c.saturating_sub.result ≡ length h.states - length c.flush.new.indexes.states = search rules in
    e ∙ ap (λ xs. length h.states - length xs) c.flush.ensures.states ∙ flushed-count c.self.inside.indexes.config.profile c.args.dir c.args.source c.args.rule h.states
    ∙ ap (λ (p : Indexed). flushed_count p.config.profile p.world c.args.dir c.args.source c.args.rule) c.self.view_is

pub returns-clause-looks : goal.returns-clause-looks
returns-clause-looks g c = λ _.
    let h = c.self.inside.indexes in
    let e : c.saturating_sub.result ≡ length h.states - length c.flush.new.indexes.states = search rules in
    let k = e ∙ ap (λ xs. length h.states - length xs) c.flush.ensures.states ∙ flushed-count c.self.inside.indexes.config.profile c.args.dir c.args.source c.args.rule h.states in
    omega (arith, k, c.flush.ensures.looks, flushed-le c.self.inside.indexes.config.profile c.args.dir c.args.source c.args.rule h.states)

pub returns-clause-few_looks : goal.returns-clause-few_looks
returns-clause-few_looks g c = λ _.
    omega (arith, c.flush.ensures.looks, ap (λ (p : Indexed). source_states p.config.profile c.args.dir c.args.source p.world.states) c.self.view_is)

pub returns-clause-most : goal.returns-clause-most
returns-clause-most g c =
    let h = c.self.inside.indexes in
    omega (arith, c.flush.ensures.looks, count-le (is_beside c.self.inside.indexes.config.profile c.args.dir c.args.source) h.states, few-numbered c.self.inside.made h.states c.state_numbers_rise.ensures c.self.invariant.numbered, c.self.invariant.few)
