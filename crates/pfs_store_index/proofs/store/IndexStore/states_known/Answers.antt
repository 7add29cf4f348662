-- Answer of IndexStore::states_known: where the round is over, the next slice begins one.
use Rattle.std.proofs.Common.{◌∙◌, ap, subst, sym}
use Rattle.pfs_store_contract.specs.Purging.{state_numbers}
use Rattle.pfs_store_index.specs.Holdings.{Indexed}
use Rattle.pfs_store_index.specs.QuietPurges.{AreStatesKnown}
use Rattle.pfs_store_index.specs.Rounds.{waiting}
use Rattle.pfs_store_index.specs.Stored.{world_of}
use Rattle.pfs_store_index.specs.declared.passages.KnownStay.{KnownStay}
use Rattle.pfs_store_index.proofs.Quieting.{states-before}
use Rattle.pfs_store_index.proofs.Turning.{over-empty}
use Rattle.pfs_store_index.proofs.store.IndexStore.states_known.Goals as goal

pub returns : goal.returns
returns g c = λ most.
    let s = c.self.inside in
    let numbers = c.order.ensures.numbers ∙ ap state_numbers c.records.ensures in
    subst (λ (q : Indexed × KnownStay). AreStatesKnown q.0.config q.0.world most q.1) (λ i. (c.self.view_is i, sym c.before-2.ensures i))
    (states-before s.indexes.config (world_of s.indexes s.states_round.cursor s.states_round.mark s.nodes_round.cursor s.nodes_round.mark s.made) most c.is_over.result
    (λ o. sym (ap (waiting s.states_round.cursor s.states_round.mark) numbers) ∙ over-empty _ (sym c.is_over.ensures ∙ o)))
