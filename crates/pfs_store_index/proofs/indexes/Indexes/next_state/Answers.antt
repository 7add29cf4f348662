-- Answer of Indexes::next_state: the numbers in order are those of the states.
use Rattle.std.proofs.Common.{◌∙◌, ap, slice_get}
use Rattle.pfs_store_contract.specs.Purging.{state_numbers}
use Rattle.pfs_store_index.specs.Holdings.{Holding}
use Rattle.pfs_store_index.specs.Rounds.{waiting}
use Rattle.pfs_store_index.proofs.indexes.Indexes.next_state.Goals as goal

pub returns : goal.returns
returns g c =
    c.next_between.ensures ∙ ap (λ ns. slice_get (waiting c.args.above c.args.most ns) 0) c.order.ensures.numbers
    ∙ ap (λ (h : Holding). slice_get (waiting c.args.above c.args.most (state_numbers h.states)) 0) c.self.view_is
