-- Answer of Records::order: the numbers of the records are those of the map (`numbers`).
use Rattle.std.proofs.Common.{◌∙◌, List, ap, sym}
use Rattle.pfs_store_contract.specs.Purging.{state_numbers}
use Rattle.pfs_store_records.specs.Records.{Placed, states_of}
use Rattle.pfs_store_records.proofs.Walking.{numbers-keys}
use Rattle.pfs_store_records.proofs.state_records.StateRecords.order.Goals as goal

pub returns-clause-numbers : goal.returns-clause-numbers
returns-clause-numbers c =
    sym (ap (λ (ps : List Placed). state_numbers (states_of ps)) (sym c.self.view_is)
    ∙ numbers-keys c.self.inside.slab c.self.inside.places.entries c.self.invariant.kept.placed)
