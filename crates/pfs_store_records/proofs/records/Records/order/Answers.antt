-- Answers of Records::order: the keys change no number (`numbers`).
use Rattle.std.proofs.Common.{◌∙◌, List, ap, sym}
use Rattle.pfs_store_contract.specs.Purging.{state_numbers}
use Rattle.pfs_store_records.specs.Records.{Placed, states_of}
use Rattle.pfs_store_records.proofs.Joining.{numbers-joined}
use Rattle.pfs_store_records.proofs.records.Records.order.Goals as goal

pub returns-clause-numbers : goal.returns-clause-numbers
returns-clause-numbers c =
    c.order.ensures.numbers ∙ sym (numbers-joined c.self.inside.aside c.self.inside.packed) ∙ ap (λ (ps : List Placed). state_numbers (states_of ps)) c.self.view_is
