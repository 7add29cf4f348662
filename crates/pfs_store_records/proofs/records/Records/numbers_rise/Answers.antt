-- Answers of Records::numbers_rise: the keys change no number.
use Rattle.std.proofs.Common.{◌∙◌, List, ap, subst, sym}
use Rattle.pfs_store_contract.specs.Purging.{state_numbers}
use Rattle.pfs_store_records.specs.Records.{IsRising, Placed, states_of}
use Rattle.pfs_store_records.proofs.Joining.{numbers-joined}
use Rattle.pfs_store_records.proofs.records.Records.numbers_rise.Goals as goal

pub returns : goal.returns
returns c =
    subst IsRising (sym (numbers-joined c.self.inside.aside c.self.inside.packed) ∙ ap (λ (ps : List Placed). state_numbers (states_of ps)) c.self.view_is) c.numbers_rise.ensures
