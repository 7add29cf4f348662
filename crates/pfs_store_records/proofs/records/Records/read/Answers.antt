-- Answers of Records::read: the state of a number, with the keys that lie aside for it (`value`).
use Rattle.std.proofs.Common.{◌∙◌, ◌==◌, List, Some, ap, option_map, sym}
use Rattle.std.specs.List.{find}
use Rattle.pfs_store_contract.specs.Worlds.{holds_number}
use Rattle.pfs_store_contract.specs.declared.records.State.{State}
use Rattle.pfs_store_records.specs.ApartKeys.{lying, with_keys}
use Rattle.pfs_store_records.specs.Records.{Placed, states_of}
use Rattle.pfs_store_records.proofs.Joining.{find-joined, holds-joined, numbered}
use Rattle.pfs_store_records.proofs.records.Records.read.Goals as goal

pub read-state-requires-clause-held : goal.read-state-requires-clause-held
read-state-requires-clause-held c =
    sym (holds-joined c.args.number c.self.inside.aside c.self.inside.packed) ∙ ap (λ (ps : List Placed). holds_number (states_of ps) c.args.number) c.self.view_is ∙ c.requires.held

pub returns-clause-value : goal.returns-clause-value
returns-clause-value c =
    let n = numbered c.args.number c.read-state.result (states_of c.self.inside.packed) (sym c.read-state.ensures.value) in
    ap Some (c.join.ensures ∙ ap (λ m. with_keys (lying c.self.inside.aside m) c.read-state.result) n)
    ∙ ap (option_map (with_keys (lying c.self.inside.aside c.args.number))) c.read-state.ensures.value
    ∙ sym (find-joined c.args.number c.self.inside.aside c.self.inside.packed)
    ∙ ap (λ (ps : List Placed). find (λ (s : State). s.number == c.args.number) (states_of ps)) c.self.view_is
