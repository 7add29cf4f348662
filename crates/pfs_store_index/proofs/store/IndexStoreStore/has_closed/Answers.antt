-- Answers of IndexStore's has_closed: the phase is that of the state that was found (`answer`).
use Rattle.std.proofs.Common.{◌≡◌, ◌∙◌, ◌==◌, Option, None, Some, ap, option_map, refl, sym}
use Rattle.std.specs.List.{find}
use Rattle.pfs_track.specs.StatePhases.{has_closed}
use Rattle.pfs_store_contract.specs.Worlds.{state_numbered}
use Rattle.pfs_store_contract.specs.declared.records.State.{State}
use Rattle.pfs_store_records.specs.ApartKeys.{rekeyed}
use Rattle.pfs_store_index.specs.Holdings.{Indexed, is_reached}
use Rattle.pfs_store_index.proofs.store.IndexStoreStore.has_closed.Goals as goal

-- the keys say nothing of it
keyless : (kept : State) (o : Option State) → option_map (λ (s : State). has_closed s.phase) (option_map (rekeyed kept) o) ≡ option_map (λ (s : State). has_closed s.phase) o
keyless kept None = refl
keyless kept (Some s) = refl

pub record-requires-clause-reached : goal.record-requires-clause-reached
record-requires-clause-reached g c = ap (λ (p : Indexed). is_reached p.records c.args.found) c.self.view_is ∙ c.requires.reached

pub returns-clause-answer : goal.returns-clause-answer
returns-clause-answer g c =
    let kept = c.record.result.now in
    ap Some (c.has_closed.ensures ∙ ap has_closed c.phase.ensures)
    ∙ ap (option_map (λ (s : State). has_closed s.phase)) (sym c.record.ensures.value)
    ∙ keyless kept (find (λ (s : State). s.number == c.args.found.number.0) c.self.inside.indexes.states)
    ∙ ap (λ (p : Indexed). option_map (λ (s : State). has_closed s.phase) (state_numbered c.args.found.number.0 p.world)) c.self.view_is
