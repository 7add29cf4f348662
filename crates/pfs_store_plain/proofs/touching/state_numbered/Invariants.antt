-- Invariant of state_numbered: the first state that has the number is among those that are left.
use Rattle.std.proofs.Common.{◌≡◌, ◌==◌, drop}
use Rattle.std.specs.List.{find}
use Rattle.pfs_store_contract.specs.declared.records.State.{State}
use Rattle.pfs_store_plain.proofs.touching.state_numbered.Given as goal

-- the first is among the rest
abbrev pub invariant-loop-state : goal.invariant-loop-state
invariant-loop-state l =
    find (λ (s : State). s.number == l.number) (drop l.state-index l.states) ≡ find (λ (s : State). s.number == l.number) l.states
