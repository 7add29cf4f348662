-- Invariant of state_inside: the first state that has the key inside is among those that are left.
use Rattle.std.proofs.Common.{◌≡◌, drop}
use Rattle.std.specs.List.{find}
use Rattle.pfs_addr_values.specs.Sameness.{same_key}
use Rattle.pfs_store_contract.specs.Worlds.{inner_key}
use Rattle.pfs_store_contract.specs.declared.records.State.{State}
use Rattle.pfs_store_plain.proofs.touching.state_inside.Given as goal

-- the first is among the rest
abbrev pub invariant-loop-state : goal.invariant-loop-state
invariant-loop-state l =
    find (λ (s : State). same_key (inner_key s) l.key) (drop l.state-index l.states) ≡ find (λ (s : State). same_key (inner_key s) l.key) l.states
