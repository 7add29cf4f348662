-- Invariant of renew: the states so far are renewed, and the others as before.
use Rattle.std.proofs.Common.{◌≡◌, ◌++◌, take, drop, map}
use Rattle.pfs_store_contract.specs.Touching.{numbered_state_after}
use Rattle.pfs_store_plain.proofs.touching.renew.Given as goal

-- those so far are renewed
abbrev pub invariant-loop-state : goal.invariant-loop-state
invariant-loop-state l =
    l.states ≡ map (numbered_state_after l.number l.packet l.now) (take l.state-index l.initial.states) ++ drop l.state-index l.initial.states
