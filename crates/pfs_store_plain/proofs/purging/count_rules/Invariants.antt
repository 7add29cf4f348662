-- Invariant of count_rules: the states so far are counted by their rules.
use Rattle.std.proofs.Common.{take}
use Rattle.pfs_store_contract.specs.Plain.{AreCounts}
use Rattle.pfs_store_plain.proofs.purging.count_rules.Given as goal

-- those so far are counted
abbrev pub invariant-loop-state : goal.invariant-loop-state
invariant-loop-state l = AreCounts l.counts (take l.state-index l.states)
