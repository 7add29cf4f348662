-- Invariant of count_passing: the count is that of the states so far that pass both tests.
use Rattle.std.proofs.Common.{◌≡◌, ◌≤◌, filter, length, take}
use Rattle.pfs_store_plain.proofs.leaving.count_passing.Given as goal

-- so many so far
abbrev pub invariant-loop-state : goal.invariant-loop-state
invariant-loop-state g l =
    (l.count ≡ length (filter (g.U.Test.passes l.other) (filter (g.T.Test.passes l.test) (take l.state-index l.states)))) × (l.count ≤ l.state-index)
