-- Invariant of passed: as many numbers were passed by as were counted, and no more than the share.
use Rattle.std.proofs.Common.{◌≤◌, ◌-◌}
use Rattle.pfs_store_index.proofs.Turning.{Passing}
use Rattle.pfs_store_index.proofs.rounds.passed.Given as goal

abbrev pub invariant-loop-passed : goal.invariant-loop-passed
invariant-loop-passed l = record {
  passing : Passing l.places.entries l.rest l.above l.last l.most l.passed;
  share : l.passed ≤ l.share;
}

abbrev pub decreases-loop-passed : goal.decreases-loop-passed
decreases-loop-passed l = l.share - l.passed
