-- Invariant of earliest_from_last: the place is that of the captures from here on.
use Rattle.std.proofs.Common.{◌≡◌, drop}
use Rattle.pfs_capture.specs.Aheads.{earliest}
use Rattle.pfs_capture.proofs.merging.earliest_from_last.Given as goal

abbrev pub invariant-loop-index : goal.invariant-loop-index
invariant-loop-index g l = l.place ≡ earliest l.index (drop l.index l.captures)
