-- Invariant of first_capture: the groups so far name none.
use Rattle.std.proofs.Common.{◌≡◌, drop}
use Rattle.pfs_capture_jobs.specs.Requests.{first_capture}
use Rattle.pfs_capture_jobs.proofs.requests.first_capture.Given as goal

abbrev pub invariant-loop-group : goal.invariant-loop-group
invariant-loop-group l = first_capture (drop l.group-index l.asked) ≡ first_capture l.asked
