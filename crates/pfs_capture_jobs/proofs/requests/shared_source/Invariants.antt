-- Invariant of shared_source: the interfaces are those of the groups so far.
use Rattle.std.proofs.Common.{◌≡◌, map}
use Rattle.pfs_capture_jobs.proofs.requests.shared_source.Given as goal

abbrev pub invariant-loop-group : goal.invariant-loop-group
invariant-loop-group l = l.points.items ≡ map (λ a. a.point) l.yielded
