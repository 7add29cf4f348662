-- Invariant of own_sources: each group so far has its capture.
use Rattle.pfs_capture_jobs.specs.Requests.{AreOwn}
use Rattle.pfs_capture_jobs.proofs.requests.own_sources.Given as goal

abbrev pub invariant-loop-group : goal.invariant-loop-group
invariant-loop-group l = AreOwn l.yielded l.sources.items
