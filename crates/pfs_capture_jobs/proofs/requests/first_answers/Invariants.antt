-- Invariant of first_answers: the groups so far name none.
use Rattle.std.proofs.Common.{◌≡◌, drop}
use Rattle.pfs_capture_jobs.specs.Requests.{first_answers}
use Rattle.pfs_capture_jobs.proofs.requests.first_answers.Given as goal

abbrev pub invariant-loop-group : goal.invariant-loop-group
invariant-loop-group l = first_answers (drop l.group-index l.asked) ≡ first_answers l.asked
