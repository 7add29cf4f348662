-- Invariant of asked_by: what the groups so far ask for, and what those from here on make of all.
use Rattle.std.proofs.Common.{drop, map}
use Rattle.pfs_capture_jobs.proofs.AskingLaws.{AskedSoFar}
use Rattle.pfs_capture_jobs.proofs.requests.asked_by.Given as goal

abbrev pub invariant-loop-words : goal.invariant-loop-words
invariant-loop-words l =
    AskedSoFar (map (λ g. map (λ w. w.now) g.items) l.groups) l.all.items (map (λ g. map (λ w. w.now) g.items) (drop l.words-index l.groups))
