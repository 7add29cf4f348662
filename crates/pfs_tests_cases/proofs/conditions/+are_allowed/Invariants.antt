-- What falls at each call of are_allowed by itself: the events that are left.
use Rattle.std.proofs.Common.{length}
use Rattle.pfs_tests_cases.proofs.conditions.+are_allowed.Given as goal

-- the events that are left
abbrev pub decreases-are_allowed : goal.decreases-are_allowed
decreases-are_allowed l = length l.events.now
