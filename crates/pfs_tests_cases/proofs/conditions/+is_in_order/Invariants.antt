-- What falls at each call of is_in_order by itself: the events that are left.
use Rattle.std.proofs.Common.{length}
use Rattle.pfs_tests_cases.proofs.conditions.+is_in_order.Given as goal

-- the events that are left
abbrev pub decreases-is_in_order : goal.decreases-is_in_order
decreases-is_in_order l = length l.events.now
