-- Invariant of follow: there is one table.
use Rattle.std.proofs.Common.{◌≡◌, length}
use Rattle.pfs_tests_rules.proofs.tests.tables.follow.Given as goal

-- the table is there
abbrev pub invariant-loop-step : goal.invariant-loop-step
invariant-loop-step g l = length l.tables.entries ≡ 1
