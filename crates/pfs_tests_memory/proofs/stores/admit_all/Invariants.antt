-- Invariant of admit_all: the store is made for the configuration.
use Rattle.std.proofs.Common.{◌≡◌}
use Rattle.pfs_tests_memory.proofs.stores.admit_all.Given as goal

-- the store is made for the configuration
abbrev pub invariant-loop-row : goal.invariant-loop-row
invariant-loop-row g l = g.S.Store.config l.store ≡ l.config
