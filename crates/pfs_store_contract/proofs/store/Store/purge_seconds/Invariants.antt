-- Invariant of purge_seconds as a kind of store has it that says no other: the seconds that are left make of here what all make of the
-- beginning.
use Rattle.std.proofs.Common.{◌≡◌, ◌≤◌, ◌-◌}
use Rattle.pfs_store_contract.specs.Passages.{done_after, done_of, purged_of_none}
use Rattle.pfs_store_contract.specs.Seconds.{seconds}
use Rattle.pfs_store_contract.proofs.store.Store.purge_seconds.Given as goal

abbrev pub invariant-loop-second : goal.invariant-loop-second
invariant-loop-second g l =
    let held = g.Self.Store.world in
    let conf = g.Self.Store.config in
    record {
      order : l.second ≤ l.to;
      left : done_after g.Self.Store.counts (conf l.fn.self) (done_of (held l.self) l.purged) (seconds l.second l.to)
          ≡ done_after g.Self.Store.counts (conf l.fn.self) (done_of (held l.fn.self) purged_of_none) (seconds l.from l.to);
      same : conf l.self ≡ conf l.fn.self;
    }

abbrev pub decreases-loop-second : goal.decreases-loop-second
decreases-loop-second g l = l.to - l.second
