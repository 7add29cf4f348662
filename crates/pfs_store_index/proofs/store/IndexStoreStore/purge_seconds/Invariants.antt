-- Invariant of purge_seconds: the seconds that are left make of here what all make of the beginning; and what is known of them.
use Rattle.std.proofs.Common.{◌≡◌, ◌≤◌, ◌-◌, true}
use Rattle.pfs_store_contract.specs.Passages.{done_after, done_of, purged_of_none}
use Rattle.pfs_store_contract.specs.Seconds.{seconds}
use Rattle.pfs_store_index.specs.QuietPurges.{IsPassage}
use Rattle.pfs_store_index.proofs.store.IndexStoreStore.purge_seconds.Given as goal

abbrev pub invariant-loop-at : goal.invariant-loop-at
invariant-loop-at g l = record {
  order : l.at.second ≤ l.to;
  left : done_after true l.fn.self.config (done_of l.self.world l.at.purged) (seconds l.at.second l.to)
      ≡ done_after true l.fn.self.config (done_of l.fn.self.world purged_of_none) (seconds l.from l.to);
  known : IsPassage l.fn.self.config l.self.world l.at;
  same : l.self.config ≡ l.fn.self.config;
}

abbrev pub decreases-loop-at : goal.decreases-loop-at
decreases-loop-at g l = l.to - l.at.second
