-- Invariant of read_rules: the bytes kept, few enough, and those unread are the rules; no read has failed.
use Rattle.std.proofs.Common.{◌≡◌, ◌≤◌, ◌-◌, ◌++◌, ℕ, List, Some, length}
use Rattle.pfs_streams.specs.Feeds.{bound_of, unread, read_failures}
use Rattle.pfs_streams.proofs.rules.read_rules.Given as goal

abbrev pub invariant-chunks : goal.invariant-chunks
invariant-chunks g l = record {
  few : length l.text.items ≤ 1048577;
  sound : read_failures l.rules ≡ 0;
  bound : bound_of l.rules ≡ bound_of l.fn.rules;
  so_far : (rs : List ℕ) → unread g.R.Read.remaining l.fn.rules ≡ Some rs
      → (ys : List ℕ) × (unread g.R.Read.remaining l.rules ≡ Some ys) × (rs ≡ l.text.items ++ ys);
}

abbrev pub decreases-chunks : goal.decreases-chunks
decreases-chunks g l = 1048577 - length l.text.items
