-- Invariant of counted_rules: of the rules so far, none past those that are counted has an adaptive pair.
use Rattle.std.proofs.Common.{◌≡◌, ◌-◌, ◌<◌, ◌≤◌, ℕ, false}
use Rattle.pfs_store_index.specs.Stored.{has_pair}
use Rattle.pfs_store_index.proofs.expiring.counted_rules.Given as goal

-- of the rules so far, none past those that are read has a pair
abbrev pub invariant-loop-rule : goal.invariant-loop-rule
invariant-loop-rule l = record {
  within : l.read ≤ l.rule;
  most : l.rule ≤ l.rules;
  unread : (r : ℕ) → l.read ≤ r → r < l.rule → has_pair l.config r ≡ false;
}

abbrev pub decreases-loop-rule : goal.decreases-loop-rule
decreases-loop-rule l = l.rules - l.rule
