-- Invariant of set_from: the places from the first to this one have the value, the others what they had.
use Rattle.std.proofs.Common.{◌≡◌, ◌<◌, ℕ, length, cond, ◌&&◌, nat_le, nat_lt, get_or}
use Rattle.pfs_eval.proofs.lines.set_from.Given as goal

abbrev pub invariant-loop-d : goal.invariant-loop-d
invariant-loop-d l = record {
  long : length l.stop_depths ≡ 18;
  set : (k : ℕ) → k < 18 → get_or l.stop_depths k 0 ≡ cond (nat_le l.from k && nat_lt k l.d) l.value (get_or l.initial.stop_depths k 0);
}
