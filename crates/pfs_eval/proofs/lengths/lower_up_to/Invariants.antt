-- Invariant of lower_up_to: the places so far are lowered, the others what they were.
use Rattle.std.proofs.Common.{◌≡◌, ◌<◌, ℕ, length, min, cond, nat_lt, get_or}
use Rattle.pfs_eval.proofs.lengths.lower_up_to.Given as goal

abbrev pub invariant-loop-place : goal.invariant-loop-place
invariant-loop-place l =
    (k : ℕ) → k < length l.places
    → get_or l.places k 0 ≡ cond (nat_lt k l.place) (min (get_or l.initial.places k 0) l.last) (get_or l.initial.places k 0)
