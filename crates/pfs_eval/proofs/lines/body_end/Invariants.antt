-- Invariant of body_end: the body ends, seen from here, where it ends seen from the start.
use Rattle.std.proofs.Common.{◌≡◌, ◌+◌, drop}
use Rattle.pfs_eval.specs.Skips.{body_length}
use Rattle.pfs_eval.proofs.lines.body_end.Given as goal

abbrev pub invariant-loop-place : goal.invariant-loop-place
invariant-loop-place l = l.place + body_length l.depth (drop l.place l.config.items) ≡ l.from + body_length l.depth (drop l.from l.config.items)
