-- Invariant of tell_all: what is told is true.
use Rattle.pfs_eval.specs.Signs.{AreTrueWords}
use Rattle.pfs_eval.proofs.entries.tell_all.Given as goal

abbrev pub invariant-loop-place : goal.invariant-loop-place
invariant-loop-place l = AreTrueWords l.signs l.map.entries
