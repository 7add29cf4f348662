-- The lines are those of the items all the while, and those from here on have their skips.
use Rattle.pfs_eval.specs.Lines.{AreLinesFrom}
use Rattle.pfs_eval.proofs.lines.lengthen.Given as goal

abbrev pub invariant-loop-place : goal.invariant-loop-place
invariant-loop-place l = AreLinesFrom l.place l.config.items l.lines
