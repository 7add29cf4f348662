-- Answers of body_end: an item no deeper than this ends the body, and any other is part of it.
use Rattle.std.proofs.Common.{arith}
use Rattle.pfs_eval.proofs.LinesMade.{body-end, body-more}
use Rattle.pfs_eval.proofs.lines.body_end.Goals as goal

pub returns-then-item_at-depth-clause-value : goal.returns-then-item_at-depth-clause-value
returns-then-item_at-depth-clause-value c =
    omega (arith, body-end c.args.config.now.items c.loop-place.place c.args.depth c.item_at.result.now c.item_at.ensures.item c.if-item_at-depth.true, c.loop-place.invariant)

pub loop-place-preserved : goal.loop-place-preserved
loop-place-preserved c =
    omega (arith, body-more c.args.config.now.items c.loop-place.place c.args.depth c.item_at.result.now c.item_at.ensures.item c.if-item_at-depth.false, c.loop-place.invariant)
