-- A line whose skips are written anew stays the line of its item.
use Rattle.std.proofs.Common.{◌<◌, ◌-◌, length, arith}
use Rattle.std.proofs.lemmas.Option.{slice_get-get_or}
use Rattle.pfs_eval.proofs.LinesMade.{lines-set}
use Rattle.pfs_eval.proofs.lines.lengthen.Goals as goal

pub loop-place-preserved : goal.loop-place-preserved
loop-place-preserved c =
    let a = c.loop-place.invariant in
    let within : c.loop-place.place - 1 < length c.loop-place.lines = omega (arith, a.long, c.item_count-place.ensures.value) in
    lines-set c.args.config.now.items c.loop-place.lines c.loop-place.place (c.loop-place.place - 1) _ c.skips_at.result (omega arith) a
    (slice_get-get_or c.loop-place.lines (c.loop-place.place - 1) _ within) c.skips_at.ensures
