-- Answer of write_whole: a write that took some bytes leaves a front written that is longer by them.
use Rattle.std.proofs.Common.{rules, arith, ◌≤◌, ◌-◌, length, length-drop, length-take}
use Rattle.pfs_streams.proofs.Appending.{Appends-taken}
use Rattle.pfs_streams.proofs.writing.write_whole.Goals as goal

pub loop-at-preserved : goal.loop-at-preserved
loop-at-preserved g c =
    let room : c.in-Ok.n ≤ length c.args.bytes.now - c.loop-at.at = omega (arith, simp (length-take, length-drop) at c.in-Ok.ensures.bound) in (
      omega arith,
      Appends-taken _ _ _ c.loop-at.at c.in-Ok.n (length c.args.bytes.now - c.loop-at.at) c.args.bytes.now room c.loop-at.invariant.1 c.in-Ok.ensures.bytes,
      search rules,
      search rules,
      search rules,
      search rules,
    )
