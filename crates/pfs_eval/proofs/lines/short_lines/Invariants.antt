-- The lines so far are those of their items.
use Rattle.std.proofs.Common.{◌≡◌, ◌≤◌, ℕ, [], length, get_or}
use Rattle.pfs_eval.specs.Lines.{EachLine, back, stop_depth_of}
use Rattle.pfs_eval.specs.Verdict.{enclosing}
use Rattle.pfs_eval.proofs.lines.short_lines.Given as goal

abbrev pub invariant-loop-place : goal.invariant-loop-place
invariant-loop-place l = record {
  long : length l.lines.items ≡ l.place;
  each : EachLine l.config.items l.lines.items;
  depths_long : length l.stop_depths ≡ 18;
  depths : (d : ℕ) → d ≤ 17 → get_or l.stop_depths d 0 ≡ stop_depth_of (enclosing d (back l.place [] l.config.items));
}
