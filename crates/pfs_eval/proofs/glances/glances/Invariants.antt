-- What is kept so far is what is kept of the lines before this place.
use Rattle.std.proofs.Common.{◌≡◌, ℕ, Some, length, slice_get}
use Rattle.pfs_eval.specs.Glances.{IsGlance}
use Rattle.pfs_eval.specs.declared.glances.Glance.{Glance}
use Rattle.pfs_eval.specs.declared.lines.Line.{Line}
use Rattle.pfs_eval.proofs.glances.glances.Given as goal

abbrev pub invariant-loop-place : goal.invariant-loop-place
invariant-loop-place l = record {
  long : length l.glances.items ≡ l.place;
  each : (p : ℕ) (line : Line) (g : Glance) → slice_get l.lines p ≡ Some line → slice_get l.glances.items p ≡ Some g → IsGlance line g;
}
