-- One line after the other.
use Rattle.std.proofs.Common.{get_or, refl, ◌∙◌, arith}
use Rattle.pfs_eval.proofs.LinesMade.{each-none, each-more, depths-start, depths-more}
use Rattle.pfs_eval.proofs.lines.short_lines.Goals as goal

pub loop-place-init : goal.loop-place-init
loop-place-init c = record {
  long = omega (arith, c.in_ok-lines.ensures.len);
  each = each-none c.args.config.now.items c.in_ok-lines.lines.items c.in_ok-lines.ensures.items;
  depths_long = refl;
  depths = depths-start c.args.config.now.items;
}

pub loop-place-preserved : goal.loop-place-preserved
loop-place-preserved c =
    let items = c.args.config.now.items in
    let p = c.loop-place.place in
    let i = c.item_at-item.result.now in
    let at = c.item_at-item.ensures.item in
    let k = c.loop-place.invariant in
    record {
      long = omega (arith, c.in_ok-extend_from_slice.ensures.len, k.long);
      each = each-more items c.loop-place.lines.items c.extend_from_slice.new.self.items p i c.short_line.result c.in_ok-extend_from_slice.ensures.items k.long at c.short_line.ensures k.each;
      depths_long = c.set_from.array_long;
      depths = depths-more items p i (get_or c.loop-place.stop_depths i.depth 0)
          (λ d. get_or c.loop-place.stop_depths d 0)
          (λ d. get_or c.set_from.new.stop_depths d 0) at refl c.item_at-item.ensures.shallow k.depths (λ d l. c.set_from.ensures d l ∙ rw c.inside.ensures refl);
    }
