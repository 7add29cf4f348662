-- What is kept of one line after the other.
use Rattle.std.proofs.Common.{◌<◌, arith, length, refl}
use Rattle.std.proofs.lemmas.Option.{slice_get_read}
use Rattle.pfs_eval.proofs.Glancing.{glances-more, glances-none}
use Rattle.pfs_eval.proofs.glances.glances.Goals as goal

pub loop-place-init : goal.loop-place-init
loop-place-init c = record {
  long = omega (arith, c.in_ok-glances.ensures.len);
  each = glances-none c.args.lines.now c.in_ok-glances.glances.items c.in_ok-glances.ensures.items;
}

pub loop-place-preserved : goal.loop-place-preserved
loop-place-preserved c =
    let lines = c.args.lines.now in
    let k = c.loop-place.invariant in
    let within : c.loop-place.place < length lines = omega arith in
    record {
      long = omega (arith, c.in_ok-extend_from_slice.ensures.len, k.long);
      each = glances-more lines c.loop-place.glances.items c.extend_from_slice.new.self.items c.loop-place.place c.index-lines-place.result c.glance_of.result
          c.in_ok-extend_from_slice.ensures.items k.long (slice_get_read lines _ c.loop-place.place _ refl within c.index-lines-place.is) c.glance_of.ensures k.each;
    }

pub returns : goal.returns
returns c = record { long = omega (arith, c.loop-place.invariant.long); each = c.loop-place.invariant.each }
