-- Answers of bloom_of: one entry after the other is noted.
use Rattle.std.proofs.Common.{ap, sym, ◌∙◌, arith}
use Rattle.std.specs.Prelude.{option_map}
use Rattle.std.specs.Map.Iter.{deref_pair}
use Rattle.pfs_eval.proofs.Known.{known-all, known-more, known-none}
use Rattle.pfs_eval.proofs.entries.bloom_of.Goals as goal

pub loop-place-init : goal.loop-place-init
loop-place-init c = known-none c.in_ok-bloom.bloom c.args.map.now.entries

pub loop-place-preserved : goal.loop-place-preserved
loop-place-preserved c =
    known-more c.args.map.now.entries c.loop-place.bloom c.note.new.self c.loop-place.place _ c.addr.result c.bits.result c.loop-place.invariant
    (sym c.get_index.ensures.entry ∙ ap (option_map deref_pair) c.unwrap.ensures) c.addr.ensures.value c.bits.ensures.value
    (record { noted = c.note.ensures.noted; kept = c.note.ensures.kept })

pub returns : goal.returns
returns c = known-all c.args.map.now.entries c.loop-place.bloom c.loop-place.place c.loop-place.invariant (omega (arith, c.loop-place-test.false, c.len-place-end.ensures.len))
