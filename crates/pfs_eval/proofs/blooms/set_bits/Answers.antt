-- Answers of set_bits: both bits are set, and each that was stays so.
use Rattle.pfs_eval.proofs.Known.{both_of, past-noted, set-kept, set-noted}
use Rattle.pfs_eval.proofs.blooms.set_bits.Goals as goal

pub returns-then-place-words-clause-noted : goal.returns-then-place-words-clause-noted
returns-then-place-words-clause-noted c =
    set-noted c.args.words.now c.args.hash c.word_place-place.result _ c.word_place-place.ensures
    (both_of _ c.args.hash c.bit_of.ensures c.other_half.ensures c.bit_of-then-place-words.ensures) c.if-place-words.true

pub returns-then-place-words-clause-kept : goal.returns-then-place-words-clause-kept
returns-then-place-words-clause-kept c =
    set-kept c.args.words.now c.args.hash c.word_place-place.result _
    (both_of _ c.args.hash c.bit_of.ensures c.other_half.ensures c.bit_of-then-place-words.ensures) c.if-place-words.true

pub returns-else-place-words-clause-noted : goal.returns-else-place-words-clause-noted
returns-else-place-words-clause-noted c =
    past-noted c.args.words.now c.args.hash c.word_place-place.result c.word_place-place.ensures c.if-place-words.false
