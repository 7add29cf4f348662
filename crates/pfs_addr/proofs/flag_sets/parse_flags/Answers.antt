-- Answers of parse_flags: one letter more, and the end of the text.
use Rattle.std.proofs.Common.{◌∙◌, arith, drop, sym}
use Rattle.std.proofs.lemmas.List.{drop_all}
use Rattle.pfs_addr.proofs.LetterLaws.{letters_left, flags_left, flags_found}
use Rattle.pfs_addr.proofs.flag_sets.parse_flags.Goals as goal

pub loop-letter-preserved : goal.loop-letter-preserved
loop-letter-preserved c =
    let inv = c.loop-letter.invariant in record {
      letters = letters_left c.args.text.now c.loop-letter.letter-index _ (omega arith) (sym c.is_letter.ensures ∙ c.if-not-is_letter.false) inv.letters;
      named = rw c.with_letter-flags.ensures (flags_left c.loop-letter.flags _ c.args.text.now c.loop-letter.letter-index (omega arith) inv.named);
    }

pub returns : goal.returns
returns c =
    let inv = c.loop-letter.invariant in
    flags_found c.loop-letter.flags c.args.text.now (drop c.loop-letter.letter-index c.args.text.now) (drop_all c.loop-letter.letter-index c.args.text.now (omega arith)) inv.letters inv.named
