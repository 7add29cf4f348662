-- Invariant of parse_flags: the letters left are flags' letters if all are; with them the flags become those of the text.
use Rattle.std.proofs.Common.{◌≡◌, drop}
use Rattle.std.specs.List.{list_all}
use Rattle.pfs_addr_values.specs.FlagSets.{is_flag_letter}
use Rattle.pfs_addr.specs.LetterSteps.{no_letter, with_letters}
use Rattle.pfs_addr.proofs.flag_sets.parse_flags.Given as goal

abbrev pub invariant-loop-letter : goal.invariant-loop-letter
invariant-loop-letter l = record {
  letters : list_all is_flag_letter (drop l.letter-index l.text) ≡ list_all is_flag_letter l.text;
  named : with_letters l.flags (drop l.letter-index l.text) ≡ with_letters no_letter l.text;
}
