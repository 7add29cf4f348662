-- Answer of is_by_lines: the text that clap reads of a flag is that of its row.
use Rattle.std.proofs.Common.{◌∙◌}
use Rattle.clap.specs.Words.{found_of}
use Rattle.clap.proofs.WalkLemmas.{one_text-rows}
use Rattle.pfs_words.specs.Words.{lines_flag}
use Rattle.pfs_words.proofs.flags.is_by_lines.Goals as goal

pub returns : goal.returns
returns c =
    let same = one_text-rows (found_of c.args.found.now) lines_flag in (
      λ e. c.get_flag.ensures.none (same ∙ e),
      λ e. c.get_flag.ensures.value (same ∙ e),
      λ e. c.get_flag.ensures.other (same ∙ e),
    )
