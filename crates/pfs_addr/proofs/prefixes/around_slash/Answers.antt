-- Answers of around_slash: the text is its parts around the first slash, or has no slash.
use Rattle.pfs_addr.proofs.TextLaws.{no_place, cut_parts}
use Rattle.pfs_addr.proofs.prefixes.around_slash.Goals as goal

pub returns-in-Some : goal.returns-in-Some
returns-in-Some c =
    cut_parts c.args.text.now c.split_at.result.0.now c.split_at.result.1.now c.split_at-in-Some.result.1.now c.in-Some.place c.in-Some.ensures.value
    c.split_at.ensures.front c.split_at.ensures.back c.split_at-in-Some.ensures.back

pub returns-in-None : goal.returns-in-None
returns-in-None c = no_place c.args.text.now c.in-None.ensures.value
