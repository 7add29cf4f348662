-- The line of an item, part by part.
use Rattle.std.proofs.Common.{refl}
use Rattle.pfs_eval.proofs.lines.short_line.Goals as goal

pub returns : goal.returns
returns c = record {
  item = refl;
  asked = c.asked_tag.ensures;
  given = c.given_tag.ensures;
  next = c.next_place-next.ensures;
  stop = c.requires.stop;
}
