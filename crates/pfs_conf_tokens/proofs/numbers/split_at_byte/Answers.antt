-- Answer of split_at_byte: the parts around the first such byte are those of the definition.
use Rattle.pfs_conf_tokens.proofs.NumberLaws.{split_parts}
use Rattle.pfs_conf_tokens.proofs.numbers.split_at_byte.Goals as goal

pub returns-in-Some : goal.returns-in-Some
returns-in-Some c = split_parts c.args.byte c.args.text.now c.split_at.result.0.now c.split_at.result.1.now c.split_at-in-Some.result.1.now c.in-Some.place c.in-Some.ensures.value c.split_at.ensures.front c.split_at.ensures.back c.split_at-in-Some.ensures.back
