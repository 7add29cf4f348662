-- Answers of push_item: the braces of the anchors that close come before the item.
use Rattle.std.proofs.Common.{arith}
use Rattle.std.proofs.lemmas.Grind.{common_steps}
use Rattle.pfs_conf_show.proofs.items.push_item.Goals as goal

pub returns-in-Rule-clause-text : goal.returns-in-Rule-clause-text
returns-in-Rule-clause-text c = grind (arith, common_steps)

pub returns-in-Anchor-clause-text : goal.returns-in-Anchor-clause-text
returns-in-Anchor-clause-text c = grind (arith, common_steps)
