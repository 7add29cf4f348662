-- Answer of rule_text: a rule that is read is within its bounds (`within`).
use Rattle.pfs_conf.proofs.PhraseLaws.{rule_text_within}
use Rattle.pfs_conf.proofs.rules.rule_text.Goals as goal

pub returns-clause-within : goal.returns-clause-within
returns-clause-within c = rule_text_within c.args.cursor.now c.read_rule.new.cursor c.read_rule.result c.requires c.read_rule.ensures
