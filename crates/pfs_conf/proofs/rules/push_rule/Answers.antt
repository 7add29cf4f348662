-- Answers of push_rule: a rule that breaks no load rule may be put into the draft.
use Rattle.pfs_conf.proofs.KeepLaws.{rule_items, rule_has_room, rule_is_kept}
use Rattle.pfs_conf.proofs.rules.push_rule.Goals as goal

pub push_rule-requires-clause-few : goal.push_rule-requires-clause-few
push_rule-requires-clause-few c = rw (c.in-Ok.ensures.named, rule_items c.args.text.now c.args.progress.now.draft) (rule_has_room c.args.progress.now.draft c.args.text.now c.requires.keeps)

pub push_rule-requires-clause-order : goal.push_rule-requires-clause-order
push_rule-requires-clause-order c = rw (c.in-Ok.ensures.named, rule_items c.args.text.now c.args.progress.now.draft) c.requires.order.order

pub push_rule-requires-clause-rule : goal.push_rule-requires-clause-rule
push_rule-requires-clause-rule c = rw (c.in-Ok.ensures.named, c.in-Ok.ensures.value) (rule_is_kept c.args.progress.now.draft c.args.text.now c.requires.text c.requires.keeps)
