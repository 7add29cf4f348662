-- Answers of Draft::push: a draft stays one, and how deep the next item may be (`depth`).
use Rattle.pfs_conf_settings.proofs.DraftLaws.{IsDraft_pushed}
use Rattle.pfs_conf_settings.proofs.OrderLaws.{depth_after_pushed}
use Rattle.pfs_conf_settings.proofs.drafts.Draft.push.Goals as goal

pub invariant_of-self : goal.invariant_of-self
invariant_of-self c =
    IsDraft_pushed _ c.args.self.now c.args.item c.push_item.new.items.items c.push_item.result c.self.view_is c.self.invariant
    c.requires.few c.requires.order c.requires.item c.requires.name c.push_item.ensures.ok c.push_item.ensures.err

pub returns-clause-depth : goal.returns-clause-depth
returns-clause-depth c = depth_after_pushed c.self.inside.items.items c.args.item c.push_item.new.items.items c.push_item.result c.push_item.ensures.ok
