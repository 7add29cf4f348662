-- Answers of push_anchor: an anchor that breaks no load rule may be put into the draft.
use Rattle.std.proofs.Common.{arith}
use Rattle.pfs_conf.proofs.KeepLaws.{hosts_items, anchor_has_room, anchor_is_shallow, anchor_is_kept}
use Rattle.pfs_conf.proofs.anchors.push_anchor.Goals as goal

pub push_anchor-requires-clause-few : goal.push_anchor-requires-clause-few
push_anchor-requires-clause-few c = rw (c.in-Ok.ensures.named, hosts_items c.args.text.now.parameters.hosts c.args.progress.now.draft) (anchor_has_room c.args.progress.now.depth c.args.progress.now.draft c.args.text.now c.requires.keeps)

pub push_anchor-requires-clause-order : goal.push_anchor-requires-clause-order
push_anchor-requires-clause-order c = rw (c.in-Ok.ensures.named, hosts_items c.args.text.now.parameters.hosts c.args.progress.now.draft) c.requires.order.order

pub push_anchor-requires-clause-shallow : goal.push_anchor-requires-clause-shallow
push_anchor-requires-clause-shallow c = let h = anchor_is_shallow c.args.progress.now.depth c.args.progress.now.draft c.args.text.now c.requires.keeps in omega arith

pub push_anchor-requires-clause-anchor : goal.push_anchor-requires-clause-anchor
push_anchor-requires-clause-anchor c = rw (c.in-Ok.ensures.named, c.in-Ok.ensures.value) (anchor_is_kept c.args.progress.now.depth c.args.progress.now.draft c.args.text.now c.requires.text c.requires.keeps)

pub push_anchor-requires-clause-name : goal.push_anchor-requires-clause-name
push_anchor-requires-clause-name c = rw (c.in-Ok.ensures.named, c.in-Ok.ensures.value, hosts_items c.args.text.now.parameters.hosts c.args.progress.now.draft) c.requires.name
