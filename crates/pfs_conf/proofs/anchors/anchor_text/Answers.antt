-- Answers of anchor_text: the head of an anchor is within its bounds, and its name is new in its body.
use Rattle.pfs_conf.proofs.PhraseLaws.{anchor_text_within, anchor_text_new}
use Rattle.pfs_conf.proofs.anchors.anchor_text.Goals as goal

pub returns-clause-within : goal.returns-clause-within
returns-clause-within c = anchor_text_within c.args.progress.now c.args.cursor.now c.read_anchor.new.cursor c.read_anchor.result c.requires c.read_anchor.ensures

pub returns-clause-name : goal.returns-clause-name
returns-clause-name c = anchor_text_new c.args.progress.now c.args.cursor.now c.read_anchor.new.cursor c.read_anchor.result c.read_anchor.ensures
