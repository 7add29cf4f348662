-- Answers of read_text: a text ends where no anchor is open and it breaks no load rule, and is finished.
use Rattle.std.proofs.Common.{sym, ◌∙◌, arith}
use Rattle.pfs_conf.proofs.ReadLaws.{text_ends}
use Rattle.pfs_conf.proofs.LoadLaws.{not_some}
use Rattle.pfs_conf.proofs.statements.read_text.Goals as goal

pub finish-requires : goal.finish-requires
finish-requires c = sym c.text_breaks.ensures ∙ not_some c.text_breaks.result c.in_default.not-Some

pub returns : goal.returns
returns c = rw c.finish.ensures (text_ends c.args.cursor.now c.in_ok-progress.progress c.statements.new.cursor c.in_ok-progress.ensures (omega (arith, c.if-progress-gt0.false)) (sym c.text_breaks.ensures ∙ not_some c.text_breaks.result c.in_default.not-Some))
