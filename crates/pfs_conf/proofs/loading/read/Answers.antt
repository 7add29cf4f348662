-- Answers of read: what the tokens of the text give is loaded, and a fault is that of where reading stops.
use Rattle.std.proofs.Common.{sym, ap, ◌∙◌, arith}
use Rattle.pfs_conf.specs.Reading.{text_at}
use Rattle.pfs_conf.proofs.LexedLaws.{tokens_lexed}
use Rattle.pfs_conf.proofs.LoadLaws.{fault_read}
use Rattle.pfs_conf.proofs.loading.read.Goals as goal

pub read_text-requires : goal.read_text-requires
read_text-requires c = rw c.new-cursor.ensures (tokens_lexed c.args.text.now)

pub returns-in-Ok : goal.returns-in-Ok
returns-in-Ok c = record { short = omega (arith, c.if-text-gt-TEXT_LIMIT.false); left = c.read_text.new.cursor; reads = ap text_at (sym c.new-cursor.ensures) ∙ c.in-Ok.ensures }

pub returns-in-Err : goal.returns-in-Err
returns-in-Err c = rw c.fault_of.ensures (fault_read c.args.text.now c.new-cursor.result c.read_text.new.cursor c.in-Err.error (omega (arith, c.if-text-gt-TEXT_LIMIT.false)) c.new-cursor.ensures c.in-Err.ensures)
