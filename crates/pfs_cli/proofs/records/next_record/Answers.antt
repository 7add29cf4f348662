-- Answers of next_record: the record that the reader gives, and a reader that failed.
use Rattle.std.proofs.Common.{◌∙◌, inl, refl}
use Rattle.pfs_cli.proofs.Telling.{failed-read}
use Rattle.pfs_cli.proofs.records.next_record.Goals as goal

pub returns-clause-reads : goal.returns-clause-reads
returns-clause-reads g c = c.in-Ok.ensures.reads c.requires.plain c.requires.ready

pub returns-clause-ready : goal.returns-clause-ready
returns-clause-ready g c = inl (c.in-Ok.ensures.ready c.requires.plain)

pub returns-in-Err-clause-source : goal.returns-in-Err-clause-source
returns-in-Err-clause-source g c =
    (refl, c.in-Err.ensures.fails ∙ failed-read g.S.Read.remaining c.args.reader.now c.read_byte_record.new.self _ c.requires.flexible (c.in-Err.ensures.why c.requires.ready))
