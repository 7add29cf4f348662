-- Invariant of tell_rows: the lines written, the machine and the tally are those of the records read so far, and by lines none is to be flushed.
use Rattle.pfs_streams.specs.Sinks.{bytes_held}
use Rattle.pfs_cli.proofs.Telling.{Running}
use Rattle.pfs_cli.proofs.records.tell_rows.Given as goal

abbrev pub invariant-loop-rows : goal.invariant-loop-rows
invariant-loop-rows g l =
    Running g.H.Store.counts g.S.Read.remaining l.initial.reader l.initial.engine (bytes_held g.W.Write.contents l.initial.out) (bytes_held g.W.Write.contents l.out) l.initial.out l.out l.rows l.engine l.reader l.tally
