-- Answers of take_event: the line of an event that is answered (`takes`), and its work, and that of one to which memory was refused
-- (`tallies`).
use Rattle.std.proofs.Common.{◌∙◌, ap, inr, subst}
use Rattle.pfs_engine_machine.specs.Machine.{Machine}
use Rattle.pfs_engine_machine.specs.declared.events.Way.{Way}
use Rattle.pfs_cli_formats.specs.Lines.{row_text}
use Rattle.pfs_cli.specs.Tallying.{tally_with}
use Rattle.pfs_cli.specs.RecordTurns.{WritesLine}
use Rattle.pfs_cli.proofs.Tallied.{turn-answered, work-answered}
use Rattle.pfs_cli.proofs.records.take_event.Goals as goal

pub returns-in-Ok-clause-takes : goal.returns-in-Ok-clause-takes
returns-in-Ok-clause-takes g c =
    let answer = c.in-Ok.ensures.ok in
    let (t, grown, line) = c.write_row.ensures.writes in
    let way-is = ap (λ (a : Way × Machine). a.0) answer in
    (t, grown, (subst (λ (w : Way). WritesLine (row_text c.args.row w) t c.write_row.result) way-is line, λ ends. ap (λ (a : Way × Machine). a.1) answer))

pub returns-in-Ok-clause-tallies : goal.returns-in-Ok-clause-tallies
returns-in-Ok-clause-tallies g c =
    let conf = c.args.engine.now.config in
    let m = c.args.engine.now.machine in
    let work = c.way-answer.new.self.work in
    let is = work-answered g.H.Store.counts conf m c.way-answer.new.self.machine c.args.event.now c.in-Ok.way work c.in-Ok.ensures.ok c.in-Ok.ensures.work in
    (work, turn-answered g.H.Store.counts conf m c.args.event.now c.write_row.result work is, c.add.ensures ∙ ap (tally_with c.args.tally.now) c.work.ensures)

pub returns-in-Err-clause-tallies : goal.returns-in-Err-clause-tallies
returns-in-Err-clause-tallies g c =
    (c.way-answer.new.self.work, inr (c.in-Err.field-0, c.in-Err.ensures.work), c.add.ensures ∙ ap (tally_with c.args.tally.now) c.work.ensures)
