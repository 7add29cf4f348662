-- Answers of take_record: an event that is read may be taken, and its turn is the record's (`takes`, `tallies`).
use Rattle.std.proofs.Common.{sym, ◌∙◌, [], refl}
use Rattle.csv.specs.Records.{fields_of}
use Rattle.pfs_trace.proofs.Stepping.{event-read}
use Rattle.pfs_cli.proofs.Tallied.{tallies-event}
use Rattle.pfs_cli.proofs.Telling.{Appends-nothing, takes-event}
use Rattle.pfs_cli.proofs.records.take_record.Goals as goal

pub take_event-requires-clause-order : goal.take_event-requires-clause-order
take_event-requires-clause-order g c =
    let judged = sym (rw (c.config.ensures, c.last.ensures) at c.read_event.ensures) ∙ c.in-Ok.is in
    (event-read c.args.engine.now.config c.args.row c.args.engine.now.machine.last (fields_of c.args.fields.now) c.in-Ok.event judged).order

pub take_event-requires-clause-moment : goal.take_event-requires-clause-moment
take_event-requires-clause-moment g c =
    let judged = sym (rw (c.config.ensures, c.last.ensures) at c.read_event.ensures) ∙ c.in-Ok.is in
    (event-read c.args.engine.now.config c.args.row c.args.engine.now.machine.last (fields_of c.args.fields.now) c.in-Ok.event judged).moment

pub take_event-requires-clause-table : goal.take_event-requires-clause-table
take_event-requires-clause-table g c =
    let judged = sym (rw (c.config.ensures, c.last.ensures) at c.read_event.ensures) ∙ c.in-Ok.is in
    (event-read c.args.engine.now.config c.args.row c.args.engine.now.machine.last (fields_of c.args.fields.now) c.in-Ok.event judged).table

pub returns-in-Ok-clause-takes : goal.returns-in-Ok-clause-takes
returns-in-Ok-clause-takes g c =
    let conf = c.args.engine.now.config in
    let judged = sym (rw (c.config.ensures, c.last.ensures) at c.read_event.ensures) ∙ c.in-Ok.is in
    let (t, grown, takes) = c.take_event.ensures.takes in
    (t, grown, takes-event conf c.args.row c.args.engine.now.machine (fields_of c.args.fields.now) c.in-Ok.event t c.take_event.result c.take_event.new.engine.machine judged takes)

pub returns-in-Err-clause-takes : goal.returns-in-Err-clause-takes
returns-in-Err-clause-takes g c = ([], Appends-nothing _, (sym (rw (c.config.ensures, c.last.ensures) at c.read_event.ensures) ∙ c.in-Err.is, refl))

pub returns-in-Ok-clause-tallies : goal.returns-in-Ok-clause-tallies
returns-in-Ok-clause-tallies g c =
    let conf = c.args.engine.now.config in
    let judged = sym (rw (c.config.ensures, c.last.ensures) at c.read_event.ensures) ∙ c.in-Ok.is in
    let (t, grown, takes) = c.take_event.ensures.takes in
    tallies-event g.H.Store.counts conf c.args.row c.args.engine.now.machine (fields_of c.args.fields.now) c.in-Ok.event t c.take_event.result c.take_event.new.engine.machine c.args.tally.now c.take_event.new.tally
    judged takes c.take_event.ensures.tallies

pub returns-in-Err-clause-tallies : goal.returns-in-Err-clause-tallies
returns-in-Err-clause-tallies g c = refl
