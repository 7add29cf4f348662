-- Answers of tell_records: what is written where memory for its reader is refused, behind a header, and without one (`tells`), and its
-- tally (`tallies`).
use Rattle.std.proofs.Common.{◌∙◌, List, [], Err, ap, inr, refl, rules, subst, sym}
use Rattle.csv.specs.Reading.{ChangesHeaders, strip_bom}
use Rattle.pfs_trace.specs.Traces.{Fields, Trace, events_of}
use Rattle.pfs_trace.specs.Reading.{records_of}
use Rattle.pfs_cli.specs.Tallies.{IsTallyOf, LeavesOfRun}
use Rattle.pfs_cli.specs.RecordTurns.{Tells}
use Rattle.pfs_cli.specs.declared.records.RecordsStop.TheVariants as stop
use Rattle.pfs_cli.proofs.Ending.{tallied-nothing}
use Rattle.pfs_cli.proofs.Telling.{Appends-nothing, at-start, rows-told}
use Rattle.pfs_cli.proofs.records.tell_records.Goals as goal

pub returns-then-is_err-clause-tells : goal.returns-then-is_err-clause-tells
returns-then-is_err-clause-tells g c xs e = ([], Appends-nothing _, inr refl)

pub returns-in-Ok-clause-tells : goal.returns-in-Ok-clause-tells
returns-in-Ok-clause-tells g c xs e =
    let conf = c.args.engine.now.config in
    let reader = c.from_reader-reader in
    let same : ChangesHeaders reader.result c.set_byte_headers.new.self = search rules in
    let begun = at-start g.S.Read.remaining c.args.source reader.result c.set_byte_headers.new.self xs e reader.ensures.source reader.ensures.state same in
    let (z, at_z, all) = c.in-Ok.ensures.header (strip_bom xs) begun.0 in
    let (t, grown, told) = c.tell_rows.ensures.tells z at_z in
    let P : Trace → Type 0 = λ trace. Tells conf trace t c.tell_rows.result in
    (t, grown, subst P (sym (ap (events_of conf) (sym begun.1) ∙ all conf)) (rows-told conf _ t c.tell_rows.result told))

pub returns-clause-tells : goal.returns-clause-tells
returns-clause-tells g c xs e =
    let conf = c.args.engine.now.config in
    let reader = c.from_reader-reader in
    let same : ChangesHeaders reader.result c.set_byte_headers.new.self = search rules in
    let begun = at-start g.S.Read.remaining c.args.source reader.result c.set_byte_headers.new.self xs e reader.ensures.source reader.ensures.state same in
    let P : List Fields → Type 0 = λ records. Tells conf (events_of conf records) [] (Err c.in-Err.stop) in
    ([], Appends-nothing _, subst P begun.1 (c.in-Err.ensures.header (strip_bom xs) begun.0 conf).0)

pub returns-then-is_err-clause-tallies : goal.returns-then-is_err-clause-tallies
returns-then-is_err-clause-tallies g c xs e = ([], Appends-nothing _, tallied-nothing g.H.Store.counts c.args.engine.now.config _ c.args.tally.now (Err stop.Memory) c.requires.none tt)

pub returns-in-Ok-clause-tallies : goal.returns-in-Ok-clause-tallies
returns-in-Ok-clause-tallies g c xs e =
    let conf = c.args.engine.now.config in
    let reader = c.from_reader-reader in
    let same : ChangesHeaders reader.result c.set_byte_headers.new.self = search rules in
    let begun = at-start g.S.Read.remaining c.args.source reader.result c.set_byte_headers.new.self xs e reader.ensures.source reader.ensures.state same in
    let (z, at_z, all) = c.in-Ok.ensures.header (strip_bom xs) begun.0 in
    let (t, grown, tallied) = c.tell_rows.ensures.tallies z at_z in
    let P : Trace → Type 0 = λ trace. IsTallyOf g.H.Store.counts conf trace t (LeavesOfRun c.tell_rows.result) c.tell_rows.new.tally in
    (t, grown, subst P (sym (ap (events_of conf) (sym begun.1) ∙ all conf)) tallied)

pub returns-clause-tallies : goal.returns-clause-tallies
returns-clause-tallies g c xs e =
    let conf = c.args.engine.now.config in
    let reader = c.from_reader-reader in
    let same : ChangesHeaders reader.result c.set_byte_headers.new.self = search rules in
    let begun = at-start g.S.Read.remaining c.args.source reader.result c.set_byte_headers.new.self xs e reader.ensures.source reader.ensures.state same in
    let P : List Fields → Type 0 = λ records. LeavesOfRun (Err c.in-Err.stop) (events_of conf records).0 in
    let left = subst P begun.1 (c.in-Err.ensures.header (strip_bom xs) begun.0 conf).1 in
    ([], Appends-nothing _, tallied-nothing g.H.Store.counts conf (events_of conf (records_of xs)) c.args.tally.now (Err c.in-Err.stop) c.requires.none left)
