-- Answers of read_header: what is left of an empty trace, a failed read, other columns, and the header (`header`).
use Rattle.std.proofs.Common.{◌≡◌, sym, subst, ◌∙◌, Err, true, false}
use Rattle.pfs_cli.specs.declared.records.RecordsStop.{RecordsStop}
use Rattle.csv.specs.Reading.{default_config, reader_state}
use Rattle.csv.specs.Records.{fields_of}
use Rattle.pfs_trace.specs.Columns.{is_header}
use Rattle.pfs_trace.specs.Reading.{records_left}
use Rattle.pfs_trace.specs.Traces.{events_of}
use Rattle.pfs_cli.proofs.Telling.{HasNoRows, no-lines, told-empty, told-other, trace-rest}
use Rattle.pfs_cli.proofs.records.read_header.Goals as goal

pub returns-in-Ok-false-clause-header : goal.returns-in-Ok-false-clause-header
returns-in-Ok-false-clause-header g c xs s = λ conf.
    let r = rw c.in-Ok-false.field-0-test at c.in-Ok-false.ensures.reads in
    told-empty g.S.Read.remaining conf c.args.reader.now c.next_record.new.reader (fields_of c.next_record.new.fields) xs c.requires.config s r

pub returns-in-Err-clause-header : goal.returns-in-Err-clause-header
returns-in-Err-clause-header g c xs s = λ conf.
    let trace = events_of conf (records_left default_config (reader_state c.args.reader.now) xs) in
    subst (λ (x : RecordsStop). HasNoRows conf trace (Err x)) (sym c.in-Err.ensures.source.0) (no-lines conf trace, tt)

pub returns-else-has_columns-clause-header : goal.returns-else-has_columns-clause-header
returns-else-has_columns-clause-header g c xs s = λ conf.
    let r = rw c.in-Ok-true.field-0-test at c.in-Ok-true.ensures.reads in
    let other : is_header (fields_of c.next_record.new.fields) ≡ false = sym c.has_columns.ensures ∙ c.if-has_columns.false in
    told-other g.S.Read.remaining conf c.args.reader.now c.next_record.new.reader (fields_of c.next_record.new.fields) xs c.requires.config s r other

pub returns-then-has_columns-clause-header : goal.returns-then-has_columns-clause-header
returns-then-has_columns-clause-header g c xs s =
    let r = rw c.in-Ok-true.field-0-test at c.in-Ok-true.ensures.reads in
    let header : is_header (fields_of c.next_record.new.fields) ≡ true = sym c.has_columns.ensures ∙ c.if-has_columns.true in
    trace-rest g.S.Read.remaining c.args.reader.now c.next_record.new.reader (fields_of c.next_record.new.fields) xs c.requires.config s r header
