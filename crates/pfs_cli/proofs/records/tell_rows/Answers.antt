-- Answers of tell_rows: one record more, and at each end the lines of the records so far (`tells`) and their tally (`tallies`).
use Rattle.std.proofs.Common.{refl, arith, subst, sym, ◌<◌, ◌+◌, ◌∙◌, ℕ, List, None, Ok, Err}
use Rattle.csv.specs.Reading.{default_config, reader_state}
use Rattle.csv.specs.Records.{fields_of}
use Rattle.pfs_addr_values.specs.Packets.{row_limit}
use Rattle.pfs_trace.specs.Reading.{records_left}
use Rattle.pfs_trace.specs.Traces.{events_from}
use Rattle.pfs_streams.specs.Sinks.{bytes_held}
use Rattle.pfs_streams.proofs.Flushing.{not-flushed}
use Rattle.pfs_cli.specs.RecordTurns.{WritesLine}
use Rattle.pfs_cli.specs.declared.records.RecordsStop.{RecordsStop}
use Rattle.pfs_cli.proofs.Ending.{EndsTallied, tallied-end, tallied-limit, tallied-record, tallied-source}
use Rattle.pfs_cli.proofs.Tallied.{TalliesRecord-rules}
use Rattle.pfs_cli.proofs.Telling.{EndsRows, so_far-start, so_far-more, ends-source, ends-end, ends-limit, ends-record, TakesRecord-rules}
use Rattle.pfs_cli.proofs.records.tell_rows.Goals as goal

pub loop-rows-init : goal.loop-rows-init
loop-rows-init g c = record {
  plain = c.requires.plain;
  ready = c.requires.ready;
  config = c.requires.config;
  flexible = c.requires.flexible;
  passed_on = c.requires.passed_on;
  at_once = (refl, λ e. refl);
  rules = refl;
  within = omega arith;
  taken = omega (arith, c.requires.taken);
  so_far = λ xs e. rw c.requires.first (so_far-start g.H.Store.counts g.S.Read.remaining c.args.engine.now.config _ c.args.reader.now xs c.args.tally.now e c.requires.none);
}

pub loop-rows-preserved : goal.loop-rows-preserved
loop-rows-preserved g c =
    let inv = c.loop-rows.invariant in
    let r = rw c.in-Ok-true.field-0-test at c.in-Ok-true.ensures.reads in
    let (t, grown, took) = c.in-Ok.ensures.takes in
    let (e, judged, takes) = rw inv.rules at took in
    let taken = TalliesRecord-rules g.H.Store.counts c.args.engine.now.config _ (c.loop-rows.rows + 1) c.loop-rows.engine.machine (fields_of c.next_record.new.fields)
    (Ok tt) c.loop-rows.tally c.take_record.new.tally inv.rules c.in-Ok.ensures.tallies in
    let few : c.loop-rows.rows < row_limit = omega arith in
    record {
      plain = r.3 ∙ inv.plain;
      ready = c.in-Ok-true.ensures.ready;
      config = r.2 ∙ inv.config;
      flexible = c.in-Ok-true.ensures.flexible;
      passed_on = c.in-Ok.ensures.passed_on;
      at_once = not-flushed c.args.out.now c.loop-rows.out c.take_record.new.out inv.at_once c.in-Ok.ensures.flushes;
      rules = c.in-Ok.ensures.config ∙ inv.rules;
      within = omega arith;
      taken = omega (arith, inv.taken, c.in-Ok.ensures.taken);
      so_far = λ xs s. so_far-more g.H.Store.counts g.S.Read.remaining c.args.engine.now.config _ _ _ _ c.loop-rows.rows c.loop-rows.engine.machine _ c.loop-rows.reader c.next_record.new.reader
          (fields_of c.next_record.new.fields) e t c.loop-rows.tally c.take_record.new.tally (inv.so_far xs s) inv.config few r judged grown takes (taken e judged);
    }

pub returns-in-Err-clause-tells : goal.returns-in-Err-clause-tells
returns-in-Err-clause-tells g c xs s =
    let trace = events_from c.args.engine.now.config 0 None (records_left default_config (reader_state c.args.reader.now) xs) in
    let before = bytes_held g.W.Write.contents c.args.out.now in
    let now = bytes_held g.W.Write.contents c.loop-rows.out in
    subst (λ (x : RecordsStop). EndsRows c.args.engine.now.config trace before now (Err x)) (sym c.in-Err.ensures.source.0)
    (ends-source g.S.Read.remaining c.args.engine.now.config trace before now c.loop-rows.rows c.loop-rows.engine.machine c.loop-rows.reader (c.loop-rows.invariant.so_far xs s).0)

pub returns-in-Ok-false-clause-tells : goal.returns-in-Ok-false-clause-tells
returns-in-Ok-false-clause-tells g c xs s =
    let inv = c.loop-rows.invariant in
    let r = rw c.in-Ok-false.field-0-test at c.in-Ok-false.ensures.reads in
    let (t, grown, wrote) = c.write_end.ensures.writes in
    let how = subst (λ (line : List ℕ). WritesLine line t c.write_end.result) c.end_line.ensures wrote in
    ends-end g.S.Read.remaining c.args.engine.now.config _ _ _ _ c.loop-rows.rows c.loop-rows.engine.machine c.loop-rows.reader c.next_record.new.reader
    (fields_of c.next_record.new.fields) c.write_end.result t (inv.so_far xs s).0 inv.config r grown how

pub returns-then-rows-eq-ROW_LIMIT-clause-tells : goal.returns-then-rows-eq-ROW_LIMIT-clause-tells
returns-then-rows-eq-ROW_LIMIT-clause-tells g c xs s =
    let inv = c.loop-rows.invariant in
    let r = rw c.in-Ok-true.field-0-test at c.in-Ok-true.ensures.reads in
    ends-limit g.S.Read.remaining c.args.engine.now.config _ _ _ c.loop-rows.rows c.loop-rows.engine.machine c.loop-rows.reader c.next_record.new.reader
    (fields_of c.next_record.new.fields) (inv.so_far xs s).0 inv.config r (omega arith)

pub returns-in-Err-take_record-clause-tells : goal.returns-in-Err-take_record-clause-tells
returns-in-Err-take_record-clause-tells g c xs s =
    let inv = c.loop-rows.invariant in
    let r = rw c.in-Ok-true.field-0-test at c.in-Ok-true.ensures.reads in
    let (t, grown, took) = c.in-Err-take_record.ensures.takes in
    let takes = TakesRecord-rules c.args.engine.now.config _ (c.loop-rows.rows + 1) c.loop-rows.engine.machine (fields_of c.next_record.new.fields) t
    (Err c.in-Err-take_record.stop) c.take_record.new.engine.machine inv.rules took in
    let few : c.loop-rows.rows < row_limit = omega arith in
    ends-record g.S.Read.remaining c.args.engine.now.config _ _ _ _ c.loop-rows.rows c.loop-rows.engine.machine c.take_record.new.engine.machine c.loop-rows.reader c.next_record.new.reader
    (fields_of c.next_record.new.fields) c.in-Err-take_record.stop t (inv.so_far xs s).0 inv.config r few grown takes

pub returns-in-Err-clause-tallies : goal.returns-in-Err-clause-tallies
returns-in-Err-clause-tallies g c xs s =
    let trace = events_from c.args.engine.now.config 0 None (records_left default_config (reader_state c.args.reader.now) xs) in
    let before = bytes_held g.W.Write.contents c.args.out.now in
    let now = bytes_held g.W.Write.contents c.loop-rows.out in
    subst (λ (x : RecordsStop). EndsTallied g.H.Store.counts c.args.engine.now.config trace before now (Err x) c.loop-rows.tally) (sym c.in-Err.ensures.source.0)
    (tallied-source g.H.Store.counts g.S.Read.remaining c.args.engine.now.config trace before now c.loop-rows.rows c.loop-rows.engine.machine c.loop-rows.reader c.loop-rows.tally (c.loop-rows.invariant.so_far xs s))

pub returns-in-Ok-false-clause-tallies : goal.returns-in-Ok-false-clause-tallies
returns-in-Ok-false-clause-tallies g c xs s =
    let inv = c.loop-rows.invariant in
    let r = rw c.in-Ok-false.field-0-test at c.in-Ok-false.ensures.reads in
    let (t, grown, wrote) = c.write_end.ensures.writes in
    let how = subst (λ (line : List ℕ). WritesLine line t c.write_end.result) c.end_line.ensures wrote in
    tallied-end g.H.Store.counts g.S.Read.remaining c.args.engine.now.config _ _ _ _ c.loop-rows.rows c.loop-rows.engine.machine c.loop-rows.reader c.next_record.new.reader
    (fields_of c.next_record.new.fields) c.write_end.result t c.loop-rows.tally (inv.so_far xs s) inv.config r grown how

pub returns-then-rows-eq-ROW_LIMIT-clause-tallies : goal.returns-then-rows-eq-ROW_LIMIT-clause-tallies
returns-then-rows-eq-ROW_LIMIT-clause-tallies g c xs s =
    let inv = c.loop-rows.invariant in
    let r = rw c.in-Ok-true.field-0-test at c.in-Ok-true.ensures.reads in
    tallied-limit g.H.Store.counts g.S.Read.remaining c.args.engine.now.config _ _ _ c.loop-rows.rows c.loop-rows.engine.machine c.loop-rows.reader c.next_record.new.reader
    (fields_of c.next_record.new.fields) c.loop-rows.tally (inv.so_far xs s) inv.config r (omega arith)

pub returns-in-Err-take_record-clause-tallies : goal.returns-in-Err-take_record-clause-tallies
returns-in-Err-take_record-clause-tallies g c xs s =
    let inv = c.loop-rows.invariant in
    let r = rw c.in-Ok-true.field-0-test at c.in-Ok-true.ensures.reads in
    let (t, grown, took) = c.in-Err-take_record.ensures.takes in
    let takes = TakesRecord-rules c.args.engine.now.config _ (c.loop-rows.rows + 1) c.loop-rows.engine.machine (fields_of c.next_record.new.fields) t
    (Err c.in-Err-take_record.stop) c.take_record.new.engine.machine inv.rules took in
    let tallies = TalliesRecord-rules g.H.Store.counts c.args.engine.now.config _ (c.loop-rows.rows + 1) c.loop-rows.engine.machine (fields_of c.next_record.new.fields)
    (Err c.in-Err-take_record.stop) c.loop-rows.tally c.take_record.new.tally inv.rules c.in-Err-take_record.ensures.tallies in
    let few : c.loop-rows.rows < row_limit = omega arith in
    tallied-record g.H.Store.counts g.S.Read.remaining c.args.engine.now.config _ _ _ _ c.loop-rows.rows c.loop-rows.engine.machine c.take_record.new.engine.machine c.loop-rows.reader c.next_record.new.reader
    (fields_of c.next_record.new.fields) c.in-Err-take_record.stop t c.loop-rows.tally c.take_record.new.tally (inv.so_far xs s) inv.config r few grown takes tallies
