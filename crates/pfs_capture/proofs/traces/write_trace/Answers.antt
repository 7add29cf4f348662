-- Answers of write_trace: what is written at each end of the run (`tells`), and of one frame more.
use Rattle.std.proofs.Common.{◌≡◌, ◌+◌, ◌∙◌, List, Ok, Err, inr, sym, ap, arith, subst}
use Rattle.std.proofs.lemmas.Result.{err_from_is_err_and}
use Rattle.pfs_streams.specs.Feeds.{unread}
use Rattle.pfs_streams.proofs.Flushing.{not-flushed}
use Rattle.pfs_capture.specs.Aheads.{Aheads}
use Rattle.pfs_capture.specs.Captures.{seen_of}
use Rattle.pfs_capture.specs.Merging.{captures_run}
use Rattle.pfs_capture.specs.Runs.{judged_at}
use Rattle.pfs_capture.specs.declared.faults.TraceStop.TheVariants as stop
use Rattle.pfs_capture.proofs.Running.{captured-headers, captured-none, captured-run, counted, ends-asked, ends-before, ends-end, ends-many, ends-send, headers, in-room, kept-ok, sends-these, so_far-asked, so_far-frame, so_far-start}
use Rattle.pfs_capture.proofs.Together.{chosen, chosen-here, none-comes, then-few, then-kept}
use Rattle.pfs_capture.proofs.traces.write_trace.Goals as goal

pub returns-in_err-begin_all-clause-tells : goal.returns-in_err-begin_all-clause-tells
returns-in_err-begin_all-clause-tells g c gs given =
    let p = err_from_is_err_and c.from_residual.result c.from_residual.ensures.1 in
    rw (p.1, p.2) (captured-none (unread g.R.Read.remaining) gs c.begin_all.new.captures _ _ c.new.result c.in_err-begin_all.field-0.0 c.new.ensures.is (c.in_err-begin_all.ensures.begin gs given))

pub returns-in_err-send-clause-tells : goal.returns-in_err-send-clause-tells
returns-in_err-send-clause-tells g c gs given =
    let begun = c.in_ok-begin_all.ensures.begin gs given in
    let (t, u, trace, answers, sends) = c.in_err-send.ensures.sends in
    let p = err_from_is_err_and c.from_residual-in_err-send.result c.from_residual-in_err-send.ensures.1 in
    rw (p.1, p.2) (captured-headers gs _ _ _ _ _ t u c.new.result c.in_err-send.field-0.0 begun.1 c.new.ensures.is trace answers (headers t u (Err c.in_err-send.field-0.0) sends))

pub returns-in_err-send-clause-first_read : goal.returns-in_err-send-clause-first_read
returns-in_err-send-clause-first_read g c = inr (kept-ok _ _ c.in_ok-begin_all.ensures.sound)

pub returns-in_err-send-clause-first_write : goal.returns-in_err-send-clause-first_write
returns-in_err-send-clause-first_write g c =
    let p = err_from_is_err_and c.from_residual-in_err-send.result c.from_residual-in_err-send.ensures.1 in
    rw (p.1, p.2) c.in_err-send.ensures.first_write

pub returns-in_err-send-clause-first_told : goal.returns-in_err-send-clause-first_told
returns-in_err-send-clause-first_told g c =
    let p = err_from_is_err_and c.from_residual-in_err-send.result c.from_residual-in_err-send.ensures.1 in
    rw (p.1, p.2) c.in_err-send.ensures.first_told

pub loop-turn-init : goal.loop-turn-init
loop-turn-init g c =
    let (t, u, trace, answers, sends) = c.in_ok-send.ensures.sends in
    let all = headers t u (Ok tt) sends in
    let is = c.new.ensures.is in
    let frames : c.new.result.frames ≡ 0 = ap (λ z. z.frames) is in
    record {
      few = omega (arith, frames);
      sum = c.new.ensures.sum;
      reads = kept-ok _ _ c.in_ok-begin_all.ensures.sound;
      writes = kept-ok _ _ c.in_ok-send.ensures.first_write;
      tells = kept-ok _ _ c.in_ok-send.ensures.first_told;
      rows_at_once = c.in_ok-send.ensures.rows_at_once;
      answers_at_once = c.in_ok-send.ensures.answers_at_once;
      so_far = λ gs given.
          let begun = c.in_ok-begin_all.ensures.begin gs given in
          rw (is) (so_far-start (unread g.R.Read.remaining) gs _ _ _ _ c.begin_all.new.captures begun.0 (rw all.0 at trace) (rw all.1 at answers));
    }

pub returns-in_err-ask_all-clause-tells : goal.returns-in_err-ask_all-clause-tells
returns-in_err-ask_all-clause-tells g c gs given =
    let begun = c.in_ok-begin_all.ensures.begin gs given in
    let h = c.loop-turn.invariant.so_far gs given in
    let f = c.in_err-ask_all.field-0.0 in
    let p = err_from_is_err_and c.from_residual-in_err-ask_all.result c.from_residual-in_err-ask_all.ensures.1 in
    rw (p.1, p.2) (captured-run gs _ _ _ _ _ c.loop-turn.account (Err f) begun.1
    (ends-asked (unread g.R.Read.remaining) (captures_run gs) _ _ _ _ c.loop-turn._turn c.loop-turn.account c.loop-turn.captures f h c.loop-turn-test.true c.in_err-ask_all.ensures.reads
    (λ runs a. c.in_err-ask_all.ensures.ahead runs a)))

pub returns-in_err-ask_all-clause-first_read : goal.returns-in_err-ask_all-clause-first_read
returns-in_err-ask_all-clause-first_read g c =
    let p = err_from_is_err_and c.from_residual-in_err-ask_all.result c.from_residual-in_err-ask_all.ensures.1 in
    rw (p.1, p.2) (then-kept _ _ _ c.loop-turn.invariant.reads c.in_err-ask_all.ensures.sound)

pub returns-in-None-clause-tells : goal.returns-in-None-clause-tells
returns-in-None-clause-tells g c gs given =
    let begun = c.in_ok-begin_all.ensures.begin gs given in
    let h = so_far-asked (unread g.R.Read.remaining) (captures_run gs) _ _ _ _ c.loop-turn._turn c.loop-turn.account c.loop-turn.captures c.ask_all.new.captures
    (c.loop-turn.invariant.so_far gs given) (λ runs a. c.in_ok-ask_all.ensures.ahead runs a) in
    captured-run gs _ _ _ _ _ c.loop-turn.account (Ok tt) begun.1
    (ends-end (unread g.R.Read.remaining) (captures_run gs) _ _ _ _ c.loop-turn._turn c.loop-turn.account c.ask_all.new.captures h c.loop-turn-test.true
    (none-comes (unread g.R.Read.remaining) c.ask_all.new.captures h.runs 0 c.in_ok-ask_all.ensures.asked (sym c.in-None.ensures.is) h.aheads))

pub returns-in-None-clause-first_read : goal.returns-in-None-clause-first_read
returns-in-None-clause-first_read g c = inr (kept-ok _ _ c.in_ok-ask_all.ensures.sound ∙ c.loop-turn.invariant.reads)

pub returns-in_err-take_next-clause-tells : goal.returns-in_err-take_next-clause-tells
returns-in_err-take_next-clause-tells g c gs given =
    let begun = c.in_ok-begin_all.ensures.begin gs given in
    let rem = unread g.R.Read.remaining in
    let run = captures_run gs in
    let h = so_far-asked rem run _ _ _ _ c.loop-turn._turn c.loop-turn.account c.loop-turn.captures c.ask_all.new.captures
    (c.loop-turn.invariant.so_far gs given) (λ runs a. c.in_ok-ask_all.ensures.ahead runs a) in
    let next = chosen rem c.ask_all.new.captures h.runs 0 c.in-Some.place c.in_ok-ask_all.ensures.asked (sym c.in-Some.ensures.is) h.aheads in
    let f = c.in_err-take_next.field-0.0 in
    let p = err_from_is_err_and c.from_residual-in_err-take_next.result c.from_residual-in_err-take_next.ensures.1 in
    rw (p.1, p.2) (captured-run gs _ _ _ _ _ c.take_next.new.account (Err f) begun.1
    (ends-before rem run _ _ _ _ c.loop-turn._turn c.loop-turn.account c.take_next.new.account c.ask_all.new.captures
    (judged_at next.capture.points.items (seen_of c.in-Some.place.frame next.capture.held.items) next.capture.last) next.rest f h c.loop-turn-test.true next.comes
    c.in_err-take_next.ensures.kept c.in_err-take_next.ensures.fails (c.in_err-take_next.ensures.refused next.capture (chosen-here rem c.ask_all.new.captures h.runs c.in-Some.place next).0)))

pub returns-in_err-take_next-clause-first_read : goal.returns-in_err-take_next-clause-first_read
returns-in_err-take_next-clause-first_read g c =
    inr (c.in_err-take_next.ensures.same ∙ (kept-ok _ _ c.in_ok-ask_all.ensures.sound ∙ c.loop-turn.invariant.reads))

pub returns-in_err-send-2-clause-tells : goal.returns-in_err-send-2-clause-tells
returns-in_err-send-2-clause-tells g c gs given =
    let begun = c.in_ok-begin_all.ensures.begin gs given in
    let rem = unread g.R.Read.remaining in
    let run = captures_run gs in
    let h = so_far-asked rem run _ _ _ _ c.loop-turn._turn c.loop-turn.account c.loop-turn.captures c.ask_all.new.captures
    (c.loop-turn.invariant.so_far gs given) (λ runs a. c.in_ok-ask_all.ensures.ahead runs a) in
    let place = c.in-Some.place in
    let next = chosen rem c.ask_all.new.captures h.runs 0 place c.in_ok-ask_all.ensures.asked (sym c.in-Some.ensures.is) h.aheads in
    let f = c.in_err-send-2.field-0.0 in
    let p = err_from_is_err_and c.from_residual-in_err-send-2.result c.from_residual-in_err-send-2.ensures.1 in
    let (t, u, trace, answers, sends) = c.in_err-send-2.ensures.sends in
    let which = chosen-here rem c.ask_all.new.captures h.runs place next in
    let row = c.take_next.new.lines.row.items in
    let answer = c.take_next.new.lines.answer.items in
    let grown = c.in_ok-take_next.ensures.capacity in
    let within = in-room c.take_next.new.lines.row in
    let within2 = in-room c.take_next.new.lines.answer in
    let left = subst (λ (cs : List _). Aheads rem cs next.rest) (sym (c.in_ok-take_next.ensures.asks next.capture which.0)) which.1 in
    rw (p.1, p.2) (captured-run gs _ _ _ _ _ c.take_next.new.account (Err f) begun.1
    (ends-send rem run _ _ _ _ _ _ (c.loop-turn._turn + 1) c.take_next.new.account c.take_next.new.captures row answer t u f
    (counted rem run _ _ _ _ c.loop-turn._turn c.loop-turn.account c.take_next.new.account c.ask_all.new.captures c.take_next.new.captures
    (judged_at next.capture.points.items (seen_of c.in-Some.place.frame next.capture.held.items) next.capture.last) next.rest row answer h c.loop-turn-test.true next.comes left
    (c.in_ok-take_next.ensures.takes next.capture which.0) grown.0 grown.1 within within2) trace answers
    (sends-these _ _ row answer t u (Err f) c.deref.ensures.value c.deref-in-loop-turn.ensures.value sends)))

pub returns-in_err-send-2-clause-first_read : goal.returns-in_err-send-2-clause-first_read
returns-in_err-send-2-clause-first_read g c =
    inr (c.in_ok-take_next.ensures.same ∙ (kept-ok _ _ c.in_ok-ask_all.ensures.sound ∙ c.loop-turn.invariant.reads))

pub returns-in_err-send-2-clause-first_write : goal.returns-in_err-send-2-clause-first_write
returns-in_err-send-2-clause-first_write g c =
    let p = err_from_is_err_and c.from_residual-in_err-send-2.result c.from_residual-in_err-send-2.ensures.1 in
    rw (p.1, p.2) (then-few _ _ _ c.loop-turn.invariant.writes c.in_err-send-2.ensures.first_write)

pub returns-in_err-send-2-clause-first_told : goal.returns-in_err-send-2-clause-first_told
returns-in_err-send-2-clause-first_told g c =
    let p = err_from_is_err_and c.from_residual-in_err-send-2.result c.from_residual-in_err-send-2.ensures.1 in
    rw (p.1, p.2) (then-few _ _ _ c.loop-turn.invariant.tells c.in_err-send-2.ensures.first_told)

pub returns-in_err-send-2-clause-rows_at_once : goal.returns-in_err-send-2-clause-rows_at_once
returns-in_err-send-2-clause-rows_at_once g c =
    not-flushed c.args.out.now c.loop-turn.out c.send-in-loop-turn.new.out c.loop-turn.invariant.rows_at_once c.in_err-send-2.ensures.rows_at_once

pub returns-in_err-send-2-clause-answers_at_once : goal.returns-in_err-send-2-clause-answers_at_once
returns-in_err-send-2-clause-answers_at_once g c =
    not-flushed c.args.answers.now c.loop-turn.answers c.send-in-loop-turn.new.answers c.loop-turn.invariant.answers_at_once c.in_err-send-2.ensures.answers_at_once

pub loop-turn-preserved : goal.loop-turn-preserved
loop-turn-preserved g c =
    let inv = c.loop-turn.invariant in
    let one = c.in_ok-take_next.ensures.one in
    let (t, u, trace, answers, sends) = c.in_ok-send-2.ensures.sends in
    let row = c.take_next.new.lines.row.items in
    let answer = c.take_next.new.lines.answer.items in
    let grown = c.in_ok-take_next.ensures.capacity in
    let within = in-room c.take_next.new.lines.row in
    let within2 = in-room c.take_next.new.lines.answer in
    let rem = unread g.R.Read.remaining in
    record {
      few = omega (arith, inv.few, one);
      sum = c.in_ok-take_next.ensures.sum;
      reads = c.in_ok-take_next.ensures.same ∙ (kept-ok _ _ c.in_ok-ask_all.ensures.sound ∙ inv.reads);
      writes = kept-ok _ _ c.in_ok-send-2.ensures.first_write ∙ inv.writes;
      tells = kept-ok _ _ c.in_ok-send-2.ensures.first_told ∙ inv.tells;
      rows_at_once = not-flushed c.args.out.now c.loop-turn.out c.send-in-loop-turn.new.out inv.rows_at_once c.in_ok-send-2.ensures.rows_at_once;
      answers_at_once = not-flushed c.args.answers.now c.loop-turn.answers c.send-in-loop-turn.new.answers inv.answers_at_once c.in_ok-send-2.ensures.answers_at_once;
      so_far = λ gs given.
          let run = captures_run gs in
          let h = so_far-asked rem run _ _ _ _ c.loop-turn._turn c.loop-turn.account c.loop-turn.captures c.ask_all.new.captures
          (inv.so_far gs given) (λ runs a. c.in_ok-ask_all.ensures.ahead runs a) in
          let place = c.in-Some.place in
          let next = chosen rem c.ask_all.new.captures h.runs 0 place c.in_ok-ask_all.ensures.asked (sym c.in-Some.ensures.is) h.aheads in
          let which = chosen-here rem c.ask_all.new.captures h.runs place next in
          let left = subst (λ (cs : List _). Aheads rem cs next.rest) (sym (c.in_ok-take_next.ensures.asks next.capture which.0)) which.1 in
          so_far-frame rem run _ _ _ _ _ _ (c.loop-turn._turn + 1) c.take_next.new.account c.take_next.new.captures row answer t u
          (counted rem run _ _ _ _ c.loop-turn._turn c.loop-turn.account c.take_next.new.account c.ask_all.new.captures c.take_next.new.captures
          (judged_at next.capture.points.items (seen_of c.in-Some.place.frame next.capture.held.items) next.capture.last) next.rest row answer h c.loop-turn-test.true next.comes left
          (c.in_ok-take_next.ensures.takes next.capture which.0) grown.0 grown.1 within within2) trace answers
          (sends-these _ _ row answer t u (Ok tt) c.deref.ensures.value c.deref-in-loop-turn.ensures.value sends);
    }

pub returns-clause-tells : goal.returns-clause-tells
returns-clause-tells g c gs given =
    let begun = c.in_ok-begin_all.ensures.begin gs given in
    captured-run gs _ _ _ _ _ c.loop-turn.account (Err stop.TooMany) begun.1
    (ends-many (unread g.R.Read.remaining) (captures_run gs) _ _ _ _ c.loop-turn._turn c.loop-turn.account c.loop-turn.captures (c.loop-turn.invariant.so_far gs given) (omega arith))
