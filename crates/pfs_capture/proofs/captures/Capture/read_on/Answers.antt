-- Answers of read_on: what lies ahead of the capture stays as it is, or stops with the fault.
use Rattle.std.proofs.Common.{◌<◌, sym, arith}
use Rattle.std.proofs.lemmas.Result.{err_from_is_err_and}
use Rattle.pfs_streams.specs.Feeds.{unread}
use Rattle.pfs_capture.proofs.Asking.{ahead-end, ahead-other, ahead-waits, stops-item, stops-many, stops-moment}
use Rattle.pfs_capture.proofs.captures.Capture.read_on.Goals as goal

pub returns-then-self-eq0-clause-ahead : goal.returns-then-self-eq0-clause-ahead
returns-then-self-eq0-clause-ahead g c run h inside =
    let s = c.args.self.now in
    stops-many (unread g.R.Read.remaining) s.points.items s.last s.items s.held.items s.next s.form c.in-Some.form s.reader run c.requires c.in-Some.is c.if-self-eq0.true h

pub returns-in_err-self-in-Ok-Frame-clause-ahead : goal.returns-in_err-self-in-Ok-Frame-clause-ahead
returns-in_err-self-in-Ok-Frame-clause-ahead g c run h =
    let s = c.args.self.now in
    let few : 0 < c.args.self.now.items = omega arith in
    let p = err_from_is_err_and c.from_residual.result c.from_residual.ensures.1 in
    rw (p.1, p.2) (λ inside.
    stops-moment (unread g.R.Read.remaining) s.points.items s.last s.items s.held.items c.read_item.new.buffer.items s.next s.form c.in-Some.form c.read_item.new.form c.in-Ok-Frame.frame
    s.reader c.read_item.new.reader run c.in_err-self-in-Ok-Frame.field-0.0 c.requires c.in-Some.is few
    (λ xs e. rw (c.in-Ok-Frame.field-0-is, c.in-Ok-Frame.frame-is) at (c.in-Ok-Frame.ensures.is xs e)) (sym c.in_err-self-in-Ok-Frame.ensures.is) h)

pub returns-in-Err-clause-ahead : goal.returns-in-Err-clause-ahead
returns-in-Err-clause-ahead g c run h =
    let s = c.args.self.now in
    let few : 0 < c.args.self.now.items = omega arith in
    stops-item (unread g.R.Read.remaining) s.points.items s.last s.items s.held.items c.read_item.new.buffer.items s.next s.form c.in-Some.form c.read_item.new.form
    s.reader c.read_item.new.reader run c.in-Err.fault c.requires c.in-Some.is few (λ xs e. c.in-Err.ensures.is xs e) h

pub returns-in-Ok-End-clause-ahead : goal.returns-in-Ok-End-clause-ahead
returns-in-Ok-End-clause-ahead g c run h =
    let s = c.args.self.now in
    let few : 0 < c.args.self.now.items = omega arith in
    ahead-end (unread g.R.Read.remaining) s.points.items s.last s.items s.held.items c.read_item.new.buffer.items s.next s.form c.in-Some.form c.read_item.new.form
    s.reader c.read_item.new.reader run c.requires c.in-Some.is few (λ xs e. rw c.in-Ok-End.field-0-is at (c.in-Ok-End.ensures.is xs e)) h

pub returns-in-Ok-Other-clause-ahead : goal.returns-in-Ok-Other-clause-ahead
returns-in-Ok-Other-clause-ahead g c run h =
    let s = c.args.self.now in
    let few : 0 < c.args.self.now.items = omega arith in
    ahead-other (unread g.R.Read.remaining) s.points.items s.last s.items s.held.items c.read_item.new.buffer.items s.next s.form c.in-Some.form c.read_item.new.form
    s.reader c.read_item.new.reader run c.requires c.in-Some.is few (λ xs e. rw c.in-Ok-Other.field-0-is at (c.in-Ok-Other.ensures.is xs e)) h

pub returns-in_ok-self-in-Ok-Frame-clause-ahead : goal.returns-in_ok-self-in-Ok-Frame-clause-ahead
returns-in_ok-self-in-Ok-Frame-clause-ahead g c run h =
    let s = c.args.self.now in
    let few : 0 < c.args.self.now.items = omega arith in
    ahead-waits (unread g.R.Read.remaining) s.points.items s.last c.in_ok-self-in-Ok-Frame.field-0 s.items s.held.items c.read_item.new.buffer.items s.next s.form c.in-Some.form c.read_item.new.form
    c.in-Ok-Frame.frame s.reader c.read_item.new.reader run c.requires c.in-Some.is few
    (λ xs e. rw (c.in-Ok-Frame.field-0-is, c.in-Ok-Frame.frame-is) at (c.in-Ok-Frame.ensures.is xs e)) (sym c.in_ok-self-in-Ok-Frame.ensures.is) h
