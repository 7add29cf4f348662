-- Answers of take_next: the frame is that of the capture in its place, which no read is made of.
use Rattle.std.proofs.Common.{get_or, refl, subst}
use Rattle.std.specs.Prelude.{OnErr}
use Rattle.std.specs.Vec.{vec_capacity}
use Rattle.std.proofs.lemmas.Option.{get_or_from_slice_get}
use Rattle.pfs_capture.specs.Captures.{seen_of}
use Rattle.pfs_capture.specs.Runs.{judged_at}
use Rattle.pfs_capture.specs.FrameTurns.{Overflows, frame_taken}
use Rattle.pfs_capture.specs.declared.captures.Capture.{Capture}
use Rattle.pfs_capture.proofs.Together.{failures-step}
use Rattle.pfs_capture.proofs.traces.take_next.Goals as goal

pub returns-clause-same : goal.returns-clause-same
returns-clause-same g c =
    failures-step c.args.captures.now c.args.place.index (get_or c.args.captures.now c.args.place.index c.index-captures-place.result) _ c.index-captures-place.result refl refl

pub returns-clause-refused : goal.returns-clause-refused
returns-clause-refused g c one here =
    let lines = c.args.lines.now in
    subst
    (λ (x : Capture _). OnErr c.take_frame.result (Overflows (frame_taken c.args.account.now (judged_at x.points.items (seen_of c.args.place.frame x.held.items) x.last)) (vec_capacity lines.row) (vec_capacity lines.answer)))
    (get_or_from_slice_get c.args.captures.now c.args.place.index one c.index-captures-place.result here) c.take_frame.ensures.refused

pub returns-clause-asks : goal.returns-clause-asks
returns-clause-asks g c one here =
    let same = get_or_from_slice_get c.args.captures.now c.args.place.index one c.index-captures-place.result here in
    rw same refl
