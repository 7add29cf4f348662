-- Answer of outcome_in: the part that is sorted is the frame.
use Rattle.std.proofs.Common.{◌∙◌, ℕ, List, ap}
use Rattle.pfs_capture.specs.Sorting.{found_in_frame}
use Rattle.pfs_capture.proofs.Clips.{clipped}
use Rattle.pfs_capture.proofs.traces.outcome_in.Goals as goal

pub returns-clause-is : goal.returns-clause-is
returns-clause-is c =
    c.sort.ensures.is
    ∙ ap (λ (b : List ℕ). found_in_frame c.args.points.now c.args.frame.name c.args.frame.link b)
    (clipped c.args.frame.from c.args.frame.count c.min.result c.min-2.result c.args.held.now c.min.ensures c.min-2.ensures)
