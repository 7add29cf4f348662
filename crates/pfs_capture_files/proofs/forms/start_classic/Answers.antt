-- Answer of start_classic: where a read failed, or memory was refused, nothing behind the header was read.
use Rattle.std.proofs.lemmas.Result.{err_from_is_err_and}
use Rattle.pfs_capture_files.proofs.StartLaws.{classic_within}
use Rattle.pfs_capture_files.proofs.forms.start_classic.Goals as goal

pub returns-in_err-fill-clause-within : goal.returns-in_err-fill-clause-within
returns-in_err-fill-clause-within g c =
    let p = err_from_is_err_and c.from_residual.result c.from_residual.ensures.1 in
    rw (p.1) (λ xs e.
    let (k, few, left) = c.in_err-fill.ensures.few xs e in
    classic_within c.args.order c.args.precision c.args.lengths xs _ k few left)
