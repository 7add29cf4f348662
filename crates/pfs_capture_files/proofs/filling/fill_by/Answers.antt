-- Answer of fill_by: also where there was no memory to keep them, few bytes were read (`few`).
use Rattle.std.proofs.Common.{arith, rules, ◌≤◌, ◌+◌, ℕ, List, length, take, length-take}
use Rattle.pfs_streams.proofs.Chunks.{left-after}
use Rattle.pfs_capture_files.proofs.filling.fill_by.Goals as goal

pub returns-then-is_err-clause-few : goal.returns-then-is_err-clause-few
returns-then-is_err-clause-few g c xs e =
    let (ys, left, all) = c.chunks.invariant.so_far xs e in
    let bs : List ℕ = take c.in-Ok.n c.read.new.buf in
    let room : length bs ≤ c.in-Ok.n = simp length-take (omega arith) in
    let fits : length c.chunks.buffer.items + c.in-Ok.n ≤ c.args.count = search rules in
    (length c.chunks.buffer.items + length bs, omega arith, left-after _ _ xs c.chunks.buffer.items bs ys left all c.in-Ok.ensures.bytes.0)
