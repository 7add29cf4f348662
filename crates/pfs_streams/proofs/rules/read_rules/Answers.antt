-- Answer of read_rules: also where there was no memory to keep them, few bytes were read (`few`).
use Rattle.std.proofs.Common.{arith, rules, ◌≤◌, ◌+◌, ℕ, List, length, take, length-take}
use Rattle.pfs_streams.proofs.Chunks.{left-after}
use Rattle.pfs_streams.proofs.rules.read_rules.Goals as goal

pub returns-then-is_err-clause-few : goal.returns-then-is_err-clause-few
returns-then-is_err-clause-few g c rs e =
    let (ys, left, all) = c.chunks.invariant.so_far rs e in
    let bs : List ℕ = take c.in-Ok.n c.read.new.buf in
    let room : length bs ≤ c.in-Ok.n = simp length-take (omega arith) in
    let fits : length c.chunks.text.items + c.in-Ok.n ≤ 1048577 = search rules in
    (length c.chunks.text.items + length bs, omega arith, left-after _ _ rs c.chunks.text.items bs ys left all c.in-Ok.ensures.bytes.0)
