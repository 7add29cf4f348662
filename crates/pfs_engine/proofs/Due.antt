-- No second is due at the last moment.
use Rattle.std.proofs.Common.{ℕ, ◌≡◌, ◌+◌, ◌-◌, [], Some, ap, arith}
use Rattle.std.specs.List.{range_with_len}
use Rattle.pfs_engine_machine.specs.Machine.{due}

pub none_due : (last now : ℕ) → last ≡ now → due (Some last) now ≡ []
none_due last now e =
    let zero : now - last ≡ 0 = omega arith in
    ap (range_with_len (last + 1)) zero
