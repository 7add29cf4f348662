-- How deep the next item may be.
use Rattle.std.proofs.Common.{◌≡◌, arith}
use Rattle.pfs_conf.specs.declared.progress.Progress.{Progress}
use Rattle.pfs_conf.specs.ReaderResults.{IsAtDepth}

-- outside of all anchors the next item is always allowed
pub outside_in_order : (p : Progress) → p.depth ≡ 0 → IsAtDepth p
outside_in_order p e = record { order = omega (arith, e); shallow = omega (arith, e) }
