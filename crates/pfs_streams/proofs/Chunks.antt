-- What is left of what a reader gives, of which some has been kept, after one read more.
--
-- A crate above imports it as `use Rattle.pfs_streams.proofs.Chunks.{left-after}`.
use Rattle.std.proofs.Common.{◌≡◌, ◌+◌, ◌++◌, ◌∙◌, ℕ, List, length, drop, Option, Some, None, refl}
use Rattle.std.proofs.Math.Seq.{drop-append_seam, drop-append-add}
use Rattle.std.specs.Io.KnownBytes.{Consumes}

-- what a read took is off the front of what was left
pub left-after : (old new : Option (List ℕ)) (rs text bs ys : List ℕ) → old ≡ Some ys → rs ≡ text ++ ys → Consumes old new bs → new ≡ Some (drop (length text + length bs) rs)
left-after None new rs text bs ys e all took = cc
left-after (Some xs) None rs text bs ys e all took = absurd took
left-after (Some xs) (Some zs) rs text bs ys e all took =
    let same : xs ≡ ys = cc in
    let rest : drop (length text + length bs) (text ++ (bs ++ zs)) ≡ zs = drop-append-add text (bs ++ zs) (length bs) ∙ drop-append_seam bs zs in
    rw (all, ← same, took, rest) refl
