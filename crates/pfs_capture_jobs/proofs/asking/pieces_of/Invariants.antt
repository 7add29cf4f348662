-- Invariant of pieces_of: the pieces so far, and then those of the values from here on, are those of all values.
use Rattle.std.proofs.Common.{◌≡◌, ◌++◌, drop, map}
use Rattle.pfs_capture_jobs.specs.Asked.{pieces_of}
use Rattle.pfs_capture_jobs.proofs.asking.pieces_of.Given as goal

abbrev pub invariant-loop-value : goal.invariant-loop-value
invariant-loop-value l =
    pieces_of (map (λ t. t.now) l.values) ≡ map (λ t. t.now) l.pieces.items ++ pieces_of (map (λ t. t.now) (drop l.value-index l.values))
