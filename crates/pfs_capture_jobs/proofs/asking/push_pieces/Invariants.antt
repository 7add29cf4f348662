-- Invariant of push_pieces: the pieces so far stand behind the others.
use Rattle.std.proofs.Common.{◌≡◌, ◌++◌, map}
use Rattle.pfs_capture_jobs.proofs.asking.push_pieces.Given as goal

abbrev pub invariant-loop-piece : goal.invariant-loop-piece
invariant-loop-piece l = map (λ t. t.now) l.pieces.items ≡ map (λ t. t.now) l.initial.pieces.items ++ map (λ t. t.now) l.yielded
