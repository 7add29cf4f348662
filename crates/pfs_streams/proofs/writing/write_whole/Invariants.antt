-- Invariant of write_whole: the bytes up to the place are written in order, and not flushed, and no write has failed.
use Rattle.std.proofs.Common.{◌≡◌, ◌≤◌, ◌<◌, ◌-◌, true, take, length}
use Rattle.std.specs.Io.KnownBytes.{Appends}
use Rattle.pfs_streams.specs.Sinks.{bytes_held, flushes_of, is_by_lines, is_unflushed, write_failures}
use Rattle.pfs_streams.proofs.writing.write_whole.Given as goal

abbrev pub invariant-loop-at : goal.invariant-loop-at
invariant-loop-at g l =
    (l.at ≤ length l.bytes)
    × Appends (bytes_held g.W.Write.contents l.initial.out) (bytes_held g.W.Write.contents l.out) (take l.at l.bytes)
    × (write_failures l.out ≡ write_failures l.initial.out)
    × (is_by_lines l.out ≡ is_by_lines l.initial.out)
    × (flushes_of l.out ≡ flushes_of l.initial.out)
    × (0 < l.at → is_unflushed l.out ≡ true)

abbrev pub decreases-loop-at : goal.decreases-loop-at
decreases-loop-at g l = length l.bytes - l.at
