-- Invariant of LinePlace::over: the bytes that are left lead from the place where all lead from the first.
use Rattle.std.proofs.Common.{◌≡◌, drop}
use Rattle.pfs_streams.specs.Places.{place_over}
use Rattle.pfs_streams.proofs.splitting.LinePlace.over.Given as goal

abbrev pub invariant-loop-byte : goal.invariant-loop-byte
invariant-loop-byte l = record { value : place_over l.place (drop l.byte-index l.bytes) ≡ place_over l.fn.self l.bytes }
