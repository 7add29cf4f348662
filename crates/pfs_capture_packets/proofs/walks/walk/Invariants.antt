-- Invariant of walk: from this header the turns that are left lead where all lead from the first.
use Rattle.std.proofs.Common.{◌≡◌, ◌-◌, length}
use Rattle.pfs_capture_packets.specs.Walks.{walk_from}
use Rattle.pfs_capture_packets.proofs.walks.walk.Given as goal

abbrev pub invariant-loop-turn : goal.invariant-loop-turn
invariant-loop-turn l = walk_from (length l.bytes - l._turn) l.layer l.bytes l.place ≡ walk_from (length l.bytes) l.layer l.bytes l.fn.first
