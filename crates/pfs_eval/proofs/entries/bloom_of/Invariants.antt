-- Invariant of bloom_of: the entries before this place may be there.
use Rattle.pfs_eval.proofs.Known.{AreKnownBefore}
use Rattle.pfs_eval.proofs.entries.bloom_of.Given as goal

abbrev pub invariant-loop-place : goal.invariant-loop-place
invariant-loop-place l = AreKnownBefore l.place l.bloom l.map.entries
