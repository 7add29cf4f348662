-- Invariant of read_joined: what is kept, and the place in the line, are those of the bytes read so far.
use Rattle.std.proofs.Common.{◌≡◌, ◌≤◌, ◌-◌, ℕ, List, Some, length}
use Rattle.pfs_streams.specs.Places.{pending}
use Rattle.pfs_streams.proofs.Joining.{Joins}
use Rattle.pfs_streams.proofs.splitting.read_joined.Given as goal

abbrev pub invariant-bytes : goal.invariant-bytes
invariant-bytes g l = record {
  few : length l.kept.items ≤ 1048579;
  mark : length (pending l.place) ≤ length l.kept.items;
  so_far : (xs : List ℕ) → g.B.Read.remaining l.fn.input ≡ Some xs → Joins xs (g.B.Read.remaining l.input) l.kept.items l.place;
}

abbrev pub decreases-bytes : goal.decreases-bytes
decreases-bytes g l = 1048579 - length l.kept.items
