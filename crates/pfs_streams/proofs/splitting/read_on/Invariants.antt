-- Invariant of read_on: the bytes that are left are split from the place as all are from the first; each turn took one.
use Rattle.std.proofs.Common.{◌≡◌, ℕ, List, Some}
use Rattle.pfs_streams.proofs.Joining.{ReadOn}
use Rattle.pfs_streams.proofs.splitting.read_on.Given as goal

abbrev pub invariant-chunks : goal.invariant-chunks
invariant-chunks g l = record {
  so_far : (xs : List ℕ) → g.B.Read.remaining l.fn.input ≡ Some xs → ReadOn l.fn.place xs (g.B.Read.remaining l.input) l.place l.counter;
}
