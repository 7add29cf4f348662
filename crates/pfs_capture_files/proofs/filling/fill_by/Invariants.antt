-- Invariant of fill_by: the bytes kept, few enough, and those unread are those that were unread; no read failed, and the buffer has the
-- room that it had.
use Rattle.std.proofs.Common.{◌≡◌, ◌≤◌, ◌-◌, ◌++◌, ℕ, List, Some, length}
use Rattle.std.specs.Vec.{vec_capacity}
use Rattle.pfs_streams.specs.Feeds.{read_failures, unread}
use Rattle.pfs_capture_files.proofs.filling.fill_by.Given as goal

abbrev pub invariant-chunks : goal.invariant-chunks
invariant-chunks g l = record {
  chunk : length l.chunk ≡ length l.fn.chunk;
  few : length l.buffer.items ≤ l.count;
  sound : read_failures l.reader ≡ read_failures l.fn.reader;
  room : vec_capacity l.fn.buffer ≤ vec_capacity l.buffer;
  so_far : (xs : List ℕ) → unread g.R.Read.remaining l.fn.reader ≡ Some xs
      → (ys : List ℕ) × (unread g.R.Read.remaining l.reader ≡ Some ys) × (xs ≡ l.buffer.items ++ ys);
}

abbrev pub decreases-chunks : goal.decreases-chunks
decreases-chunks g l = l.count - length l.buffer.items
