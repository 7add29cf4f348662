-- Invariant of write_trace: there is one frame for each turn at most, the account adds up, nothing has failed, and what is written is that
-- of the frames so far, for which the two lines have room.
use Rattle.std.proofs.Common.{◌≡◌, ◌≤◌, List}
use Rattle.std.specs.Vec.{vec_capacity}
use Rattle.pfs_streams.specs.Feeds.{unread}
use Rattle.pfs_streams.specs.Sinks.{NotFlushed, bytes_held, write_failures}
use Rattle.pfs_capture.specs.Accounts.{AddsUp}
use Rattle.pfs_capture.specs.Merging.{Given, captures_run}
use Rattle.pfs_capture.specs.Readers.{AreGiven, failures_of}
use Rattle.pfs_capture.proofs.Running.{SoFar}
use Rattle.pfs_capture.proofs.traces.write_trace.Given as goal

abbrev pub invariant-loop-turn : goal.invariant-loop-turn
invariant-loop-turn g l = record {
  few : l.account.frames ≤ l._turn;
  sum : AddsUp l.account;
  reads : failures_of l.captures ≡ failures_of l.fn.captures;
  writes : write_failures l.out ≡ write_failures l.fn.out;
  tells : write_failures l.answers ≡ write_failures l.fn.answers;
  rows_at_once : NotFlushed l.fn.out l.out;
  answers_at_once : NotFlushed l.fn.answers l.answers;
  so_far : (gs : List Given) → AreGiven (unread g.R.Read.remaining) l.fn.captures gs
      → SoFar (unread g.R.Read.remaining) (captures_run gs) (bytes_held g.W.Write.contents l.fn.out) (bytes_held g.W.Write.contents l.out)
      (bytes_held g.T.Write.contents l.fn.answers) (bytes_held g.T.Write.contents l.answers) l._turn l.account l.captures
      (vec_capacity l.lines.row) (vec_capacity l.lines.answer);
}
