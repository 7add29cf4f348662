-- Invariant of ask: what lies ahead is what did, and no read has failed. It asks at most for the beginning and each item.
use Rattle.std.proofs.Common.{◌≡◌}
use Rattle.pfs_streams.specs.Feeds.{read_failures, unread}
use Rattle.pfs_capture.specs.Aheads.{Ahead, turns_left}
use Rattle.pfs_capture.specs.Runs.{Run}
use Rattle.pfs_capture.proofs.captures.Capture.ask.Given as goal

abbrev pub decreases-loop-self : goal.decreases-loop-self
decreases-loop-self g l = turns_left l.self.items l.self.form

abbrev pub invariant-loop-self : goal.invariant-loop-self
invariant-loop-self g l = record {
  ahead : (run : Run) → Ahead (unread g.R.Read.remaining) l.fn.self run → Ahead (unread g.R.Read.remaining) l.self run;
  reads : read_failures l.self.reader ≡ read_failures l.fn.self.reader;
}
