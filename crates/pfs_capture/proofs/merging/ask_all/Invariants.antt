-- Invariant of ask_all: the captures so far are asked, what lies ahead of all is what did, and no read has failed.
use Rattle.std.proofs.Common.{◌≡◌, List}
use Rattle.pfs_streams.specs.Feeds.{unread}
use Rattle.pfs_capture.specs.Aheads.{Aheads, AreAsked}
use Rattle.pfs_capture.specs.Readers.{failures_of}
use Rattle.pfs_capture.specs.Runs.{Run}
use Rattle.pfs_capture.proofs.merging.ask_all.Given as goal

abbrev pub invariant-loop-index : goal.invariant-loop-index
invariant-loop-index g l = record {
  asked : AreAsked l.index l.captures;
  aheads : (runs : List Run) → Aheads (unread g.R.Read.remaining) l.fn.captures runs → Aheads (unread g.R.Read.remaining) l.captures runs;
  reads : failures_of l.captures ≡ failures_of l.fn.captures;
}
