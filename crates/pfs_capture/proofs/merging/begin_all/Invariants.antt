-- Invariant of begin_all: the captures so far have begun, of the others nothing was read, and no read has failed.
use Rattle.std.proofs.Common.{◌≡◌, List}
use Rattle.pfs_streams.specs.Feeds.{unread}
use Rattle.pfs_capture.specs.Aheads.{HaveBegun}
use Rattle.pfs_capture.specs.Merging.{Given}
use Rattle.pfs_capture.specs.Readers.{AreGiven, failures_of}
use Rattle.pfs_capture.proofs.merging.begin_all.Given as goal

abbrev pub invariant-loop-index : goal.invariant-loop-index
invariant-loop-index g l = record {
  begun : (gs : List Given) → AreGiven (unread g.R.Read.remaining) l.fn.captures gs → HaveBegun (unread g.R.Read.remaining) l.index l.captures gs;
  reads : failures_of l.captures ≡ failures_of l.fn.captures;
}
