-- Invariant of walk_range: those passed so far all stay, each was one look, and the rest is still to come.
use Rattle.std.proofs.Common.{◌≡◌, ◌≤◌, ◌+◌, ◌-◌}
use Rattle.pfs_store_records.specs.StayTimes.{IsStay}
use Rattle.pfs_store_records.specs.Walks.{end_of, state_has_expired}
use Rattle.pfs_store_records.proofs.Walking.{Each, Stays, Until, Walking}
use Rattle.pfs_store_records.proofs.state_records.walk_range.Given as goal

abbrev pub invariant-loop-stayed : goal.invariant-loop-stayed
invariant-loop-stayed g l = record {
  walking : Walking (Stays (state_has_expired (g.T.Lifetimes.lifetime l.lifetimes) l.now) l.slab) l.places.entries l.rest l.fn.round.cursor l.last l.fn.round.mark l.stayed;
  until : Each (Until (end_of (g.T.Lifetimes.lifetime l.lifetimes)) l.slab l.until) l.fn.round.cursor l.last l.places.entries;
  known : IsStay (g.T.Lifetimes.lifetime l.lifetimes) l.known;
  share : l.stayed ≤ l.share;
  looks : l.meter ≡ l.fn.meter + l.stayed;
}

abbrev pub decreases-loop-stayed : goal.decreases-loop-stayed
decreases-loop-stayed g l = l.share - l.stayed
