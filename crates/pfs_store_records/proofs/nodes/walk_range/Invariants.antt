-- Invariant of walk_range: those passed so far all stay, each was one look, and the rest is still to come.
use Rattle.std.proofs.Common.{◌≡◌, ◌+◌, ◌≤◌, ◌-◌, false}
use Rattle.pfs_store_records.specs.RecordPlaces.{tally_in}
use Rattle.pfs_store_records.specs.Retaining.{IsKeptUntil, is_past}
use Rattle.pfs_store_records.specs.declared.nodes.NodeTally.{NodeTally}
use Rattle.pfs_store_records.proofs.Passing.{OfValue}
use Rattle.pfs_store_records.proofs.Walking.{Each, Walking}
use Rattle.pfs_store_records.proofs.nodes.walk_range.Given as goal

abbrev pub invariant-loop-stayed : goal.invariant-loop-stayed
invariant-loop-stayed l = record {
  walking : Walking (OfValue (λ (t : NodeTally). is_past l.now t ≡ false) (tally_in l.slab)) l.order.entries l.rest l.fn.round.cursor l.last l.fn.round.mark l.stayed;
  until : Each (OfValue (IsKeptUntil l.until) (tally_in l.slab)) l.fn.round.cursor l.last l.order.entries;
  share : l.stayed ≤ l.share;
  looks : l.meter ≡ l.fn.meter + l.stayed;
}

abbrev pub decreases-loop-stayed : goal.decreases-loop-stayed
decreases-loop-stayed l = l.share - l.stayed
