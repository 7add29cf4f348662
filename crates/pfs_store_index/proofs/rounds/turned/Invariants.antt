-- Invariant of turned: the slices to come make of this round what all make of the first one.
use Rattle.std.proofs.Common.{◌≡◌, ◌≤◌, filter}
use Rattle.std.specs.Map.{keys_of}
use Rattle.pfs_store_index.specs.QuietPurges.{round_after_slices}
use Rattle.pfs_store_records.specs.Records.{between}
use Rattle.pfs_store_index.proofs.rounds.turned.Given as goal

-- the slices that are left make of this round what all make of the first one
abbrev pub invariant-loop-left : goal.invariant-loop-left
invariant-loop-left l = record {
  order : l.round.cursor ≤ l.round.mark;
  mark : l.round.mark ≤ l.made;
  rest : round_after_slices l.share (keys_of l.places.entries) l.left (filter (between l.round.cursor l.round.mark) (keys_of l.places.entries))
      ≡ round_after_slices l.share (keys_of l.places.entries) l.slices (filter (between l.fn.round.cursor l.fn.round.mark) (keys_of l.places.entries));
}

abbrev pub decreases-loop-left : goal.decreases-loop-left
decreases-loop-left l = l.left
