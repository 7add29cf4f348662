-- Invariant of CompiledRuleset::walk: what is left of the walk, at most one visit for each place before this one, and the word of
-- the packet's interface.
use Rattle.std.proofs.Common.{length, ◌-◌, ◌+◌, ◌≤◌}
use Rattle.pfs_eval.specs.Asking.{asking}
use Rattle.pfs_eval.specs.Glances.{IsWordOf}
use Rattle.pfs_eval.specs.Visits.{is_left_with}
use Rattle.pfs_eval.proofs.Visiting.{IsLeft}
use Rattle.pfs_eval.proofs.rulesets.CompiledRuleset.walk.Given as goal

abbrev pub invariant-loop-walk : goal.invariant-loop-walk
invariant-loop-walk g l = record {
  left : IsLeft (is_left_with l.tables.entries) (asking l.self l.tables.entries (g.S.Sides.taken l.sides)) l.self l.fn.packet l.walk l.packet l.meter l.fn.meter;
  few : l.meter ≤ l.fn.meter + l.walk.place;
  name : IsWordOf l.packet.ifname l.name;
}

abbrev pub decreases-loop-walk : goal.decreases-loop-walk
decreases-loop-walk g l = length l.glances - l.walk.place
