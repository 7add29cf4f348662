-- Invariant of answer_by_lengths: the entries that cover the address leave out no fewer bits than are next.
use Rattle.std.proofs.Common.{◌≤◌, ◌+◌, ◌-◌}
use Rattle.pfs_addr_values.specs.Addresses.{width_of}
use Rattle.pfs_eval.proofs.Narrowest.{AreBelow}
use Rattle.pfs_eval.proofs.entries.answer_by_lengths.Given as goal

abbrev pub invariant-loop-hidden : goal.invariant-loop-hidden
invariant-loop-hidden l = (l.hidden ≤ width_of l.addr + 1) × AreBelow (width_of l.addr + 1 - l.hidden) l.addr l.map.entries

abbrev pub decreases-loop-hidden : goal.decreases-loop-hidden
decreases-loop-hidden l = width_of l.addr + 1 - l.hidden
