-- Invariant of settle_items: the items so far are settled, and the others as before.
use Rattle.std.proofs.Common.{◌≡◌, ◌++◌, take, drop, map}
use Rattle.pfs_conf_values.specs.Settled.{settled_item}
use Rattle.pfs_conf_values.proofs.settling.settle_items.Given as goal

-- those so far are settled
abbrev pub invariant-loop-item : goal.invariant-loop-item
invariant-loop-item l = l.items ≡ map (settled_item l.profile) (take l.item-index l.initial.items) ++ drop l.item-index l.initial.items
