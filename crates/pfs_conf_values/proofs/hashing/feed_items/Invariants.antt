-- Invariant of feed_items: the hasher was fed with the items so far.
use Rattle.std.proofs.Common.{◌≡◌, fold, take}
use Rattle.pfs_conf_values.specs.Hashing.{after_item}
use Rattle.pfs_conf_values.proofs.hashing.feed_items.Given as goal

abbrev pub invariant-loop-item : goal.invariant-loop-item
invariant-loop-item l = l.state ≡ fold after_item l.initial.state (take l.item-index l.items)
