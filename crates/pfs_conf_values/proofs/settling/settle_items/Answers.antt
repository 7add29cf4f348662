-- Answer of settle_items: one item more is settled.
use Rattle.std.proofs.Common.{◌<◌, length, arith}
use Rattle.std.proofs.lemmas.List.{get_or_default}
use Rattle.std.proofs.lemmas.List.Edits.{map_over_more}
use Rattle.pfs_conf_values.specs.Settled.{settled_item}
use Rattle.pfs_conf_values.proofs.settling.settle_items.Goals as goal

pub loop-item-preserved : goal.loop-item-preserved
loop-item-preserved c =
    let within : c.loop-item.item-index < length c.loop-item.items = omega arith in
    rw c.settle_item.ensures (map_over_more (settled_item c.args.profile) c.args.items.now c.loop-item.items c.loop-item.item-index _ (omega arith) c.loop-item.invariant (get_or_default c.loop-item.items c.loop-item.item-index _ _ within))
