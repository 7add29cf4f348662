-- Answers of push_more: there is room for each colon and for each group after it.
use Rattle.std.proofs.Common.{arith}
use Rattle.pfs_addr.proofs.HexLaws.{more_room}
use Rattle.pfs_addr.proofs.addresses.push_more.Goals as goal

pub push_reserved-requires : goal.push_reserved-requires
push_reserved-requires c =
    omega (arith, more_room c.loop-group.group-index c.args.groups.now c.loop-group-test.true, c.loop-group.invariant.len, c.loop-group.invariant.capacity, c.requires)
