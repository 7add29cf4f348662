-- Answers of push_groups: the first group and the others after it are the text of all.
use Rattle.std.proofs.Common.{◌-◌, arith, length}
use Rattle.pfs_addr.proofs.HexLaws.{all_left, groups_put, groups_length}
use Rattle.pfs_addr.proofs.addresses.push_groups.Goals as goal

pub returns-in-len1-up-clause-items : goal.returns-in-len1-up-clause-items
returns-in-len1-up-clause-items c =
    groups_put c.args.out.now.items c.push_group.new.out.items c.push_more.new.out.items c.args.groups.now _ c.in-len1-up.len_at_least (all_left _ 1 c.args.groups.now (omega (arith, c.in-len1-up.len_at_least))) c.push_group.ensures.items c.push_more.ensures.items

pub returns-in-len1-up-clause-len : goal.returns-in-len1-up-clause-len
returns-in-len1-up-clause-len c =
    omega (arith, c.push_more.ensures.len, c.push_group.ensures.len, groups_length c.args.groups.now _ c.in-len1-up.len_at_least (all_left (length c.args.groups.now - 1) 1 c.args.groups.now (omega (arith, c.in-len1-up.len_at_least))))
