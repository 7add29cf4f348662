-- Answers of push_group: the digits of a group, by the range that it is in, and the room for each.
use Rattle.std.proofs.Common.{arith}
use Rattle.pfs_addr.proofs.HexLaws.{hex_1, hex_2, hex_3, hex_4, len_1, len_2, len_3, len_4, put_1, put_2, put_3, put_4}
use Rattle.pfs_addr.proofs.addresses.push_group.Goals as goal

pub push_reserved-requires : goal.push_reserved-requires
push_reserved-requires c = omega (arith, c.requires, len_1 c.args.group (omega arith))

pub returns-in_default-clause-items : goal.returns-in_default-clause-items
returns-in_default-clause-items c = put_1 _ _ _ _ _ c.hex_digit.ensures c.push_reserved.ensures.items (hex_1 c.args.group (omega arith))

pub returns-in_default-clause-len : goal.returns-in_default-clause-len
returns-in_default-clause-len c = omega (arith, len_1 c.args.group (omega arith), c.push_reserved.ensures.len)

pub push_reserved-requires-in-16-to-65535 : goal.push_reserved-requires-in-16-to-65535
push_reserved-requires-in-16-to-65535 c = omega (arith, c.requires, len_2 c.args.group (omega arith) (omega arith))

pub push_reserved-requires-in-16-to-65535-2 : goal.push_reserved-requires-in-16-to-65535-2
push_reserved-requires-in-16-to-65535-2 c = omega (arith, c.requires, len_2 c.args.group (omega arith) (omega arith), c.push_reserved-in-16-to-65535.ensures.len, c.push_reserved-in-16-to-65535.ensures.capacity)

pub returns-in-16-to-65535-clause-items : goal.returns-in-16-to-65535-clause-items
returns-in-16-to-65535-clause-items c = put_2 _ _ _ _ _ _ _ _ c.hex_digit-in-16-to-65535.ensures c.hex_digit-in-16-to-65535-2.ensures c.push_reserved-in-16-to-65535.ensures.items c.push_reserved-in-16-to-65535-2.ensures.items (hex_2 c.args.group (omega arith) (omega arith))

pub returns-in-16-to-65535-clause-len : goal.returns-in-16-to-65535-clause-len
returns-in-16-to-65535-clause-len c = omega (arith, len_2 c.args.group (omega arith) (omega arith), c.push_reserved-in-16-to-65535.ensures.len, c.push_reserved-in-16-to-65535-2.ensures.len)

pub push_reserved-requires-in-256-to-65535 : goal.push_reserved-requires-in-256-to-65535
push_reserved-requires-in-256-to-65535 c = omega (arith, c.requires, len_3 c.args.group (omega arith) (omega arith))

pub push_reserved-requires-in-256-to-65535-2 : goal.push_reserved-requires-in-256-to-65535-2
push_reserved-requires-in-256-to-65535-2 c = omega (arith, c.requires, len_3 c.args.group (omega arith) (omega arith), c.push_reserved-in-256-to-65535.ensures.len, c.push_reserved-in-256-to-65535.ensures.capacity)

pub push_reserved-requires-in-256-to-65535-3 : goal.push_reserved-requires-in-256-to-65535-3
push_reserved-requires-in-256-to-65535-3 c = omega (arith, c.requires, len_3 c.args.group (omega arith) (omega arith), c.push_reserved-in-256-to-65535.ensures.len, c.push_reserved-in-256-to-65535.ensures.capacity, c.push_reserved-in-256-to-65535-2.ensures.len, c.push_reserved-in-256-to-65535-2.ensures.capacity)

pub returns-in-256-to-65535-clause-items : goal.returns-in-256-to-65535-clause-items
returns-in-256-to-65535-clause-items c = put_3 _ _ _ _ _ _ _ _ _ _ _ c.hex_digit-in-256-to-65535.ensures c.hex_digit-in-256-to-65535-2.ensures c.hex_digit-in-256-to-65535-3.ensures c.push_reserved-in-256-to-65535.ensures.items c.push_reserved-in-256-to-65535-2.ensures.items c.push_reserved-in-256-to-65535-3.ensures.items (hex_3 c.args.group (omega arith) (omega arith))

pub returns-in-256-to-65535-clause-len : goal.returns-in-256-to-65535-clause-len
returns-in-256-to-65535-clause-len c = omega (arith, len_3 c.args.group (omega arith) (omega arith), c.push_reserved-in-256-to-65535.ensures.len, c.push_reserved-in-256-to-65535-2.ensures.len, c.push_reserved-in-256-to-65535-3.ensures.len)

pub push_reserved-requires-in-4096-to-65535 : goal.push_reserved-requires-in-4096-to-65535
push_reserved-requires-in-4096-to-65535 c = omega (arith, c.requires, len_4 c.args.group (omega arith))

pub push_reserved-requires-in-4096-to-65535-2 : goal.push_reserved-requires-in-4096-to-65535-2
push_reserved-requires-in-4096-to-65535-2 c = omega (arith, c.requires, len_4 c.args.group (omega arith), c.push_reserved-in-4096-to-65535.ensures.len, c.push_reserved-in-4096-to-65535.ensures.capacity)

pub push_reserved-requires-in-4096-to-65535-3 : goal.push_reserved-requires-in-4096-to-65535-3
push_reserved-requires-in-4096-to-65535-3 c = omega (arith, c.requires, len_4 c.args.group (omega arith), c.push_reserved-in-4096-to-65535.ensures.len, c.push_reserved-in-4096-to-65535.ensures.capacity, c.push_reserved-in-4096-to-65535-2.ensures.len, c.push_reserved-in-4096-to-65535-2.ensures.capacity)

pub push_reserved-requires-in-4096-to-65535-4 : goal.push_reserved-requires-in-4096-to-65535-4
push_reserved-requires-in-4096-to-65535-4 c = omega (arith, c.requires, len_4 c.args.group (omega arith), c.push_reserved-in-4096-to-65535.ensures.len, c.push_reserved-in-4096-to-65535.ensures.capacity, c.push_reserved-in-4096-to-65535-2.ensures.len, c.push_reserved-in-4096-to-65535-2.ensures.capacity, c.push_reserved-in-4096-to-65535-3.ensures.len, c.push_reserved-in-4096-to-65535-3.ensures.capacity)

pub returns-in-4096-to-65535-clause-items : goal.returns-in-4096-to-65535-clause-items
returns-in-4096-to-65535-clause-items c = put_4 _ _ _ _ _ _ _ _ _ _ _ _ _ _ c.hex_digit-in-4096-to-65535.ensures c.hex_digit-in-4096-to-65535-2.ensures c.hex_digit-in-4096-to-65535-3.ensures c.hex_digit-in-4096-to-65535-4.ensures c.push_reserved-in-4096-to-65535.ensures.items c.push_reserved-in-4096-to-65535-2.ensures.items c.push_reserved-in-4096-to-65535-3.ensures.items c.push_reserved-in-4096-to-65535-4.ensures.items (hex_4 c.args.group (omega arith))

pub returns-in-4096-to-65535-clause-len : goal.returns-in-4096-to-65535-clause-len
returns-in-4096-to-65535-clause-len c = omega (arith, len_4 c.args.group (omega arith), c.push_reserved-in-4096-to-65535.ensures.len, c.push_reserved-in-4096-to-65535-2.ensures.len, c.push_reserved-in-4096-to-65535-3.ensures.len, c.push_reserved-in-4096-to-65535-4.ensures.len)
