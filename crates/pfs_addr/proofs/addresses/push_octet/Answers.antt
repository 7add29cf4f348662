-- Answers of push_octet: two or three digits, pushed in turn, are the decimal text of the byte.
use Rattle.pfs_addr.proofs.OctetLaws.{decimal_2, decimal_3, pushed_2, pushed_3}
use Rattle.std.proofs.Common.{arith}
use Rattle.pfs_addr.proofs.addresses.push_octet.Goals as goal

pub returns-in-10-to-99-clause-items : goal.returns-in-10-to-99-clause-items
returns-in-10-to-99-clause-items c =
    pushed_2 _ _ _ _ _ _ c.push_reserved-in-10-to-99.ensures.items c.push_reserved-in-10-to-99-2.ensures.items (decimal_2 c.args.octet (omega arith) (omega arith))

pub returns-in_default-clause-items : goal.returns-in_default-clause-items
returns-in_default-clause-items c =
    pushed_3 _ _ _ _ _ _ _ _ c.push_reserved-in_default.ensures.items c.push_reserved-in_default-2.ensures.items c.push_reserved-in_default-3.ensures.items
    (decimal_3 c.args.octet (omega arith) (omega arith))
