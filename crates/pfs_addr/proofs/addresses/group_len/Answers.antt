-- Answers of group_len: a group has as many hexadecimal digits as its text, by the range that it is in.
use Rattle.std.proofs.Common.{arith}
use Rattle.pfs_addr.proofs.HexLaws.{len_1, len_2, len_3, len_4}
use Rattle.pfs_addr.proofs.addresses.group_len.Goals as goal

pub returns-in_default-clause-value : goal.returns-in_default-clause-value
returns-in_default-clause-value c = len_1 c.args.group (omega arith)

pub returns-in-16-to-65535-clause-value : goal.returns-in-16-to-65535-clause-value
returns-in-16-to-65535-clause-value c = len_2 c.args.group (omega arith) (omega arith)

pub returns-in-256-to-65535-clause-value : goal.returns-in-256-to-65535-clause-value
returns-in-256-to-65535-clause-value c = len_3 c.args.group (omega arith) (omega arith)

pub returns-in-4096-to-65535-clause-value : goal.returns-in-4096-to-65535-clause-value
returns-in-4096-to-65535-clause-value c = len_4 c.args.group (omega arith)
