-- Answer of has_broken_pair: a start from 1 on is broken where it is not below its end.
use Rattle.std.proofs.Common.{rules}
use Rattle.pfs_conf_options.proofs.clauses.Options.has_broken_pair.Goals as goal

pub returns-after-start-ge1 : goal.returns-after-start-ge1
returns-after-start-ge1 c = search rules
