-- Answer of Table::reserve: there is room for one entry more (`ok`).
use Rattle.std.proofs.Common.{rules}
use Rattle.pfs_eval.proofs.entries.Table.reserve.Goals as goal

pub returns-clause-ok : goal.returns-clause-ok
returns-clause-ok c = search rules
