-- Answer of failing: the meter rises by one (`visit`).
use Rattle.std.proofs.Common.{arith}
use Rattle.pfs_eval.proofs.comparing.failing.Goals as goal

pub returns-clause-visit : goal.returns-clause-visit
returns-clause-visit c = omega arith
