-- Answer of ports_hold: a port is one of those that are asked for if it is neither below the first nor above the last.
use Rattle.std.proofs.Common.{rules}
use Rattle.pfs_eval.proofs.comparing.ports_hold.Goals as goal

pub returns-then-ports-port : goal.returns-then-ports-port
returns-then-ports-port c = search rules
