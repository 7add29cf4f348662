-- Answer of has_overload_alone: `overload` is given, and connections are not limited.
use Rattle.std.proofs.Common.{rules}
use Rattle.pfs_conf_options.proofs.clauses.Options.has_overload_alone.Goals as goal

pub returns-then-is_some : goal.returns-then-is_some
returns-then-is_some c = search rules
