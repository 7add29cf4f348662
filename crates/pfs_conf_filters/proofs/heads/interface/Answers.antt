-- Answer of interface: an interface is negated where a `!` is before its name.
use Rattle.std.proofs.Common.{rules}
use Rattle.pfs_conf_filters.specs.Reading.{negation_at, on_at}
use Rattle.pfs_conf_filters.proofs.heads.interface.Goals as goal

pub returns : goal.returns
unfolding on_at negation_at
returns c = search rules
