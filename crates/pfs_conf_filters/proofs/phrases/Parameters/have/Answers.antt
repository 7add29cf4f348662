-- Answer of have: no other word begins a part.
use Rattle.std.proofs.Common.{rules}
use Rattle.pfs_conf_filters.proofs.phrases.Parameters.have.Goals as goal

pub returns-in_default : goal.returns-in_default
returns-in_default c = search rules
