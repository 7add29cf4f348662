-- Answer of limit: the number of states is set at its word.
use Rattle.std.proofs.Common.{rules}
use Rattle.pfs_conf_settings.specs.Settings.{limit_at}
use Rattle.pfs_conf_settings.proofs.settings.limit.Goals as goal

pub returns-in-States : goal.returns-in-States
unfolding limit_at
returns-in-States c = search rules
