-- Answer of scope: a bare `source-track` alone is global.
use Rattle.std.proofs.Common.{rules}
use Rattle.pfs_conf_options.proofs.clauses.Options.scope.Goals as goal

pub returns-in-Some-Bare : goal.returns-in-Some-Bare
returns-in-Some-Bare c = search rules
