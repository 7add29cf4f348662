-- Answer of is_same_sign: by the four cases.
use Rattle.std.proofs.Common.{rules}
use Rattle.pfs_conf_settings.proofs.tables.is_same_sign.Goals as goal

pub returns : goal.returns
returns c = search rules
