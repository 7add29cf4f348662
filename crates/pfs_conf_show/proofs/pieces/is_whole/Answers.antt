-- Answer of is_whole: the length is compared with the width of the address.
use Rattle.std.proofs.Common.{rules}
use Rattle.pfs_conf_show.proofs.pieces.is_whole.Goals as goal

pub returns : goal.returns
returns c = search rules
