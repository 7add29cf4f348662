-- Answer of family_part: `inet6` is the family of IPv6.
use Rattle.std.proofs.Common.{rules}
use Rattle.pfs_conf_filters.specs.Reading.{family_part_at}
use Rattle.pfs_conf_filters.proofs.heads.family_part.Goals as goal

pub returns-in-Inet6 : goal.returns-in-Inet6
unfolding family_part_at
returns-in-Inet6 c = search rules
