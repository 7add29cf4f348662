-- Answer of push_family: the word of IPv6.
use Rattle.std.proofs.Common.{rules}
use Rattle.pfs_conf_show.proofs.filters.push_family.Goals as goal

pub returns-in_ok-extend_from_slice-in-Some-Inet6 : goal.returns-in_ok-extend_from_slice-in-Some-Inet6
returns-in_ok-extend_from_slice-in-Some-Inet6 c = search rules
