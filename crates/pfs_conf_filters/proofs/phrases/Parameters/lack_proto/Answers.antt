-- Answers of lack_proto: ports are given, or none are.
use Rattle.std.proofs.Common.{rules}
use Rattle.pfs_conf_filters.proofs.phrases.Parameters.lack_proto.Goals as goal

pub returns-then-give_ports : goal.returns-then-give_ports
returns-then-give_ports c = search rules

pub returns-else-give_ports : goal.returns-else-give_ports
returns-else-give_ports c = search rules
