-- Answers of head: the parts come in their order, and the protocol after the one family.
use Rattle.std.proofs.Common.{rules}
use Rattle.pfs_conf_filters.specs.Reading.{head_at}
use Rattle.pfs_conf_filters.proofs.heads.head.Goals as goal

pub returns-in_err-proto : goal.returns-in_err-proto
unfolding head_at
returns-in_err-proto c = search rules

pub returns : goal.returns
unfolding head_at
returns c = search rules
