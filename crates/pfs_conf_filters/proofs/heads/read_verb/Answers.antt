-- Answer of read_verb: after `block` a policy may follow.
use Rattle.std.proofs.Common.{rules}
use Rattle.pfs_conf_filters.specs.Reading.{verb_at}
use Rattle.pfs_conf_filters.proofs.heads.read_verb.Goals as goal

pub returns-in_ok-has_policy-in-Block : goal.returns-in_ok-has_policy-in-Block
unfolding verb_at
returns-in_ok-has_policy-in-Block c = search rules
