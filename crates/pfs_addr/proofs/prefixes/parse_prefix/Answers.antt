-- Answer of parse_prefix: the prefix that is read is the one that the definition finds (`value`).
use Rattle.pfs_addr.proofs.PieceLaws.{prefix_value}
use Rattle.pfs_addr.proofs.prefixes.parse_prefix.Goals as goal

pub returns-clause-value : goal.returns-clause-value
returns-clause-value c = prefix_value _ _ c.slashed.ensures.reads c.slashed.ensures.only
