-- Answer of slashed: a prefix that a text with a slash writes is one that its parts write (`only`).
use Rattle.pfs_addr.proofs.TextLaws.{cut_text}
use Rattle.pfs_addr.proofs.prefixes.slashed.Goals as goal

pub returns-in-Some-clause-only : goal.returns-in-Some-clause-only
returns-in-Some-clause-only c p h = c.parse_parts.ensures.only p (cut_text _ _ _ p c.in-Some.ensures.0 c.in-Some.ensures.1 h)
