-- Answer of Lengths::note: what is noted of an IPv6 prefix (`noted`).
use Rattle.std.proofs.Common.{rules}
use Rattle.pfs_eval.proofs.lengths.Lengths.note.Goals as goal

pub returns-in-V6-clause-noted : goal.returns-in-V6-clause-noted
returns-in-V6-clause-noted c = search rules
