-- Answer of outcome_of: what is lent is the capture's.
use Rattle.pfs_capture.proofs.traces.outcome_of.Goals as goal

pub returns-clause-is : goal.returns-clause-is
returns-clause-is g c = rw (c.deref.ensures.value, c.deref-2.ensures.value) at c.outcome_in.ensures.is
