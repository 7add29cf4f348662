-- Answers of walk_to_due: the walk over the records is one over the states (`walk`, `until`).
use Rattle.pfs_store_index.proofs.purging.walk_to_due.Goals as goal

pub returns-clause-walk : goal.returns-clause-walk
returns-clause-walk g c = rw (← c.config.ensures) (rw c.records.ensures at c.walk.ensures.walk)

pub returns-clause-until : goal.returns-clause-until
returns-clause-until g c = rw (← c.config.ensures) (rw c.records.ensures at c.walk.ensures.until)
