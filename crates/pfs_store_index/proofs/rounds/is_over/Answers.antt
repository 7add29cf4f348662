-- Answers of is_over: a round is over when no number is left between its cursor and its mark.
use Rattle.pfs_store_index.proofs.Turning.{none-left, some-left}
use Rattle.pfs_store_index.proofs.rounds.is_over.Goals as goal

pub returns-in-Some : goal.returns-in-Some
returns-in-Some c = some-left _ _ c.in-Some.ensures

pub returns-in-None : goal.returns-in-None
returns-in-None c = none-left _ c.in-None.ensures
