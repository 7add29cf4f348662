-- Answer of earliest: the place is one of the captures'.
use Rattle.pfs_capture.proofs.Together.{earliest-within}
use Rattle.pfs_capture.proofs.merging.earliest.Goals as goal

pub returns-clause-within : goal.returns-clause-within
returns-clause-within g c = earliest-within c.args.captures.now c.earliest_from_last.result c.earliest_from_last.ensures
