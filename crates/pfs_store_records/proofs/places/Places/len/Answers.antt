-- Answers of Places::len: the numbers rise, since those of the map fall.
use Rattle.std.proofs.Common.{subst}
use Rattle.std.specs.Map.{keys_of}
use Rattle.pfs_store_records.specs.Numbered.{NumberedPlaces}
use Rattle.pfs_store_records.specs.Records.{IsRising}
use Rattle.pfs_store_records.proofs.Reversed.{rising-reversed}
use Rattle.pfs_store_records.proofs.places.Places.len.Goals as goal

pub returns-clause-ordered : goal.returns-clause-ordered
returns-clause-ordered c = subst (λ (n : NumberedPlaces). IsRising (keys_of n.entries)) c.self.view_is (rising-reversed c.self.inside.falling.entries c.self.invariant)
