-- Answers of Places::between: those of a range by falling number, reversed, are those by rising number (`between`).
use Rattle.std.proofs.Common.{◌∙◌, ap, subst}
use Rattle.std.specs.Prelude.{reverse}
use Rattle.std.specs.BTreeMap.Range.{entries_between}
use Rattle.std.specs.Map.{keys_of}
use Rattle.std.specs.Ordering.{nat_cmp}
use Rattle.std.specs.declared.ops.Bound.TheVariants.{Excluded, Included}
use Rattle.pfs_store_records.specs.Numbered.{NumberedPlaces}
use Rattle.pfs_store_records.specs.Records.{IsRising}
use Rattle.pfs_store_records.proofs.Reversed.{between-reversed, rising-reversed}
use Rattle.pfs_store_records.proofs.places.Places.between.Goals as goal

pub returns-clause-between : goal.returns-clause-between
returns-clause-between c =
    ap reverse (c.range.ensures.between tt) ∙ between-reversed c.args.above c.args.most c.self.inside.falling.entries
    ∙ ap (λ (n : NumberedPlaces). entries_between nat_cmp (Excluded c.args.above) (Included c.args.most) n.entries) c.self.view_is

pub returns-clause-ordered : goal.returns-clause-ordered
returns-clause-ordered c = subst (λ (n : NumberedPlaces). IsRising (keys_of n.entries)) c.self.view_is (rising-reversed c.self.inside.falling.entries c.self.invariant)
