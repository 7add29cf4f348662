-- Answers of Places::get: what is found by falling number is what is found by rising number (`value`).
use Rattle.std.proofs.Common.{◌∙◌, ap, subst, sym}
use Rattle.std.specs.BTreeMap.{is_at}
use Rattle.std.specs.Map.{keys_of, lookup}
use Rattle.std.specs.Ordering.{nat_cmp}
use Rattle.pfs_store_records.specs.Numbered.{NumberedPlaces}
use Rattle.pfs_store_records.specs.Records.{IsRising}
use Rattle.pfs_store_records.proofs.Reversed.{lookup-reversed, rising-reversed}
use Rattle.pfs_store_records.proofs.places.Places.get.Goals as goal

pub returns-clause-value : goal.returns-clause-value
returns-clause-value c =
    c.copied.ensures ∙ c.get.ensures.value ∙ sym (lookup-reversed c.args.number c.self.inside.falling.entries c.self.invariant)
    ∙ ap (λ (n : NumberedPlaces). lookup (is_at (nat_cmp c.args.number)) n.entries) c.self.view_is

pub returns-clause-ordered : goal.returns-clause-ordered
returns-clause-ordered c = subst (λ (n : NumberedPlaces). IsRising (keys_of n.entries)) c.self.view_is (rising-reversed c.self.inside.falling.entries c.self.invariant)
