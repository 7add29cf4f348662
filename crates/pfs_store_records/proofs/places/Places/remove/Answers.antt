-- Answers of Places::remove: what leaves by falling number is what leaves by rising number (`value`, `entries`).
use Rattle.std.proofs.Common.{◌∙◌, None, ap, subst, sym}
use Rattle.std.specs.Prelude.{reverse}
use Rattle.std.specs.BTreeMap.{is_at}
use Rattle.std.specs.Map.{lookup, remove_entry}
use Rattle.std.specs.Ordering.{nat_cmp}
use Rattle.pfs_store_records.specs.Numbered.{HasPlace, NumberedPlaces}
use Rattle.pfs_store_records.proofs.Reversed.{lookup-reversed, place-reversed, remove-reversed, rising-reversed}
use Rattle.pfs_store_records.proofs.places.Places.remove.Goals as goal

pub returns-clause-value : goal.returns-clause-value
returns-clause-value c =
    c.remove.ensures.value ∙ sym (lookup-reversed c.args.number c.self.inside.falling.entries c.self.invariant)
    ∙ ap (λ (n : NumberedPlaces). lookup (is_at (nat_cmp c.args.number)) n.entries) c.self.view_is

pub returns-clause-entries : goal.returns-clause-entries
returns-clause-entries c =
    ap reverse c.remove.ensures.entries ∙ remove-reversed c.args.number c.self.inside.falling.entries c.self.invariant
    ∙ ap (λ (n : NumberedPlaces). remove_entry (is_at (nat_cmp c.args.number)) n.entries) c.self.view_is

pub returns-clause-updates : goal.returns-clause-updates
returns-clause-updates c =
    subst (λ (n : NumberedPlaces). HasPlace c.args.number None n.entries (reverse c.remove.new.self.entries)) c.self.view_is
    (place-reversed c.args.number None c.self.inside.falling.entries c.remove.new.self.entries c.self.invariant c.remove.ensures.ordered c.remove.ensures.updates.0)

pub returns-clause-ordered : goal.returns-clause-ordered
returns-clause-ordered c = rising-reversed c.remove.new.self.entries c.remove.ensures.ordered
