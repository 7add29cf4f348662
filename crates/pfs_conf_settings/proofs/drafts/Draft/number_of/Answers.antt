-- Answers of Draft::number_of: a draft stays one, and the number is that of a table (`within`).
use Rattle.std.proofs.Common.{◌≡◌, ◌<◌, ℕ, arith, length, Ok, Err, IfOk, OnOk}
use Rattle.std.specs.Prelude.{List, Result}
use Rattle.pfs_conf_settings.specs.Namings.{Named, naming, place_in, table_number}
use Rattle.pfs_conf_values.specs.declared.filters.TableNo.{TableNo}
use Rattle.pfs_conf_settings.proofs.DraftLaws.{IsDraft_with_tables}
use Rattle.pfs_conf_settings.proofs.NamingLaws.{naming_IsPlaced}
use Rattle.pfs_conf_settings.proofs.drafts.Draft.number_of.Goals as goal

below : (place tables : ℕ) → place < tables → table_number place < tables
below place tables h = omega arith

within : {E : Type 0} (r : Result TableNo E) (name : List ℕ) (old new : Named) → IfOk r (λ t. t.0 ≡ table_number (place_in name old.tables)) → OnOk r (new ≡ naming name old)
    → IfOk r (λ t. t.0 < length new.tables)
within (Ok t) name old new at is = let placed = (naming_IsPlaced name old).within in rw (at, is) (below (place_in name old.tables) (length (naming name old).tables) placed)
within (Err e) name old new at is = is

pub invariant_of-self : goal.invariant_of-self
invariant_of-self c = IsDraft_with_tables _ c.number_of.new.self c.self.invariant c.number_of.ensures.more

pub returns-clause-within : goal.returns-clause-within
returns-clause-within c = within c.number_of.result c.args.name c.self.inside.tables c.number_of.new.self c.number_of.ensures.answer c.number_of.ensures.ok
