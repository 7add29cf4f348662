-- Answers of NamedTables::define: the name has a place, and with the table put there names and tables agree.
use Rattle.std.proofs.Common.{◌∙◌, ap, arith}
use Rattle.pfs_conf_settings.specs.Namings.{Named}
use Rattle.pfs_conf_settings.proofs.NamingLaws.{IsNaming_set, IsPlaced, naming_IsPlaced}
use Rattle.pfs_conf_settings.proofs.named_tables.NamedTables.define.Goals as goal

pub index_mut-requires : goal.index_mut-requires
index_mut-requires c =
    let view = ap (λ (n : Named). n.tables) (c.self.view_is ∙ c.in_ok-place.ensures.ok) in
    let placed : IsPlaced c.args.table.name c.in_ok-place.place c.self.inside.tables.items = rw (view, c.in_ok-place.ensures.answer) (naming_IsPlaced c.args.table.name c.args.self.now) in
    omega (arith, placed.within, c.self.inside.tables.ok.0)

pub index_mut-requires-2 : goal.index_mut-requires-2
index_mut-requires-2 c =
    let view = ap (λ (n : Named). n.tables) (c.self.view_is ∙ c.in_ok-place.ensures.ok) in
    let placed : IsPlaced c.args.table.name c.in_ok-place.place c.self.inside.tables.items = rw (view, c.in_ok-place.ensures.answer) (naming_IsPlaced c.args.table.name c.args.self.now) in
    omega (arith, placed.within, c.self.inside.defined.ok.0, c.self.invariant.sizes)

pub invariant_of-self : goal.invariant_of-self
invariant_of-self c =
    let view = ap (λ (n : Named). n.tables) (c.self.view_is ∙ c.in_ok-place.ensures.ok) in
    let placed : IsPlaced c.args.table.name c.in_ok-place.place c.self.inside.tables.items = rw (view, c.in_ok-place.ensures.answer) (naming_IsPlaced c.args.table.name c.args.self.now) in
    IsNaming_set c.self.inside.names.keys c.self.inside.tables.items c.self.inside.defined.items c.in_ok-place.place c.args.table c.self.invariant
    (record { name = c.requires; networks = c.len-count.ensures.networks; distinct = c.len-count.ensures.distinct }) placed
