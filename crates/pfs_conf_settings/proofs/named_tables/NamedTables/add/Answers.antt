-- Answer of NamedTables::add: with one more table at the end names and tables still agree.
use Rattle.std.proofs.Common.{◌∙◌, [], ◌∷◌, ◌++◌, ℕ, List, false, ap}
use Rattle.pfs_conf_values.specs.Entries.{TextEntry}
use Rattle.pfs_conf_settings.specs.Namings.{Named, is_named}
use Rattle.pfs_conf_values.specs.declared.tables.TableDef.{TableDef}
use Rattle.pfs_conf_settings.proofs.NamingLaws.{IsNaming_push}
use Rattle.pfs_conf_settings.proofs.named_tables.NamedTables.add.Goals as goal

named : List ℕ → List TextEntry → TableDef
named name entries = record { name = name; is_const = false; entries = entries }

pub invariant_of-self-2 : goal.invariant_of-self-2
unfolding named
invariant_of-self-2 c =
    let view = ap (λ (n : Named). n.tables) c.self.view_is in
    let tables =
    c.push_reserved.ensures.items ∙ ap (λ ts. ts ++ named c.args.name c.new-entries.result ∷ []) c.reserve.ensures.items
    ∙ ap (λ es. c.self.inside.tables.items ++ named c.args.name es ∷ []) c.new-entries.ensures in
    let defined = c.push_reserved-2.ensures.items ∙ ap (λ bs. bs ++ false ∷ []) c.reserve-2.ensures.items in
    rw (c.in_ok-insert.ensures.keys, tables, defined)
    (IsNaming_push c.self.inside.names.keys c.self.inside.tables.items c.self.inside.defined.items c.args.name c.self.invariant
    (ap (is_named c.args.name) view ∙ c.requires.fresh) c.requires.name)
