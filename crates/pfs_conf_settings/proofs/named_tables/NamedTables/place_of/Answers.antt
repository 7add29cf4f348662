-- Answer of NamedTables::place_of: a name that is not found gets the next place (`answer`).
use Rattle.std.proofs.Common.{◌≡◌, ◌∙◌, ap, sym, ℕ, Ok, Err, IfOk}
use Rattle.std.specs.Prelude.{Result}
use Rattle.std.specs.List.{list_any}
use Rattle.std.specs.Str.{bytes_eq}
use Rattle.pfs_conf_settings.specs.Namings.{Named, is_named}
use Rattle.pfs_conf_settings.proofs.NamingLaws.{fresh_None, place_in_fresh}
use Rattle.pfs_conf_settings.proofs.named_tables.NamedTables.place_of.Goals as goal

placed : {E : Type 0} (r : Result ℕ E) (m n : ℕ) → m ≡ n → IfOk r (λ k. k ≡ m) → IfOk r (λ k. k ≡ n)
placed (Ok t) m n e h = h ∙ e
placed (Err x) m n e h = h

pub returns-in-None-clause-answer : goal.returns-in-None-clause-answer
returns-in-None-clause-answer c =
    let view = ap (λ (n : Named). n.tables) c.self.view_is in
    let absent = fresh_None c.args.name c.self.inside.names.keys (sym c.get_index_of.ensures.index ∙ c.in-None.is) in
    let fresh =
    sym (ap (is_named c.args.name) view) ∙ sym (ap (λ ks. list_any (bytes_eq c.args.name) ks) c.self.invariant.names) ∙ absent in
    placed _ _ _ (sym (place_in_fresh c.args.name c.args.self.now.tables fresh)) c.add.ensures.answer
