-- Answers of EntryDraft::add: an entry whose prefix is new goes last (`ok`), and all of them are prefixes.
use Rattle.std.proofs.Common.{◌≡◌, ◌∷◌, [], ◌++◌, ◌∙◌, ap, refl, None}
use Rattle.std.proofs.lemmas.List.Elements.{All-push}
use Rattle.pfs_addr_values.specs.Prefixes.{IsNetwork}
use Rattle.pfs_conf_values.specs.Entries.{TextEntry, sign_of}
use Rattle.pfs_conf_settings.proofs.EntryLaws.{put_last, same_networks}
use Rattle.pfs_conf_settings.proofs.entries.EntryDraft.add.Goals as goal

pub returns-clause-ok : goal.returns-clause-ok
returns-clause-ok c =
    let absent : sign_of c.self.inside.map.entries c.args.prefix ≡ None = ap (λ es. sign_of es c.args.prefix) c.self.view_is ∙ c.requires in
    c.in_ok-insert.ensures.entries ∙ put_last _ c.args.prefix c.args.negated c.self.inside.map.entries (same_networks _ (λ a b m n. refl) (λ a b m n. refl) (λ a b m n. refl) (λ a b m n. refl)) absent
    ∙ ap (λ es. es ++ (c.args.prefix, c.args.negated) ∷ []) c.self.view_is

pub invariant_of-self-2 : goal.invariant_of-self-2
invariant_of-self-2 c =
    let absent : sign_of c.self.inside.map.entries c.args.prefix ≡ None = ap (λ es. sign_of es c.args.prefix) c.self.view_is ∙ c.requires in
    let put = c.in_ok-insert.ensures.entries ∙ put_last _ c.args.prefix c.args.negated c.self.inside.map.entries (same_networks _ (λ a b m n. refl) (λ a b m n. refl) (λ a b m n. refl) (λ a b m n. refl)) absent in
    rw put (All-push (λ (e : TextEntry). IsNetwork e.0) _ _ c.self.invariant c.bits-bits.ensures.network)
