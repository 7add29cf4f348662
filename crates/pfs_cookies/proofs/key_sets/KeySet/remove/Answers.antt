-- Answers of KeySet::remove: what the table said of the key (`was`), and the set without it (`after`).
use Rattle.std.proofs.Common.{ap, sym, ◌∙◌}
use Rattle.std.specs.FinSet.{contains, remove}
use Rattle.pfs_cookies.specs.Cookies.{Keys}
use Rattle.pfs_cookies.proofs.KeySets.{contains-keys, keys-removed}
use Rattle.pfs_cookies.proofs.key_sets.KeySet.remove.Goals as goal

pub returns-clause-was : goal.returns-clause-was
returns-clause-was c =
    c.swap_remove.ensures.found ∙ sym (contains-keys c.self.inside.table.keys c.args.key.now)
    ∙ ap (λ (s : Keys). contains s c.args.key.now) c.self.view_is

pub returns-clause-after : goal.returns-clause-after
returns-clause-after c =
    keys-removed c.self.inside.table.keys c.swap_remove.new.self.keys c.args.key.now c.swap_remove.ensures.updates.0
    ∙ ap (λ (s : Keys). remove s c.args.key.now) c.self.view_is
