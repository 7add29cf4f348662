-- Answers of KeySet::has: what the table says of the key.
use Rattle.std.proofs.Common.{ap, sym, ◌∙◌}
use Rattle.std.specs.FinSet.{contains}
use Rattle.pfs_cookies.specs.Cookies.{Keys}
use Rattle.pfs_cookies.proofs.KeySets.{contains-keys}
use Rattle.pfs_cookies.proofs.key_sets.KeySet.has.Goals as goal

pub returns : goal.returns
returns c =
    c.contains.ensures ∙ sym (contains-keys c.self.inside.table.keys c.args.key.now)
    ∙ ap (λ (s : Keys). contains s c.args.key.now) c.self.view_is
