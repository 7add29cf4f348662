-- Answers of KeySet::len: the table has no key twice.
use Rattle.std.proofs.Common.{ap, sym, ◌∙◌}
use Rattle.std.specs.FinSet.{len}
use Rattle.pfs_cookies.specs.Cookies.{Keys}
use Rattle.pfs_cookies.proofs.KeySets.{len-keys}
use Rattle.pfs_cookies.proofs.key_sets.KeySet.len.Goals as goal

pub returns-clause-count : goal.returns-clause-count
returns-clause-count c =
    c.len.ensures.len ∙ sym (len-keys c.self.inside.table.keys c.len.ensures.unique)
    ∙ ap (λ (s : Keys). len s) c.self.view_is
