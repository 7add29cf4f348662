-- Answers of KeySet::add: the key is in the set (`ok`). Memory is wanted only where it was not (`no_memory`).
use Rattle.std.proofs.Common.{ap, sym, ◌∙◌, true≢false}
use Rattle.std.specs.FinSet.{contains, insert}
use Rattle.pfs_cookies.specs.Cookies.{Keys}
use Rattle.pfs_cookies.proofs.KeySets.{contains-keys, keys-inserted}
use Rattle.pfs_cookies.proofs.key_sets.KeySet.add.Goals as goal

pub returns-clause-ok : goal.returns-clause-ok
returns-clause-ok c =
    keys-inserted c.self.inside.table.keys c.insert.new.self.keys c.args.key.now c.in_ok-insert.ensures.updates.0
    ∙ ap (λ (s : Keys). insert s c.args.key.now) c.self.view_is

pub returns-in_err-insert-clause-no_memory : goal.returns-in_err-insert-clause-no_memory
returns-in_err-insert-clause-no_memory c =
    λ held. absurd (true≢false (sym held ∙ ap (λ (s : Keys). contains s c.args.key.now) (sym c.self.view_is)
    ∙ contains-keys c.self.inside.table.keys c.args.key.now ∙ c.in_err-insert.ensures.absent))
