-- Answer of keep: the states that are left are those that pass the test (`items`).
use Rattle.std.proofs.Common.{rules}
use Rattle.std.proofs.lemmas.Fn.{filter_same}
use Rattle.pfs_store_plain.proofs.leaving.keep.Goals as goal

pub returns-clause-items : goal.returns-clause-items
returns-clause-items g c =
    filter_same _ (g.T.Test.passes c.args.test.now) _ (λ x b f' k. search rules) _ _ c.retain.ensures.filtered
