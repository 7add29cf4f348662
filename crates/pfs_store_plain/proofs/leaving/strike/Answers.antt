-- Answer of strike: the numbers that are left are those that states have (`items`).
use Rattle.std.proofs.Common.{rules}
use Rattle.std.proofs.lemmas.Fn.{filter_same}
use Rattle.pfs_store_contract.specs.Worlds.{holds_number}
use Rattle.pfs_store_plain.proofs.leaving.strike.Goals as goal

pub returns-clause-items : goal.returns-clause-items
returns-clause-items c =
    filter_same _ (holds_number c.args.states.now) _ (λ x b f' k. search rules) _ _ c.retain.ensures.filtered
