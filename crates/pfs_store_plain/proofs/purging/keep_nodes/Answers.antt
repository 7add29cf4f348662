-- Answer of keep_nodes: the nodes that are left are those that stay by the definition (`items`).
use Rattle.std.proofs.Common.{rules}
use Rattle.std.proofs.lemmas.Fn.{filter_same}
use Rattle.pfs_store_contract.specs.Purging.{node_stays}
use Rattle.pfs_store_plain.proofs.purging.keep_nodes.Goals as goal

pub returns-clause-items : goal.returns-clause-items
returns-clause-items c =
    filter_same _ (node_stays c.args.config.now c.args.states.now c.args.now c.args.examined.now) _ (λ x b f' k. search rules) _ _ c.retain.ensures.filtered
