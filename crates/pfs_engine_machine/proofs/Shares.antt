-- No slice examines more than its share.
use Rattle.std.proofs.Common.{◌≤◌, ℕ, List, [], ◌∷◌, arith}
use Rattle.std.proofs.lemmas.List.{length-take}
use Rattle.pfs_conf_values.specs.Configs.{Conf}
use Rattle.pfs_store_contract.specs.Purging.{node_round, node_share, purge, state_round, state_share, state_slice}
use Rattle.pfs_store_contract.specs.Worlds.{World}
use Rattle.pfs_store_contract.specs.Seconds.{most_nodes, most_states}

pub most_states-share : (conf : Conf) (w : World) (ss : List ℕ) → most_states conf w ss ≤ state_share conf
most_states-share conf w [] = omega arith
most_states-share conf w (s ∷ ss) =
    omega (arith, length-take (state_share conf) (state_round w), most_states-share conf (purge conf w s) ss)

pub most_nodes-share : (conf : Conf) (w : World) (ss : List ℕ) → most_nodes conf w ss ≤ node_share conf
most_nodes-share conf w [] = omega arith
most_nodes-share conf w (s ∷ ss) =
    omega (arith, length-take (node_share conf) (node_round (state_slice conf w s)), most_nodes-share conf (purge conf w s) ss)
