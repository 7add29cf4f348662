-- Answer of IndexStore::turn: no more wait of a round than are held (`fits`).
use Rattle.std.proofs.Common.{◌≤◌, length, subst}
use Rattle.pfs_store_index.specs.Holdings.{Indexed}
use Rattle.pfs_store_index.proofs.Leavings.{state_number}
use Rattle.pfs_store_index.proofs.Retained.{node_number}
use Rattle.pfs_store_index.proofs.RisingWalks.{all-fewer}
use Rattle.pfs_store_index.proofs.store.IndexStore.turn.Goals as goal

pub returns-clause-fits : goal.returns-clause-fits
returns-clause-fits g c =
    let s = c.self.inside in
    subst (λ (q : Indexed). (length q.world.pending_states ≤ length q.world.states) × (length q.world.pending_nodes ≤ length q.world.nodes)) c.self.view_is
    (all-fewer state_number s.states_round.cursor s.states_round.mark s.indexes.states, all-fewer node_number s.nodes_round.cursor s.nodes_round.mark s.indexes.nodes)
