-- Answer of PlainStore's purge_nodes: what slice_nodes says of its lists it says of the world (`world`).
use Rattle.std.proofs.Common.{arith}
use Rattle.std.proofs.lemmas.Grind.{common_steps}
use Rattle.pfs_store_plain.proofs.plain.PlainStoreStore.purge_nodes.Goals as goal

pub returns-clause-world : goal.returns-clause-world
returns-clause-world c =
    grind (arith, common_steps, c.slice_nodes.ensures.world c.self.inside.pending_states.items c.self.inside.made)
