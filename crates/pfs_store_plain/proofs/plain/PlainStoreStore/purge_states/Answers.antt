-- Answer of PlainStore's purge_states: what slice_states says of its lists it says of the world (`world`).
use Rattle.std.proofs.Common.{arith}
use Rattle.std.proofs.lemmas.Grind.{common_steps}
use Rattle.pfs_store_plain.proofs.plain.PlainStoreStore.purge_states.Goals as goal

pub returns-clause-world : goal.returns-clause-world
returns-clause-world c =
    grind (arith, common_steps, c.slice_states.ensures.world c.self.inside.pending_nodes.items c.self.inside.made)
