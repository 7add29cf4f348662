-- Answer of admit_first: the first state, or a refusal, leaves no handshake to come (`order`).
use Rattle.std.proofs.Common.{false}
use Rattle.pfs_store_contract.proofs.MomentLaws.{world_at-up_to_now}
use Rattle.pfs_tests_memory.proofs.stores.admit_first.Goals as goal

pub returns : goal.returns
returns g c =
    rw c.in_ok-admit.ensures.ok (record {
      order = world_at-up_to_now (g.S.Store.config c.args.store.now) (g.S.Store.world c.args.store.now) c.args.packet.now c.args.packet.now 0 false c.args.now _ c.requires.order;
    })
