-- Answer of touch: a packet of a state keeps the configuration, and leaves no handshake to come.
use Rattle.std.proofs.Common.{◌∙◌}
use Rattle.pfs_store_contract.proofs.MomentLaws.{world_touched-up_to_now}
use Rattle.pfs_tests_machine.proofs.tests.tried.Tried.touch.Goals as goal

pub invariant_of-self : goal.invariant_of-self
invariant_of-self g c = (
  c.touch.ensures.config ∙ c.self.invariant.0,
  rw c.touch.ensures.world (world_touched-up_to_now (g.S.Store.config c.self.inside.store) (g.S.Store.world c.self.inside.store) c.args.packet.now c.self.inside.now _ c.self.invariant.1),
  c.self.invariant.2,
)
