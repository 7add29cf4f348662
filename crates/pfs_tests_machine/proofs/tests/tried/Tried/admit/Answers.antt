-- Answer of admit: a packet that makes a state, or is refused, keeps the configuration, and leaves no handshake to come.
use Rattle.std.proofs.Common.{◌∙◌}
use Rattle.pfs_store_contract.proofs.MomentLaws.{world_at-up_to_now}
use Rattle.pfs_tests_machine.proofs.tests.tried.Tried.admit.Goals as goal

pub invariant_of-self-2 : goal.invariant_of-self-2
invariant_of-self-2 g c = (
  c.admit.ensures.config ∙ c.self.invariant.0,
  rw c.in_ok-admit.ensures.ok (world_at-up_to_now (g.S.Store.config c.self.inside.store) (g.S.Store.world c.self.inside.store) c.args.packet.now c.args.packet.now c.args.rule.0 c.args.cookie c.self.inside.now _ c.self.invariant.1),
  c.self.invariant.2,
)
