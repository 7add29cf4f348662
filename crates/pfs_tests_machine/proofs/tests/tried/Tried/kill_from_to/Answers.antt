-- Answer of kill_from_to: states that leave by their hosts keep the configuration, and leave no handshake to come.
use Rattle.std.proofs.Common.{◌∙◌, []}
use Rattle.pfs_store_contract.proofs.MomentLaws.{left-up_to_now}
use Rattle.pfs_tests_machine.proofs.tests.tried.Tried.kill_from_to.Goals as goal

pub invariant_of-self : goal.invariant_of-self
invariant_of-self g c = (
  c.kill_from_to.ensures.config ∙ c.self.invariant.0,
  rw c.kill_from_to.ensures.world (left-up_to_now (g.S.Store.config c.self.inside.store) (g.S.Store.world c.self.inside.store) _ [] c.self.inside.now c.self.inside.now c.self.invariant.1),
  c.self.invariant.2,
)
