-- Answer of purge_states: a slice of the states keeps the configuration, and leaves no handshake to come.
use Rattle.std.proofs.Common.{◌∙◌}
use Rattle.pfs_store_contract.proofs.MomentLaws.{state_slice-up_to_now}
use Rattle.pfs_tests_machine.proofs.tests.tried.Tried.purge_states.Goals as goal

pub invariant_of-self : goal.invariant_of-self
invariant_of-self g c = (
  c.purge_states.ensures.config ∙ c.self.invariant.0,
  rw c.purge_states.ensures.world (state_slice-up_to_now (g.S.Store.config c.self.inside.store) (g.S.Store.world c.self.inside.store) c.self.inside.now c.self.inside.now c.self.invariant.1),
  c.self.invariant.2,
)
