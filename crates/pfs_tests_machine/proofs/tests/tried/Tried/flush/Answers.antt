-- Answer of flush: a flush keeps the configuration, and leaves no handshake to come.
use Rattle.std.proofs.Common.{◌∙◌}
use Rattle.pfs_store_contract.proofs.MomentLaws.{flushed-up_to_now}
use Rattle.pfs_tests_machine.proofs.tests.tried.Tried.flush.Goals as goal

pub invariant_of-self : goal.invariant_of-self
invariant_of-self g c = (
  c.flush.ensures.config ∙ c.self.invariant.0,
  rw c.flush.ensures.world (flushed-up_to_now (g.S.Store.config c.self.inside.store) (g.S.Store.world c.self.inside.store) c.args.dir c.args.source c.args.rule c.self.inside.now c.self.inside.now c.self.invariant.1),
  c.self.invariant.2,
)
