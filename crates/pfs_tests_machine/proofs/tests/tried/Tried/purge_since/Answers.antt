-- Answer of purge_since: the purges of seconds keep the configuration, and leave no handshake to come.
use Rattle.std.proofs.Common.{ℕ, List, [], ◌∷◌, ◌∙◌}
use Rattle.pfs_conf_values.specs.Configs.{Conf}
use Rattle.pfs_store_contract.specs.Purging.{purge, state_slice}
use Rattle.pfs_store_contract.specs.Seconds.{seconds, world_after_purges}
use Rattle.pfs_store_contract.specs.Worlds.{IsUpToNow, World}
use Rattle.pfs_store_contract.proofs.MomentLaws.{node_slice-up_to_now, state_slice-up_to_now}
use Rattle.pfs_tests_machine.proofs.tests.tried.Tried.purge_since.Goals as goal

purged-up_to_now : (conf : Conf) (w : World) (now : ℕ) (ss : List ℕ) → IsUpToNow now w → IsUpToNow now (world_after_purges conf w ss)
purged-up_to_now conf w now [] h = h
purged-up_to_now conf w now (s ∷ ss) h =
    purged-up_to_now conf (purge conf w s) now ss (node_slice-up_to_now conf (state_slice conf w s) s now (state_slice-up_to_now conf w s now h))

pub invariant_of-self : goal.invariant_of-self
invariant_of-self g c = (
  c.purge_seconds.ensures.config ∙ c.self.invariant.0,
  rw c.purge_seconds.ensures.world (purged-up_to_now (g.S.Store.config c.self.inside.store) (g.S.Store.world c.self.inside.store) c.self.inside.now (seconds c.args.from c.self.inside.now) c.self.invariant.1),
  c.self.invariant.2,
)
