-- Answer of within_limits: what is held stays within the limits through the acts of a run.
use Rattle.pfs_engine_machine.proofs.WithinLimits.{stays-within}
use Rattle.pfs_engine_machine.proofs.staying.within_limits.Goals as goal

pub returns : goal.returns
returns c = stays-within c.args.config.now c.args.events.now c.keeps_load_rules.ensures c.requires.order
