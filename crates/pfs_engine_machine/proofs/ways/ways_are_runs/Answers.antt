-- Answers of ways_are_runs: the order of moments (`order`), the machine (`machine`) and the outcomes (`outcomes`).
use Rattle.std.proofs.Common.{None}
use Rattle.pfs_engine_machine.specs.Machine.{start}
use Rattle.pfs_engine_machine.proofs.RecordRuns.{machine-after-ways, order-of-ways, outcomes-of-ways}
use Rattle.pfs_engine_machine.proofs.ways.ways_are_runs.Goals as goal

pub returns-clause-order : goal.returns-clause-order
returns-clause-order c = order-of-ways c.args.config.now (start c.args.config.now) None c.args.records.now c.requires.order

pub returns-clause-machine : goal.returns-clause-machine
returns-clause-machine c = machine-after-ways c.args.config.now (start c.args.config.now) c.args.records.now

pub returns-clause-outcomes : goal.returns-clause-outcomes
returns-clause-outcomes c = outcomes-of-ways c.args.config.now (start c.args.config.now) c.args.records.now
