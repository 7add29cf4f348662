-- Answers of staleness: a run is its acts (`run`), and what is to go goes in time (`states`, `nodes`).
use Rattle.pfs_engine_machine.specs.Machine.{start}
use Rattle.pfs_engine_machine.proofs.RunActs.{acts-done}
use Rattle.pfs_engine_machine.proofs.Staling.{nodes-go}
use Rattle.pfs_engine_machine.proofs.Untouched.{states-go}
use Rattle.pfs_engine_machine.proofs.staying.staleness.Goals as goal

pub returns-clause-run : goal.returns-clause-run
returns-clause-run c = acts-done c.args.config.now (start c.args.config.now) c.args.events.now

pub returns-clause-states : goal.returns-clause-states
returns-clause-states c = states-go c.args.config.now c.args.events.now c.keeps_load_rules.ensures

pub returns-clause-nodes : goal.returns-clause-nodes
returns-clause-nodes c = nodes-go c.args.config.now c.args.events.now c.keeps_load_rules.ensures
