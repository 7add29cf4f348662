-- Answers of two_keys: keys are kept apart through the acts of a run (`keys`), and answers find the state that was made (`answers`).
use Rattle.pfs_engine_machine.proofs.Replies.{answers-belong}
use Rattle.pfs_engine_machine.proofs.WithinLimits.{stays-alone}
use Rattle.pfs_engine_machine.proofs.translating.two_keys.Goals as goal

pub returns-clause-keys : goal.returns-clause-keys
returns-clause-keys c = stays-alone c.args.config.now c.args.events.now c.keeps_load_rules.ensures c.requires.order

pub returns-clause-answers : goal.returns-clause-answers
returns-clause-answers c = answers-belong c.args.config.now
