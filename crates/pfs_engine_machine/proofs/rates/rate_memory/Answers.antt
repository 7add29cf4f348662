-- Answers of rate_memory: the score and the kill by it are those of the source's history (`score`, `kill`).
use Rattle.pfs_engine_machine.proofs.Histories.{rate-is-remembered, score-is-remembered}
use Rattle.pfs_engine_machine.proofs.rates.rate_memory.Goals as goal

pub returns-clause-score : goal.returns-clause-score
returns-clause-score c = score-is-remembered c.args.config.now c.args.events.now c.keeps_load_rules.ensures c.requires.order

pub returns-clause-kill : goal.returns-clause-kill
returns-clause-kill c = rate-is-remembered c.args.config.now c.args.events.now c.keeps_load_rules.ensures c.requires.order
