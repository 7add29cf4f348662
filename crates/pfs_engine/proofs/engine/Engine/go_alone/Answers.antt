-- Answers of Engine::go_alone: a record is one event, and so are its packets (`taken`).
use Rattle.pfs_engine.proofs.Rows.{packets-of-alone}
use Rattle.pfs_engine.proofs.engine.Engine.go_alone.Goals as goal

pub returns-clause-taken : goal.returns-clause-taken
returns-clause-taken g c =
    packets-of-alone c.args.self.now.config c.args.self.now.machine c.step.new.self.machine c.args.row.now c.in_ok-first.first c.args.self.now.taken c.step.new.self.taken
    c.requires.alone c.in_ok-first.ensures.ok c.in_ok-first.ensures.taken.taken
