-- Answers of Engine::kill: what an engine keeps, also after states left, with its clause `keeps`.
use Rattle.pfs_engine.proofs.KeptByCalls.{keeps, whole_killed}
use Rattle.pfs_engine.proofs.engine.Engine.kill.Goals as goal

pub invariant_of-self : goal.invariant_of-self
invariant_of-self g c =
    let inside = c.self.inside in
    whole_killed inside.held c.kill.new.self inside.guard inside.first inside.last inside.taken _ c.args.hosts.now _ c.self.invariant c.kill.ensures

pub returns-clause-keeps : goal.returns-clause-keeps
returns-clause-keeps g c =
    let inside = c.self.inside in
    keeps inside.held c.kill.new.self c.args.self.now inside.guard inside.guard inside.first inside.last inside.taken inside.taken inside.going inside.going inside.work inside.work c.self.view_is c.kill.ensures.config
    (whole_killed inside.held c.kill.new.self inside.guard inside.first inside.last inside.taken _ c.args.hosts.now _ c.self.invariant c.kill.ensures)
