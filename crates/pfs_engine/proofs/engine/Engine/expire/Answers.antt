-- Answers of Engine::expire: what an engine keeps, also after old entries left, with its clause `keeps`.
use Rattle.pfs_engine_machine.specs.declared.events.Command.TheVariants as command
use Rattle.pfs_engine.proofs.KeptByCalls.{keeps, whole_told}
use Rattle.pfs_engine.proofs.engine.Engine.expire.Goals as goal

pub invariant_of-self : goal.invariant_of-self
invariant_of-self g c =
    let inside = c.self.inside in
    whole_told inside.held c.expire.new.self inside.guard inside.first inside.last inside.taken c.unwrap_or-first.result c.unwrap_or-now.result c.args.table.0 (command.Expire c.args.seconds) _ c.self.invariant c.expire.ensures

pub returns-clause-keeps : goal.returns-clause-keeps
returns-clause-keeps g c =
    let inside = c.self.inside in
    keeps inside.held c.expire.new.self c.args.self.now inside.guard inside.guard inside.first inside.last inside.taken inside.taken inside.going inside.going inside.work inside.work c.self.view_is c.expire.ensures.config
    (whole_told inside.held c.expire.new.self inside.guard inside.first inside.last inside.taken c.unwrap_or-first.result c.unwrap_or-now.result c.args.table.0 (command.Expire c.args.seconds) _ c.self.invariant c.expire.ensures)
