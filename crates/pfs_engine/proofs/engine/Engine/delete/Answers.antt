-- Answers of Engine::delete: what an engine keeps, also after an entry left, with its clause `keeps`.
use Rattle.pfs_engine_machine.specs.declared.events.Command.TheVariants as command
use Rattle.pfs_engine.proofs.KeptByCalls.{keeps, whole_told}
use Rattle.pfs_engine.proofs.engine.Engine.delete.Goals as goal

pub invariant_of-self : goal.invariant_of-self
invariant_of-self g c =
    let inside = c.self.inside in
    whole_told inside.held c.delete.new.self inside.guard inside.first inside.last inside.taken 0 0 c.args.table.0 (command.Delete c.args.entry.now) _ c.self.invariant c.delete.ensures

pub returns-clause-keeps : goal.returns-clause-keeps
returns-clause-keeps g c =
    let inside = c.self.inside in
    keeps inside.held c.delete.new.self c.args.self.now inside.guard inside.guard inside.first inside.last inside.taken inside.taken inside.going inside.going inside.work inside.work c.self.view_is c.delete.ensures.config
    (whole_told inside.held c.delete.new.self inside.guard inside.first inside.last inside.taken 0 0 c.args.table.0 (command.Delete c.args.entry.now) _ c.self.invariant c.delete.ensures)
