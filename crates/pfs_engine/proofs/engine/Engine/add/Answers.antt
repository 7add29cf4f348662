-- Answers of Engine::add: what an engine keeps, also after an entry was added, with its clause `keeps`.
use Rattle.pfs_engine_machine.specs.declared.events.Command.TheVariants as command
use Rattle.pfs_engine.proofs.KeptByCalls.{keeps, whole_answered}
use Rattle.pfs_engine.proofs.engine.Engine.add.Goals as goal

pub invariant_of-self : goal.invariant_of-self
invariant_of-self g c =
    let inside = c.self.inside in
    whole_answered inside.held c.add.new.self inside.guard inside.first inside.last inside.taken 0 c.unwrap_or-now.result c.args.table.0 (command.Add c.args.entry.now) c.add.result _ c.self.invariant c.add.ensures.answered

pub returns-clause-keeps : goal.returns-clause-keeps
returns-clause-keeps g c =
    let inside = c.self.inside in
    keeps inside.held c.add.new.self c.args.self.now inside.guard inside.guard inside.first inside.last inside.taken inside.taken inside.going inside.going inside.work inside.work c.self.view_is c.add.ensures.answered.config
    (whole_answered inside.held c.add.new.self inside.guard inside.first inside.last inside.taken 0 c.unwrap_or-now.result c.args.table.0 (command.Add c.args.entry.now) c.add.result _ c.self.invariant c.add.ensures.answered)
