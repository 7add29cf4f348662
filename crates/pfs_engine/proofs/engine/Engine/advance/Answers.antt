-- Answers of Engine::advance: what an engine keeps, also where time passes, and its limits.
use Rattle.std.proofs.Common.{◌≤◌, ◌∙◌, ℕ, Some, ap, subst, sym}
use Rattle.std.specs.Option.{ForSome}
use Rattle.pfs_engine.specs.Views.{IsWhole, View, machine_at}
use Rattle.pfs_engine.proofs.KeptByCalls.{whole_advanced}
use Rattle.pfs_engine.proofs.engine.Engine.advance.Goals as goal

pub invariant_of-self : goal.invariant_of-self
invariant_of-self g c =
    let inside = c.self.inside in
    let later : ForSome inside.last (λ m. m ≤ c.args.now) = λ m e. c.requires.order m (sym (ap (λ (v : View). v.machine.last) c.self.view_is) ∙ e) in
    subst (λ (n : ℕ). IsWhole c.pass_due-self-inside.new.held.config (machine_at c.pass_due-self-inside.new.held.held c.pass_due-self-inside.new.guard (Some n) (Some c.args.now)) inside.taken) (sym c.unwrap_or.ensures)
    (whole_advanced inside.held c.pass_due-self-inside.new.held inside.guard c.pass_due-self-inside.new.guard inside.first inside.last inside.taken c.args.now later c.requires.moment c.self.invariant c.pass_due-self-inside.ensures.held)

pub returns-clause-limits : goal.returns-clause-limits
returns-clause-limits g c =
    let inside = c.self.inside in
    let later : ForSome inside.last (λ m. m ≤ c.args.now) = λ m e. c.requires.order m (sym (ap (λ (v : View). v.machine.last) c.self.view_is) ∙ e) in
    (whole_advanced inside.held c.pass_due-self-inside.new.held inside.guard c.pass_due-self-inside.new.guard inside.first inside.last inside.taken c.args.now later c.requires.moment c.self.invariant c.pass_due-self-inside.ensures.held).kept.limits
