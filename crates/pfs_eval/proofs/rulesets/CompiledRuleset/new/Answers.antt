-- The lines are those of their own items, which are the configuration's.
use Rattle.std.proofs.Common.{subst, sym}
use Rattle.pfs_eval.specs.Glances.{AreGlances}
use Rattle.pfs_eval.specs.Lines.{AreLines}
use Rattle.pfs_eval.proofs.LinesMade.{items-are}
use Rattle.pfs_eval.proofs.rulesets.CompiledRuleset.new.Goals as goal

pub invariant_of-result : goal.invariant_of-result
invariant_of-result c = (
  subst (λ is. AreLines is c.in_ok-lines.lines.items) (sym (items-are c.in_ok-lines.ensures)) c.in_ok-lines.ensures,
  subst (λ ls. AreGlances ls c.in_ok-glances.glances.items) c.deref.ensures.value c.in_ok-glances.ensures,
)

pub returns : goal.returns
returns c = items-are c.in_ok-lines.ensures
