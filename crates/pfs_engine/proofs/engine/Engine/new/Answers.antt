-- Answers of Engine::new: what an engine keeps, and its limits, hold before the first event.
use Rattle.pfs_engine.proofs.KeptByCalls.{whole_start}
use Rattle.pfs_engine.proofs.engine.Engine.new.Goals as goal

pub invariant_of-result : goal.invariant_of-result
invariant_of-result g c = whole_start c.args.config c.in_ok-new.field-0 c.new-guard.result c.in_ok-new.ensures.config c.in_ok-new.ensures.held c.new.ensures.sound

pub returns-clause-limits : goal.returns-clause-limits
returns-clause-limits g c = (whole_start c.args.config c.in_ok-new.field-0 c.new-guard.result c.in_ok-new.ensures.config c.in_ok-new.ensures.held c.new.ensures.sound).kept.limits
