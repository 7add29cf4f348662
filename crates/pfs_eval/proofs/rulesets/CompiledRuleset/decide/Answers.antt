-- Answers of CompiledRuleset::decide: what decides is the number of a rule (`rule`), and what it makes of the packet (`packet`, `lost`).
use Rattle.std.proofs.Common.{◌∙◌}
use Rattle.pfs_eval.specs.Asking.{asking}
use Rattle.pfs_eval.specs.Verdict.{IsRuleAt}
use Rattle.pfs_eval.proofs.Deciding.{behind-is, lost-is, of-number, verdict-rule}
use Rattle.pfs_eval.proofs.rulesets.CompiledRuleset.decide.Goals as goal

pub returns-clause-rule : goal.returns-clause-rule
returns-clause-rule g c =
    of-number (IsRuleAt c.args.self.now) c.rule_no.result _ (c.rule_no.ensures ∙ c.walk-found.ensures.verdict)
    (verdict-rule (asking c.args.self.now c.args.tables.now.entries (g.S.Sides.taken c.args.sides.now)) c.args.packet.now c.args.self.now)

pub returns-clause-packet : goal.returns-clause-packet
returns-clause-packet g c =
    c.pass-passed.ensures.packet
    ∙ behind-is c.args.self.now c.args.tables.now.entries (g.S.Sides.taken c.args.sides.now) c.args.packet.now c.walk-found.result c.walk-found.new.packet
    (record { verdict = c.walk-found.ensures.verdict; packet = c.walk-found.ensures.packet })

pub returns-clause-lost : goal.returns-clause-lost
returns-clause-lost g c =
    c.rule_lost.ensures
    ∙ lost-is c.args.self.now c.args.tables.now.entries (g.S.Sides.taken c.args.sides.now) c.args.packet.now c.walk-found.result c.walk-found.new.packet
    (record { verdict = c.walk-found.ensures.verdict; packet = c.walk-found.ensures.packet }) c.pass-passed.result c.pass-passed.ensures.goes_on
