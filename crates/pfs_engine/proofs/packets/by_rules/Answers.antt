-- Answers of by_rules: the keys of a state are free where no rule translates (`fresh`).
use Rattle.std.proofs.Common.{◌≡◌, ◌∙◌, ap, subst, sym, true, ℕ, false, Some, None, Option, IfOk}
use Rattle.pfs_addr_values.specs.Packets.{PacketView}
use Rattle.pfs_engine_machine.specs.Machine.{packet_ruled, MachineContents, answer_of_loss, answer_of_rule, deciding_rule, losing_rule, answer_of_rules}
use Rattle.pfs_engine_machine.specs.Guards.{asked}
use Rattle.pfs_engine_machine.specs.Sides.{are_free}
use Rattle.pfs_engine_machine.proofs.Leading.{led_on}
use Rattle.pfs_engine.proofs.packets.by_rules.Goals as goal
use Rattle.pfs_engine.proofs.packets.by_rules.Goals.{else-may_go_on, then-may_go_on}
use Rattle.std.specs.Prelude.{option_map}
use Rattle.std.proofs.lemmas.Bool.{false≢true}
use Rattle.pfs_conf_values.specs.declared.items.RuleNo.{RuleNo}
use Rattle.pfs_engine_machine.specs.Visits.{AreVisits}
use Rattle.pfs_engine_machine.specs.declared.events.Outcome.{Outcome}
use Rattle.pfs_engine.specs.Contents.{ContentsView}
use Rattle.pfs_engine.specs.Packets.{NeedsNoneBy, NeedsNoneUnlessLost}
use Rattle.pfs_engine.specs.Ways.{HasRoutes}

pub by_action-requires-clause-fresh : goal.by_action-requires-clause-fresh
by_action-requires-clause-fresh g c = λ none.
    let was = c.args.held.now in
    let p = c.args.packet.now in
    let going = c.decide-decision.ensures.packet ∙ ap (packet_ruled was.config was.held) c.asked-ruled.ensures in
    subst (λ (q : PacketView). are_free was.held.world p q ≡ true) (sym going)
    (c.requires.free (packet_ruled was.config was.held (asked p c.args.cookie)) ((led_on was.config was.held p c.args.cookie).key none) none)

pub returns-in-None-Some-clause-answered : goal.returns-in-None-Some-clause-answered
returns-in-None-Some-clause-answered g c =
    let was = c.args.held.now in
    let p = c.args.packet.now in
    let q = asked p c.args.cookie in
    let rule = c.in-None-Some.rule in
    let r = c.by_action.result in
    let after = c.by_action.new.held in
    let lost = sym (c.decide-decision.ensures.lost ∙ ap (losing_rule was.config was.held) c.asked-ruled.ensures) ∙ ap (option_map (λ (x : RuleNo). x.0)) c.in-None-Some.is-0 in
    let decides = sym (c.decide-decision.ensures.rule ∙ ap (deciding_rule was.config was.held) c.asked-ruled.ensures) ∙ ap (option_map (λ (x : RuleNo). x.0)) c.in-None-Some.is-1 in
    let going = c.decide-decision.ensures.packet ∙ ap (packet_ruled was.config was.held) c.asked-ruled.ensures in
    let path : answer_of_rule was.config was.held p c.decide-decision.new.packet c.args.cookie c.args.now (Some rule.0) ≡ answer_of_rules was.config was.held p c.args.cookie c.args.now =
    λ i. answer_of_loss was.config was.held p (going i) c.args.cookie c.args.now (sym decides i) (sym lost i) in
    let a = c.by_action.ensures.answered in
    record { ok = subst (λ (x : Outcome × MachineContents). IfOk r (λ o. (o, after.held) ≡ x)) path a.ok; err = a.err; config = a.config }

pub returns-in-None-Some-clause-going : goal.returns-in-None-Some-clause-going
returns-in-None-Some-clause-going g c = λ routes.
    let was = c.args.held.now in
    let p = c.args.packet.now in
    let here = ap (λ (v : ContentsView _). v.config) c.held.view_is in
    let going = c.decide-decision.ensures.packet ∙ ap (packet_ruled was.config was.held) c.asked-ruled.ensures in
    elim c.if-may_go_on.branch [
      | then-may_go_on x ↦ x.going-is ∙ ap (λ (q : PacketView). Some q) (x.with_flags.ensures ∙ (λ i. record (going i) { flags = x.flags.ensures i }))
      | else-may_go_on x ↦ absurd (false≢true (x.if-may_go_on.ensures.1 (subst HasRoutes (sym here) routes)))
    ]

pub returns-in-None-Some-clause-visits : goal.returns-in-None-Some-clause-visits
returns-in-None-Some-clause-visits g c =
    let was = c.args.held.now in
    subst (λ (q : PacketView). AreVisits was.config was.held q false None c.decide-decision.new.visits) c.asked-ruled.ensures c.decide-decision.ensures.visits

pub returns-in-None-Some-clause-free : goal.returns-in-None-Some-clause-free
returns-in-None-Some-clause-free g c = λ needs.
    let was = c.args.held.now in
    let p = c.args.packet.now in
    let rule = c.in-None-Some.rule in
    let lost = sym (c.decide-decision.ensures.lost ∙ ap (losing_rule was.config was.held) c.asked-ruled.ensures) ∙ ap (option_map (λ (x : RuleNo). x.0)) c.in-None-Some.is-0 in
    let decides = sym (c.decide-decision.ensures.rule ∙ ap (deciding_rule was.config was.held) c.asked-ruled.ensures) ∙ ap (option_map (λ (x : RuleNo). x.0)) c.in-None-Some.is-1 in
    let going = c.decide-decision.ensures.packet ∙ ap (packet_ruled was.config was.held) c.asked-ruled.ensures in
    let ruled = packet_ruled was.config was.held (asked p c.args.cookie) in
    let by = subst (λ (x : Option ℕ). NeedsNoneUnlessLost was.config was.held p ruled x None) decides
    (subst (λ (x : Option ℕ). NeedsNoneUnlessLost was.config was.held p ruled (deciding_rule was.config was.held (asked p c.args.cookie)) x) lost needs) in
    let here = subst (λ (x : PacketView). NeedsNoneBy was.config was.held p x (Some rule.0)) (sym going) by in
    c.by_action.ensures.free here
