-- Answers of answer: what it meets is kept (`kept`); what comes of a packet of a held state, whether it brings a cookie or not; and what the
-- meters show where the rules decide (`meters`).
use Rattle.std.proofs.Common.{◌≡◌, ◌∙◌, None, IfOk, OnErr, ap, subst, sym, Result, Ok, Err, Some, Option, OnOk}
use Rattle.std.specs.Prelude.{option_map}
use Rattle.pfs_conf_values.specs.Configs.{Conf}
use Rattle.pfs_engine_machine.specs.MachineInvariants.{IsKept}
use Rattle.pfs_engine_machine.specs.Looks.{AreLooks}
use Rattle.pfs_engine_machine.specs.Machine.{MachineContents, answer_of_key, held_for, answer_of_rules, answer_of_state, going_of_state}
use Rattle.pfs_engine_machine.specs.Visits.{AreVisits}
use Rattle.pfs_engine_machine.proofs.Reopening.{kept_met}
use Rattle.pfs_engine.proofs.Metering.{meters_by_rules, none_found}
use Rattle.pfs_engine.proofs.packets.answer.Goals as goal
use Rattle.pfs_engine_machine.specs.Sides.{state_for}
use Rattle.pfs_engine.proofs.Numbered.{plain-free}
use Rattle.pfs_engine_machine.specs.declared.events.Outcome.{Outcome}
use Rattle.pfs_addr_values.specs.Packets.{PacketView}
use Rattle.pfs_store_contract.specs.declared.records.State.{State}
use Rattle.pfs_engine.specs.Contents.{ContentsView, IsHeldAfter}
use Rattle.pfs_engine.specs.Packets.{NeedsNone}
use Rattle.pfs_engine.specs.Ways.{HasRoutes}

-- what holds of what was met there holds of what is found, and the other way round
of-met : {X : Type 0} (was met : ContentsView X) (found : MachineContents) (P : Conf → MachineContents → Type 0) → IsHeldAfter was met found → P met.config met.held → P was.config found
of-met was met found P same h = subst (λ (k : Conf). P k found) same.config (subst (P met.config) same.held h)

to-met : {X : Type 0} (was met : ContentsView X) (found : MachineContents) (P : Conf → MachineContents → Type 0) → IsHeldAfter was met found → P was.config found → P met.config met.held
to-met was met found P same h = subst (P met.config) (sym same.held) (subst (λ (k : Conf). P k found) (sym same.config) h)

-- no state is found
none : (g : _) (c : goal.After-by_rules g) → state_for (held_for c.args.held.now.config c.args.held.now.held c.args.packet.now c.args.now).world c.args.packet.now ≡ None
none g c = subst (λ (h : MachineContents). state_for h.world c.args.packet.now ≡ None) c.meet.ensures.held.held
    (none_found (state_for c.meet.new.held.held.world c.args.packet.now) (sym c.meet.ensures.number ∙ ap (option_map _) c.in-None.is))

pub take_packet_of_state-requires-clause-kept : goal.take_packet_of_state-requires-clause-kept
take_packet_of_state-requires-clause-kept g c =
    let was = c.args.held.now in
    to-met was c.meet.new.held _ (λ k h. IsKept k h c.args.now) c.meet.ensures.held (kept_met was.config was.held c.args.packet.now c.args.now c.requires.kept)

pub returns-in-Some-clause-answered : goal.returns-in-Some-clause-answered
returns-in-Some-clause-answered g c =
    let same = c.meet.ensures.held in
    let r = c.take_packet_of_state.result in
    let after = c.take_packet_of_state.new.held.held in
    let a = c.take_packet_of_state.ensures.answered c.args.cookie in
    record {
      ok = of-met c.args.held.now c.meet.new.held _ (λ k h. IfOk r (λ o. (o, after) ≡ answer_of_key k h c.args.packet.now c.args.cookie c.args.now)) same a.ok;
      err = subst (λ (h : MachineContents). OnErr r (after ≡ h)) same.held a.err;
      config = a.config ∙ same.config;
    }

pub returns-in-None-clause-meters : goal.returns-in-None-clause-meters
returns-in-None-clause-meters g c =
    let was = c.args.held.now in
    let p = c.args.packet.now in
    let same = c.meet.ensures.held in
    let visits = of-met was c.meet.new.held _ (λ k h. AreVisits k h p c.args.cookie None c.by_rules.new.visits) same c.by_rules.ensures.visits in
    let no_looks = subst (λ (k : Conf). IfOk c.by_rules.result (λ o. AreLooks k 0 o 0)) same.config c.by_rules.ensures.no_looks in
    meters_by_rules g.S.Store.counts was.config was.held (held_for was.config was.held p c.args.now) p c.args.cookie c.by_rules.result c.meet.new.looks c.by_rules.new.visits (none g c) visits c.meet.ensures.looks no_looks

pub by_rules-requires-clause-free : goal.by_rules-requires-clause-free
by_rules-requires-clause-free g c = λ q key plain.
    let was = c.args.held.now in
    let p = c.args.packet.now in
    let met = c.meet.new.held in
    let kept = to-met was met _ (λ k h. IsKept k h c.args.now) c.meet.ensures.held (kept_met was.config was.held p c.args.now c.requires.kept) in
    plain-free met.config met.held p q c.args.now kept (none_found (state_for met.held.world p) (sym c.meet.ensures.number ∙ ap (option_map _) c.in-None.is)) key plain

-- what holds holds where it is answered
on-ok : {A E : Type 0} (r : Result A E) (X : Type 0) → X → OnOk r X
on-ok (Ok a) X x = x
on-ok (Err e) X x = tt

pub returns-in-None-clause-answered : goal.returns-in-None-clause-answered
returns-in-None-clause-answered g c =
    let was = c.args.held.now in
    let p = c.args.packet.now in
    let same = c.meet.ensures.held in
    let r = c.by_rules.result in
    let after = c.by_rules.new.held in
    let a = c.by_rules.ensures.answered in
    let path = (λ i. answer_of_rules (same.config i) (same.held i) p c.args.cookie c.args.now) ∙ sym (ap (answer_of_state was.config (held_for was.config was.held p c.args.now) p c.args.cookie c.args.now) (none g c)) in
    record {
      ok = subst (λ (x : Outcome × MachineContents). IfOk r (λ o. (o, after.held) ≡ x)) path a.ok;
      err = subst (λ (h : MachineContents). OnErr r (after.held ≡ h)) same.held a.err;
      config = a.config ∙ same.config;
    }

pub returns-in-None-clause-going : goal.returns-in-None-clause-going
returns-in-None-clause-going g c =
    let was = c.args.held.now in
    let p = c.args.packet.now in
    let same = c.meet.ensures.held in
    on-ok c.by_rules.result _ (λ routes. c.by_rules.ensures.going (subst HasRoutes (sym same.config) routes)
    ∙ ap (λ (q : PacketView). Some q) ((λ i. going_of_state (same.config i) (same.held i) p c.args.cookie None)
    ∙ sym (ap (going_of_state was.config (held_for was.config was.held p c.args.now) p c.args.cookie) (none g c))))

pub returns-in-None-clause-free : goal.returns-in-None-clause-free
returns-in-None-clause-free g c = λ needs.
    let was = c.args.held.now in
    let p = c.args.packet.now in
    let here = subst (λ (s : Option State). NeedsNone was.config (held_for was.config was.held p c.args.now) p c.args.cookie s) (none g c) needs in
    c.by_rules.ensures.free (to-met was c.meet.new.held _ (λ k h. NeedsNone k h p c.args.cookie None) c.meet.ensures.held here)
