-- Answers of by_limits: where no limit is met, what is held is as before, so that the keys decide (`answered`, `free`).
use Rattle.std.proofs.Common.{◌≡◌, ◌∙◌, false, IfOk, OnErr, ap, subst, sym}
use Rattle.pfs_store_contract.specs.Calls.{packet_limit, world_asked}
use Rattle.pfs_store_contract.specs.Worlds.{World}
use Rattle.pfs_engine_machine.specs.Machine.{MachineContents, answer_of_limits, held_of}
use Rattle.pfs_engine_machine.specs.Sides.{are_free}
use Rattle.pfs_engine_machine.specs.declared.events.Outcome.{Outcome}
use Rattle.pfs_engine.specs.Contents.{ContentsView}
use Rattle.pfs_engine.specs.Packets.{NeedsNoneAtLimits}
use Rattle.pfs_engine.proofs.Admitting.{keys_are_limits}
use Rattle.pfs_engine.proofs.packets.by_limits.Goals as goal
use Rattle.pfs_store_contract.specs.Admission.{limit_met}

pub returns-in-None-clause-answered : goal.returns-in-None-clause-answered
returns-in-None-clause-answered g c =
    let inside = c.held.inside in
    let w = g.S.Store.world inside.store in
    let store_conf = g.S.Store.config inside.store in
    let v = g.S.Store.world c.meet_limit.new.self in
    let p = c.args.packet.now in
    let going = c.args.going.now in
    let none = sym c.in_ok-limit.ensures.answer ∙ c.in-None.is in
    let same = c.in_ok-limit.ensures.ok ∙ ap (world_asked store_conf w c.src.result c.args.rule.0 c.args.now) none in
    let limits = keys_are_limits inside.config store_conf (held_of w inside.tables.entries) v p going c.args.cookie c.args.now c.args.rule.0 c.src.result c.held.invariant.store c.src.ensures none same
    ∙ ap (λ (x : ContentsView _). answer_of_limits x.config x.held p going c.args.cookie c.args.now c.args.rule.0 (packet_limit x.config x.held.world p c.args.rule.0)) c.held.view_is in
    let r = c.by_keys.result in
    let after = c.by_keys.new.held in
    let a = c.by_keys.ensures.answered in
    let before = ap (λ (x : World). held_of x inside.tables.entries) same ∙ ap (λ (x : ContentsView _). x.held) c.held.view_is in
    record {
      ok = subst (λ (x : Outcome × MachineContents). IfOk r (λ o. (o, after.held) ≡ x)) limits a.ok;
      err = subst (λ (x : MachineContents). OnErr r (after.held ≡ x)) before a.err;
      config = a.config ∙ ap (λ (x : ContentsView _). x.config) c.held.view_is;
    }

pub returns-in-None-clause-free : goal.returns-in-None-clause-free
returns-in-None-clause-free g c =
    let inside = c.held.inside in
    let w = g.S.Store.world inside.store in
    let store_conf = g.S.Store.config inside.store in
    let v = g.S.Store.world c.meet_limit.new.self in
    let p = c.args.packet.now in
    let going = c.args.going.now in
    let none = sym c.in_ok-limit.ensures.answer ∙ c.in-None.is in
    let same = c.in_ok-limit.ensures.ok ∙ ap (world_asked store_conf w c.src.result c.args.rule.0 c.args.now) none in
    let met = ap (λ (x : ContentsView _). packet_limit x.config x.held.world p c.args.rule.0) (sym c.held.view_is)
    ∙ (λ i. limit_met (sym c.held.invariant.store i) w c.args.rule.0 (sym c.src.ensures i)) ∙ none in
    λ needs.
    let taken : are_free c.args.held.now.held.world p going ≡ false = subst (NeedsNoneAtLimits c.args.held.now.config c.args.held.now.held.world p going c.args.rule.0) met needs in
    c.by_keys.ensures.free (ap (λ (x : World). are_free x p going) (same ∙ ap (λ (x : ContentsView _). x.held.world) c.held.view_is) ∙ taken)
