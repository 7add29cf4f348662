-- Answers of Engine::run: no event yet, an event more, and where memory was refused (`err`).
use Rattle.std.proofs.Common.{◌≡◌, ◌<◌, ◌+◌, ℕ, List, [], ◌∷◌, ◌++◌, Some, length, get_or, take, arith, length-drop, ◌∙◌, ap, sym, inl, inr, refl, subst}
use Rattle.std.proofs.lemmas.Option.{slice_get-get_or}
use Rattle.pfs_conf_values.specs.Configs.{Conf}
use Rattle.pfs_engine_machine.specs.declared.events.Event.{Event}
use Rattle.pfs_engine_machine.specs.declared.events.Outcome.{Outcome}
use Rattle.pfs_engine_machine.specs.MachineInvariants.{IsWithinLimits}
use Rattle.pfs_engine_machine.specs.Machine.{Machine, machine_after, outcomes_of}
use Rattle.pfs_engine_machine.specs.Runs.{IsRefusedAt, IsStopped, packets_in}
use Rattle.pfs_engine.specs.Views.{View}
use Rattle.pfs_engine_machine.proofs.Running.{allowed_here, allowed_next, machine_next, machine_none, order_next, outcomes_next, outcomes_none, taken_next, taken_none}
use Rattle.pfs_engine.proofs.engine.Engine.run.Goals as goal

pub loop-event-init : goal.loop-event-init
loop-event-init g c =
    let conf = c.args.self.now.config in
    let first = c.args.self.now.machine in
    record {
      outcomes = outcomes_none conf first c.args.outcomes.now.items;
      machine = machine_none conf first;
      config = refl;
      allowed = c.requires.tables;
      order = c.requires.order;
      limits = subst (λ (v : View). IsWithinLimits v.config v.machine.held) c.self.view_is c.self.invariant.kept.limits;
      taken = taken_none c.args.self.now.taken;
      room = c.requires.room;
    }

-- the run stopped at an event: the outcomes and the packets taken are those of the events before it
stopped : (conf : Conf) (first new : Machine) (es : List Event) (before after : List Outcome) (taken now at : ℕ) (e other : Event) → at < length es → e ≡ get_or es at other
    → after ≡ before ++ outcomes_of conf first (take at es) → now ≡ taken + packets_in (take at es) → IsRefusedAt conf (machine_after conf first (take at es)) e new
    → IsStopped conf first es before after new taken now
stopped conf first new es before after taken now at e other within is outcomes counted refused = (
  at,
  within,
  (
    e,
    record {
      next = slice_get-get_or es at other within ∙ ap (λ (e : Event). Some e) (sym is);
      outcomes = outcomes;
      counted = counted;
      refused = refused;
    },
  ),
)

pub returns-then-is_err-clause-err : goal.returns-then-is_err-clause-err
returns-then-is_err-clause-err g c =
    let i = c.loop-event.invariant in
    stopped _ _ _ c.args.events.now _ _ _ _ c.loop-event.event-index _ _ (omega arith) c.event-item.is (c.reserve.ensures.items ∙ i.outcomes) i.taken (inl i.machine)

pub returns-in-Err-clause-err : goal.returns-in-Err-clause-err
returns-in-Err-clause-err g c =
    let i = c.loop-event.invariant in
    stopped _ _ _ c.args.events.now _ _ _ _ c.loop-event.event-index _ _ (omega arith) c.event-item.is (c.reserve.ensures.items ∙ i.outcomes) (c.in-Err.ensures.taken.not_taken ∙ i.taken)
    (inr (rw (i.config, i.machine) at c.in-Err.ensures.err))

pub loop-event-preserved : goal.loop-event-preserved
loop-event-preserved g c =
    let i = c.loop-event.invariant in
    let k = c.in-Ok.ensures in
    let at = c.loop-event.event-index in
    let es = c.args.events.now in
    let conf = c.args.self.now.config in
    let first = c.args.self.now.machine in
    let within : at < length es = omega arith in
    let stepped = rw (i.config, c.event-item.is) at k.ok in
    record {
      outcomes = c.push_reserved.ensures.items ∙ (ap (λ (os : List Outcome). os ++ c.in-Ok.outcome ∷ []) c.reserve.ensures.items ∙ outcomes_next conf first c.loop-event.self.machine c.step.new.self.machine c.args.outcomes.now.items c.loop-event.outcomes.items c.in-Ok.outcome es at _ within stepped i.machine i.outcomes);
      machine = machine_next conf first c.loop-event.self.machine _ c.in-Ok.outcome es at _ within stepped i.machine;
      config = c.step.ensures.keeps.config ∙ i.config;
      limits = c.step.ensures.keeps.limits;
      allowed = allowed_next conf es at c.event-item.result within i.allowed;
      order = rw (c.step.ensures.keeps.last, c.event-item.is) (order_next c.loop-event.self.machine.last es at _ within i.order);
      taken = taken_next c.args.self.now.taken c.loop-event.self.taken c.step.new.self.taken es at _ within i.taken (rw c.event-item.is at k.taken.taken);
      room = omega (arith, length-drop at es, length-drop (at + 1) es, i.room, c.step.ensures.taken.few);
    }

pub step-requires-clause-table : goal.step-requires-clause-table
step-requires-clause-table g c =
    let i = c.loop-event.invariant in
    let at = c.loop-event.event-index in
    let es = c.args.events.now in
    let within : at < length es = omega arith in
    rw (i.config, c.event-item.is) (allowed_here c.args.self.now.config es at _ within i.allowed)
