-- Answers of Engine::take: what an engine keeps, and its clauses `answered`, `limited` and `free`.
use Rattle.std.proofs.Common.{◌<◌, ℕ, IsOk, ap, arith, subst, sym}
use Rattle.pfs_addr_values.specs.Packets.{run_limit}
use Rattle.pfs_engine_machine.specs.MachineInvariants.{moment_of}
use Rattle.pfs_engine_machine.specs.Refusals.{IsFree}
use Rattle.pfs_engine.specs.Calls.{answer_at_last, met_held}
use Rattle.pfs_engine.specs.Packets.{NeedsNoneBehindGuard}
use Rattle.pfs_engine.specs.Views.{View}
use Rattle.pfs_engine.proofs.Free.{needs_none_behind_guard}
use Rattle.pfs_engine.proofs.KeptByCalls.{answered_by, limited, taken_at_last, whole_packet}
use Rattle.pfs_engine.proofs.engine.Engine.take.Goals as goal

pub invariant_of-self : goal.invariant_of-self
invariant_of-self g c =
    let inside = c.self.inside in
    let a = c.answer_behind_guard-outcome in
    let room : inside.taken < run_limit = omega (arith, ap (λ (v : View). v.taken) c.self.view_is, c.requires.room) in
    let told = taken_at_last inside.held a.new.held inside.guard a.new.guard inside.last c.unwrap_or-now.result c.args.packet.now a.result c.unwrap_or-now.ensures
    (record { answered = a.ensures.answered; guard = a.ensures.guard; refused = a.ensures.refused; free = a.ensures.free }) in
    whole_packet inside.held a.new.held inside.guard a.new.guard inside.first inside.last inside.taken _ c.args.packet.now a.result room c.self.invariant told c.taken_after-self-inside.ensures

pub returns-clause-answered : goal.returns-clause-answered
returns-clause-answered g c =
    let inside = c.self.inside in
    let a = c.answer_behind_guard-outcome in
    let room : inside.taken < run_limit = omega (arith, ap (λ (v : View). v.taken) c.self.view_is, c.requires.room) in
    let told = taken_at_last inside.held a.new.held inside.guard a.new.guard inside.last c.unwrap_or-now.result c.args.packet.now a.result c.unwrap_or-now.ensures
    (record { answered = a.ensures.answered; guard = a.ensures.guard; refused = a.ensures.refused; free = a.ensures.free }) in
    let taken = c.taken_after-self-inside.ensures in
    let whole = whole_packet inside.held a.new.held inside.guard a.new.guard inside.first inside.last inside.taken _ c.args.packet.now a.result room c.self.invariant told taken in
    answered_by inside.held a.new.held c.args.self.now inside.guard a.new.guard inside.first inside.last inside.taken _ inside.going _ inside.work _ c.args.packet.now a.result c.self.view_is whole told taken

pub returns-clause-limited : goal.returns-clause-limited
returns-clause-limited g c =
    let inside = c.self.inside in
    let a = c.answer_behind_guard-outcome in
    let told = taken_at_last inside.held a.new.held inside.guard a.new.guard inside.last c.unwrap_or-now.result c.args.packet.now a.result c.unwrap_or-now.ensures
    (record { answered = a.ensures.answered; guard = a.ensures.guard; refused = a.ensures.refused; free = a.ensures.free }) in
    limited inside.held a.new.held c.args.self.now inside.guard a.new.guard inside.first inside.last inside.taken _ inside.going _ inside.work _ c.args.packet.now a.result c.self.view_is c.self.invariant told

pub answer_behind_guard-outcome-requires-clause-moment : goal.answer_behind_guard-outcome-requires-clause-moment
answer_behind_guard-outcome-requires-clause-moment g c = omega (arith, c.unwrap_or-now.ensures, c.self.invariant.early)

pub returns-clause-free : goal.returns-clause-free
returns-clause-free g c =
    let inside = c.self.inside in
    let p = c.args.packet.now in
    let a = c.answer_behind_guard-outcome in
    subst (λ (v : View). IsFree v.config (met_held v.config v.machine p).world p (answer_at_last v.config v.machine p).0 → IsOk a.result) c.self.view_is (λ free.
    a.ensures.free (subst (λ (n : ℕ). NeedsNoneBehindGuard inside.held.config inside.guard inside.held.held p n) (sym c.unwrap_or-now.ensures)
    (needs_none_behind_guard inside.held.config inside.guard inside.held.held p (moment_of inside.last) free)))
