-- Answers of Engine::step: what comes of a packet (`ok`); memory is refused only where what comes needs it, and never at a skip (`err`).
use Rattle.std.proofs.Common.{◌≡◌, IfOk, IsOk, OnErr, OnOk, subst}
use Rattle.pfs_conf_values.specs.Configs.{Conf}
use Rattle.pfs_engine_machine.specs.MachineInvariants.{moment_of}
use Rattle.pfs_engine_machine.specs.Refusals.{IsFree}
use Rattle.pfs_engine_machine.specs.Runs.{NeedsMemory, without_memory}
use Rattle.pfs_engine_machine.specs.declared.events.Arrival.TheVariants as arrival
use Rattle.pfs_engine.specs.Calls.{answer_at_last, guard_at_last, met_held}
use Rattle.pfs_engine.proofs.Free.{refused_at, refused_in}
use Rattle.pfs_engine.proofs.KeptByCalls.{stepped}
use Rattle.pfs_engine.proofs.engine.Engine.step.Goals as goal

pub returns-in-Packet-clause-err : goal.returns-in-Packet-clause-err
returns-in-Packet-clause-err g c =
    let p = c.in-Packet.packet in
    let at = c.advance.new.self.machine in
    let a = c.take.ensures in
    refused_in c.args.self.now.config c.args.self.now.machine at c.take.new.self.machine c.args.event.now p c.take.result c.in-Packet.is c.advance.ensures.machine
    (subst (λ (k : Conf). OnErr c.take.result (c.take.new.self.machine ≡ without_memory k at (moment_of at.last) (arrival.Packet p))) c.advance.ensures.config a.answered.err)
    (subst (λ (k : Conf). IsFree k (met_held k at p).world p (answer_at_last k at p).0 → IsOk c.take.result) c.advance.ensures.config a.free)

pub returns-in-Packet-clause-ok : goal.returns-in-Packet-clause-ok
returns-in-Packet-clause-ok g c =
    let p = c.in-Packet.packet in
    let at = c.advance.new.self.machine in
    let a = c.take.ensures.answered in
    stepped c.args.self.now.config c.args.self.now.machine at c.take.new.self.machine c.args.event.now p c.take.result c.in-Packet.is c.advance.ensures.machine
    a.keeps.first a.keeps.last
    (subst (λ (k : Conf). IfOk c.take.result (λ o. (o, c.take.new.self.machine.held) ≡ answer_at_last k at p)) c.advance.ensures.config a.ok)
    (subst (λ (k : Conf). OnOk c.take.result (c.take.new.self.machine.guard ≡ guard_at_last k at p)) c.advance.ensures.config a.guard)

pub returns-in-Table-clause-err : goal.returns-in-Table-clause-err
returns-in-Table-clause-err g c =
    let w = arrival.Table c.in-Table.table c.in-Table.command in
    let at = c.advance.new.self.machine in
    let a = c.command.ensures in
    refused_at c.args.self.now.config c.args.self.now.machine at c.command.new.self.machine c.args.event.now c.in-Table.table c.in-Table.command c.command.result c.in-Table.is c.advance.ensures.machine a.err
    (subst (λ (k : Conf). OnErr c.command.result (NeedsMemory k at.guard at.held (moment_of at.last) w)) c.advance.ensures.config a.needed)

pub returns-in-Skip-clause-err : goal.returns-in-Skip-clause-err
returns-in-Skip-clause-err g c = tt
