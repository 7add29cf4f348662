-- Invariant of Engine::run: outcomes and machine are those of the events so far; the others are in order.
use Rattle.std.proofs.Common.{◌≡◌, ◌≤◌, ◌+◌, ◌++◌, length, take, drop}
use Rattle.pfs_addr_values.specs.Packets.{run_limit}
use Rattle.pfs_engine_machine.specs.MachineInvariants.{IsWithinLimits}
use Rattle.pfs_engine_machine.specs.Runs.{AreAllowed, IsInOrder, packets_in}
use Rattle.pfs_engine_machine.specs.Machine.{machine_after, outcomes_of}
use Rattle.pfs_engine.proofs.engine.Engine.run.Given as goal

-- the events so far were taken, and the others are in order
abbrev pub invariant-loop-event : goal.invariant-loop-event
invariant-loop-event g l =
    let conf = l.fn.self.config in
    let first = l.fn.self.machine in
    record {
      outcomes : l.outcomes.items ≡ l.fn.outcomes.items ++ outcomes_of conf first (take l.event-index l.events);
      machine : l.self.machine ≡ machine_after conf first (take l.event-index l.events);
      config : l.self.config ≡ conf;
      limits : IsWithinLimits l.self.config l.self.machine.held;
      allowed : AreAllowed conf (drop l.event-index l.events);
      order : IsInOrder l.self.machine.last (drop l.event-index l.events);
      taken : l.self.taken ≡ l.fn.self.taken + packets_in (take l.event-index l.events);
      room : l.self.taken + length (drop l.event-index l.events) ≤ run_limit;
    }
