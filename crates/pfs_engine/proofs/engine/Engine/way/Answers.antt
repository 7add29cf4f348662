-- Answers of Engine::way: the record of a packet is that packet at its moment (`err`).
use Rattle.std.proofs.Common.{OnErr, subst, sym}
use Rattle.pfs_engine_machine.specs.Ways.{IsRefusedOnWay}
use Rattle.pfs_engine_machine.specs.declared.events.Arrival.{Arrival}
use Rattle.pfs_engine.proofs.engine.Engine.way.Goals as goal

pub returns-in-Packet-clause-err : goal.returns-in-Packet-clause-err
returns-in-Packet-clause-err g c =
    let row = c.args.row.now in
    subst (λ (w : Arrival). OnErr c.go_through.result (IsRefusedOnWay c.args.self.now.config c.args.self.now.machine (record row { what = w }) c.go_through.new.self.machine)) (sym c.in-Packet.is)
    c.go_through.ensures.err
