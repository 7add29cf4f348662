-- Invariant of free_port: the least free port is among those that are left.
use Rattle.std.proofs.Common.{◌≡◌, ◌+◌, ◌-◌, not}
use Rattle.std.specs.List.{find, range_with_len}
use Rattle.pfs_eval.specs.Translating.{is_taken_at, ports_in}
use Rattle.pfs_eval.proofs.translating.free_port.Given as goal

abbrev pub invariant-loop-port : goal.invariant-loop-port
invariant-loop-port g l =
    find (λ port. not (is_taken_at (g.S.Sides.taken l.sides) l.packet l.addr port)) (range_with_len l.port (l.fn.ports.high + 1 - l.port))
    ≡ find (λ port. not (is_taken_at (g.S.Sides.taken l.sides) l.packet l.addr port)) (ports_in l.fn.ports)
