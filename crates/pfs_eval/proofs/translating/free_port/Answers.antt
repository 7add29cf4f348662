-- Answer of free_port: a port that is taken is not the one that is sought.
use Rattle.std.proofs.Common.{◌≡◌, ◌+◌, ◌∙◌, ℕ, Bool, true, not, sym, ap, arith}
use Rattle.pfs_eval.specs.Translating.{is_taken_at}
use Rattle.pfs_eval.proofs.Translations.{port_behind}
use Rattle.pfs_eval.proofs.translating.free_port.Goals as goal

pub loop-port-preserved : goal.loop-port-preserved
loop-port-preserved g c =
    let p : ℕ → Bool = λ port. not (is_taken_at (g.S.Sides.taken c.args.sides.now) c.args.packet.now c.args.addr port) in
    let taken : is_taken_at (g.S.Sides.taken c.args.sides.now) c.args.packet.now c.args.addr c.loop-port.port ≡ true = sym c.is_taken_at.ensures ∙ c.if-not-is_taken_at.false in
    sym (port_behind p c.loop-port.port (c.args.ports.high + 1) (omega arith) (ap not taken)) ∙ c.loop-port.invariant
