-- Answer of EngineGuard::answers_one: where no cookie is out, none is answered (`returns-then-out-eq0`).
use Rattle.std.proofs.Common.{◌∙◌, ◌&&◌, ap}
use Rattle.pfs_addr_values.specs.Keys.{key_of}
use Rattle.pfs_cookies.specs.Cookies.{has_cookie}
use Rattle.pfs_engine_machine.specs.Guards.{Guard, answers_in}
use Rattle.pfs_engine.proofs.Turning.{none-answered}
use Rattle.pfs_engine.proofs.guard.EngineGuard.answers_one.Goals as goal

pub returns-then-out-eq0 : goal.returns-then-out-eq0
returns-then-out-eq0 c =
    let p = c.args.packet.now in
    let answers = answers_in p.dir p.proto p.flags in
    none-answered c.self.inside.out (key_of p) answers c.out.result c.out.ensures.count c.if-out-eq0.true
    ∙ ap (λ (v : Guard). answers && has_cookie v.out (key_of p)) c.self.view_is
