-- Answers of flush: its looks, by how many states it takes out (`looks`).
use Rattle.std.proofs.Common.{ap, arith, length}
use Rattle.pfs_store_contract.specs.Leaving.{is_flushed}
use Rattle.pfs_store_contract.specs.Worlds.{World}
use Rattle.pfs_engine_machine.proofs.Counts.{count-rest}
use Rattle.pfs_engine.proofs.handshakes.flush.Goals as goal

pub returns-clause-looks : goal.returns-clause-looks
returns-clause-looks g c =
    let w = g.S.Store.world c.args.store.now in
    let fewer = ap (λ (v : World). length v.states) c.flush.ensures.world in
    let all = count-rest (is_flushed (g.S.Store.config c.args.store.now).profile c.args.which.dir c.args.which.source c.match-scope.rule) w.states in
    record {
      least = λ on. omega (arith, c.flush.ensures.looks on, c.flush.ensures.answer, fewer, all);
      most = λ on. c.flush.ensures.few_looks on;
      uncounted = λ off. c.flush.ensures.uncounted off;
    }
