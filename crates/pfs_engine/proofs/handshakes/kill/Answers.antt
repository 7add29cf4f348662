-- Answers of kill: what is killed in two steps is killed in one (`world`, `answer`), and its looks (`looks`).
use Rattle.std.proofs.Common.{◌≡◌, ◌∙◌, ◌+◌, ◌-◌, ℕ, None, Option, Some, ap, arith, filter, length, subst, sym}
use Rattle.pfs_conf_values.specs.Configs.{Conf}
use Rattle.pfs_conf_values.specs.declared.actions.Scope.{Scope}
use Rattle.pfs_store_contract.specs.Calls.{other_than, source_states}
use Rattle.pfs_store_contract.specs.Handshakes.{goes_with, stays_at_kill}
use Rattle.pfs_store_contract.specs.Leaving.{world_without}
use Rattle.pfs_store_contract.specs.Worlds.{World}
use Rattle.pfs_engine_machine.specs.Looks.{AreLooksOfKill}
use Rattle.pfs_engine_machine.proofs.Counts.{count_le}
use Rattle.pfs_engine.specs.Meters.{AreFurtherLooks, stays_beside}
use Rattle.pfs_engine.proofs.Killing.{first-leaves, killed-alone, killed-beside, killed-count}
use Rattle.pfs_engine.proofs.handshakes.kill.Goals as goal

pub overflow_sub-result : goal.overflow_sub-result
overflow_sub-result g c =
    let w = g.S.Store.world c.args.store.now in
    omega (arith, c.state_count-before.ensures, c.state_count.ensures, ap (λ (v : World). length v.states) c.kill.ensures.world, count_le (other_than c.args.which.found.number.0) w.states)

pub returns-in-None-clause-answer : goal.returns-in-None-clause-answer
returns-in-None-clause-answer g c = λ conf same.
    let w = g.S.Store.world c.args.store.now in
    let k = g.S.Store.config c.args.store.now in
    let which = c.args.which in
    let whole = c.kill.ensures.world ∙ killed-alone k w which.found.number.0 which.dir which.rule which.source c.args.now in
    let counted = killed-count k w (g.S.Store.world c.kill.new.self) None which.found.number.0 which.dir which.rule which.source c.args.now
    c.state_count-before.result c.state_count.result c.state_count-before.ensures c.state_count.ensures whole in
    subst (λ (x : Conf). c.state_count-before.result - c.state_count.result ≡ length (filter (goes_with x.profile which.flush which.found.number.0 which.dir which.rule which.source) w.states)) same
    (subst (λ (f : Option Scope). c.state_count-before.result - c.state_count.result ≡ length (filter (goes_with k.profile f which.found.number.0 which.dir which.rule which.source) w.states)) (sym c.in-None.is) counted)

pub overflow_sub-result-in-Some : goal.overflow_sub-result-in-Some
overflow_sub-result-in-Some g c =
    let w = g.S.Store.world c.args.store.now in
    let v = g.S.Store.world c.kill.new.self in
    let k = g.S.Store.config c.args.store.now in
    let which = c.args.which in
    let first = ap (λ (x : World). length x.states) c.kill.ensures.world in
    let then = ap (λ (x : World). length x.states) (c.flush.ensures.world k c.kill.ensures.config) in
    omega (
      arith,
      c.state_count-before.ensures,
      c.state_count-in-Some.ensures,
      first,
      then,
      count_le (other_than which.found.number.0) w.states,
      count_le (stays_beside k.profile c.in-Some.scope which.dir which.rule which.source) v.states,
    )

pub returns-in-Some-clause-world : goal.returns-in-Some-clause-world
returns-in-Some-clause-world g c = λ conf same.
    let w = g.S.Store.world c.args.store.now in
    let k = g.S.Store.config c.args.store.now in
    let which = c.args.which in
    let whole = c.flush.ensures.world k c.kill.ensures.config
    ∙ ap (λ (x : World). world_without k x (stays_beside k.profile c.in-Some.scope which.dir which.rule which.source) c.args.now) c.kill.ensures.world
    ∙ killed-beside k w c.in-Some.scope which.found.number.0 which.dir which.rule which.source c.args.now in
    subst (λ (x : Conf). g.S.Store.world c.flush.new.store ≡ world_without x w (stays_at_kill x.profile which.flush which.found.number.0 which.dir which.rule which.source) c.args.now) same
    (subst (λ (f : Option Scope). g.S.Store.world c.flush.new.store ≡ world_without k w (stays_at_kill k.profile f which.found.number.0 which.dir which.rule which.source) c.args.now) (sym c.in-Some.is) whole)

pub returns-in-Some-clause-answer : goal.returns-in-Some-clause-answer
returns-in-Some-clause-answer g c = λ conf same.
    let w = g.S.Store.world c.args.store.now in
    let k = g.S.Store.config c.args.store.now in
    let which = c.args.which in
    let whole = c.flush.ensures.world k c.kill.ensures.config
    ∙ ap (λ (x : World). world_without k x (stays_beside k.profile c.in-Some.scope which.dir which.rule which.source) c.args.now) c.kill.ensures.world
    ∙ killed-beside k w c.in-Some.scope which.found.number.0 which.dir which.rule which.source c.args.now in
    let counted = killed-count k w (g.S.Store.world c.flush.new.store) (Some c.in-Some.scope) which.found.number.0 which.dir which.rule which.source c.args.now
    c.state_count-before.result c.state_count-in-Some.result c.state_count-before.ensures c.state_count-in-Some.ensures whole in
    subst (λ (x : Conf). c.state_count-before.result - c.state_count-in-Some.result ≡ length (filter (goes_with x.profile which.flush which.found.number.0 which.dir which.rule which.source) w.states)) same
    (subst (λ (f : Option Scope). c.state_count-before.result - c.state_count-in-Some.result ≡ length (filter (goes_with k.profile f which.found.number.0 which.dir which.rule which.source) w.states)) (sym c.in-Some.is) counted)

pub returns-in-Some-clause-looks : goal.returns-in-Some-clause-looks
returns-in-Some-clause-looks g c =
    let w = g.S.Store.world c.args.store.now in
    let v = g.S.Store.world c.kill.new.self in
    let k = g.S.Store.config c.args.store.now in
    let which = c.args.which in
    let flushed = c.flush.ensures.looks in
    let others : ℕ = source_states k.profile which.dir which.source (filter (other_than which.found.number.0) w.states) in
    let beside : source_states (g.S.Store.config c.kill.new.self).profile which.dir which.source v.states ≡ others =
    ap (λ (x : Conf). source_states x.profile which.dir which.source v.states) c.kill.ensures.config ∙ ap (λ (x : World). source_states k.profile which.dir which.source x.states) c.kill.ensures.world in
    let first = ap (λ (x : World). length x.states) c.kill.ensures.world in
    let then = ap (λ (x : World). length x.states) (c.flush.ensures.world k c.kill.ensures.config) in
    let fewer = count_le (stays_beside k.profile c.in-Some.scope which.dir which.rule which.source) v.states in
    let one = first-leaves k w which.found.number.0 c.args.now c.requires.numbers in
    let killed = c.state_count-before.result - c.state_count-in-Some.result in
    subst (λ (f : Option Scope). AreFurtherLooks g.S.Store.counts c.args.looks.now c.flush.new.looks (AreLooksOfKill f killed (1 + others))) (sym c.in-Some.is) (record {
      counted = λ on some. record {
        first = omega (arith, c.kill.ensures.looks on, flushed.least on);
        others = (
          omega (arith, some, c.kill.ensures.looks on, flushed.least on, c.state_count-before.ensures, c.state_count-in-Some.ensures, first, then, fewer, one),
          omega (arith, some, c.kill.ensures.looks on, flushed.most on, beside),
        );
      };
      uncounted = λ off. omega (arith, c.kill.ensures.uncounted off, flushed.uncounted off);
    })
