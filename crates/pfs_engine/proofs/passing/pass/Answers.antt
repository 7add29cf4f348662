-- Answers of pass: the seconds up to the next turn, and the turn; and a passage that ends without one (`guard`).
use Rattle.std.proofs.Common.{◌≡◌, ◌≤◌, ◌∙◌, ap, arith, refl, sym}
use Rattle.pfs_conf_values.specs.Configs.{Conf}
use Rattle.pfs_engine_machine.specs.Guards.{guard_rested, guard_turned}
use Rattle.pfs_engine_machine.specs.Machine.{MachineContents}
use Rattle.pfs_store_contract.specs.Passages.{purged_both}
use Rattle.pfs_store_contract.specs.Seconds.{purged_of, seconds, world_after_purges}
use Rattle.pfs_store_contract.specs.declared.records.Purged.{Purged}
use Rattle.pfs_engine.proofs.Turning.{guard-left, none-first, purged-left, seconds-still, world-left}
use Rattle.pfs_engine.proofs.passing.pass.Goals as goal

pub loop-turn-init : goal.loop-turn-init
loop-turn-init g c = record {
  order = c.requires.order;
  config = refl;
  tables = refl;
  all = refl;
  guard = refl;
  purged = ap (λ (p : Purged). purged_both p (purged_of g.S.Store.counts c.args.held.now.config c.args.held.now.held.world (seconds c.args.from c.args.to))) c.none-purged.ensures ∙ none-first _;
}

pub loop-turn-preserved : goal.loop-turn-preserved
loop-turn-preserved g c =
    let conf = c.args.held.now.config in
    let i = c.loop-turn.invariant in
    let at = c.loop-turn.at in
    let to = c.args.to in
    let turn = c.in-Some.turn in
    let next = c.in-Some.ensures.turn in
    let w = c.loop-turn.held.held.world in
    let after = c.purge.new.self in
    let same = c.purge.ensures.held in
    let order : at ≤ turn = omega (arith, next.later) in
    let is : after.held.world ≡ world_after_purges conf w (seconds at turn) =
    ap (λ (h : MachineContents). h.world) same.held ∙ ap (λ (k : Conf). world_after_purges k w (seconds at turn)) i.config in
    let made : c.turn.new.self ≡ guard_turned conf (guard_rested conf after.held.world c.loop-turn.guard) =
    c.turn.ensures ∙ ap (λ (k : Conf). guard_turned k (guard_rested k after.held.world c.loop-turn.guard)) (same.config ∙ i.config) in
    let more = c.greatest-purged.ensures ∙ ap (purged_both c.loop-turn.purged) (c.purge.ensures.answer ∙ ap (λ (k : Conf). purged_of g.S.Store.counts k w (seconds at turn)) i.config) in
    record {
      order = next.within;
      config = same.config ∙ i.config;
      tables = ap (λ (h : MachineContents). h.tables) same.held ∙ i.tables;
      all = world-left conf w after.held.world at turn to order next.within is ∙ i.all;
      guard = guard-left conf w after.held.world c.loop-turn.guard c.turn.new.self at to turn next is made ∙ i.guard;
      purged = ap (λ (p : Purged). purged_both p (purged_of g.S.Store.counts conf after.held.world (seconds turn to))) more
          ∙ purged-left conf w after.held.world at turn to order next.within is g.S.Store.counts c.loop-turn.purged ∙ i.purged;
    }

pub returns-clause-guard : goal.returns-clause-guard
returns-clause-guard g c =
    let i = c.loop-turn.invariant in
    sym (seconds-still c.args.held.now.config c.loop-turn.held.held.world c.loop-turn.guard c.loop-turn.at c.args.to i.order c.in_default.ensures.none) ∙ i.guard

pub returns-clause-answer : goal.returns-clause-answer
returns-clause-answer g c =
    let i = c.loop-turn.invariant in
    c.greatest.ensures ∙ ap (purged_both c.loop-turn.purged) (c.purge-2.ensures.answer ∙ ap (λ (k : Conf). purged_of g.S.Store.counts k c.loop-turn.held.held.world (seconds c.loop-turn.at c.args.to)) i.config) ∙ i.purged
