-- Answers of by_keys: the state is made, since its keys are free (`answered`).
use Rattle.std.proofs.Common.{◌≡◌, ◌∙◌, true, ap, sym}
use Rattle.pfs_conf_values.specs.Configs.{translates}
use Rattle.pfs_store_contract.specs.Admission.{world_after_admission}
use Rattle.pfs_engine_machine.specs.Machine.{answer_of_keys, held_of}
use Rattle.pfs_engine_machine.specs.Sides.{are_free}
use Rattle.pfs_engine.specs.Contents.{ContentsView}
use Rattle.pfs_engine.proofs.packets.by_keys.Goals as goal
use Rattle.pfs_engine.proofs.packets.by_keys.Goals.{else-translates-via-then-translates+else-not-are_free, else-translates-via-else-translates}

pub returns-clause-answered : goal.returns-clause-answered
returns-clause-answered g c =
    let inside = c.held.inside in
    let w = g.S.Store.world inside.store in
    let p = c.args.packet.now in
    let going = c.args.going.now in
    let was = c.args.held.now in
    let here = ap (λ (v : ContentsView _). v.config) c.held.view_is in
    let free : are_free was.held.world p going ≡ true = elim c.else-translates.branch [
      | else-translates-via-then-translates+else-not-are_free x ↦ sym x.if-not-are_free.ensures
      | else-translates-via-else-translates x ↦ c.requires.fresh (sym (x.if-translates.ensures ∙ ap translates here))
    ] in
    let made = c.in_ok-make.ensures.ok ∙ (λ i. world_after_admission (c.held.invariant.store i) w p going c.args.rule.0 c.args.cookie c.args.now) in
    let told = (λ i. (c.made.ensures i, held_of (made i) inside.tables.entries))
    ∙ ap (λ (v : ContentsView _). answer_of_keys v.config v.held p going c.args.cookie c.args.now c.args.rule.0 true) c.held.view_is
    ∙ ap (answer_of_keys was.config was.held p going c.args.cookie c.args.now c.args.rule.0) (sym free) in
    record { ok = told; err = tt; config = here }
