-- Answers of complete_handshake: tables and store stay those of the configuration; what is told of a kill (`told`).
use Rattle.std.proofs.Common.{◌≡◌, ◌∙◌, Option, Some, ap, filter, length, subst, sym, unwrap_or, ℕ}
use Rattle.std.specs.Option.{option_copied}
use Rattle.pfs_conf_values.specs.Configs.{no_options, options_at, options_of}
use Rattle.pfs_conf_values.specs.declared.actions.Scope.{Scope}
use Rattle.pfs_conf_values.specs.declared.actions.StateOptions.{StateOptions}
use Rattle.pfs_store_contract.specs.Handshakes.{goes_with, stays_at_kill}
use Rattle.pfs_store_contract.specs.Leaving.{world_without}
use Rattle.pfs_engine_machine.specs.Machine.{MachineContents}
use Rattle.pfs_engine.specs.Contents.{ContentsView, tables_held, view_of}
use Rattle.pfs_engine.specs.Packets.{answer_of_touch}
use Rattle.pfs_engine.proofs.Killing.{told_of_kill}
use Rattle.pfs_engine.proofs.handshakes.complete_handshake.Goals as goal
use Rattle.pfs_engine.specs.OverloadRoom.{HasRoomFor}
use Rattle.pfs_eval.specs.Holdings.{Holdings}

pub invariant_of-held : goal.invariant_of-held
invariant_of-held g c =
    let i = c.held.invariant in
    let added = c.add_source-added.ensures in
    record {
      store = c.kill-killed.ensures.config ∙ i.store;
      items = i.items;
      limit = added.limit ∙ i.limit;
      tables = added.tables ∙ i.tables;
      config = i.config;
    }

pub returns-clause-told : goal.returns-clause-told
returns-clause-told g c =
    let inside = c.held.inside in
    let w = g.S.Store.world inside.store in
    let t = c.args.touched.now in
    let o = c.in-Some.options.now in
    let made = c.held.invariant in
    let h : MachineContents = record { world = w; tables = inside.tables.entries } in
    let at : options_at inside.config t.rule.0 ≡ Some o = sym c.options.ensures.value ∙ ap option_copied c.in-Some.is in
    let options : options_of inside.config t.rule.0 ≡ o = ap (λ (x : Option StateOptions). unwrap_or x no_options) at in
    let flush = c.flush_of.ensures in
    let told = told_of_kill inside.config h c.args.found.number.0 c.args.now t o c.in-Some-exceeded_limits.exceeded c.add_source-added.result c.kill-killed.result
    (g.S.Store.world c.kill-killed.new.store) c.add_source-added.new.tables.entries c.if-not-touched.false options (sym c.exceeded_limits.ensures ∙ c.in-Some-exceeded_limits.is)
    (c.add_source-added.ensures.answer inside.config made.limit) (c.add_source-added.ensures.entries inside.config made.limit)
    (subst (λ (f : Option Scope). c.kill-killed.result ≡ length (filter (goes_with inside.config.profile f c.args.found.number.0 t.dir t.rule t.source) w.states)) flush (c.kill-killed.ensures.answer inside.config made.store))
    (subst (λ (f : Option Scope). g.S.Store.world c.kill-killed.new.store ≡ world_without inside.config w (stays_at_kill inside.config.profile f c.args.found.number.0 t.dir t.rule t.source) c.args.now) flush (c.kill-killed.ensures.world inside.config made.store)) in
    record {
      told = told ∙ ap (λ (v : ContentsView _). answer_of_touch v.config v.held c.args.found.number.0 c.args.now t) c.held.view_is;
      config = ap (λ (v : ContentsView _). v.config) c.held.view_is;
    }

pub add_source-added-requires : goal.add_source-added-requires
add_source-added-requires g c =
    let inside = c.held.inside in
    let t = c.args.touched.now in
    let o = c.in-Some.options.now in
    let at : options_at inside.config t.rule.0 ≡ Some o = sym c.options.ensures.value ∙ ap option_copied c.in-Some.is in
    let options : options_of inside.config t.rule.0 ≡ o = ap (λ (x : Option StateOptions). unwrap_or x no_options) at in
    let limited : tables_held (view_of inside.config inside.store (g.S.Store.world inside.store) inside.tables) ≡ inside.tables =
    ap (λ (n : ℕ). record inside.tables { limit = n }) (sym c.held.invariant.limit) in
    let room = subst (λ (v : ContentsView _). HasRoomFor (tables_held v) (options_of v.config t.rule.0).overload) (sym c.held.view_is) (c.requires.room c.if-not-touched.false) in
    subst (λ (x : Holdings). HasRoomFor x o.overload) limited
    (subst (λ (x : StateOptions). HasRoomFor (tables_held (view_of inside.config inside.store (g.S.Store.world inside.store) inside.tables)) x.overload) options room)
