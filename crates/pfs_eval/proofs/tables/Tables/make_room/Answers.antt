-- Answers of Tables::make_room: there is room for one entry more (`ok`), no entry changes (`entries`), and no other room (`others`).
use Rattle.std.proofs.Common.{ap, sym, subst, ◌∙◌, inl, arith}
use Rattle.std.specs.Prelude.{All}
use Rattle.pfs_eval.specs.Entries.{AreDistinct}
use Rattle.pfs_eval.specs.Holdings.{Holdings}
use Rattle.pfs_eval.specs.Tables.{entry_count}
use Rattle.pfs_eval.proofs.OneTableChanged.{entries-same, others-kept, room-set, within-held}
use Rattle.pfs_eval.proofs.tables.Tables.make_room.Goals as goal

pub invariant_of-self : goal.invariant_of-self
invariant_of-self c =
    let same = entries-same c.self.inside.tables.items c.args.table.0 c.index_mut.result.now c.reserve.new.self c.index_mut.ensures.value c.reserve.ensures.entries in
    (c.self.invariant.0 ∙ ap entry_count (sym same), c.self.invariant.1, subst (All AreDistinct) (sym same) c.self.invariant.2)

pub returns-in_err-reserve-clause-entries : goal.returns-in_err-reserve-clause-entries
returns-in_err-reserve-clause-entries c =
    entries-same c.self.inside.tables.items c.args.table.0 c.index_mut.result.now c.reserve.new.self c.index_mut.ensures.value c.reserve.ensures.entries
    ∙ ap (λ (h : Holdings). h.entries) c.self.view_is

pub invariant_of-self-2 : goal.invariant_of-self-2
invariant_of-self-2 c =
    let same = entries-same c.self.inside.tables.items c.args.table.0 c.index_mut.result.now c.reserve.new.self c.index_mut.ensures.value c.reserve.ensures.entries in
    (c.self.invariant.0 ∙ ap entry_count (sym same), c.self.invariant.1, subst (All AreDistinct) (sym same) c.self.invariant.2)

pub returns-clause-entries : goal.returns-clause-entries
returns-clause-entries c =
    entries-same c.self.inside.tables.items c.args.table.0 c.index_mut.result.now c.reserve.new.self c.index_mut.ensures.value c.reserve.ensures.entries
    ∙ ap (λ (h : Holdings). h.entries) c.self.view_is

pub returns-clause-ok : goal.returns-clause-ok
returns-clause-ok c =
    let within = within-held c.self.inside.tables.items c.args.self.now.entries c.args.table.0 (ap (λ (h : Holdings). h.entries) c.self.view_is) c.requires in
    inl (room-set c.self.inside.tables.items c.args.table.0 c.reserve.new.self within c.in_ok-reserve.ensures.ok)

pub returns-in_err-reserve-clause-others : goal.returns-in_err-reserve-clause-others
returns-in_err-reserve-clause-others c =
    let same = entries-same c.self.inside.tables.items c.args.table.0 c.index_mut.result.now c.reserve.new.self c.index_mut.ensures.value c.reserve.ensures.entries in
    others-kept c.self.inside.tables.items c.args.table.0 c.self.inside.limit c.reserve.new.self c.args.self.now c.self.view_is (omega (arith, ap entry_count same))

pub returns-clause-others : goal.returns-clause-others
returns-clause-others c =
    let same = entries-same c.self.inside.tables.items c.args.table.0 c.index_mut.result.now c.reserve.new.self c.index_mut.ensures.value c.reserve.ensures.entries in
    others-kept c.self.inside.tables.items c.args.table.0 c.self.inside.limit c.reserve.new.self c.args.self.now c.self.view_is (omega (arith, ap entry_count same))
