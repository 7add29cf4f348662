-- Answers of Tables::delete_entry: that very entry leaves its table (`entries`), the count falls by it (`answer`), and no room is lost (`room`).
use Rattle.std.proofs.Common.{◌∙◌, ap, arith, filter, length, not, sym, subst, List, set, ◌≤◌}
use Rattle.std.specs.Prelude.{slice_index}
use Rattle.pfs_eval.specs.Entries.{AreDistinct, Entry, is_entry}
use Rattle.pfs_eval.specs.Holdings.{Holdings}
use Rattle.pfs_eval.specs.Tables.{deleted_count, entries_without}
use Rattle.pfs_eval.proofs.Distinct.{distinct-at, distinct-filter, distinct-set}
use Rattle.pfs_eval.proofs.Leaving.{count-left, entries-left}
use Rattle.pfs_eval.proofs.OneTableChanged.{entries_at-held, room-more, room_of, within-held}
use Rattle.pfs_eval.proofs.tables.Tables.delete_entry.Goals as goal

pub overflow_sub-self : goal.overflow_sub-self
overflow_sub-self c =
    let view = ap (λ (h : Holdings). h.entries) c.self.view_is in
    let within = within-held c.self.inside.tables.items c.args.self.now.entries c.args.table.0 view c.requires in
    let fewer = count-left (is_entry c.args.entry.now) c.self.inside.tables.items c.args.table.0 c.index_mut.result.now c.delete-deleted.new.self within c.index_mut.ensures.value c.delete-deleted.ensures.entries in
    omega (arith, fewer, c.delete-deleted.ensures.answer, c.self.invariant.0)

pub invariant_of-self : goal.invariant_of-self
invariant_of-self c =
    let view = ap (λ (h : Holdings). h.entries) c.self.view_is in
    let within = within-held c.self.inside.tables.items c.args.self.now.entries c.args.table.0 view c.requires in
    let fewer = count-left (is_entry c.args.entry.now) c.self.inside.tables.items c.args.table.0 c.index_mut.result.now c.delete-deleted.new.self within c.index_mut.ensures.value c.delete-deleted.ensures.entries in (
      omega (arith, fewer, c.delete-deleted.ensures.answer, c.self.invariant.0),
      c.self.invariant.1,
      distinct-set c.self.inside.tables.items c.args.table.0 c.delete-deleted.new.self
          (subst AreDistinct (sym c.delete-deleted.ensures.entries) (distinct-filter (λ (e : Entry). not (is_entry c.args.entry.now e)) c.index_mut.result.now.entries (distinct-at c.self.inside.tables.items c.args.table.0 c.index_mut.result.now within c.index_mut.ensures.value c.self.invariant.2))) c.self.invariant.2,
    )

pub returns-clause-answer : goal.returns-clause-answer
returns-clause-answer c =
    let view = ap (λ (h : Holdings). h.entries) c.self.view_is in
    let within = within-held c.self.inside.tables.items c.args.self.now.entries c.args.table.0 view c.requires in
    c.delete-deleted.ensures.answer
    ∙ ap (λ (es : List Entry). length (filter (is_entry c.args.entry.now) es)) (sym (entries_at-held c.self.inside.tables.items c.args.table.0 c.index_mut.result.now within c.index_mut.ensures.value))
    ∙ ap (λ (es : List (List Entry)). deleted_count es c.args.table.0 c.args.entry.now) view

pub returns-clause-entries : goal.returns-clause-entries
returns-clause-entries c =
    let view = ap (λ (h : Holdings). h.entries) c.self.view_is in
    let within = within-held c.self.inside.tables.items c.args.self.now.entries c.args.table.0 view c.requires in
    entries-left (is_entry c.args.entry.now) c.self.inside.tables.items c.args.table.0 c.index_mut.result.now c.delete-deleted.new.self within c.index_mut.ensures.value c.delete-deleted.ensures.entries
    ∙ ap (λ (es : List (List Entry)). entries_without es c.args.table.0 c.args.entry.now) view

pub returns-clause-room : goal.returns-clause-room
returns-clause-room c t =
    let view = ap (λ (h : Holdings). h.entries) c.self.view_is in
    let within = within-held c.self.inside.tables.items c.args.self.now.entries c.args.table.0 view c.requires in
    subst (λ (h : Holdings). slice_index h.room t ≤ slice_index (room_of (set c.self.inside.tables.items c.args.table.0 c.delete-deleted.new.self)) t) c.self.view_is
    (room-more c.self.inside.tables.items c.args.table.0 t c.index_mut.result.now c.delete-deleted.new.self within c.index_mut.ensures.value c.delete-deleted.ensures.room)
