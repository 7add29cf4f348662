-- Answers of Tables::add_entry: an entry whose prefix is not held is not there (`absent`), and new (`answer`, `only_new`).
use Rattle.std.proofs.Common.{sym, ◌∙◌}
use Rattle.pfs_eval.proofs.OneTableChanged.{entered-new, not-held-at, on_err}
use Rattle.pfs_eval.proofs.tables.Tables.add_entry.Goals as goal

pub put-requires-clause-absent : goal.put-requires-clause-absent
put-requires-clause-absent c =
    rw (c.addr.ensures.value, c.bits.ensures.value)
    (not-held-at c.self.inside.tables.items c.self.inside.limit c.args.table.0 c.args.entry.now.prefix c.index.result.now c.args.self.now
    c.self.view_is c.requires c.index.ensures (sym c.mark.ensures ∙ c.in_default.is))

pub returns-in_err-put-clause-only_new : goal.returns-in_err-put-clause-only_new
returns-in_err-put-clause-only_new c =
    on_err c.from_residual.result
    (entered-new c.self.inside.tables.items c.self.inside.limit c.args.table.0 c.args.entry.now c.index.result.now c.args.self.now
    c.self.view_is c.requires c.index.ensures (sym c.mark.ensures ∙ c.in_default.is) (sym c.is_full.ensures ∙ c.if-is_full.false))

pub returns-clause-answer : goal.returns-clause-answer
returns-clause-answer c =
    sym (entered-new c.self.inside.tables.items c.self.inside.limit c.args.table.0 c.args.entry.now c.index.result.now c.args.self.now
    c.self.view_is c.requires c.index.ensures (sym c.mark.ensures ∙ c.in_default.is) (sym c.is_full.ensures ∙ c.if-is_full.false))
