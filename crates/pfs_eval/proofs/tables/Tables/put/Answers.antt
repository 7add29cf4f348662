-- Answers of Tables::put: the entry goes last (`ok`), there is one more in all, and the room of other tables stays (`others`).
use Rattle.std.proofs.Common.{◌+◌, ap, sym, subst, ◌∙◌, arith}
use Rattle.std.specs.Prelude.{All}
use Rattle.pfs_addr_values.specs.Prefixes.{network_of}
use Rattle.pfs_eval.specs.Entries.{AreDistinct}
use Rattle.pfs_eval.specs.Holdings.{Holdings}
use Rattle.pfs_eval.specs.Tables.{entry_count, put_last}
use Rattle.pfs_eval.proofs.Distinct.{distinct-at, distinct-set}
use Rattle.pfs_eval.proofs.OneTableChanged.{count-added, entries-added, entries-same, on_err, others-kept, within-held}
use Rattle.pfs_eval.proofs.tables.Tables.put.Goals as goal

pub invariant_of-self : goal.invariant_of-self
invariant_of-self c =
    let same = entries-same c.self.inside.tables.items c.args.table.0 c.index_mut.result.now c.add.new.self c.index_mut.ensures.value c.in_err-add.ensures.err in
    (c.self.invariant.0 ∙ ap entry_count (sym same), c.self.invariant.1, subst (All AreDistinct) (sym same) c.self.invariant.2)

pub returns-in_err-add-clause-err : goal.returns-in_err-add-clause-err
returns-in_err-add-clause-err c =
    on_err c.from_residual.result
    (entries-same c.self.inside.tables.items c.args.table.0 c.index_mut.result.now c.add.new.self c.index_mut.ensures.value c.in_err-add.ensures.err ∙ ap (λ (h : Holdings). h.entries) c.self.view_is)

pub invariant_of-self-2 : goal.invariant_of-self-2
invariant_of-self-2 c =
    let within = within-held c.self.inside.tables.items c.args.self.now.entries c.args.table.0 (ap (λ (h : Holdings). h.entries) c.self.view_is) c.requires.table in (
      ap (λ n. n + 1) c.self.invariant.0
          ∙ sym (count-added c.self.inside.tables.items c.args.table.0 c.index_mut.result.now c.add.new.self (network_of c.args.addr c.args.bits, c.args.mark) within c.index_mut.ensures.value c.in_ok-add.ensures.ok),
      c.self.invariant.1,
      distinct-set c.self.inside.tables.items c.args.table.0 c.add.new.self (c.add.ensures.distinct (distinct-at c.self.inside.tables.items c.args.table.0 c.index_mut.result.now within c.index_mut.ensures.value c.self.invariant.2)) c.self.invariant.2,
    )

pub returns-clause-ok : goal.returns-clause-ok
returns-clause-ok c =
    let view = ap (λ (h : Holdings). h.entries) c.self.view_is in
    let within = within-held c.self.inside.tables.items c.args.self.now.entries c.args.table.0 view c.requires.table in
    entries-added c.self.inside.tables.items c.args.table.0 c.index_mut.result.now c.add.new.self (network_of c.args.addr c.args.bits, c.args.mark) within c.index_mut.ensures.value c.in_ok-add.ensures.ok
    ∙ ap (λ es. put_last es c.args.table.0 (network_of c.args.addr c.args.bits, c.args.mark)) view

pub returns-in_err-add-clause-others : goal.returns-in_err-add-clause-others
returns-in_err-add-clause-others c =
    let same = entries-same c.self.inside.tables.items c.args.table.0 c.index_mut.result.now c.add.new.self c.index_mut.ensures.value c.in_err-add.ensures.err in
    others-kept c.self.inside.tables.items c.args.table.0 c.self.inside.limit c.add.new.self c.args.self.now c.self.view_is (omega (arith, ap entry_count same))

pub returns-clause-others : goal.returns-clause-others
returns-clause-others c =
    let within = within-held c.self.inside.tables.items c.args.self.now.entries c.args.table.0 (ap (λ (h : Holdings). h.entries) c.self.view_is) c.requires.table in
    let more = count-added c.self.inside.tables.items c.args.table.0 c.index_mut.result.now c.add.new.self (network_of c.args.addr c.args.bits, c.args.mark) within c.index_mut.ensures.value c.in_ok-add.ensures.ok in
    others-kept c.self.inside.tables.items c.args.table.0 c.self.inside.limit c.add.new.self c.args.self.now c.self.view_is (omega (arith, more))
