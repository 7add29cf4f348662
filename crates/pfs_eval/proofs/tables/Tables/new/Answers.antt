-- Answers of Tables::new: one table more, and at the end the count of entries is the configuration's, and so is the limit.
use Rattle.std.proofs.Common.{◌≡◌, ◌++◌, [], ◌∷◌, ap, sym, subst, ◌∙◌, arith, map, take}
use Rattle.std.specs.Prelude.{All}
use Rattle.std.proofs.lemmas.List.{take_all}
use Rattle.pfs_conf_values.specs.declared.tables.TableDef.{TableDef}
use Rattle.pfs_eval.specs.Entries.{AreDistinct, entry_of_text}
use Rattle.pfs_eval.specs.Tables.{config_entries, entry_count}
use Rattle.pfs_eval.proofs.Distinct.{distinct-tables}
use Rattle.pfs_eval.proofs.OneTableChanged.{entries_of}
use Rattle.pfs_eval.proofs.TextTables.{count-config, table-more, taken-more, text-entries}
use Rattle.pfs_eval.proofs.tables.Tables.new.Goals as goal

pub loop-number-preserved : goal.loop-number-preserved
loop-number-preserved c =
    let tables = c.args.config.now.tables in
    let es = map entry_of_text c.entries_of.result.now in
    ap entries_of c.in_ok-push.ensures.items
    ∙ table-more c.loop-number.tables.items c.in_ok-of.field-0 es c.in_ok-of.ensures
    ∙ ap (λ ts. ts ++ es ∷ []) c.loop-number.invariant
    ∙ sym (taken-more (λ (t : TableDef). map entry_of_text t.entries) tables c.loop-number.number es (text-entries tables c.loop-number.number c.entries_of.result.now c.entries_of.ensures))

pub invariant_of-result : goal.invariant_of-result
invariant_of-result c =
    let conf = c.args.config.now in
    let all : take c.loop-number.number conf.tables
    ≡ conf.tables = take_all c.loop-number.number conf.tables (omega arith) in
    let same : entries_of c.loop-number.tables.items ≡ config_entries conf = c.loop-number.invariant
    ∙ ap (map (λ (t : TableDef). map entry_of_text t.entries)) all in (
      c.entry_count.ensures.value ∙ sym (count-config conf)
          ∙ ap entry_count (sym same),
      omega (arith, c.limit.ensures.value, c.limit.ensures.sound.limits.table_entries),
      subst (All AreDistinct) (sym same) (distinct-tables conf.tables c.limit.ensures.sound.tables),
    )

pub returns-clause-limit : goal.returns-clause-limit
returns-clause-limit c = c.limit.ensures.value
