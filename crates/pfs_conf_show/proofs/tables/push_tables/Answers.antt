-- Answer of push_tables: one table more is written after those before it.
use Rattle.std.proofs.Common.{◌∙◌, ◌<◌, ap, sym, arith, length}
use Rattle.pfs_conf_show.specs.Tables.{table_text}
use Rattle.pfs_conf_show.proofs.ItemLaws.{is_there}
use Rattle.pfs_conf_show.proofs.ListLaws.{text_at}
use Rattle.pfs_conf_show.proofs.tables.push_tables.Goals as goal
use Rattle.pfs_conf_show.proofs.tables.push_tables.Goals.{in-Some+in_ok-push_table, in_default}

pub loop-number-preserved : goal.loop-number-preserved
loop-number-preserved c =
    let tables = c.args.config.now.tables in
    let i = c.loop-number.number in
    elim c.match-table.branch [
      | in-Some+in_ok-push_table w ↦
          ap (λ v. v.items) w.out-is
          ∙ text_at table_text tables i w.in-Some.table.now c.args.out.now.items c.loop-number.out.items w.push_table.new.out.items
          (sym w.in-Some.ensures.value) c.loop-number.invariant w.in_ok-push_table.ensures
      | in_default w ↦
          let within : i < length tables = omega (arith, c.table_count-number-end.ensures.value) in
          absurd (is_there tables i within (sym w.in_default.ensures.value))
    ]
