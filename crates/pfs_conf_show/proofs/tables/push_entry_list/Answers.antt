-- Answer of push_entry_list: one entry more goes on with the list.
use Rattle.std.proofs.Common.{◌∙◌, ◌<◌, ap, sym, arith, length}
use Rattle.std.specs.Prelude.{codes}
use Rattle.std.proofs.lemmas.Option.{slice_get_within}
use Rattle.pfs_conf_show.specs.Tables.{entry_text}
use Rattle.pfs_conf_show.proofs.ItemLaws.{is_there}
use Rattle.pfs_conf_show.proofs.ListLaws.{begun_step, step_at}
use Rattle.pfs_conf_show.proofs.tables.push_entry_list.Goals as goal
use Rattle.pfs_conf_show.proofs.tables.push_entry_list.Goals.{in-Some+in_ok-push_separator+in_ok-push_entry, in_default}

pub loop-place-preserved : goal.loop-place-preserved
loop-place-preserved c =
    let entries = c.args.entries.now in
    let i = c.loop-place.place in
    let old = c.args.out.now.items in
    elim c.match-at.branch [
      | in-Some+in_ok-push_separator+in_ok-push_entry w ↦
          let e = w.in-Some.entry in
          record {
            text = ap (λ v. v.items) w.out-is
                ∙ step_at (codes " { ") entry_text entries i e old c.loop-place.out.items w.push_separator.new.out.items w.push_entry.new.out.items c.loop-place.begun
                (sym w.in-Some.ensures) c.loop-place.invariant.text c.loop-place.invariant.begun w.in_ok-push_separator.ensures w.in_ok-push_entry.ensures;
            begun = w.begun-is ∙ begun_step entry_text entries i e (slice_get_within entries i e (sym w.in-Some.ensures));
          }
      | in_default w ↦
          let within : i < length entries = omega (arith, c.len-place-end.ensures.value) in
          absurd (is_there entries i within (sym w.in_default.ensures))
    ]
