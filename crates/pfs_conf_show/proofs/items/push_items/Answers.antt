-- Answers of push_items: an item more, no item too deep, and the braces that are open at the end.
use Rattle.std.proofs.Common.{◌≡◌, ◌++◌, ◌∙◌, ◌<◌, ◌≤◌, ◌+◌, ap, sym, List, ℕ, arith, drop, length}
use Rattle.pfs_conf_show.specs.Texts.{items_text, braces_text}
use Rattle.pfs_conf_show.proofs.ItemLaws.{is_there, item_step, items_end}
use Rattle.pfs_conf_show.proofs.ListLaws.{on_ok}
use Rattle.pfs_conf_show.proofs.items.push_items.Goals as goal
use Rattle.pfs_conf_show.proofs.items.push_items.Goals.{in-Some+in_ok-depth, in_default}

pub loop-number-preserved : goal.loop-number-preserved
loop-number-preserved c =
    let conf = c.args.config.now in
    let n = c.loop-number.number in
    let all = c.args.out.now.items ++ items_text conf.tables 0 conf.items in
    elim c.match-item.branch [
      | in-Some+in_ok-depth w ↦
          ap (λ v. v.items ++ items_text conf.tables c.match-item.depth (drop (n + 1) conf.items)) w.out-is
          ∙ (ap (λ (d : ℕ). w.push_item.new.out.items ++ items_text conf.tables d (drop (n + 1) conf.items)) w.depth-is
          ∙ item_step conf.tables c.loop-number.depth n conf.items w.in-Some.item.now w.in_ok-depth.depth c.loop-number.out.items w.push_item.new.out.items all
          (sym w.in-Some.ensures.value) c.loop-number.invariant w.in_ok-depth.ensures.text w.in_ok-depth.ensures.depth)
      | in_default w ↦
          let within : n < length conf.items = omega (arith, c.item_count-number-end.ensures.value) in
          absurd (is_there conf.items n within (sym w.in_default.ensures.value))
    ]

pub push_item-requires : goal.push_item-requires
push_item-requires c = c.in-Some.ensures.shallow

pub returns : goal.returns
returns c =
    let conf = c.args.config.now in
    let over : length conf.items ≤ c.loop-number.number = omega (arith, c.item_count-number-end.ensures.value) in
    on_ok _ _ c.push_braces.result
    (λ (h : c.push_braces.new.out.items ≡ c.loop-number.out.items ++ braces_text c.loop-number.depth).
    h ∙ (ap (λ (z : List ℕ). c.loop-number.out.items ++ z) (sym (items_end conf.tables c.loop-number.depth c.loop-number.number conf.items over)) ∙ c.loop-number.invariant))
    c.push_braces.ensures
