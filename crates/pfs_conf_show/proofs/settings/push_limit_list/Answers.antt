-- Answer of push_limit_list: the four limits, one after the other, are the list.
use Rattle.std.specs.Prelude.{codes}
use Rattle.pfs_conf_show.proofs.ListLaws.{four_items, on_ok}
use Rattle.pfs_conf_show.proofs.settings.push_limit_list.Goals as goal

pub returns : goal.returns
returns c =
    let limits = c.args.config.now.limits in
    on_ok _ _ c.push_item-4.result
    (λ last. four_items (codes "states") (codes "src-nodes") (codes "tables") (codes "table-entries")
    c.limit.result c.limit-2.result c.limit-3.result c.limit-4.result limits.states limits.src_nodes limits.tables limits.table_entries
    c.args.out.now.items c.push_item.new.out.items c.push_item-2.new.out.items c.push_item-3.new.out.items c.push_item-4.new.out.items
    c.in_ok-push_item.ensures c.in_ok-push_item-2.ensures c.in_ok-push_item-3.ensures last
    c.limit.ensures.value c.limit-2.ensures.value c.limit-3.ensures.value c.limit-4.ensures.value)
    c.push_item-4.ensures
