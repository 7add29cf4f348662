-- Invariant of push_items: what is written and the text of the items that are left make the whole text.
use Rattle.std.proofs.Common.{◌≡◌, ◌++◌, drop}
use Rattle.pfs_conf_show.specs.Texts.{items_text}
use Rattle.pfs_conf_show.proofs.items.push_items.Given as goal

-- what is written, and the text of the items that are left
abbrev pub invariant-loop-number : goal.invariant-loop-number
invariant-loop-number l =
    l.out.items ++ items_text l.config.tables l.depth (drop l.number l.config.items)
    ≡ l.initial.out.items ++ items_text l.config.tables 0 l.config.items
