-- Answer of push_adaptive: the words and both shares, one after the other, are the line.
use Rattle.std.proofs.Common.{ℕ, ◌++◌, ap, ◌∙◌}
use Rattle.std.specs.Prelude.{codes, decimal}
use Rattle.pfs_conf_show.proofs.ListLaws.{behind}
use Rattle.pfs_conf_show.proofs.settings.push_adaptive.Goals as goal

pub returns : goal.returns
returns c =
    let start = decimal c.args.start in
    let end = decimal c.args.end in
    let last = codes "%)\n" in
    let between = codes "%, end " in
    let begun = c.in_ok-push_number.ensures.ok ∙ ap (λ (n : ℕ). c.extend_from_slice.new.self.items ++ decimal n) c.from.ensures in
    let ended = c.in_ok-push_number-2.ensures.ok ∙ ap (λ (n : ℕ). c.extend_from_slice-2.new.self.items ++ decimal n) c.from-2.ensures in
    behind c.args.out.now.items (codes "set syncookies adaptive (start ") (start ++ (between ++ (end ++ last))) c.in_ok-extend_from_slice.ensures.items
    (behind c.extend_from_slice.new.self.items start (between ++ (end ++ last)) begun
    (behind c.push_number.new.out.items between (end ++ last) c.in_ok-extend_from_slice-2.ensures.items
    (behind c.extend_from_slice-2.new.self.items end last ended c.in_ok-extend_from_slice-3.ensures.items)))
