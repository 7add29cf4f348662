-- Invariant of push_braces: as many closing braces are written as turns were taken.
use Rattle.std.proofs.Common.{◌≡◌, ◌++◌}
use Rattle.pfs_conf_show.specs.Texts.{braces_text}
use Rattle.pfs_conf_show.proofs.items.push_braces.Given as goal

abbrev pub invariant-loop : goal.invariant-loop
invariant-loop l = l.out.items ≡ l.initial.out.items ++ braces_text l.counter
