-- Answer of groups_behind: at first the group that goes on has the program's name alone.
use Rattle.std.proofs.Common.{List, ap, map}
use Rattle.pfs_capture_jobs.proofs.GroupingLaws.{cut-first}
use Rattle.pfs_capture_jobs.proofs.grouping.groups_behind.Goals as goal

pub loop-word-init : goal.loop-word-init
loop-word-init c =
    cut-first c.args.name.now (map (λ w. w.now) c.args.words.now) (map (λ w. w.now) c.in_ok-own.own.items) (map (λ g. map (λ w. w.now) g.items) c.new-groups.result.items)
    (ap (λ (o : List _). map (λ w. w.now) o) c.in_ok-own.ensures) (ap (λ (d : List _). map (λ g. map (λ w. w.now) g.items) d) c.new-groups.ensures.items)
