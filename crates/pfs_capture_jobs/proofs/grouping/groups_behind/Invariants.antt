-- Invariant of groups_behind: the groups so far, the one that goes on, and those of the words from here on, are those of all words.
use Rattle.std.proofs.Common.{◌≡◌, ◌∷◌, drop, map}
use Rattle.pfs_capture_jobs.specs.Groups.{word_groups}
use Rattle.pfs_capture_jobs.proofs.GroupingLaws.{so-cut}
use Rattle.pfs_capture_jobs.proofs.grouping.groups_behind.Given as goal

abbrev pub invariant-loop-word : goal.invariant-loop-word
invariant-loop-word l =
    word_groups (l.name ∷ map (λ w. w.now) l.words)
    ≡ so-cut (map (λ g. map (λ w. w.now) g.items) l.groups.items) (map (λ w. w.now) l.own.items) l.name l.mark (map (λ w. w.now) (drop l.word-index l.words))
