-- Invariant of find_option: from this option the turns that are left lead where all lead from the first.
use Rattle.std.proofs.Common.{◌≡◌, ◌-◌, length}
use Rattle.pfs_capture_files.specs.Options.{find_option}
use Rattle.pfs_capture_files.proofs.options.find_option.Given as goal

abbrev pub invariant-loop-turn : goal.invariant-loop-turn
invariant-loop-turn l =
    find_option (length l.body - l._turn) l.order l.body l.wanted l.at ≡ find_option (length l.body) l.order l.body l.wanted l.fn.first
