-- The moments of frames, and their order. (own)
use Rattle.std.specs.Prelude.{ℕ, ◌==◌, ◌&&◌, ◌||◌, Bool, false, nat_lt, Result, Ok, Err, if◌then◌else◌}
use Rattle.pfs_capture_files.specs.declared.frames.Moment.{Moment}
use Rattle.pfs_capture_files.specs.declared.frames.Moment.TheVariants.{At, Untold, Outside}
use Rattle.pfs_capture.specs.declared.faults.TraceStop.{TraceStop}
use Rattle.pfs_capture.specs.declared.faults.TraceStop.TheVariants as stop
use Rattle.pfs_capture.specs.declared.instants.Instant.{Instant}

-- the first moment of all
abbrev pub start_instant : Instant
start_instant = record { second = 0; nanosecond = 0 }

-- one moment is before another: in an earlier second, or earlier in the same one
abbrev pub is_earlier : Instant → Instant → Bool
is_earlier a b = nat_lt a.second b.second || ((a.second == b.second) && nat_lt a.nanosecond b.nanosecond)

-- the later of two moments
abbrev pub later : Instant → Instant → Instant
later a b = if is_earlier a b then b else a

-- the moment of a frame behind one of this moment: its own, but none before that
abbrev pub instant_after : Instant → Moment → Result Instant TraceStop
instant_after last (At second nanosecond) =
    if nat_lt 4294967295 second then Err stop.Moment else Ok (later last (record { second = second; nanosecond = nanosecond }))
instant_after last Untold = Ok last
instant_after last Outside = Err stop.Moment

-- whether a frame was seen before this second, by its own moment
abbrev pub is_before : Moment → ℕ → Bool
is_before (At own nanosecond) second = nat_lt own second
is_before Untold second = false
is_before Outside second = false
