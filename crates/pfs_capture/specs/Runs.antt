-- The frames of a capture in their moments, each a record, or none for a reason. (own)
use Rattle.std.specs.Prelude.{Bool, List, [], ◌∷◌, Option, Some, Result, Ok, Err}
use Rattle.pfs_capture_packets.specs.declared.packets.Reason.{Reason}
use Rattle.pfs_capture.specs.Captures.{Frames, SeenFrame}
use Rattle.pfs_capture.specs.Instants.{instant_after, is_before}
use Rattle.pfs_capture.specs.Points.{Point}
use Rattle.pfs_capture.specs.Sorting.{found_in_frame}
use Rattle.pfs_capture.specs.declared.faults.TraceStop.{TraceStop}
use Rattle.pfs_capture.specs.declared.instants.Instant.{Instant}
use Rattle.pfs_capture.specs.declared.sorting.DirectedPacket.{DirectedPacket}

-- a frame in its moment, whether it was seen in an earlier second, and whether it is a record or why it is none
pub record Judged : Type 0 where
  pub instant : Instant
  pub is_late : Bool
  pub outcome : Result DirectedPacket Reason

-- a frame of a capture that was taken at these interfaces, in this moment
abbrev pub judged_at : List Point → SeenFrame → Instant → Judged
judged_at points f instant = record { instant = instant; is_late = is_before f.moment instant.second; outcome = found_in_frame points f.name f.link f.octets }

-- frames in their moments, and what stops them before the end of the capture, if anything does
abbrev pub Run : Type 0
Run = List Judged × Option TraceStop

-- a frame, and then a run
abbrev pub frame_then : Judged → Run → Run
frame_then j run = (j ∷ run.0, run.1)

-- a frame in its moment, and then those after it; or the fault of its moment
abbrev pub at_instant : Result Instant TraceStop → (Instant → Judged) → (Instant → Run) → Run
at_instant (Ok instant) judged more = frame_then (judged instant) (more instant)
at_instant (Err f) judged more = ([], Some f)

-- these frames after one of this moment
unfoldable pub judged_from : List Point → Instant → List SeenFrame → Option TraceStop → Run
judged_from points last [] end = ([], end)
judged_from points last (f ∷ fs) end =
    at_instant (instant_after last f.moment) (λ instant. judged_at points f instant) (λ instant. judged_from points instant fs end)

abbrev pub judged_frames : List Point → Instant → Frames → Run
judged_frames points last frames = judged_from points last frames.0 frames.1
