-- Captures as one: their frames in the order of moments. (own)
use Rattle.std.specs.Prelude.{ℕ, zero, suc, List, [], ◌∷◌, map, Option, Some, None, Result, Ok, Err, if◌then◌else◌}
use Rattle.pfs_capture_files.specs.Forms.{start_of}
use Rattle.pfs_capture_files.specs.declared.faults.FileFault.{FileFault}
use Rattle.pfs_capture_files.specs.declared.forms.Form.{Form}
use Rattle.pfs_capture.specs.Captures.{frames_from, most_items}
use Rattle.pfs_capture.specs.Instants.{is_earlier, start_instant}
use Rattle.pfs_capture.specs.Points.{Point}
use Rattle.pfs_capture.specs.Runs.{Judged, Run, frame_then, judged_frames}
use Rattle.pfs_capture.specs.declared.faults.TraceStop.{TraceStop}
use Rattle.pfs_capture.specs.declared.faults.TraceStop.TheVariants as stop

-- what comes next of several captures: a frame, and what is then left of each; or a fault; or nothing
pub data Coming : Type 0 where
  Comes : Judged → List Run → Coming
  Stops : TraceStop → Coming
  Ends : Coming

-- with a capture in front that has ended
abbrev pub behind_ended : Coming → Coming
behind_ended (Comes k rest) = Comes k (([], None) ∷ rest)
behind_ended (Stops f) = Stops f
behind_ended Ends = Ends

-- with a capture in front whose next frame is this one: the frame that was seen earlier comes first, of two of one moment that in front
abbrev pub behind_frame : Judged → Run → Coming → List Run → Coming
behind_frame j more (Comes k rest) runs = if is_earlier k.instant j.instant then Comes k (frame_then j more ∷ rest) else Comes j (more ∷ runs)
behind_frame j more (Stops f) runs = Stops f
behind_frame j more Ends runs = Comes j (more ∷ runs)

-- with a capture in front, which stops all where it stops itself
abbrev pub behind_run : Run → Coming → List Run → Coming
behind_run ([], Some f) coming runs = Stops f
behind_run ([], None) coming runs = behind_ended coming
behind_run (j ∷ js, end) coming runs = behind_frame j (js, end) coming runs

-- what comes next of captures: the frame that was seen earliest, of those of one moment that of the first capture. A capture that stops
-- with a fault stops all, as soon as its next frame is asked for.
abbrev pub coming_of : List Run → Coming
coming_of [] = Ends
coming_of (run ∷ runs) = behind_run run (coming_of runs) runs

-- what comes next, and then what follows it
abbrev pub at_coming : Coming → (List Run → Run) → Run
at_coming (Comes j rest) more = frame_then j (more rest)
at_coming (Stops f) more = ([], Some f)
at_coming Ends more = ([], None)

-- the frames of captures as one run, of so many frames at most
unfoldable pub merged : ℕ → List Run → Run
merged zero runs = ([], Some stop.TooMany)
merged (suc n) runs = at_coming (coming_of runs) (merged n)

-- a capture: the interfaces at which it was taken, and its bytes
pub record Given : Type 0 where
  pub points : List Point
  pub octets : List ℕ

-- the frames of a capture that begins like this, or its fault
abbrev pub begun_run : List Point → Result (Form × List ℕ) FileFault → Run
begun_run points (Ok begun) = judged_frames points start_instant (frames_from most_items begun.0 begun.1)
begun_run points (Err f) = ([], Some (stop.File f))

abbrev pub capture_run : Given → Run
capture_run g = begun_run g.points (start_of g.octets)

-- the frames of captures
abbrev pub captures_run : List Given → Run
captures_run gs = merged most_items (map capture_run gs)

-- the fault of a capture that does not begin, or else the first one behind it
abbrev pub fault_or : Result (Form × List ℕ) FileFault → Option FileFault → Option FileFault
fault_or (Ok begun) more = more
fault_or (Err f) more = Some f

-- the fault of the first capture that does not begin, if there is one
abbrev pub first_fault : List Given → Option FileFault
first_fault [] = None
first_fault (g ∷ gs) = fault_or (start_of g.octets) (first_fault gs)
