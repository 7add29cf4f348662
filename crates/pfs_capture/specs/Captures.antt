-- The frames of a capture, from its first item to its end. (own)
use Rattle.std.specs.Prelude.{ℕ, zero, suc, List, [], ◌∷◌, take, drop, Option, Some, None, Result, Ok, Err}
use Rattle.pfs_capture_files.specs.Forms.{ReadTurn, turn_of}
use Rattle.pfs_capture_files.specs.declared.faults.FileFault.{FileFault}
use Rattle.pfs_capture_files.specs.declared.forms.Form.{Form}
use Rattle.pfs_capture_files.specs.declared.frames.Frame.{Frame}
use Rattle.pfs_capture_files.specs.declared.frames.FileItem.{FileItem}
use Rattle.pfs_capture_files.specs.declared.frames.FileItem.TheVariants as item
use Rattle.pfs_capture_files.specs.declared.frames.Moment.{Moment}
use Rattle.pfs_capture.specs.declared.faults.TraceStop.{TraceStop}
use Rattle.pfs_capture.specs.declared.faults.TraceStop.TheVariants as stop

-- the bytes of a frame in what was read
abbrev pub frame_bytes : Frame → List ℕ → List ℕ
frame_bytes frame held = take frame.count (drop frame.from held)

-- a frame of a capture: the type of its link, when it was seen, the name of its interface if its block tells one, and its bytes
pub record SeenFrame : Type 0 where
  pub link : ℕ
  pub moment : Moment
  pub name : Option (List ℕ)
  pub octets : List ℕ

abbrev pub seen_of : Frame → List ℕ → SeenFrame
seen_of frame held = record { link = frame.link; moment = frame.moment; name = frame.name; octets = frame_bytes frame held }

-- the frames of a capture up to its end, or up to the fault that stops it
abbrev pub Frames : Type 0
Frames = List SeenFrame × Option TraceStop

-- an item's frame, if it holds one, and then those after it; none is after the end
abbrev pub at_item : FileItem → List ℕ → Frames → Frames
at_item item.End held more = ([], None)
at_item item.Other held more = more
at_item (item.Frame f) held more = (seen_of f held ∷ more.0, more.1)

-- what a turn finds, and then what follows it; or its fault
abbrev pub at_turn : Result ReadTurn FileFault → (Form → List ℕ → Frames) → Frames
at_turn (Ok turn) more = at_item turn.item turn.held (more turn.form turn.left)
at_turn (Err f) more = ([], Some (stop.File f))

-- the most items that are read of a capture
abbrev pub most_items : ℕ
most_items = 1099511627776

-- the frames in the next items of a capture, of so many at most
unfoldable pub frames_from : ℕ → Form → List ℕ → Frames
frames_from zero form xs = ([], Some stop.TooMany)
frames_from (suc n) form xs = at_turn (turn_of form xs) (frames_from n)
