-- The trace of captures, and the account of their frames. (own)
use Rattle.std.specs.Prelude.{ℕ, ◌≡◌, ◌⊎◌, ◌≤◌, ◌<◌, ◌+◌, ◌++◌, ◌&&◌, Bool, true, false, List, [], ◌∷◌, codes, flat_map, length, take, drop, Option, Some, None, Result, Ok, Err, ⊤}
use Rattle.std.specs.Bool.{MatchBool}
use Rattle.std.specs.List.{count_by}
use Rattle.std.specs.Option.{option_map_or}
use Rattle.pfs_capture_files.specs.Faults.{is_outside}
use Rattle.pfs_capture_files.specs.Forms.{IsWithinStart, start_of}
use Rattle.pfs_capture_files.specs.declared.faults.FileFault.{FileFault}
use Rattle.pfs_capture_packets.specs.declared.packets.Reason.{Reason}
use Rattle.pfs_capture_packets.specs.declared.packets.Reason.TheVariants as reason
use Rattle.pfs_capture_answers.specs.Answers.{answer_row}
use Rattle.pfs_capture_packets.specs.Sent.{on_way}
use Rattle.pfs_trace.specs.Columns.{header_text}
use Rattle.pfs_trace.specs.Rows.{packet_row}
use Rattle.pfs_trace.specs.declared.rows.Row.{Row}
use Rattle.pfs_capture.specs.Accounts.{no_frames}
use Rattle.pfs_capture.specs.Merging.{Given, captures_run, first_fault}
use Rattle.pfs_capture.specs.Runs.{Judged, Run}
use Rattle.pfs_capture.specs.declared.accounts.Account.{Account}
use Rattle.pfs_capture.specs.declared.directions.Directions.{Directions}
use Rattle.pfs_capture.specs.declared.faults.TraceStop.{TraceStop}
use Rattle.pfs_capture.specs.declared.faults.TraceStop.TheVariants as stop
use Rattle.pfs_capture.specs.declared.sorting.Evidence.{Evidence}
use Rattle.pfs_capture.specs.declared.sorting.Evidence.TheVariants as evidence
use Rattle.pfs_capture.specs.declared.sorting.DirectedPacket.{DirectedPacket}

-- ---- the texts

-- the row of a packet that was found
abbrev pub row_from : ℕ → DirectedPacket → Row
row_from second found = record { second = second; packet = on_way found.way.heading.dir found.way.ifname found.packet }

-- a frame's row, or nothing
abbrev pub frame_text : ℕ → Result DirectedPacket Reason → List ℕ
frame_text second (Ok found) = packet_row (row_from second found)
frame_text second (Err r) = []

-- what pf answered for the record of this number, or nothing
abbrev pub answer_text : ℕ → Result DirectedPacket Reason → List ℕ
answer_text number (Ok found) = option_map_or (λ answer. answer_row number answer) found.answer []
answer_text number (Err r) = []

-- the trace: its header, and the rows of the frames that are records, in order
abbrev pub trace_text : List Judged → List ℕ
trace_text frames = header_text ++ flat_map (λ j. frame_text j.instant.second j.outcome) frames

-- how many records there are with one frame more
abbrev pub records_with : ℕ → Result DirectedPacket Reason → ℕ
records_with records (Ok found) = records + 1
records_with records (Err r) = records

-- the answers of frames after so many records
unfoldable pub answers_from : ℕ → List Judged → List ℕ
answers_from records [] = []
answers_from records (j ∷ js) = answer_text (records + 1) j.outcome ++ answers_from (records_with records j.outcome) js

-- what pf answered: a header, and a row for each record of a log
abbrev pub answers_text : List Judged → List ℕ
answers_text frames = codes "row,action,rule,anchor,subrule,reason,rewritten\n" ++ answers_from 0 frames

-- ---- the account

-- whether a frame is a record
abbrev pub is_record : Result DirectedPacket Reason → Bool
is_record (Ok found) = true
is_record (Err r) = false

-- whether a record was seen before the second of its row
abbrev pub is_late_record : Judged → Bool
is_late_record j = is_record j.outcome && j.is_late

-- whether two reasons are one
abbrev pub same_reason : Reason → Reason → Bool
same_reason reason.LinkType reason.LinkType = true
same_reason reason.NotIp reason.NotIp = true
same_reason reason.LaterFragment reason.LaterFragment = true
same_reason reason.Cut reason.Cut = true
same_reason reason.TooShort reason.TooShort = true
same_reason reason.NeitherWay reason.NeitherWay = true
same_reason r s = false

-- whether a frame is no record for this reason
abbrev pub is_none_for : Reason → Result DirectedPacket Reason → Bool
is_none_for r (Ok found) = false
is_none_for r (Err s) = same_reason r s

-- how many frames are no record for a reason
abbrev pub left_out : Reason → List Judged → ℕ
left_out r frames = count_by (λ j. is_none_for r j.outcome) frames

-- whether two kinds of evidence are one
abbrev pub same_evidence : Evidence → Evidence → Bool
same_evidence evidence.Log evidence.Log = true
same_evidence evidence.Cooked evidence.Cooked = true
same_evidence evidence.Mac evidence.Mac = true
same_evidence evidence.Networks evidence.Networks = true
same_evidence e f = false

-- whether a frame is a record whose direction was found so
abbrev pub is_found_by : Evidence → Result DirectedPacket Reason → Bool
is_found_by e (Ok found) = same_evidence e found.way.heading.by
is_found_by e (Err r) = false

-- whether a frame is a record of which the networks say the other way
abbrev pub is_contradicted : Result DirectedPacket Reason → Bool
is_contradicted (Ok found) = found.way.heading.is_contradicted
is_contradicted (Err r) = false

-- how many frames are records whose direction was found so
abbrev pub found_by : Evidence → List Judged → ℕ
found_by e frames = count_by (λ j. is_found_by e j.outcome) frames

-- how many records have their direction by each kind of evidence, and how many are contradicted
abbrev pub directions_of : List Judged → Directions
directions_of frames = record {
  log = found_by evidence.Log frames;
  cooked = found_by evidence.Cooked frames;
  mac = found_by evidence.Mac frames;
  networks = found_by evidence.Networks frames;
  contradicted = count_by (λ j. is_contradicted j.outcome) frames;
}

-- how many frames there are, how many of them are records, how many are none for each reason, and how many records are late
abbrev pub account_of : List Judged → Account
account_of frames = record {
  frames = length frames;
  records = count_by (λ j. is_record j.outcome) frames;
  link_types = left_out reason.LinkType frames;
  not_ip = left_out reason.NotIp frames;
  later_fragments = left_out reason.LaterFragment frames;
  cut = left_out reason.Cut frames;
  too_short = left_out reason.TooShort frames;
  neither_way = left_out reason.NeitherWay frames;
  late = count_by is_late_record frames;
  directions = directions_of frames;
}

-- ---- what is written by the end of a run

-- one text begins another
abbrev pub BeginsText : List ℕ → List ℕ → Type 0
BeginsText text whole = (rest : List ℕ) × (whole ≡ text ++ rest)

-- both texts and the account are those of all frames of a run, which ends like this
abbrev pub TellsAll : Run → Option TraceStop → List ℕ → List ℕ → Account → Type 0
TellsAll run end trace answers account = (run.1 ≡ end) × (trace ≡ trace_text run.0) × (answers ≡ answers_text run.0) × (account ≡ account_of run.0)

-- they are those of its first frames
abbrev pub TellsFirst : Run → List ℕ → List ℕ → Account → Type 0
TellsFirst run trace answers account = (k : ℕ) × (trace ≡ trace_text (take k run.0)) × (answers ≡ answers_text (take k run.0)) × (account ≡ account_of (take k run.0))

-- each row of these frames has at most so many bytes, and each answer so many; there are so many records before them
abbrev pub AreWithin : ℕ → ℕ → ℕ → List Judged → Type 0
AreWithin row answer records [] = ⊤
AreWithin row answer records (j ∷ js) =
    (length (frame_text j.instant.second j.outcome) ≤ row) × (length (answer_text (records + 1) j.outcome) ≤ answer)
    × AreWithin row answer (records_with records j.outcome) js

-- the row of the next frame is longer than that of each frame so far, or its answer is longer than each so far
abbrev pub Outgrows : List Judged → List Judged → Type 0
Outgrows seen [] = ⊥
Outgrows seen (j ∷ js) =
    (row : ℕ) × (answer : ℕ) × AreWithin row answer 0 seen
    × ((row < length (frame_text j.instant.second j.outcome)) ⊎ (answer < length (answer_text (count_by (λ x. is_record x.outcome) seen + 1) j.outcome)))

-- they are those of its first frames, and another follows, which has the longest row or the longest answer so far
abbrev pub TellsBefore : Run → List ℕ → List ℕ → Account → Type 0
TellsBefore run trace answers account =
    (k : ℕ) × (k < length run.0) × (trace ≡ trace_text (take k run.0)) × (answers ≡ answers_text (take k run.0)) × (account ≡ account_of (take k run.0))
    × Outgrows (take k run.0) (drop k run.0)

-- the texts begin those of its first frames, and the account is that of these
abbrev pub TellsFront : Run → List ℕ → List ℕ → Account → Type 0
TellsFront run trace answers account =
    (k : ℕ) × BeginsText trace (trace_text (take k run.0)) × BeginsText answers (answers_text (take k run.0)) × (account ≡ account_of (take k run.0))

-- what is written of a run, by how the call ends: all of it, or only its first part where something around the capture fails. `Memory` is
-- told only of a frame that is there, never of a fault, and only where its texts are longer than those before
abbrev pub TellsRun : Run → List ℕ → List ℕ → Account → Result Unit TraceStop → Type 0
TellsRun run trace answers account (Ok u) = TellsAll run None trace answers account
TellsRun run trace answers account (Err (stop.File f)) = MatchBool (is_outside f) (TellsFirst run trace answers account) (TellsAll run (Some (stop.File f)) trace answers account)
TellsRun run trace answers account (Err stop.Moment) = TellsAll run (Some stop.Moment) trace answers account
TellsRun run trace answers account (Err stop.TooMany) = TellsAll run (Some stop.TooMany) trace answers account
TellsRun run trace answers account (Err stop.Write) = TellsFront run trace answers account
TellsRun run trace answers account (Err stop.Answers) = TellsFront run trace answers account
TellsRun run trace answers account (Err stop.Memory) = TellsBefore run trace answers account

-- nothing is written, not even the headers, where a file does not begin as a capture, or can't be read so far
abbrev pub TellsNothing : List ℕ → List ℕ → Account → Type 0
TellsNothing trace answers account = (trace ≡ []) × (answers ≡ []) × (account ≡ no_frames)

-- the call ends with the fault of the first capture that does not begin; or a read of how one begins failed, or memory was refused for it
abbrev pub EndsAtStart : Option FileFault → Result Unit TraceStop → Type 0
EndsAtStart first result = (f : FileFault) × (result ≡ Err (stop.File f)) × (is_outside f ≡ false → first ≡ Some f)

-- no byte behind its beginning was read of each capture that begins, by what of it is unread
abbrev pub AreWithinStarts : List Given → List (Option (List ℕ)) → Type 0
AreWithinStarts [] lefts = ⊤
AreWithinStarts (g ∷ gs) [] = ⊥
AreWithinStarts (g ∷ gs) (left ∷ lefts) = IsWithinStart (start_of g.octets) left × AreWithinStarts gs lefts

-- What is written of captures, by what of each is unread afterwards, and how the call ends. Nothing is written where one of them does not
-- begin; and of such that all begin only where no byte behind their beginnings was read.
abbrev pub TellsCaptures : List Given → List (Option (List ℕ)) → List ℕ → List ℕ → Account → Result Unit TraceStop → Type 0
TellsCaptures gs lefts trace answers account result =
    ((first_fault gs ≡ None) × TellsRun (captures_run gs) trace answers account result)
    ⊎ (TellsNothing trace answers account × EndsAtStart (first_fault gs) result × AreWithinStarts gs lefts)
