-- From the bytes of captures to the report of their trace. (own)
use Rattle.std.specs.Prelude.{◌≡◌, ◌≤◌, ◌<◌, ◌++◌, ℕ, true, All, List, [], ◌∷◌, flat_map, length, map, None, Result, Ok, Err}
use Rattle.std.specs.List.{AllByRecursion}
use Rattle.pfs_addr_values.specs.Names.{is_name}
use Rattle.pfs_addr_values.specs.Packets.{row_limit}
use Rattle.pfs_conf_values.specs.Configs.{Conf}
use Rattle.pfs_engine_machine.specs.Machine.{start}
use Rattle.pfs_engine_machine.specs.Ways.{machine_after_ways}
use Rattle.pfs_engine_machine.specs.declared.events.Event.{Event}
use Rattle.pfs_cli_formats.specs.Reports.{end_line_of, lines_of, report_of}
use Rattle.pfs_trace.specs.Traces.{trace_of}
use Rattle.pfs_capture_packets.specs.declared.packets.Reason.{Reason}
use Rattle.pfs_trace.specs.Rows.{event_of}
use Rattle.pfs_trace.specs.declared.rows.Row.{Row}
use Rattle.pfs_capture.specs.Merging.{Given, captures_run}
use Rattle.pfs_capture.specs.Points.{Point}
use Rattle.pfs_capture.specs.Runs.{Judged}
use Rattle.pfs_capture.specs.Traces.{row_from, trace_text}
use Rattle.pfs_capture.specs.declared.sorting.DirectedPacket.{DirectedPacket}

-- the row of a frame in its second, if it is a record
abbrev pub rows_at : ℕ → Result DirectedPacket Reason → List Row
rows_at second (Ok found) = row_from second found ∷ []
rows_at second (Err r) = []

-- the rows of these frames, in order
abbrev pub rows_of : List Judged → List Row
rows_of frames = flat_map (λ j. rows_at j.instant.second j.outcome) frames

-- their packets as a machine takes them, each in its second; of ICMP a record that is skipped
abbrev pub packets_of_frames : List Judged → List Event
packets_of_frames frames = map event_of (rows_of frames)

-- the frames of captures, in the order of their moments: none of one whose bytes begin no capture
abbrev pub frames_in : List Given → List Judged
frames_in captures = (captures_run captures).0

-- the packets that are found in captures
abbrev pub packets_in_captures : List Given → List Event
packets_in_captures captures = packets_of_frames (frames_in captures)

-- the bytes of a file, and interfaces with names
pub record IsCapture (g : Given) : Type 0 where
  pub names : AllByRecursion (λ p. is_name 15 p.ifname ≡ true) g.points
  pub octets : All (λ b. b < 256) g.octets

-- captures, and as many records as a trace may have
pub record AreCaptures (captures : List Given) : Type 0 where
  pub each : AllByRecursion IsCapture captures
  pub few : length (rows_of (frames_in captures)) ≤ row_limit

-- the trace of captures is read as their packets, without a fault
abbrev pub TraceIsRead : Conf → Type 0
TraceIsRead conf = (captures : List Given) → AreCaptures captures → trace_of conf (trace_text (frames_in captures)) ≡ (packets_in_captures captures, None)

-- the report of a run of these events
abbrev pub run_report : Conf → List Event → List ℕ
run_report conf es = lines_of conf es ++ end_line_of (length es) (machine_after_ways conf (start conf) es)

-- the report of its trace is that of a run of its packets
abbrev pub CaptureIsReported : Conf → Type 0
CaptureIsReported conf =
    (captures : List Given) → AreCaptures captures → report_of conf (trace_text (frames_in captures)) ≡ (run_report conf (packets_in_captures captures), None)
