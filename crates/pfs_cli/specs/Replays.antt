-- What a replay has written when it ends. (own)
use Rattle.std.specs.Prelude.{◌≡◌, ◌⊎◌, ◌<◌, ℕ, List, [], false, Option, Some, None, Result, Ok, Err}
use Rattle.pfs_trace.specs.declared.faults.TraceFault.{TraceFault}
use Rattle.pfs_trace.specs.declared.faults.TraceFault.TheVariants as trace
use Rattle.pfs_cli.specs.declared.faults.ReplayFault.{ReplayFault}
use Rattle.pfs_cli.specs.declared.faults.ReplayFault.TheVariants as fault
use Rattle.pfs_streams.specs.Feeds.{FeedView, IsFresh, read_failures, reads_of}
use Rattle.pfs_streams.specs.Sinks.{SinkView, OwesNoFlush, is_unflushed}
use Rattle.pfs_conf_values.specs.Configs.{Conf}
use Rattle.pfs_conf.specs.Reads.{Reads}
use Rattle.pfs_trace.specs.Traces.{trace_of}
use Rattle.pfs_cli_formats.specs.Reports.{report_of, AreFirstLines, BeginsReport}

-- the whole report, under the configuration of the rules; its trace has this fault, or none
abbrev pub WritesReport : List ℕ → List ℕ → List ℕ → Option TraceFault → Type 0
WritesReport rules bytes text f = (conf : Conf) × Reads rules conf × (report_of conf bytes ≡ (text, f))

-- nothing, or the lines of the first records of the trace, which begin its report
abbrev pub WritesLines : List ℕ → List ℕ → List ℕ → Type 0
WritesLines rules bytes text =
    (text ≡ []) ⊎ ((conf : Conf) × Reads rules conf × AreFirstLines conf (trace_of conf bytes) text × BeginsReport conf (trace_of conf bytes) text)

-- what is written, by how the replay ends. A fault of the rules is reported only for a text that reads as no
-- configuration, and leaves nothing; a faulty trace, and one without a fault, its report; a failed read, an endless
-- reader or refused memory the lines of the first records; a failed write a front of the report.
abbrev pub Replays : List ℕ → List ℕ → List ℕ → Result Unit ReplayFault → Type 0
Replays rules bytes text (Ok u) = WritesReport rules bytes text None
Replays rules bytes text (Err (fault.Rules f)) = ((conf : Conf) → Reads rules conf → ⊥) × (text ≡ [])
Replays rules bytes text (Err (fault.Columns row)) = WritesReport rules bytes text (Some (trace.Columns row))
Replays rules bytes text (Err (fault.Field row column)) = WritesReport rules bytes text (Some (trace.Field row column))
Replays rules bytes text (Err (fault.TimeFell row)) = WritesReport rules bytes text (Some (trace.TimeFell row))
Replays rules bytes text (Err (fault.Table row)) = WritesReport rules bytes text (Some (trace.Table row))
Replays rules bytes text (Err fault.TooManyRows) = WritesReport rules bytes text (Some trace.TooManyRows)
Replays rules bytes text (Err fault.Read) = WritesLines rules bytes text
Replays rules bytes text (Err fault.Memory) = WritesLines rules bytes text
Replays rules bytes text (Err fault.Endless) = WritesLines rules bytes text
Replays rules bytes text (Err fault.Write) = (conf : Conf) × Reads rules conf × BeginsReport conf (trace_of conf bytes) text

-- what is flushed when the call ends: all of a report that is whole; by lines all that was written, unless a write failed
abbrev pub ShowsLines : {W : Type 0} → SinkView W → Result Unit ReplayFault → Type 0
ShowsLines left (Ok u) = is_unflushed left ≡ false
ShowsLines left (Err fault.Write) = Unit {0}
ShowsLines left (Err f) = OwesNoFlush left

-- where the first read of a feed fails, the sink is as it was. Nobody knows beforehand that a read will fail: so nothing is written or flushed
-- before the first read gave its bytes
abbrev pub WaitsForRead : {R W : Type 0} → FeedView R → FeedView R → SinkView W → SinkView W → Type 0
WaitsForRead before after held left = IsFresh before → 0 < read_failures after → reads_of after ≡ 1 → left ≡ held
