-- The report of a trace under a configuration, and its fronts. (own)
use Rattle.std.specs.Prelude.{◌≡◌, ◌+◌, ◌++◌, ℕ, List, [], ◌∷◌, length, take, Option, Some, None}
use Rattle.pfs_conf_values.specs.Configs.{Conf}
use Rattle.pfs_engine_machine.specs.declared.events.Event.{Event}
use Rattle.pfs_engine_machine.specs.declared.events.Way.{Way}
use Rattle.pfs_engine_machine.specs.Machine.{Machine, start, states_held, nodes_held, entries_held}
use Rattle.pfs_engine_machine.specs.Ways.{machine_after_ways, ways_of}
use Rattle.pfs_cli_formats.specs.Lines.{row_text, end_text}
use Rattle.pfs_trace.specs.Traces.{Trace, trace_of}
use Rattle.pfs_trace.specs.declared.faults.TraceFault.{TraceFault}

-- one line for each record, by what came of it, the first in this row
unfoldable pub lines_from : ℕ → List Way → List ℕ
lines_from row [] = []
lines_from row (w ∷ ws) = row_text row w ++ lines_from (row + 1) ws

-- the lines of what the machine does with these events, which are the first of a trace
abbrev pub lines_of : Conf → List Event → List ℕ
lines_of conf es = lines_from 1 (ways_of conf (start conf) es)

-- the last line, with what is held
abbrev pub end_line_of : ℕ → Machine → List ℕ
end_line_of rows m = end_text rows (states_held m) (nodes_held m) (entries_held m)

-- the text of a report: a line for each record before the first faulty one, and if there is none, the last line
abbrev pub report : Conf → Trace → List ℕ
report conf (es, None) = lines_of conf es ++ end_line_of (length es) (machine_after_ways conf (start conf) es)
report conf (es, Some f) = lines_of conf es

-- the report of a trace: its text, and what is wrong with the first faulty record
abbrev pub report_of : Conf → List ℕ → List ℕ × Option TraceFault
report_of conf bytes = (report conf (trace_of conf bytes), (trace_of conf bytes).1)

-- this text is the lines of the first records of a trace, none of them faulty
abbrev pub AreFirstLines : Conf → Trace → List ℕ → Type 0
AreFirstLines conf trace text = (k : ℕ) × (text ≡ lines_of conf (take k trace.0))

-- this text begins the report
abbrev pub BeginsReport : Conf → Trace → List ℕ → Type 0
BeginsReport conf trace text = (rest : List ℕ) × (report conf trace ≡ text ++ rest)
