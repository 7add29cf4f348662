-- The events of a trace under a configuration, up to its first faulty record. (own)
use Rattle.std.specs.Prelude.{◌+◌, ℕ, List, [], ◌∷◌, Option, Some, None, Result, Ok, Err, if◌then◌else◌, nat_lt}
use Rattle.csv.specs.Reading.{records, default_config, strip_bom}
use Rattle.pfs_addr_values.specs.Packets.{row_limit}
use Rattle.pfs_conf_values.specs.Configs.{Conf}
use Rattle.pfs_engine_machine.specs.declared.events.Event.{Event}
use Rattle.pfs_trace.specs.declared.faults.TraceFault.{TraceFault}
use Rattle.pfs_trace.specs.declared.faults.TraceFault.TheVariants as fault
use Rattle.pfs_trace.specs.Columns.{is_header}
use Rattle.pfs_trace.specs.Events.{event_at}

-- the fields of a record
abbrev pub Fields : Type 0
Fields = List (List ℕ)

-- the events before the first faulty record, and what is wrong with that one, if there is one
abbrev pub Trace : Type 0
Trace = List Event × Option TraceFault

-- an event, and then those after it; or a fault
abbrev pub ahead_of : Result Event TraceFault → (Event → Trace) → Trace
ahead_of (Ok e) more = (e ∷ (more e).0, (more e).1)
ahead_of (Err f) more = ([], Some f)

-- the events of the records after so many rows, the last of them at this moment; of at most so many records as a trace may have
unfoldable pub events_from : Conf → ℕ → Option ℕ → List Fields → Trace
events_from conf rows last [] = ([], None)
events_from conf rows last (r ∷ rs) =
    ahead_of (if nat_lt rows row_limit then event_at conf (rows + 1) last r else Err fault.TooManyRows) (λ e. events_from conf (rows + 1) (Some e.time) rs)

-- the events of a trace's records: the first is the header
unfoldable pub events_of : Conf → List Fields → Trace
events_of conf [] = ([], Some (fault.Columns 0))
events_of conf (r ∷ rs) = if is_header r then events_from conf 0 None rs else ([], Some (fault.Columns 0))

-- the events of a trace, whose records are those that the `csv` crate gives, a byte order mark at the start left out
abbrev pub trace_of : Conf → List ℕ → Trace
trace_of conf bytes = events_of conf (records default_config (strip_bom bytes))
