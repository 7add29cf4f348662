-- What one turn of a run writes, and what is written when it ends. (own)
use Rattle.std.specs.Prelude.{◌≡◌, ◌<◌, ◌⊎◌, ℕ, List, [], length, take, Some, None, Result, Ok, Err}
use Rattle.pfs_streams.specs.Sinks.{SinkView, OwesNoFlush}
use Rattle.pfs_conf_values.specs.Configs.{Conf}
use Rattle.pfs_engine_machine.specs.declared.events.Event.{Event}
use Rattle.pfs_engine_machine.specs.Machine.{Machine}
use Rattle.pfs_engine_machine.specs.Ways.{way}
use Rattle.pfs_cli.specs.declared.records.RecordsStop.{RecordsStop}
use Rattle.pfs_cli.specs.declared.records.RecordsStop.TheVariants as stop
use Rattle.pfs_trace.specs.Events.{event_at}
use Rattle.pfs_cli_formats.specs.Lines.{row_text}
use Rattle.pfs_cli_formats.specs.Reports.{AreFirstLines, BeginsReport, lines_of, report}
use Rattle.pfs_trace.specs.Traces.{Trace}

-- the text of one line, by how its writing ends
abbrev pub WritesLine : List ℕ → List ℕ → Result Unit RecordsStop → Type 0
WritesLine line text (Ok u) = text ≡ line
WritesLine line text (Err (stop.Fault f)) = ⊥
WritesLine line text (Err stop.Source) = ⊥
WritesLine line text (Err stop.Memory) = text ≡ []
WritesLine line text (Err stop.Write) = (k : ℕ) × (text ≡ take k line)

-- the turn of a record whose event this is: the machine after it, and the text
abbrev pub TakesEvent : Conf → ℕ → Machine → Event → List ℕ → Result Unit RecordsStop → Machine → Type 0
TakesEvent conf row m e text result after =
    WritesLine (row_text row (way conf m e).0) text result × (result ≡ Ok tt → after ≡ (way conf m e).1)

-- the turn of a record, by what it is
abbrev pub TakesRecord : Conf → ℕ → Machine → List (List ℕ) → List ℕ → Result Unit RecordsStop → Machine → Type 0
TakesRecord conf row m fields text (Err (stop.Fault f)) after = (event_at conf row m.last fields ≡ Err f) × (text ≡ [])
TakesRecord conf row m fields text result after = (e : Event) × (event_at conf row m.last fields ≡ Ok e) × TakesEvent conf row m e text result after

-- out of memory is told of a record that has an event, or behind the last one, never of a faulty one
abbrev pub WantsMemory : Conf → Trace → List ℕ → Type 0
WantsMemory conf trace text = (k : ℕ) × (text ≡ lines_of conf (take k trace.0)) × ((k < length trace.0) ⊎ (trace.1 ≡ None))

-- what is written of the report, by how the run ends; memory may be refused before a record is read
abbrev pub Tells : Conf → Trace → List ℕ → Result Unit RecordsStop → Type 0
Tells conf trace text (Ok u) = (trace.1 ≡ None) × (text ≡ report conf trace)
Tells conf trace text (Err (stop.Fault f)) = (trace.1 ≡ Some f) × (text ≡ report conf trace)
Tells conf trace text (Err stop.Source) = AreFirstLines conf trace text
Tells conf trace text (Err stop.Memory) = WantsMemory conf trace text ⊎ (text ≡ [])
Tells conf trace text (Err stop.Write) = BeginsReport conf trace text

-- what is written of the records behind the header, by how the run ends
abbrev pub TellsRows : Conf → Trace → List ℕ → Result Unit RecordsStop → Type 0
TellsRows conf trace text (Err stop.Memory) = WantsMemory conf trace text
TellsRows conf trace text result = Tells conf trace text result

-- by lines all that was written is flushed when a turn or a run ends, unless a write failed
abbrev pub PassedOn : {W : Type 0} → SinkView W → Result Unit RecordsStop → Type 0
PassedOn left (Err stop.Write) = Unit {0}
PassedOn left result = OwesNoFlush left
