-- What the header of a trace leaves to be read. (own) (not promised)
use Rattle.std.specs.Prelude.{◌≡◌, ℕ, List, [], Option, Some, None, Result, Ok, Err}
use Rattle.csv.specs.Reading.{default_config, reader_state, source_of}
use Rattle.csv.specs.declared.reader.Reader.{Reader}
use Rattle.pfs_conf_values.specs.Configs.{Conf}
use Rattle.pfs_trace.specs.Reading.{records_left}
use Rattle.pfs_trace.specs.Traces.{Fields, events_from, events_of}
use Rattle.pfs_cli.specs.Tallies.{LeavesOfRun}
use Rattle.pfs_cli.specs.RecordTurns.{Tells}
use Rattle.pfs_cli.specs.declared.records.RecordsStop.{RecordsStop}

-- of a trace with these records the reader is at those after the header, whose events are those of the trace; or the run ends so,
-- nothing is written, and no event is left out that a run takes which ends so
abbrev pub ReadsHeader : {S : Type 0} → (S → Option (List ℕ)) → List Fields → Reader S → Result Unit RecordsStop → Type 0
ReadsHeader remaining records reader (Ok u) =
    (xs : List ℕ) × (source_of remaining reader ≡ Some xs)
    × ((conf : Conf) → events_of conf records ≡ events_from conf 0 None (records_left default_config (reader_state reader) xs))
ReadsHeader remaining records reader (Err stop) =
    (conf : Conf) → Tells conf (events_of conf records) [] (Err stop) × LeavesOfRun (Err stop) (events_of conf records).0
