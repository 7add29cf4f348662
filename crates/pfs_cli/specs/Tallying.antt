-- What one turn of a run adds to its tally. (own) (not promised)
use Rattle.std.specs.Prelude.{ℕ, ◌≡◌, ◌+◌, ◌-◌, ◌^◌, ◌⊎◌, min, max, Bool, List, Result, Ok, Err}
use Rattle.pfs_conf_values.specs.Configs.{Conf}
use Rattle.pfs_engine_machine.specs.declared.events.Event.{Event}
use Rattle.pfs_engine_machine.specs.Machine.{Machine}
use Rattle.pfs_engine.specs.declared.works.Work.{Work}
use Rattle.pfs_trace.specs.Events.{event_at}
use Rattle.pfs_cli.specs.Tallies.{IsWorkOf, IsWorkOfRefused}
use Rattle.pfs_cli.specs.declared.records.RecordsStop.{RecordsStop}
use Rattle.pfs_cli.specs.declared.records.RecordsStop.TheVariants as stop
use Rattle.pfs_cli.specs.declared.tallies.Tally.{Tally}

-- a tally with the work of one event more
abbrev pub tally_with : Tally → Work → Tally
tally_with t w = record {
  visits = min (t.visits + w.visits) (2 ^ 64 - 1);
  slices = min (t.slices + w.slices) (2 ^ 64 - 1);
  most_visits = max t.most_visits w.visits;
  most_looks = max t.most_looks w.looks;
  most_states = max t.most_states w.most_states;
  most_nodes = max t.most_nodes w.most_nodes;
}

-- the work of the event of a turn, by how the turn ends
abbrev pub IsWorkOfTurn : Bool → Conf → Machine → Event → Result Unit RecordsStop → Work → Type 0
IsWorkOfTurn counts conf m e (Err stop.Memory) w = IsWorkOf counts conf m e w ⊎ IsWorkOfRefused counts conf m e w
IsWorkOfTurn counts conf m e result w = IsWorkOf counts conf m e w

abbrev pub TalliesEvent : Bool → Conf → Machine → Event → Result Unit RecordsStop → Tally → Tally → Type 0
TalliesEvent counts conf m e result before after = (w : Work) × IsWorkOfTurn counts conf m e result w × (after ≡ tally_with before w)

-- the turn of a record: that of its event, and nothing where it is faulty
abbrev pub TalliesRecord : Bool → Conf → ℕ → Machine → List (List ℕ) → Result Unit RecordsStop → Tally → Tally → Type 0
TalliesRecord counts conf row m fields (Err (stop.Fault f)) before after = after ≡ before
TalliesRecord counts conf row m fields result before after =
    (e : Event) → event_at conf row m.last fields ≡ Ok e → TalliesEvent counts conf m e result before after
