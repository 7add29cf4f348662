-- The work of a run: that of each event as the machine allows it, and its tally. (own)
use Rattle.std.specs.Prelude.{ℕ, ◌≡◌, ◌-◌, ◌^◌, ◌⊎◌, ◌++◌, min, max, Bool, true, List, [], ◌∷◌, Result, Ok, Err}
use Rattle.std.specs.List.{sum_by}
use Rattle.pfs_addr_values.specs.declared.memory.NoMemory.{NoMemory}
use Rattle.pfs_conf_values.specs.Configs.{Conf}
use Rattle.pfs_conf.specs.Reads.{Reads}
use Rattle.pfs_engine_machine.specs.declared.events.Event.{Event}
use Rattle.pfs_engine_machine.specs.declared.events.Way.{Way}
use Rattle.pfs_engine_machine.specs.Machine.{Machine, start}
use Rattle.pfs_engine_machine.specs.Ways.{machine_after_ways, way}
use Rattle.pfs_engine.specs.Ways.{IsWorkOfWay}
use Rattle.pfs_engine.specs.declared.works.Work.{Work}
use Rattle.pfs_trace.specs.Traces.{Trace, trace_of}
use Rattle.pfs_cli_formats.specs.Reports.{BeginsReport}
use Rattle.pfs_cli.specs.declared.faults.ReplayFault.{ReplayFault}
use Rattle.pfs_cli.specs.declared.faults.ReplayFault.TheVariants as fault
use Rattle.pfs_cli.specs.declared.records.RecordsStop.{RecordsStop}
use Rattle.pfs_cli.specs.declared.records.RecordsStop.TheVariants as stop
use Rattle.pfs_cli.specs.declared.tallies.Tally.{Tally}

-- ---- tallies

-- the most that one of these took, and what all took, as far as 64 bits count
abbrev pub most_of : (Work → ℕ) → List Work → ℕ
most_of amount [] = 0
most_of amount (w ∷ works) = max (amount w) (most_of amount works)

abbrev pub total_of : (Work → ℕ) → List Work → ℕ
total_of amount works = min (sum_by amount works) (2 ^ 64 - 1)

abbrev pub tally_of : List Work → Tally
tally_of works = record {
  visits = total_of (λ (w : Work). w.visits) works;
  slices = total_of (λ (w : Work). w.slices) works;
  most_visits = most_of (λ (w : Work). w.visits) works;
  most_looks = most_of (λ (w : Work). w.looks) works;
  most_states = most_of (λ (w : Work). w.most_states) works;
  most_nodes = most_of (λ (w : Work). w.most_nodes) works;
}

-- ---- the work that the machine allows

-- of an event with this answer: of one that is answered, and of one to which memory was refused
abbrev pub IsWorkWith : Bool → Conf → Machine → Event → Result Way NoMemory → Work → Type 0
IsWorkWith counts conf m e answer work = IsWorkOfWay counts conf m e answer work

abbrev pub IsWorkOf : Bool → Conf → Machine → Event → Work → Type 0
IsWorkOf counts conf m e work = IsWorkWith counts conf m e (Ok (way conf m e).0) work

abbrev pub IsWorkOfRefused : Bool → Conf → Machine → Event → Work → Type 0
IsWorkOfRefused counts conf m e work = (refused : NoMemory) × IsWorkWith counts conf m e (Err refused) work

-- of each of these events in turn, one work for each
abbrev pub AreWorks : Bool → Conf → Machine → List Event → List Work → Type 0
AreWorks counts conf m [] [] = Unit {0}
AreWorks counts conf m [] (w ∷ works) = ⊥
AreWorks counts conf m (e ∷ es) [] = ⊥
AreWorks counts conf m (e ∷ es) (w ∷ works) = IsWorkOf counts conf m e w × AreWorks counts conf (way conf m e).1 es works

-- ---- the tally of a run

-- the tally of this work; or of one more, where memory was refused to the next event
abbrev pub IsTallyOfWorks : Bool → Conf → Machine → List Event → List Work → Tally → Type 0
IsTallyOfWorks counts conf m [] works tally = tally ≡ tally_of works
IsTallyOfWorks counts conf m (e ∷ more) works tally =
    (tally ≡ tally_of works) ⊎ ((w : Work) × IsWorkOfRefused counts conf m e w × (tally ≡ tally_of (works ++ w ∷ [])))

-- the tally of the first events of a trace. What is written is a part of the report of these, and the others are none where a run is to leave none
pub record IsTallyOf (counts : Bool) (conf : Conf) (trace : Trace) (text : List ℕ) (MayLeave : List Event → Type 0) (tally : Tally) : Type 0 where
  pub taken : List Event
  pub others : List Event
  pub works : List Work
  pub all : trace.0 ≡ taken ++ others
  pub left : MayLeave others
  pub written : BeginsReport conf (taken, trace.1) text
  pub each : AreWorks counts conf (start conf) taken works
  pub told : IsTallyOfWorks counts conf (machine_after_ways conf (start conf) taken) others works tally

-- a run takes all events of its trace, unless it stops before a faulty record or the end
abbrev pub LeavesOfRun : Result Unit RecordsStop → List Event → Type 0
LeavesOfRun (Ok u) others = others ≡ []
LeavesOfRun (Err (stop.Fault f)) others = others ≡ []
LeavesOfRun (Err _) others = Unit {0}

-- ---- the tally of a replay

-- a replay does so too
abbrev pub LeavesOfReplay : Result Unit ReplayFault → List Event → Type 0
LeavesOfReplay (Err fault.Read) others = Unit {0}
LeavesOfReplay (Err fault.Memory) others = Unit {0}
LeavesOfReplay (Err fault.Endless) others = Unit {0}
LeavesOfReplay (Err fault.Write) others = Unit {0}
LeavesOfReplay result others = others ≡ []

-- it may end without a configuration
abbrev pub MayHaveNone : Result Unit ReplayFault → Type 0
MayHaveNone (Err (fault.Rules f)) = Unit {0}
MayHaveNone (Err fault.Read) = Unit {0}
MayHaveNone (Err fault.Memory) = Unit {0}
MayHaveNone (Err fault.Endless) = Unit {0}
MayHaveNone result = ⊥

-- nothing is tallied or written then; else the work of each event is what the machine allows, and looks are counted
abbrev pub IsTallyOfReplay : List ℕ → List ℕ → List ℕ → Result Unit ReplayFault → Tally → Type 0
IsTallyOfReplay rules bytes text result tally =
    (MayHaveNone result × (text ≡ []) × (tally ≡ tally_of []))
    ⊎ ((conf : Conf) × Reads rules conf × IsTallyOf true conf (trace_of conf bytes) text (LeavesOfReplay result) tally)
