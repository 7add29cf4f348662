-- What the reading of a rules text ends with where it gives no configuration, as the calls pass it on. (own)
use Rattle.std.specs.Prelude.{◌≡◌, ◌⊎◌, ℕ, List, Result, Ok, Err}
use Rattle.pfs_conf.specs.declared.kinds.Kind.{Kind}
use Rattle.pfs_conf.specs.declared.kinds.Kind.TheVariants as kind
use Rattle.pfs_conf.specs.declared.faults.LoadFault.{LoadFault}
use Rattle.pfs_cli.specs.declared.faults.ReplayFault.{ReplayFault}
use Rattle.pfs_cli.specs.declared.faults.ReplayFault.TheVariants as fault
use Rattle.pfs_conf_values.specs.Configs.{Conf}
use Rattle.pfs_conf.specs.Reads.{Reads}
use Rattle.pfs_cli.specs.declared.records.RecordsStop.{RecordsStop}
use Rattle.pfs_cli.specs.declared.records.RecordsStop.TheVariants as stop
use Rattle.pfs_cli.specs.Faults.{replay_fault}
use Rattle.pfs_cli.specs.Rules.{AreRefused}

-- what may be reported of a rules text without a configuration, or that is not read to its end
abbrev pub RefusesText : List ℕ → ReplayFault → Type 0
RefusesText rules (fault.Rules f) = AreRefused rules f
RefusesText rules fault.Read = Unit {0}
RefusesText rules fault.Endless = Unit {0}
RefusesText rules fault.Memory = Unit {0}
RefusesText rules _ = ⊥

-- the fault of a replay for a fault of its rules; out of memory is reported as such
abbrev pub fault_by : LoadFault → Kind → ReplayFault
fault_by f kind.Memory = fault.Memory
fault_by f _ = fault.Rules f

abbrev pub fault_of : LoadFault → ReplayFault
fault_of f = fault_by f f.kind

-- what may be reported of a rules text in place of its machine: a fault of it, or that memory was refused
abbrev pub RefusesRules : List ℕ → ReplayFault → Type 0
RefusesRules rules (fault.Rules f) = AreRefused rules f
RefusesRules rules fault.Memory = Unit {0}
RefusesRules rules _ = ⊥

-- what a feed that gives no more may be reported as
abbrev pub IsFeedFault : ReplayFault → Type 0
IsFeedFault f = (f ≡ fault.Read) ⊎ (f ≡ fault.Endless) ⊎ (f ≡ fault.Memory)

-- a text that reads as no configuration
abbrev pub HasNoRules : List ℕ → Type 0
HasNoRules rules = (conf : Conf) → Reads rules conf → ⊥

-- what is told of such a text, whatever else there is to read: its fault, or why it is not read
abbrev pub TellsRulesAlone : List ℕ → Result Unit ReplayFault → Type 0
TellsRulesAlone rules (Ok u) = ⊥
TellsRulesAlone rules (Err f) = RefusesText rules f

-- how a run that stopped is reported: a faulty record by its fault; where memory was refused as that, or by what failed of its feed
abbrev pub AnswersStop : RecordsStop → ReplayFault → Type 0
AnswersStop (stop.Fault f) answer = answer ≡ replay_fault f
AnswersStop stop.Source answer = IsFeedFault answer
AnswersStop stop.Memory answer = IsFeedFault answer
AnswersStop stop.Write answer = answer ≡ fault.Write

-- the same of how a run ended
abbrev pub AnswersRun : Result Unit RecordsStop → Result Unit ReplayFault → Type 0
AnswersRun (Err stopped) (Err answer) = AnswersStop stopped answer
AnswersRun (Err stopped) (Ok u) = ⊥
AnswersRun (Ok u) (Err answer) = answer ≡ fault.Write
AnswersRun (Ok u) (Ok v) = Unit {0}
