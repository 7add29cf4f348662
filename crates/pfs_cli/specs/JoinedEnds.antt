-- How a joined text ends before its trace, and what is written of its trace. (own) (not promised)
use Rattle.std.specs.Prelude.{ℕ, List, Result, true}
use Rattle.pfs_conf_values.specs.Configs.{Conf}
use Rattle.pfs_conf.specs.Reads.{Reads}
use Rattle.pfs_trace.specs.Traces.{trace_of}
use Rattle.pfs_cli.specs.declared.faults.ReplayFault.TheVariants as fault
use Rattle.pfs_cli.specs.declared.joined.Halt.{Halt}
use Rattle.pfs_cli.specs.declared.joined.Halt.TheVariants as halt
use Rattle.pfs_cli.specs.declared.records.RecordsStop.{RecordsStop}
use Rattle.pfs_cli.specs.Refusing.{RefusesRules}
use Rattle.pfs_cli.specs.Tallies.{IsTallyOf, LeavesOfRun}
use Rattle.pfs_cli.specs.RecordTurns.{Tells}
use Rattle.pfs_cli.specs.declared.tallies.Tally.{Tally}

-- what is written of the trace of these two parts, whose rules are accepted
abbrev pub TellsWithin : List ℕ × List ℕ → List ℕ → Result Unit RecordsStop → Type 0
TellsWithin parts text outcome = (conf : Conf) × Reads parts.0 conf × Tells conf (trace_of conf parts.1) text outcome

-- and its tally
abbrev pub TalliesWithin : List ℕ × List ℕ → List ℕ → Result Unit RecordsStop → Tally → Type 0
TalliesWithin parts text outcome tally =
    (conf : Conf) × Reads parts.0 conf × IsTallyOf true conf (trace_of conf parts.1) text (LeavesOfRun outcome) tally

-- why the rules of these two parts gave no configuration
abbrev pub RefusesWithin : List ℕ × List ℕ → Halt → Type 0
RefusesWithin parts halt.Source = Unit {0}
RefusesWithin parts (halt.Fault f) = RefusesRules parts.0 f

-- rules that are refused, or memory that was
abbrev pub IsHalt : Halt → Type 0
IsHalt halt.Source = Unit {0}
IsHalt (halt.Fault (fault.Rules f)) = Unit {0}
IsHalt (halt.Fault fault.Memory) = Unit {0}
IsHalt (halt.Fault _) = ⊥
