-- What the faults of a replay print, and the exit statuses that they give. (own)
use Rattle.std.specs.Prelude.{◌++◌, ℕ, List, codes}
use Rattle.std.specs.Fmt.{decimal}
use Rattle.pfs_conf.specs.KindNames.{kind_name}
use Rattle.pfs_trace.specs.declared.faults.TraceFault.{TraceFault}
use Rattle.pfs_trace.specs.declared.faults.TraceFault.TheVariants as trace
use Rattle.pfs_cli.specs.declared.faults.ReplayFault.{ReplayFault}
use Rattle.pfs_cli.specs.declared.faults.ReplayFault.TheVariants as fault

-- the text of a fault, without a line feed
abbrev pub fault_text : ReplayFault → List ℕ
fault_text (fault.Rules f) = codes "rules: line " ++ (decimal f.line ++ (codes ": " ++ kind_name f.kind))
fault_text (fault.Columns row) = codes "trace: row " ++ (decimal row ++ codes ": columns")
fault_text (fault.Field row column) = codes "trace: row " ++ (decimal row ++ (codes ": field " ++ decimal column))
fault_text (fault.TimeFell row) = codes "trace: row " ++ (decimal row ++ codes ": time falls")
fault_text (fault.Table row) = codes "trace: row " ++ (decimal row ++ codes ": table")
fault_text fault.TooManyRows = codes "trace: too many rows"
fault_text fault.Read = codes "read failed"
fault_text fault.Write = codes "write failed"
fault_text fault.Memory = codes "no memory"
fault_text fault.Endless = codes "reader does not end"

-- the exit status of a fault: 3 for the rules, 1 for the trace, 4 for what is around them
abbrev pub fault_status : ReplayFault → ℕ
fault_status (fault.Rules f) = 3
fault_status (fault.Columns row) = 1
fault_status (fault.Field row column) = 1
fault_status (fault.TimeFell row) = 1
fault_status (fault.Table row) = 1
fault_status fault.TooManyRows = 1
fault_status fault.Read = 4
fault_status fault.Write = 4
fault_status fault.Memory = 4
fault_status fault.Endless = 4

-- a fault of a trace, as a fault of its replay
abbrev pub replay_fault : TraceFault → ReplayFault
replay_fault (trace.Columns row) = fault.Columns row
replay_fault (trace.Field row column) = fault.Field row column
replay_fault (trace.TimeFell row) = fault.TimeFell row
replay_fault (trace.Table row) = fault.Table row
replay_fault trace.TooManyRows = fault.TooManyRows
