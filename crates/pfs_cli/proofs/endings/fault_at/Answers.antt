-- Answers of fault_at: each way in which a run stopped is reported with the fault that a replay has for it.
use Rattle.pfs_trace.specs.Traces.{trace_of}
use Rattle.pfs_cli.proofs.Replaying.{run-fault, run-cut, run-write}
use Rattle.pfs_cli.proofs.Telling.{memory-lines}
use Rattle.pfs_cli.proofs.endings.fault_at.Goals as goal

pub returns-in-Fault-clause-told : goal.returns-in-Fault-clause-told
returns-in-Fault-clause-told g c d rs ts t rules told = rw c.of_trace.ensures (run-fault d rs ts t c.in-Fault.fault rules (rw c.in-Fault.is at told))

pub returns-in-Source-clause-told : goal.returns-in-Source-clause-told
returns-in-Source-clause-told g c d rs ts t rules told = run-cut d rs ts t c.feed_fault.result c.feed_fault.ensures.kinds rules (rw c.in-Source.is at told)

pub returns-in-Memory-clause-told : goal.returns-in-Memory-clause-told
returns-in-Memory-clause-told g c d rs ts t rules told = run-cut d rs ts t c.feed_fault-in-Memory.result c.feed_fault-in-Memory.ensures.kinds rules (memory-lines d (trace_of d ts) t (rw c.in-Memory.is at told))

pub returns-in-Write-clause-told : goal.returns-in-Write-clause-told
returns-in-Write-clause-told g c d rs ts t rules told = run-write d rs ts t rules (rw c.in-Write.is at told)
