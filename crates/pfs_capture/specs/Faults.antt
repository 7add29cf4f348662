-- What the faults of a trace print, and the exit statuses that they give. (own)
use Rattle.std.specs.Prelude.{ℕ, if◌then◌else◌, List, codes}
use Rattle.pfs_capture_files.specs.Faults.{is_outside}
use Rattle.pfs_capture_files.specs.declared.faults.FileFault.{FileFault}
use Rattle.pfs_capture_files.specs.declared.faults.FileFault.TheVariants as fault
use Rattle.pfs_capture.specs.declared.faults.TraceStop.{TraceStop}
use Rattle.pfs_capture.specs.declared.faults.TraceStop.TheVariants as stop

-- the text of what is wrong with a file, without a line feed
abbrev pub file_text : FileFault → List ℕ
file_text fault.Empty = codes "the file is empty"
file_text fault.Gzip = codes "the file is packed by gzip: unpack it first"
file_text fault.NotCapture = codes "the file is no capture: it begins neither as pcap nor as pcapng"
file_text fault.Version = codes "its version is none that is read"
file_text fault.Cut = codes "the file ends within it"
file_text fault.TooLong = codes "it is longer than any that is read"
file_text fault.Block = codes "its block is none of pcapng"
file_text fault.Interfaces = codes "its section has more than 1024 interfaces"
file_text fault.Resolution = codes "its interface counts finer moments than are read"
file_text fault.Read = codes "read failed"
file_text fault.Memory = codes "no memory"

-- the text of a fault, without a line feed
abbrev pub stop_text : TraceStop → List ℕ
stop_text (stop.File f) = file_text f
stop_text stop.Moment = codes "its moment is not from 0 to 4294967295"
stop_text stop.TooMany = codes "too many blocks"
stop_text stop.Write = codes "write failed"
stop_text stop.Answers = codes "--answers: write failed"
stop_text stop.Memory = codes "no memory"

-- the exit status of a fault: 1 for the capture, 4 for what is around it
abbrev pub stop_status : TraceStop → ℕ
stop_status (stop.File f) = if is_outside f then 4 else 1
stop_status stop.Moment = 1
stop_status stop.TooMany = 1
stop_status stop.Write = 4
stop_status stop.Answers = 4
stop_status stop.Memory = 4
