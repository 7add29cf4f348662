-- The faults of a file, and of what is around it. (own)
use Rattle.std.specs.Prelude.{Bool, true, false}
use Rattle.pfs_capture_files.specs.declared.faults.FileFault.{FileFault}
use Rattle.pfs_capture_files.specs.declared.faults.FileFault.TheVariants as fault

-- a fault of what is around a file, and none of the file
abbrev pub is_outside : FileFault → Bool
is_outside fault.Read = true
is_outside fault.Memory = true
is_outside f = false
