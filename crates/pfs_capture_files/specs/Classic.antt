-- The header of a pcap file, and its records (pcap, sections 4 and 5).
use Rattle.std.specs.Prelude.{ℕ, ◌*◌, ◌==◌, ◌&&◌, ◌||◌, List, length, min, nat_lt, None, Result, Ok, Err, if◌then◌else◌}
use Rattle.pfs_capture_files.specs.declared.classic.FileHeader.{FileHeader}
use Rattle.pfs_capture_files.specs.declared.classic.LengthOrder.{LengthOrder}
use Rattle.pfs_capture_files.specs.declared.classic.LengthOrder.TheVariants.{KeptFirst, KeptLast, KeptLess}
use Rattle.pfs_capture_files.specs.declared.classic.Precision.{Precision}
use Rattle.pfs_capture_files.specs.declared.classic.Precision.TheVariants.{Microseconds, Nanoseconds}
use Rattle.pfs_capture_files.specs.declared.frames.Frame.{Frame}
use Rattle.pfs_capture_files.specs.declared.frames.Moment.TheVariants.{At}
use Rattle.pfs_capture_files.specs.declared.faults.FileFault.{FileFault}
use Rattle.pfs_capture_files.specs.declared.faults.FileFault.TheVariants as fault
use Rattle.pfs_capture_files.specs.Orders.{u32_in}
use Rattle.pfs_capture_files.specs.Frames.{most_of_frame}

-- Which of a record's two lengths is that of the bytes kept, by the file's version: in 2.4 the first; in 2.3, which was written both
-- ways, the lesser one; before that, and in 543.0, the last. No other version is read. (own, as in libpcap)
abbrev pub lengths_of : ℕ → ℕ → Result LengthOrder FileFault
lengths_of major minor =
    if (major == 2) && (minor == 4) then Ok KeptFirst
    else (if (major == 2) && (minor == 3) then Ok KeptLess
    else (if ((major == 2) && nat_lt minor 3) || ((major == 543) && (minor == 0)) then Ok KeptLast else Err fault.Version))

-- the length of these two that is that of the bytes kept
abbrev pub kept_of_both : LengthOrder → ℕ → ℕ → ℕ
kept_of_both KeptFirst first last = first
kept_of_both KeptLast first last = last
kept_of_both KeptLess first last = min first last

-- how many bytes of its frame a record keeps
abbrev pub kept_in : FileHeader → List ℕ → ℕ
kept_in header head = kept_of_both header.lengths (u32_in header.order head 8) (u32_in header.order head 12)

-- this many units in nanoseconds
abbrev pub counted_in : Precision → ℕ → ℕ
counted_in Microseconds units = units * 1000
counted_in Nanoseconds units = units

-- the nanoseconds of a record's moment: none past the second's last, where a faulty file has a second or more (own)
abbrev pub nanosecond_in : FileHeader → List ℕ → ℕ
nanosecond_in header head = min (counted_in header.precision (u32_in header.order head 4)) 999999999

-- a record does not name its interface; its header has the second, what is past it, and two lengths: how many bytes were kept, and how many there were
abbrev pub record_frame : FileHeader → List ℕ → Result Frame FileFault
record_frame header head =
    if nat_lt (length head) 16 then Err fault.Cut
    else (if nat_lt most_of_frame (kept_in header head) then Err fault.TooLong
    else Ok (record { link = header.link; name = None; moment = At (u32_in header.order head 0) (nanosecond_in header head); from = 0; count = kept_in header head }))
