-- The frames of packet blocks, and their moments (pcapng, sections 4.3 and 4.4).
use Rattle.std.specs.Prelude.{ℕ, ⊤, ◌<◌, ◌≤◌, ◌+◌, ◌*◌, ◌-◌, ◌/◌, ◌%◌, ◌==◌, List, length, max, min, nat_le, nat_lt, Result, Ok, Err, if◌then◌else◌}
use Rattle.pfs_capture_files.specs.declared.orders.Order.{Order}
use Rattle.pfs_capture_files.specs.declared.interfaces.InterfaceBlock.{InterfaceBlock}
use Rattle.pfs_capture_files.specs.declared.frames.Frame.{Frame}
use Rattle.pfs_capture_files.specs.declared.frames.FileItem.{FileItem}
use Rattle.pfs_capture_files.specs.declared.frames.FileItem.TheVariants as item
use Rattle.pfs_capture_files.specs.declared.frames.Moment.{Moment}
use Rattle.pfs_capture_files.specs.declared.frames.Moment.TheVariants.{At, Untold, Outside}
use Rattle.pfs_capture_files.specs.declared.faults.FileFault.{FileFault}
use Rattle.pfs_capture_files.specs.declared.faults.FileFault.TheVariants as fault
use Rattle.pfs_capture_files.specs.Orders.{u32_in}
use Rattle.pfs_capture_files.specs.Interfaces.{IsNamed}

-- the most bytes of a frame (own)
abbrev pub most_of_frame : ℕ
most_of_frame = 262144

-- a moment in a second that a trace can have, or none
abbrev pub within_range : ℕ → ℕ → Moment
within_range nanosecond second = if nat_le second 4294967295 then At second nanosecond else Outside

-- so many units in nanoseconds, rounded down, where a second has this number of units
abbrev pub nanoseconds_of : ℕ → ℕ → ℕ
nanoseconds_of units in_second = units * 1000000000 / in_second

-- the nanoseconds of a moment: what is past the whole seconds of the interface's units
abbrev pub frame_nanosecond : InterfaceBlock → ℕ → ℕ
frame_nanosecond interface units = nanoseconds_of (units % max interface.units 1) (max interface.units 1)

-- A moment: whole seconds of the interface's units, and the interface's offset, a signed number of 64 bits; then its nanoseconds.
abbrev pub frame_moment : InterfaceBlock → ℕ → Moment
frame_moment interface units =
    if nat_lt interface.offset 9223372036854775808
    then within_range (frame_nanosecond interface units) (units / max interface.units 1 + interface.offset)
    else (if nat_lt (units / max interface.units 1) (18446744073709551616 - interface.offset) then Outside
    else within_range (frame_nanosecond interface units) (units / max interface.units 1 - (18446744073709551616 - interface.offset)))

-- a moment is in a second that a trace can have, and less than a second after it began
abbrev pub IsMoment : Moment → Type 0
IsMoment (At second nanosecond) = (second ≤ 4294967295) × (nanosecond < 1000000000)
IsMoment Untold = ⊤
IsMoment Outside = ⊤

-- a frame is on an interface whose name is one, if it has a name, and in a moment that is one
abbrev pub IsFrame : Frame → Type 0
IsFrame f = IsNamed f.name × IsMoment f.moment

-- an item is such a frame, if it holds one
abbrev pub IsSoundItem : FileItem → Type 0
IsSoundItem (item.Frame f) = IsFrame f
IsSoundItem item.End = ⊤
IsSoundItem item.Other = ⊤

-- an enhanced packet block has, after its interface, the upper and the lower half of its moment, how many bytes were
-- kept, how many there were, and those that were kept
abbrev pub enhanced_frame : Order → InterfaceBlock → List ℕ → Result Frame FileFault
enhanced_frame order interface body =
    if nat_lt (length body) 16 then Err fault.Block
    else (if nat_lt most_of_frame (u32_in order body 8) then Err fault.TooLong
    else (if nat_lt (length body - 16) (u32_in order body 8) then Err fault.Block
    else Ok (record { link = interface.link; name = interface.name; moment = frame_moment interface (u32_in order body 0 * 4294967296 + u32_in order body 4); from = 16; count = u32_in order body 8 })))

-- how many bytes a simple packet block keeps of so many
abbrev pub kept_of : InterfaceBlock → ℕ → ℕ
kept_of interface told = if interface.kept == 0 then told else min told interface.kept

-- a simple packet block has, after the number of the frame's bytes, those that were kept, and no moment
abbrev pub simple_frame : InterfaceBlock → ℕ → List ℕ → Result Frame FileFault
simple_frame interface told body =
    if nat_lt most_of_frame (kept_of interface told) then Err fault.TooLong
    else (if nat_lt (length body) (kept_of interface told) then Err fault.Block
    else Ok (record { link = interface.link; name = interface.name; moment = Untold; from = 0; count = kept_of interface told }))
