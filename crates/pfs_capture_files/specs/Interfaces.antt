-- The interfaces of a section (pcapng, section 4.2).
use Rattle.std.specs.Prelude.{ℕ, ◌≡◌, ◌-◌, ◌^◌, ◌&&◌, true, List, length, take, drop, nat_le, nat_lt, Option, IfSome, Result, Ok, Err, if◌then◌else◌, slice_index}
use Rattle.std.specs.Option.{option_and_then, option_map_or}
use Rattle.pfs_addr_values.specs.Names.{is_name}
use Rattle.pfs_capture_packets.specs.Logs.{name_at}
use Rattle.pfs_capture_files.specs.declared.orders.Order.{Order}
use Rattle.pfs_capture_files.specs.declared.interfaces.InterfaceBlock.{InterfaceBlock}
use Rattle.pfs_capture_files.specs.declared.faults.FileFault.{FileFault}
use Rattle.pfs_capture_files.specs.declared.faults.FileFault.TheVariants as fault
use Rattle.pfs_capture_files.specs.Orders.{u32_in, u64_in}
use Rattle.pfs_capture_files.specs.Options.{find_option}

-- what follows from something that is read, or else the fault
abbrev pub then_known : {A B : Type 0} → Result A FileFault → (A → Result B FileFault) → Result B FileFault
then_known (Ok x) more = more x
then_known (Err f) more = Err f

-- how many units a second has: a power of 10, or where the highest bit is set of 2 (if_tsresol)
abbrev pub units_of : ℕ → Result ℕ FileFault
units_of byte =
    if nat_le byte 19 then Ok (10 ^ byte)
    else (if nat_le 128 byte && nat_le byte 191 then Ok (2 ^ (byte - 128)) else Err fault.Resolution)

-- the option if_tsresol has the code 9 and one byte; without it a second has a million units
abbrev pub units_told : Order → List ℕ → Result ℕ FileFault
units_told order body = option_map_or (λ place. units_of (slice_index body place.at)) (find_option (length body) order body (record { code = 9; least = 1; most = 1 }) 4) (Ok 1000000)

-- the option if_tsoffset has the code 14 and eight bytes
abbrev pub offset_of : Order → List ℕ → ℕ
offset_of order body = option_map_or (λ place. u64_in order body place.at) (find_option (length body) order body (record { code = 14; least = 8; most = 8 }) 4) 0

-- the option if_name has the code 2 and any number of bytes; some writers end the name by zeros
abbrev pub name_told : Order → List ℕ → Option (List ℕ)
name_told order body =
    option_and_then (λ place. name_at (take place.size (drop place.at body)))
    (find_option (length body) order body (record { code = 2; least = 0; most = 65535 }) 4)

-- a name is one that an interface can have, where there is one
abbrev pub IsNamed : Option (List ℕ) → Type 0
IsNamed name = IfSome name (λ text. is_name 15 text ≡ true)

-- an interface, by its link type and what follows: the most bytes that are kept of a frame, and options
abbrev pub interface_of : Order → ℕ → List ℕ → Result InterfaceBlock FileFault
interface_of order link body =
    if nat_lt (length body) 4 then Err fault.Block
    else then_known (units_told order body) (λ units. Ok (record { link = link; name = name_told order body; kept = u32_in order body 0; units = units; offset = offset_of order body }))
