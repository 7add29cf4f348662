-- The blocks of a pcapng file (pcapng, sections 3.1, 4.1 to 4.4, and appendix A).
use Rattle.std.specs.Prelude.{ℕ, ◌≡◌, ◌⊎◌, Bool, ◌-◌, ◌%◌, ◌==◌, ◌&&◌, ◌||◌, ◌++◌, not, List, [], ◌∷◌, length, take, nat_lt, Result, Ok, Err, if◌then◌else◌, ok_or, slice_get}
use Rattle.pfs_capture_files.specs.declared.orders.Order.{Order}
use Rattle.pfs_capture_files.specs.declared.orders.Order.TheVariants.{Big, Little}
use Rattle.pfs_capture_files.specs.declared.interfaces.InterfaceBlock.{InterfaceBlock}
use Rattle.pfs_capture_files.specs.declared.blocks.BlockHead.{BlockHead}
use Rattle.pfs_capture_files.specs.declared.frames.FileItem.{FileItem}
use Rattle.pfs_capture_files.specs.declared.frames.FileItem.TheVariants as item
use Rattle.pfs_capture_files.specs.declared.faults.FileFault.{FileFault}
use Rattle.pfs_capture_files.specs.declared.faults.FileFault.TheVariants as fault
use Rattle.pfs_capture_files.specs.Orders.{u16_in, u32_in}
use Rattle.pfs_capture_files.specs.Known.{Known}
use Rattle.pfs_capture_files.specs.Interfaces.{then_known, interface_of}
use Rattle.pfs_capture_files.specs.Frames.{enhanced_frame, simple_frame}

-- the byte order that a section's block says (section 4.1)
abbrev pub order_of_magic : ℕ → Result Order FileFault
order_of_magic magic = if magic == 0x1a2b3c4d then Ok Big else (if magic == 0x4d3c2b1a then Ok Little else Err fault.Block)

-- the byte order of a block, which a section's block begins with
abbrev pub order_of_block : Order → ℕ → List ℕ → Result Order FileFault
order_of_block order kind head = if kind == 0x0a0d0d0a then order_of_magic (u32_in Big head 8) else Ok order

-- a block's kind and its length, a multiple of four, which counts the twelve bytes of kind and length, and the length once more at
-- the end (section 3.1); at most 524,288 (own)
abbrev pub sized_head : Order → List ℕ → Result BlockHead FileFault
sized_head order head =
    if nat_lt (u32_in order head 4) 12 || not (u32_in order head 4 % 4 == 0) then Err fault.Block
    else (if nat_lt 524288 (u32_in order head 4) then Err fault.TooLong
    else Ok (record { order = order; kind = u32_in order head 0; count = u32_in order head 4 - 12; third = u32_in order head 8; half = u16_in order head 8 }))

-- how a block begins by its first twelve bytes
abbrev pub block_head : Order → List ℕ → Result BlockHead FileFault
block_head order head =
    if nat_lt (length head) 12 then Err fault.Cut
    else then_known (order_of_block order (u32_in order head 0) head) (λ own. sized_head own head)

-- the versions of a section: 1.0, and 1.2, which is read as 1.0 (section 4.1)
abbrev pub is_version : ℕ → ℕ → Bool
is_version major minor = (major == 1) && ((minor == 0) || (minor == 2))

-- a section without interfaces, by what follows the byte order in its block: the two numbers of its version, and its length in eight
-- bytes, which is not used
abbrev pub with_section : Order → List ℕ → Result (Known × FileItem) FileFault
with_section order body =
    if nat_lt (length body) 12 then Err fault.Block
    else (if is_version (u16_in order body 0) (u16_in order body 2) then Ok (record { order = order; interfaces = [] }, item.Other) else Err fault.Version)

-- one interface more, of 1,024 at most (own)
abbrev pub with_interface : Known → InterfaceBlock → Result (Known × FileItem) FileFault
with_interface known interface =
    if nat_lt (length known.interfaces) 1024
    then Ok (record known { interfaces = known.interfaces ++ interface ∷ [] }, item.Other)
    else Err fault.Interfaces

-- the interface of a number, from 0
abbrev pub described_at : Known → ℕ → Result InterfaceBlock FileFault
described_at known number = ok_or (slice_get known.interfaces number) fault.Block

-- what follows a block's first twelve bytes, without its last length
abbrev pub body_of : List ℕ → List ℕ
body_of rest = take (length rest - 4) rest

-- the frame of a packet block with its moment, on the interface of this number
abbrev pub packet_on : Known → Order → ℕ → List ℕ → Result FileItem FileFault
packet_on known order number body =
    then_known (described_at known number) (λ i. then_known (enhanced_frame order i body) (λ f. Ok (item.Frame f)))

-- what a block holds that changes nothing of its section: a frame in a simple packet block (3), in an enhanced one (6), or in an obsolete
-- packet block (2), which has its interface's number in two bytes, then a count of drops, and goes on as an enhanced one (appendix A)
abbrev pub held_in : Known → BlockHead → List ℕ → Result FileItem FileFault
held_in known head rest =
    if head.kind == 3
    then then_known (described_at known 0) (λ i. then_known (simple_frame i head.third (body_of rest)) (λ f. Ok (item.Frame f)))
    else (if head.kind == 6 then packet_on known head.order head.third (body_of rest)
    else (if head.kind == 2 then packet_on known head.order head.half (body_of rest)
    else Ok item.Other))

-- what a block holds, and what is known after it: a section's block begins a section, without interfaces, and an interface's (1) adds
-- one
abbrev pub body_item : Known → BlockHead → List ℕ → Result (Known × FileItem) FileFault
body_item known head rest =
    if head.kind == 0x0a0d0d0a then with_section head.order (body_of rest)
    else (if head.kind == 1 then then_known (interface_of head.order head.half (body_of rest)) (λ i. with_interface known i)
    else then_known (held_in known head rest) (λ held. Ok (known, held)))

-- what a call returns and leaves is what the definition gives, unless memory was refused
abbrev pub TakesItem : Result (Known × FileItem) FileFault → Result FileItem FileFault → Known → Type 0
TakesItem step (Ok held) after = step ≡ Ok (after, held)
TakesItem step (Err f) after = (f ≡ fault.Memory) ⊎ (step ≡ Err f)
