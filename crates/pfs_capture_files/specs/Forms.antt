-- The two forms of capture files, item by item (pcap, sections 4 and 5; pcapng, sections 3.1 and 4.1).
use Rattle.std.specs.Prelude.{ℕ, ⊤, ◌≡◌, ◌≤◌, ◌/◌, ◌%◌, ◌==◌, false, List, [], length, take, drop, nat_lt, Option, Some, Result, Ok, Err, if◌then◌else◌}
use Rattle.pfs_capture_files.specs.declared.orders.Order.{Order}
use Rattle.pfs_capture_files.specs.declared.orders.Order.TheVariants.{Big, Little}
use Rattle.pfs_capture_files.specs.declared.blocks.BlockHead.{BlockHead}
use Rattle.pfs_capture_files.specs.declared.classic.FileHeader.{FileHeader}
use Rattle.pfs_capture_files.specs.declared.classic.LengthOrder.{LengthOrder}
use Rattle.pfs_capture_files.specs.declared.classic.Precision.{Precision}
use Rattle.pfs_capture_files.specs.declared.classic.Precision.TheVariants.{Microseconds, Nanoseconds}
use Rattle.pfs_capture_files.specs.declared.frames.Frame.{Frame}
use Rattle.pfs_capture_files.specs.declared.frames.FileItem.{FileItem}
use Rattle.pfs_capture_files.specs.declared.frames.FileItem.TheVariants as item
use Rattle.pfs_capture_files.specs.declared.forms.Form.{Form}
use Rattle.pfs_capture_files.specs.declared.forms.Form.TheVariants as form
use Rattle.pfs_capture_files.specs.declared.forms.Start.{Start}
use Rattle.pfs_capture_files.specs.declared.forms.Start.TheVariants as start
use Rattle.pfs_capture_files.specs.declared.faults.FileFault.{FileFault}
use Rattle.pfs_capture_files.specs.declared.faults.FileFault.TheVariants as fault
use Rattle.pfs_capture_files.specs.Orders.{u16_in, u32_in}
use Rattle.pfs_capture_files.specs.Known.{Known}
use Rattle.pfs_capture_files.specs.Interfaces.{then_known}
use Rattle.pfs_capture_files.specs.Classic.{lengths_of, record_frame}
use Rattle.pfs_capture_files.specs.Blocks.{block_head, body_item}
use Rattle.pfs_capture_files.specs.Faults.{is_outside}

-- how a pcap file begins by its version, whose numbers follow its first (pcap, section 4)
abbrev pub start_of_version : Order → Precision → List ℕ → Result Start FileFault
start_of_version order precision head =
    then_known (lengths_of (u16_in order head 4) (u16_in order head 6)) (λ lengths. Ok (start.Classic order precision lengths))

-- what a file begins with: pcap in either byte order, of microseconds or of nanoseconds (pcap, section 4), a section's block (pcapng,
-- section 4.1), or gzip's mark (RFC 1952, section 2.3.1)
abbrev pub start_of_magic : ℕ → List ℕ → Result Start FileFault
start_of_magic magic head =
    if magic == 0xa1b2c3d4 then start_of_version Big Microseconds head
    else (if magic == 0xa1b23c4d then start_of_version Big Nanoseconds head
    else (if magic == 0xd4c3b2a1 then start_of_version Little Microseconds head
    else (if magic == 0x4d3cb2a1 then start_of_version Little Nanoseconds head
    else (if magic == 0x0a0d0d0a then Ok start.Blocks
    else (if magic / 65536 == 0x1f8b then Err fault.Gzip else Err fault.NotCapture)))))

-- what a file is by its first twelve bytes
abbrev pub what_begins : List ℕ → Result Start FileFault
what_begins head =
    if length head == 0 then Err fault.Empty
    else (if nat_lt (length head) 12 then Err fault.NotCapture else start_of_magic (u32_in Big head 0) head)

-- what one turn of reading finds: the form as it is known afterwards, the item, the bytes in which a frame is, and what is left
pub record ReadTurn : Type 0 where
  pub form : Form
  pub item : FileItem
  pub held : List ℕ
  pub left : List ℕ

-- a block whose first twelve bytes are read
abbrev pub rest_turn : Known → BlockHead → List ℕ → Result ReadTurn FileFault
rest_turn known head xs =
    if nat_lt (length (take head.count xs)) head.count then Err fault.Cut
    else then_known (body_item known head (take head.count xs)) (λ r. Ok (record { form = form.Blocks r.0; item = r.1; held = take head.count xs; left = drop head.count xs }))

-- a block of a pcapng file, which ends where no block begins
abbrev pub block_turn : Known → List ℕ → Result ReadTurn FileFault
block_turn known xs =
    if length (take 12 xs) == 0 then Ok (record { form = form.Blocks known; item = item.End; held = take 12 xs; left = drop 12 xs })
    else then_known (block_head known.order (take 12 xs)) (λ head. rest_turn known head (drop 12 xs))

-- a record of a pcap file whose header is read
abbrev pub frame_turn : FileHeader → Frame → List ℕ → Result ReadTurn FileFault
frame_turn header frame xs =
    if nat_lt (length (take frame.count xs)) frame.count then Err fault.Cut
    else Ok (record { form = form.Classic header; item = item.Frame frame; held = take frame.count xs; left = drop frame.count xs })

-- a record of a pcap file, which ends where no record begins
abbrev pub record_turn : FileHeader → List ℕ → Result ReadTurn FileFault
record_turn header xs =
    if length (take 16 xs) == 0 then Ok (record { form = form.Classic header; item = item.End; held = take 16 xs; left = drop 16 xs })
    else then_known (record_frame header (take 16 xs)) (λ frame. frame_turn header frame (drop 16 xs))

-- the next item of a capture
abbrev pub turn_of : Form → List ℕ → Result ReadTurn FileFault
turn_of (form.Classic header) xs = record_turn header xs
turn_of (form.Blocks known) xs = block_turn known xs

-- a call returns and leaves what the turn finds, unless a read failed or memory was refused
abbrev pub ReadsItem : Result ReadTurn FileFault → Result FileItem FileFault → Form → List ℕ → Option (List ℕ) → Type 0
ReadsItem turn (Ok found) after held left =
    (ys : List ℕ) × (left ≡ Some ys) × (turn ≡ Ok (record { form = after; item = found; held = held; left = ys }))
ReadsItem turn (Err f) after held left = is_outside f ≡ false → turn ≡ Err f

-- a pcap file's header ends with the link's type, in the lower half of its last number (pcap, section 4)
abbrev pub classic_form : Order → Precision → LengthOrder → List ℕ → Result Form FileFault
classic_form order precision lengths rest =
    if nat_lt (length rest) 12 then Err fault.Cut
    else Ok (form.Classic (record { order = order; precision = precision; lengths = lengths; link = u32_in order rest 8 % 65536 }))

-- how a pcap file goes on after its first twelve bytes, and what is left
abbrev pub classic_start : Order → Precision → LengthOrder → List ℕ → Result (Form × List ℕ) FileFault
classic_start order precision lengths xs = then_known (classic_form order precision lengths (take 12 xs)) (λ f. Ok (f, drop 12 xs))

-- how a pcapng file begins by its first twelve bytes and what follows, and what is left
abbrev pub blocks_start : List ℕ → List ℕ → Result (Form × List ℕ) FileFault
blocks_start first xs =
    then_known (block_head Big first) (λ head. then_known (rest_turn (record { order = head.order; interfaces = [] }) head xs) (λ t. Ok (t.form, t.left)))

-- how a file goes on after its first twelve bytes
abbrev pub start_at : Start → List ℕ → Result (Form × List ℕ) FileFault
start_at (start.Classic order precision lengths) xs = classic_start order precision lengths (drop 12 xs)
start_at start.Blocks xs = blocks_start (take 12 xs) (drop 12 xs)

-- how a capture begins: its form, and what is left
abbrev pub start_of : List ℕ → Result (Form × List ℕ) FileFault
start_of xs = then_known (what_begins (take 12 xs)) (λ s. start_at s xs)

-- a call returns and leaves how a capture begins, unless a read failed or memory was refused
abbrev pub Begins : Result (Form × List ℕ) FileFault → Result Form FileFault → Option (List ℕ) → Type 0
Begins begin (Ok f) left = (ys : List ℕ) × (left ≡ Some ys) × (begin ≡ Ok (f, ys))
Begins begin (Err f) left = is_outside f ≡ false → begin ≡ Err f

-- where a call ends within how a capture begins, no byte behind that has been read
abbrev pub IsWithinStart : Result (Form × List ℕ) FileFault → Option (List ℕ) → Type 0
IsWithinStart (Ok begun) left = (ys : List ℕ) × (left ≡ Some ys) × (length begun.1 ≤ length ys)
IsWithinStart (Err f) left = ⊤
