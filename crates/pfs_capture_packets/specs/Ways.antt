-- Which way a frame goes, by its link's header.
use Rattle.std.specs.Prelude.{ℕ, ◌+◌, ◌*◌, ◌-◌, ◌%◌, ◌==◌, ◌&&◌, Bool, true, false, List, [], ◌∷◌, length, nat_le, Option, Some, None, if◌then◌else◌, slice_index}
use Rattle.std.specs.List.{list_any}
use Rattle.std.specs.Str.{bytes_eq}
use Rattle.pfs_addr_values.specs.declared.packets.Dir.{Dir}
use Rattle.pfs_addr_values.specs.declared.packets.Dir.TheVariants.{In, Out}
use Rattle.pfs_capture_packets.specs.declared.links.Link.{Link}
use Rattle.pfs_capture_packets.specs.declared.links.Link.TheVariants as link
use Rattle.pfs_capture_packets.specs.declared.ways.Mac.{Mac}
use Rattle.pfs_capture_packets.specs.Bytes.{octets_at, u16_at}
use Rattle.pfs_capture_packets.specs.Logs.{if_some}

-- ---- the text of an address of a link, as ifconfig(8) prints it behind `lladdr`

-- the number of a digit in base 16, of either case
abbrev pub hex_value : ℕ → Option ℕ
hex_value digit =
    if nat_le 48 digit && nat_le digit 57 then Some (digit - 48)
    else (if nat_le 97 digit && nat_le digit 102 then Some (digit - 97 + 10)
    else (if nat_le 65 digit && nat_le digit 70 then Some (digit - 65 + 10) else None))

-- the number of two digits
abbrev pub hex_pair : List ℕ → ℕ → Option ℕ
hex_pair text at = if_some (hex_value (slice_index text at)) (λ high. if_some (hex_value (slice_index text (at + 1))) (λ low. Some (high * 16 + low)))

abbrev pub is_colon : List ℕ → ℕ → Bool
is_colon text at = slice_index text at == 58

-- whether a text is of 17 bytes, with colons where they belong
abbrev pub has_colons : List ℕ → Bool
has_colons text = is_colon text 2 && is_colon text 5 && is_colon text 8 && is_colon text 11 && is_colon text 14

-- six numbers of two digits in base 16, with colons between them
abbrev pub mac_of : List ℕ → Option Mac
mac_of text =
    if length text == 17
    then (if has_colons text
    then if_some (hex_pair text 0) (λ a. if_some (hex_pair text 3) (λ b. if_some (hex_pair text 6) (λ c. if_some (hex_pair text 9) (λ d.
    if_some (hex_pair text 12) (λ e. if_some (hex_pair text 15) (λ f. Some (record { octets = a ∷ b ∷ c ∷ d ∷ e ∷ f ∷ [] })))))))
    else None)
    else None

-- ---- Linux cooked captures

-- the type of a cooked packet: LINKTYPE_LINUX_SLL has it in the first two bytes, LINKTYPE_LINUX_SLL2 in the eleventh
abbrev pub cooked_type : Link → List ℕ → Option ℕ
cooked_type link.LinuxSll frame = if nat_le (0 + 16) (length frame) then Some (u16_at frame 0) else None
cooked_type link.LinuxSll2 frame = if nat_le (0 + 20) (length frame) then Some (slice_index frame 10) else None
cooked_type other frame = None

-- to us (0), to all (1) or to a group (2) comes in, from us (4) goes out; 3 is to another host (packet(7), sll_pkttype)
abbrev pub dir_of_type : ℕ → Option Dir
dir_of_type number = if nat_le number 2 then Some In else (if number == 4 then Some Out else None)

-- the direction that a cooked packet's header says
abbrev pub cooked_dir : Link → List ℕ → Option Dir
cooked_dir link frame = if_some (cooked_type link frame) dir_of_type

-- ---- Ethernet

-- whether a field is one of these addresses
abbrev pub is_own : List Mac → List ℕ → Bool
is_own own field = list_any (λ m. bytes_eq m.octets field) own

-- a frame from one of an interface's own addresses goes out, one to them or to a group comes in; what is both or neither, neither way
abbrev pub way_across : Bool → Bool → Bool → Option Dir
way_across true true group = None
way_across true false group = Some Out
way_across false true group = Some In
way_across false false true = Some In
way_across false false false = None

-- A frame begins with the address to which it goes, and then has the one from which it comes (IEEE 802.3, clause 3.2.3). An address of
-- a group has the lowest bit of its first byte set (IEEE 802, clause 8.2.2).
abbrev pub ethernet_dir : List Mac → List ℕ → Option Dir
ethernet_dir own frame =
    if nat_le (0 + 14) (length frame)
    then way_across (is_own own (octets_at frame 6 6)) (is_own own (octets_at frame 0 6)) (slice_index frame 0 % 2 == 1)
    else None
