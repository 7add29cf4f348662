-- The row of a packet in a trace.
use Rattle.std.specs.Prelude.{ℕ, ◌≡◌, ◌≢◌, ◌<◌, ◌≤◌, ◌++◌, List, [], ◌∷◌, codes, Some, None, if◌then◌else◌}
use Rattle.std.specs.Fmt.{decimal}
use Rattle.std.specs.Option.{option_map_or}
use Rattle.pfs_addr_values.specs.Addresses.{addr_text}
use Rattle.pfs_addr_values.specs.FlagSets.{flags_of, letters_text}
use Rattle.pfs_addr_values.specs.declared.flag_sets.Flags.{Flags}
use Rattle.pfs_addr_values.specs.declared.packets.Dir.{Dir}
use Rattle.pfs_addr_values.specs.declared.packets.Dir.TheVariants.{In, Out}
use Rattle.pfs_addr_values.specs.declared.packets.Endpoint.{Endpoint}
use Rattle.pfs_addr_values.specs.Packets.{PacketView}
use Rattle.pfs_addr_values.specs.Protocols.{has_ports, is_icmp}
use Rattle.pfs_addr_values.specs.declared.protocols.Proto.{Proto}
use Rattle.pfs_addr_values.specs.declared.protocols.Proto.TheVariants.{Tcp, Udp, Other}
use Rattle.pfs_engine_machine.specs.declared.events.Event.{Event}
use Rattle.pfs_engine_machine.specs.declared.events.Arrival.TheVariants as arrival
use Rattle.pfs_trace.specs.declared.rows.Row.{Row}

-- what columns can say of a protocol, two ports and flags: ports are those of TCP and UDP, flags those of TCP, and another protocol
-- has a number of its own
abbrev pub CanSay : Proto → ℕ → ℕ → Flags → Type 0
CanSay Tcp from to flags = (from ≤ 65535) × (to ≤ 65535)
CanSay Udp from to flags = (from ≤ 65535) × (to ≤ 65535) × (flags_of [] ≡ Some flags)
CanSay (Other n) from to flags = (n < 256) × (n ≢ 6) × (n ≢ 17) × (from ≡ 0) × (to ≡ 0) × (flags_of [] ≡ Some flags)

abbrev pub IsSaid : PacketView → Type 0
IsSaid packet = CanSay packet.proto packet.source.port packet.destination.port packet.flags

-- ---- the text

-- whether a packet comes in or goes out, with the commas around it
abbrev pub row_dir : Dir → List ℕ
row_dir In = codes ",in,"
row_dir Out = codes ",out,"

-- the protocol, with the commas around it
abbrev pub row_proto : Proto → List ℕ
row_proto Tcp = codes ",tcp,"
row_proto Udp = codes ",udp,"
row_proto (Other n) = codes "," ++ (decimal n ++ codes ",")

-- a port in decimal, or nothing where the protocol has no ports
abbrev pub port_text : Proto → ℕ → List ℕ
port_text proto port = if has_ports proto then decimal port else []

-- an end, and the comma after it
abbrev pub row_end : Proto → Endpoint → List ℕ
row_end proto end = addr_text end.addr ++ (codes "," ++ (port_text proto end.port ++ codes ","))

-- the columns in front of the ends
abbrev pub start_text : Row → List ℕ
start_text row = decimal row.second ++ (row_dir row.packet.dir ++ (row.packet.ifname ++ row_proto row.packet.proto))

-- the row of a packet, up to the end of its line
abbrev pub packet_row : Row → List ℕ
packet_row row =
    start_text row
    ++ (row_end row.packet.proto row.packet.source
    ++ (row_end row.packet.proto row.packet.destination
    ++ (letters_text row.packet.flags ++ codes "\n")))

-- ---- what a replay reads

abbrev pub dir_name : Dir → List ℕ
dir_name In = codes "in"
dir_name Out = codes "out"

abbrev pub proto_name : Proto → List ℕ
proto_name Tcp = codes "tcp"
proto_name Udp = codes "udp"
proto_name (Other n) = decimal n

-- the nine columns of a row
abbrev pub row_fields : Row → List (List ℕ)
row_fields row =
    decimal row.second ∷ dir_name row.packet.dir ∷ row.packet.ifname ∷ proto_name row.packet.proto
    ∷ addr_text row.packet.source.addr ∷ port_text row.packet.proto row.packet.source.port
    ∷ addr_text row.packet.destination.addr ∷ port_text row.packet.proto row.packet.destination.port
    ∷ letters_text row.packet.flags ∷ []

-- a packet as a row says it: a row says no tag, and no interface by which it came before
abbrev pub as_said : PacketView → PacketView
as_said p = record p { tag = None; came_by = None }

-- what a replay has of a row: its packet, or of ICMP a record that it skips
abbrev pub event_of : Row → Event
event_of row = record { time = row.second; what = option_map_or arrival.Packet (if is_icmp row.packet.proto then None else Some (as_said row.packet)) arrival.Skip }
