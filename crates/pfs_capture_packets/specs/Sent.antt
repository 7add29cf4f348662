-- The packet of a frame on its way through an interface, as rules and states look at it.
use Rattle.std.specs.Prelude.{ℕ, false, None, List}
use Rattle.pfs_addr_values.specs.Packets.{PacketView}
use Rattle.pfs_addr_values.specs.declared.flag_sets.Flags.{Flags}
use Rattle.pfs_addr_values.specs.declared.packets.Dir.{Dir}
use Rattle.pfs_addr_values.specs.declared.protocols.Proto.{Proto}
use Rattle.pfs_addr_values.specs.declared.protocols.Proto.TheVariants as proto
use Rattle.pfs_capture_packets.specs.declared.packets.Carried.{Carried}
use Rattle.pfs_capture_packets.specs.declared.packets.Carried.TheVariants.{Tcp, Udp, Other}
use Rattle.pfs_capture_packets.specs.declared.packets.IpPacket.{IpPacket}

-- the protocol of what is carried
abbrev pub proto_of_carried : Carried → Proto
proto_of_carried (Tcp from to flags) = proto.Tcp
proto_of_carried (Udp from to) = proto.Udp
proto_of_carried (Other n) = proto.Other n

-- the ports, which TCP and UDP have; 0 for any other protocol
abbrev pub from_port : Carried → ℕ
from_port (Tcp from to flags) = from
from_port (Udp from to) = from
from_port (Other n) = 0

abbrev pub to_port : Carried → ℕ
to_port (Tcp from to flags) = to
to_port (Udp from to) = to
to_port (Other n) = 0

-- no flag
abbrev pub no_flags : Flags
no_flags = record { fin = false; syn = false; rst = false; psh = false; ack = false; urg = false; ece = false; cwr = false }

-- the flags, which TCP has
abbrev pub flags_of_carried : Carried → Flags
flags_of_carried (Tcp from to flags) = flags
flags_of_carried (Udp from to) = no_flags
flags_of_carried (Other n) = no_flags

-- a packet that comes in or goes out on the interface of this name
abbrev pub on_way : Dir → List ℕ → IpPacket → PacketView
on_way dir ifname packet = record {
  dir = dir;
  ifname = ifname;
  proto = proto_of_carried packet.carried;
  source = record { addr = packet.source; port = from_port packet.carried };
  destination = record { addr = packet.destination; port = to_port packet.carried };
  flags = flags_of_carried packet.carried;
  tag = None;
  came_by = None;
}
