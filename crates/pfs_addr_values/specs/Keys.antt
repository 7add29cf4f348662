-- The key of a packet, the same for those that answer it: its protocol and its two ends in order; and a packet under another key.
use Rattle.std.specs.Prelude.{Bool, if◌then◌else◌, Option, Some, None}
use Rattle.pfs_addr_values.specs.Protocols.{has_ports}
use Rattle.pfs_addr_values.specs.Packets.{PacketView}
use Rattle.pfs_addr_values.specs.declared.packets.Dir.{Dir}
use Rattle.pfs_addr_values.specs.declared.packets.Dir.TheVariants.{In, Out}
use Rattle.pfs_addr_values.specs.declared.packets.Endpoint.{Endpoint}
use Rattle.pfs_addr_values.specs.declared.packets.FlowKey.{FlowKey}

-- the first end of a key: the source of an `in` packet, the destination of an `out` packet
abbrev pub first_end : Dir → PacketView → Endpoint
first_end In p = p.source
first_end Out p = p.destination

-- the second end of a key
abbrev pub second_end : Dir → PacketView → Endpoint
second_end In p = p.destination
second_end Out p = p.source

-- the key of a packet: the same for a packet and for those that answer it the other way
abbrev pub key_of : PacketView → FlowKey
key_of p = record { proto = p.proto; a = first_end p.dir p; b = second_end p.dir p }

-- ---- a packet as it is under a key, where its addresses are translated

-- the end of a key on the side from which packets of a direction come, and that to which they go
abbrev pub from_end : Dir → FlowKey → Endpoint
from_end In key = key.a
from_end Out key = key.b

abbrev pub to_end : Dir → FlowKey → Endpoint
to_end In key = key.b
to_end Out key = key.a

-- an end in place of another: a port goes along only where the protocol has ports
abbrev pub end_put : Bool → Endpoint → Endpoint → Endpoint
end_put ported old new = if ported then new else record { addr = new.addr; port = old.port }

abbrev pub under : PacketView → FlowKey → PacketView
under p key = record p {
  source = end_put (has_ports p.proto) p.source (from_end p.dir key);
  destination = end_put (has_ports p.proto) p.destination (to_end p.dir key);
}

-- under a key, if this is one
abbrev pub under_key : Option FlowKey → PacketView → PacketView
under_key None p = p
under_key (Some key) p = under p key
