-- What the translation of a rule makes of a packet. (pf.conf(5), TRANSLATION)
use Rattle.std.specs.Prelude.{ℕ, ◌+◌, ◌-◌, ◌&&◌, not, Bool, if◌then◌else◌, Option, Some, None, is_none, unwrap_or, option_map, List}
use Rattle.std.specs.List.{find, range_with_len}
use Rattle.pfs_addr_values.specs.Keys.{key_of}
use Rattle.pfs_addr_values.specs.Packets.{PacketView, came_in_on, with_destination, with_source}
use Rattle.pfs_addr_values.specs.Protocols.{has_ports}
use Rattle.pfs_addr_values.specs.Sameness.{same_addr}
use Rattle.pfs_addr_values.specs.declared.addresses.Addr.{Addr}
use Rattle.pfs_addr_values.specs.declared.packets.Dir.{Dir}
use Rattle.pfs_addr_values.specs.declared.packets.FlowKey.{FlowKey}
use Rattle.pfs_conf_values.specs.declared.filters.Ports.{Ports}
use Rattle.pfs_conf_values.specs.declared.translations.NatPorts.{NatPorts}
use Rattle.pfs_conf_values.specs.declared.translations.NatPorts.TheVariants.{Usual, Given, Static}
use Rattle.pfs_conf_values.specs.declared.translations.NatTo.{NatTo}
use Rattle.pfs_conf_values.specs.declared.translations.RdrTo.{RdrTo}
use Rattle.pfs_conf_values.specs.declared.translations.Translation.{Translation}

-- Whether a state has a key, on the side that a translation makes: inside of a packet that comes in, on the wire of one that goes out.
abbrev pub TakenKeys : Type 0
TakenKeys = Dir → FlowKey → Bool

-- ---- `nat-to`, which is made first

-- a packet from another address and port
abbrev pub sent_from : PacketView → Addr → ℕ → PacketView
sent_from p addr port = with_source p (record { addr = addr; port = port })

-- the ports of which it takes one: 50001 to 65535 where none are given; with `static-port` the source keeps its own
abbrev pub nat_range : NatPorts → Option Ports
nat_range Usual = Some (record { low = 50001; high = 65535 })
nat_range (Given ports) = Some ports
nat_range Static = None

-- ports, from the least to the greatest
abbrev pub ports_in : Ports → List ℕ
ports_in r = range_with_len r.low (r.high + 1 - r.low)

-- the least port that is not taken, if one is left (own: pf takes one at random)
abbrev pub free_port : (ℕ → Bool) → ℕ → Option Ports → Option ℕ
free_port is_taken kept None = Some kept
free_port is_taken kept (Some r) = find (λ port. not (is_taken port)) (ports_in r)

-- a port is taken where a state has the key of the packet from there, to where it goes by then
abbrev pub is_taken_at : TakenKeys → PacketView → Addr → ℕ → Bool
is_taken_at taken p addr port = taken p.dir (key_of (sent_from p addr port))

-- the port of a packet's source behind it: without ports the protocol has none to change
abbrev pub nat_port : TakenKeys → NatTo → PacketView → Option ℕ
nat_port taken n p = if has_ports p.proto then free_port (is_taken_at taken p n.addr) p.source.port (nat_range n.ports) else Some p.source.port

-- A capture shows a packet that goes out as it is behind the translation. So where it is not known by which interface a packet came in,
-- a source that is the address already stays as it is. (own)
abbrev pub is_behind_nat : NatTo → PacketView → Bool
is_behind_nat n p = is_none (came_in_on p) && same_addr p.source.addr n.addr

-- the packet behind `nat-to`, if a port is left
unfoldable pub nat_by : TakenKeys → Option NatTo → PacketView → Option PacketView
nat_by taken None p = Some p
nat_by taken (Some n) p = if is_behind_nat n p then Some p else option_map (sent_from p n.addr) (nat_port taken n p)

-- ---- `rdr-to`

-- a packet to another address and port
abbrev pub sent_to : PacketView → Addr → ℕ → PacketView
sent_to p addr port = with_destination p (record { addr = addr; port = port })

-- the port of a packet's destination behind it
abbrev pub rdr_port : RdrTo → PacketView → ℕ
rdr_port r p = if has_ports p.proto then unwrap_or r.port p.destination.port else p.destination.port

-- the packet behind `rdr-to`
unfoldable pub rdr_by : Option RdrTo → PacketView → PacketView
rdr_by None p = p
rdr_by (Some r) p = sent_to p r.addr (rdr_port r p)

-- ---- both

-- the packet behind a translation; none where `nat-to` finds no port, so that the packet is lost
unfoldable pub translated : TakenKeys → Translation → PacketView → Option PacketView
translated taken t p = option_map (rdr_by t.rdr_to) (nat_by taken t.nat_to p)
