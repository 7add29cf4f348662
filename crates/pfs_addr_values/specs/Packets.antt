-- The fields of a packet, and that its ports are 0 unless its protocol has ports.
use Rattle.std.specs.Prelude.{ℕ, List, Option, Some, Bool, false, is_some, ◌≡◌}
use Rattle.pfs_addr_values.specs.Protocols.{has_ports}
use Rattle.pfs_addr_values.specs.declared.protocols.Proto.{Proto}
use Rattle.pfs_addr_values.specs.declared.flag_sets.Flags.{Flags}
use Rattle.pfs_addr_values.specs.declared.packets.Dir.{Dir}
use Rattle.pfs_addr_values.specs.declared.packets.Dir.TheVariants.{In, Out}
use Rattle.pfs_addr_values.specs.declared.packets.TagNo.{TagNo}
use Rattle.pfs_addr_values.specs.declared.packets.Endpoint.{Endpoint}
use Rattle.pfs_addr_values.specs.declared.packets.TheConstants.{ROW_LIMIT, RUN_LIMIT}

-- a trace has at most 1,000,000,000 records (own)
abbrev pub row_limit : ℕ
row_limit = ROW_LIMIT

-- a run has at most 2,000,000,000 packets: two for each record (own)
abbrev pub run_limit : ℕ
run_limit = RUN_LIMIT

-- the fields of a packet: its direction, the name of its interface, its protocol, its two ends and its flags; the tag that a rule gave
-- it; and, of one that goes out, the interface by which it came in, where that is known
pub record PacketView : Type 0 where
  pub dir : Dir
  pub ifname : List ℕ
  pub proto : Proto
  pub source : Endpoint
  pub destination : Endpoint
  pub flags : Flags
  pub tag : Option TagNo
  pub came_by : Option (List ℕ)

-- the ports are 0 unless the protocol has ports
pub record IsPortless (proto : Proto) (source destination : Endpoint) : Type 0 where
  pub from : has_ports proto ≡ false → source.port ≡ 0
  pub to : has_ports proto ≡ false → destination.port ≡ 0

-- the interface on which a packet came in (pf.conf(5), PARAMETERS, "received-on")
abbrev pub came_in_at : Dir → List ℕ → Option (List ℕ) → Option (List ℕ)
came_in_at In ifname before = Some ifname
came_in_at Out ifname before = before

abbrev pub came_in_on : PacketView → Option (List ℕ)
came_in_on p = came_in_at p.dir p.ifname p.came_by

-- it is known that a packet came in elsewhere: it goes out from inside
abbrev pub is_outgoing_from : Dir → Option (List ℕ) → Bool
is_outgoing_from In by = false
is_outgoing_from Out by = is_some by

abbrev pub is_from_inside : PacketView → Bool
is_from_inside p = is_outgoing_from p.dir p.came_by

-- a packet as it goes out at another interface than the one where it is
abbrev pub through : PacketView → List ℕ → PacketView
through p ifname = record p { dir = Out; ifname = ifname; came_by = Some p.ifname }

-- a packet with this end in place of its source, or of its destination
abbrev pub with_source : PacketView → Endpoint → PacketView
with_source p end = record p { source = end }

abbrev pub with_destination : PacketView → Endpoint → PacketView
with_destination p end = record p { destination = end }

-- a packet with this tag, or with none
abbrev pub with_tag : PacketView → Option TagNo → PacketView
with_tag p tag = record p { tag = tag }
