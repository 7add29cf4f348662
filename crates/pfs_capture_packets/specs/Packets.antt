-- The outermost IP packet of a frame: RFC 791, RFC 8200, and of what it carries the ports and the flags (RFC 9293, RFC 3168, RFC 768).
use Rattle.std.specs.Prelude.{ℕ, ◌≢◌, ◌<◌, ◌≤◌, ◌+◌, ◌*◌, ◌/◌, ◌%◌, ◌==◌, ◌||◌, not, List, length, take, drop, nat_le, nat_lt, min, Option, Some, None, Bool, false, Result, Ok, Err, if◌then◌else◌, slice_index}
use Rattle.pfs_addr_values.specs.Protocols.{proto_of}
use Rattle.pfs_addr_values.specs.declared.protocols.Proto.{Proto}
use Rattle.pfs_addr_values.specs.declared.protocols.Proto.TheVariants as proto
use Rattle.pfs_addr_values.specs.declared.addresses.Addr.{Addr}
use Rattle.pfs_addr_values.specs.declared.addresses.Addr.TheVariants.{V4, V6}
use Rattle.pfs_addr_values.specs.declared.flag_sets.Flags.{Flags}
use Rattle.pfs_capture_packets.specs.declared.links.Link.{Link}
use Rattle.pfs_capture_packets.specs.declared.walks.Layer.{Layer}
use Rattle.pfs_capture_packets.specs.declared.walks.Layer.TheVariants as layer
use Rattle.pfs_capture_packets.specs.declared.walks.HeaderPlace.{HeaderPlace}
use Rattle.pfs_capture_packets.specs.declared.packets.Reason.{Reason}
use Rattle.pfs_capture_packets.specs.declared.packets.Reason.TheVariants as reason
use Rattle.pfs_capture_packets.specs.declared.packets.Carried.{Carried}
use Rattle.pfs_capture_packets.specs.declared.packets.Carried.TheVariants.{Tcp, Udp, Other}
use Rattle.pfs_capture_packets.specs.declared.packets.IpPacket.{IpPacket}
use Rattle.pfs_capture_packets.specs.Bytes.{u16_at, octets_at}
use Rattle.pfs_capture_packets.specs.Links.{first_place}
use Rattle.pfs_capture_packets.specs.Walks.{walk_from}

-- what follows from a part of a frame that is read, or else the reason why it is none
abbrev pub then_read : {A B : Type 0} → Result A Reason → (A → Result B Reason) → Result B Reason
then_read (Ok x) more = more x
then_read (Err r) more = Err r

-- the four bytes of an IPv4 address, and the sixteen of an IPv6 address
abbrev pub v4_at : List ℕ → ℕ → Addr
v4_at packet at = V4 (octets_at packet at 4)

abbrev pub v6_at : List ℕ → ℕ → Addr
v6_at packet at = V6 (octets_at packet at 16)

-- the flags of a TCP header, from the lowest bit on: FIN, SYN, RST, PSH, ACK, URG (RFC 9293, section 3.1), ECE, CWR (RFC 3168,
-- section 6.1)
abbrev pub flags_in : ℕ → Flags
flags_in byte = record {
  fin = byte % 2 == 1;
  syn = byte / 2 % 2 == 1;
  rst = byte / 4 % 2 == 1;
  psh = byte / 8 % 2 == 1;
  ack = byte / 16 % 2 == 1;
  urg = byte / 32 % 2 == 1;
  ece = byte / 64 % 2 == 1;
  cwr = byte / 128 == 1;
}

-- where a packet ends that says that it has so many bytes after its first ones. With 0 it says no length, as where a network card
-- cuts it, or where it is a jumbogram (RFC 2675, section 3).
abbrev pub own_end : ℕ → ℕ → Option ℕ
own_end before told = if told == 0 then None else Some (before + told)

-- whether a header that ends here ends past its packet's own end
abbrev pub ends_past : Option ℕ → ℕ → Bool
ends_past None here = false
ends_past (Some end) here = nat_lt end here

-- how many bytes of a packet were captured, of those up to its own end: what a link fills up is none of it
abbrev pub kept_length : ℕ → Option ℕ → ℕ
kept_length captured None = captured
kept_length captured (Some end) = min captured end

-- A TCP header has its ports first, and its flags in the fourteenth byte. By its own packet it has 20 bytes at least, and it says so in
-- words of four bytes in the upper half of its thirteenth byte; pf drops a shorter one. (RFC 9293, section 3.1)
abbrev pub tcp_at : List ℕ → Option ℕ → ℕ → Result Carried Reason
tcp_at packet own at =
    if ends_past own (at + 20) then Err reason.TooShort
    else (if nat_le (at + 14) (length packet)
    then (if nat_lt (slice_index packet (at + 12) / 16) 5 then Err reason.TooShort
    else Ok (Tcp (u16_at packet at) (u16_at packet (at + 2)) (flags_in (slice_index packet (at + 13)))))
    else Err reason.Cut)

-- a UDP header has its ports first, and 8 bytes by its own packet; pf drops a shorter one (RFC 768)
abbrev pub udp_at : List ℕ → Option ℕ → ℕ → Result Carried Reason
udp_at packet own at =
    if ends_past own (at + 8) then Err reason.TooShort
    else (if nat_le (at + 4) (length packet) then Ok (Udp (u16_at packet at) (u16_at packet (at + 2))) else Err reason.Cut)

-- what is carried by a protocol from a place on, in a packet with this end
abbrev pub carried_by : Proto → List ℕ → Option ℕ → ℕ → Result Carried Reason
carried_by proto.Tcp packet own at = tcp_at packet own at
carried_by proto.Udp packet own at = udp_at packet own at
carried_by (proto.Other n) packet own at = if nat_le (at + 0) (length packet) then Ok (Other n) else Err reason.Cut

-- the numbers of what is carried are those of their fields, and another protocol is neither TCP nor UDP
abbrev pub IsCarried : Carried → Type 0
IsCarried (Tcp from to flags) = (from ≤ 65535) × (to ≤ 65535)
IsCarried (Udp from to) = (from ≤ 65535) × (to ≤ 65535)
IsCarried (Other n) = (n < 256) × (n ≢ 6) × (n ≢ 17)

-- what is carried by the protocol of a place from there on
abbrev pub carried_at : List ℕ → Option ℕ → HeaderPlace → Result Carried Reason
carried_at packet own place = carried_by (proto_of (place.kind % 256)) packet own place.at

-- what is carried after the headers that follow a packet's own, of a packet with this end, of which so much was captured
abbrev pub found_at : Layer → List ℕ → Option ℕ → HeaderPlace → Result Carried Reason
found_at which packet own first = then_read (walk_from (length packet) which packet first) (λ place. carried_at packet own place)

-- The packet after an IPv4 header. Its length in words of four bytes is in the lower half of the first byte, at least 5, and no more
-- than the whole packet's in the third and fourth; the offset of a fragment is in the lower 13 bits of the seventh and eighth.
-- (RFC 791, section 3.1)
abbrev pub ipv4_in : List ℕ → Result IpPacket Reason
ipv4_in packet =
    if nat_lt (length packet) 20 then Err reason.Cut
    else (if not (slice_index packet 0 / 16 == 4) || nat_lt (slice_index packet 0 % 16 * 4) 20 then Err reason.NotIp
    else (if ends_past (own_end 0 (u16_at packet 2)) (0 + slice_index packet 0 % 16 * 4) then Err reason.TooShort
    else (if u16_at packet 6 % 8192 == 0
    then then_read (found_at layer.Ip4 (take (kept_length (length packet) (own_end 0 (u16_at packet 2))) packet) (own_end 0 (u16_at packet 2)) (record { kind = slice_index packet 9; at = slice_index packet 0 % 16 * 4 }))
    (λ carried. Ok (record { source = v4_at packet 12; destination = v4_at packet 16; carried = carried }))
    else Err reason.LaterFragment)))

-- the packet after an IPv6 header, of 40 bytes (RFC 8200, section 3)
abbrev pub ipv6_in : List ℕ → Result IpPacket Reason
ipv6_in packet =
    if nat_lt (length packet) 40 then Err reason.Cut
    else (if slice_index packet 0 / 16 == 6
    then then_read (found_at layer.Ip6 (take (kept_length (length packet) (own_end 40 (u16_at packet 4))) packet) (own_end 40 (u16_at packet 4)) (record { kind = slice_index packet 6; at = 40 }))
    (λ carried. Ok (record { source = v6_at packet 8; destination = v6_at packet 24; carried = carried }))
    else Err reason.NotIp)

-- the packet of this EtherType that begins at a place
abbrev pub framed_packet_at : List ℕ → HeaderPlace → Result IpPacket Reason
framed_packet_at frame place =
    if nat_le (place.at + 0) (length frame)
    then (if place.kind == 0x0800 then ipv4_in (drop place.at frame) else (if place.kind == 0x86dd then ipv6_in (drop place.at frame) else Err reason.NotIp))
    else Err reason.Cut

-- the outermost IP packet in a frame of a link, after the link's header and all tags and labels, or the one reason why there is none
abbrev pub packet_of : Link → List ℕ → Result IpPacket Reason
packet_of link frame = then_read (first_place link frame) (λ first. then_read (walk_from (length frame) layer.Link frame first) (λ place. framed_packet_at frame place))
