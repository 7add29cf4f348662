-- The headers of links, by the numbers that the list of link types of libpcap gives them.
use Rattle.std.specs.Prelude.{ℕ, ◌+◌, ◌*◌, ◌/◌, ◌%◌, ◌==◌, ◌||◌, ◌&&◌, List, length, nat_le, nat_lt, Option, Some, None, Result, Ok, Err, if◌then◌else◌, slice_index}
use Rattle.pfs_capture_packets.specs.declared.links.Link.{Link}
use Rattle.pfs_capture_packets.specs.declared.links.Link.TheVariants as link
use Rattle.pfs_capture_packets.specs.declared.walks.HeaderPlace.{HeaderPlace}
use Rattle.pfs_capture_packets.specs.declared.packets.Reason.{Reason}
use Rattle.pfs_capture_packets.specs.declared.packets.Reason.TheVariants as reason
use Rattle.pfs_capture_packets.specs.Bytes.{u16_at}
use Rattle.pfs_capture_packets.specs.Logs.{log_header}
use Rattle.pfs_capture_packets.specs.Labels.{kind_of_ppp, kind_of_version}

-- the link of a type: Ethernet, BSD's loopback, raw IP, enc(4), PPP, PPP over Ethernet, Linux cooked of both versions, pflog. Files of
-- OpenBSD have its own numbers: 12 is loopback there and raw IP elsewhere, 13 is enc(4), 14 is raw IP.
abbrev pub link_of : ℕ → Option Link
link_of n =
    if n == 1 then Some link.Ethernet
    else (if (n == 0) || (n == 108) then Some link.Loopback
    else (if (n == 14) || (n == 101) || (n == 228) || (n == 229) then Some link.Raw
    else (if n == 12 then Some link.RawOrLoopback
    else (if (n == 13) || (n == 109) then Some link.Encapsulated
    else (if (n == 9) || (n == 50) then Some link.Ppp
    else (if n == 51 then Some link.PppOverEthernet
    else (if n == 113 then Some link.LinuxSll
    else (if n == 276 then Some link.LinuxSll2
    else (if n == 117 then Some link.Log else None)))))))))

-- the EtherType of packets of an address family, as the systems of BSD number them: IPv4 is 2, IPv6 24, 28 or 30; 0 for any other
abbrev pub kind_of_family : ℕ → ℕ
kind_of_family family = if family == 2 then 0x0800 else (if (family == 24) || (family == 28) || (family == 30) then 0x86dd else 0)

-- after a header of so many bytes, whose EtherType begins at this place
abbrev pub place_behind_header : List ℕ → ℕ → ℕ → Result HeaderPlace Reason
place_behind_header frame size at = if nat_le (0 + size) (length frame) then Ok (record { kind = u16_at frame at; at = size }) else Err reason.Cut

-- the family that four bytes hold in either byte order, 0 where it is past 255
abbrev pub either_order : List ℕ → ℕ
either_order frame =
    if (slice_index frame 0 == 0) && (slice_index frame 1 == 0) && (slice_index frame 2 == 0) then slice_index frame 3
    else (if (slice_index frame 1 == 0) && (slice_index frame 2 == 0) && (slice_index frame 3 == 0) then slice_index frame 0 else 0)

-- LINKTYPE_NULL and LINKTYPE_LOOP: an address family
abbrev pub loopback_place : List ℕ → Result HeaderPlace Reason
loopback_place frame = if nat_le (0 + 4) (length frame) then Ok (record { kind = kind_of_family (either_order frame); at = 4 }) else Err reason.Cut

-- LINKTYPE_RAW, LINKTYPE_IPV4 and LINKTYPE_IPV6: no header
abbrev pub raw_place : List ℕ → Result HeaderPlace Reason
raw_place frame = if length frame == 0 then Err reason.Cut else Ok (record { kind = kind_of_version (slice_index frame 0); at = 0 })

-- what follows from where a link's header ends, or else the reason why there is nothing
abbrev pub then_placed : Result HeaderPlace Reason → (HeaderPlace → Result HeaderPlace Reason) → Result HeaderPlace Reason
then_placed (Ok place) more = more place
then_placed (Err r) more = Err r

-- The number 12 is DLT_RAW in libpcap's list, and DLT_LOOP in files that OpenBSD writes. The first byte tells them apart: a packet
-- begins with its version, an address family in network byte order with a zero.
abbrev pub raw_or_loopback_place : List ℕ → Result HeaderPlace Reason
raw_or_loopback_place frame = then_placed (raw_place frame) (λ raw. if raw.kind == 0 then loopback_place frame else Ok raw)

-- LINKTYPE_ENC: an address family in the byte order of the host, the SPI and flags, four bytes each (OpenBSD's net/if_enc.h)
abbrev pub encapsulated_place : List ℕ → Result HeaderPlace Reason
encapsulated_place frame = if nat_le (0 + 12) (length frame) then Ok (record { kind = kind_of_family (either_order frame); at = 12 }) else Err reason.Cut

-- the protocol of PPP: two bytes, of which the first is even, or one byte that is odd (RFC 1661, sections 2 and 6.5)
abbrev pub ppp_behind : List ℕ → ℕ → Result HeaderPlace Reason
ppp_behind frame at =
    if nat_le (at + 2) (length frame)
    then (if slice_index frame at % 2 == 1 then Ok (record { kind = kind_of_ppp (slice_index frame at); at = at + 1 })
    else Ok (record { kind = kind_of_ppp (u16_at frame at); at = at + 2 }))
    else Err reason.Cut

-- LINKTYPE_PPP and LINKTYPE_PPP_HDLC: PPP's protocol, after the bytes ff and 03 where it is framed as in HDLC (RFC 1662, section 3.1)
abbrev pub ppp_place : List ℕ → Result HeaderPlace Reason
ppp_place frame =
    if nat_le (0 + 2) (length frame) && (slice_index frame 0 == 0xff) && (slice_index frame 1 == 0x03) then ppp_behind frame 2
    else ppp_behind frame 0

-- LINKTYPE_PFLOG: its length without what it is filled up with to a word of four bytes, and an address family
abbrev pub log_place : List ℕ → Result HeaderPlace Reason
log_place frame =
    if nat_le (0 + log_header) (length frame)
    then (if nat_lt (slice_index frame 0) log_header then Err reason.NotIp
    else Ok (record { kind = kind_of_family (slice_index frame 1); at = (slice_index frame 0 + 3) / 4 * 4 }))
    else Err reason.Cut

-- what follows a link's header, and where: Ethernet has two addresses before its EtherType (IEEE 802.3, clause 3.2.6),
-- LINKTYPE_LINUX_SLL has its protocol last, LINKTYPE_LINUX_SLL2 first, and LINKTYPE_PPP_ETHER begins with a session's header, as after
-- the EtherType 0x8864
abbrev pub first_place : Link → List ℕ → Result HeaderPlace Reason
first_place link.Ethernet frame = place_behind_header frame 14 12
first_place link.LinuxSll frame = place_behind_header frame 16 14
first_place link.LinuxSll2 frame = place_behind_header frame 20 0
first_place link.Loopback frame = loopback_place frame
first_place link.Raw frame = raw_place frame
first_place link.RawOrLoopback frame = raw_or_loopback_place frame
first_place link.Encapsulated frame = encapsulated_place frame
first_place link.Ppp frame = ppp_place frame
first_place link.PppOverEthernet frame = Ok (record { kind = 0x8864; at = 0 })
first_place link.Log frame = log_place frame
