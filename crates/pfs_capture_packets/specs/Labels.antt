-- Tags and labels between a link's header and a packet, each by its EtherType.
use Rattle.std.specs.Prelude.{ℕ, ◌+◌, ◌/◌, ◌%◌, ◌==◌, ◌||◌, List, length, nat_le, if◌then◌else◌, slice_index}
use Rattle.pfs_capture_packets.specs.declared.walks.HeaderPlace.{HeaderPlace}
use Rattle.pfs_capture_packets.specs.declared.walks.Next.{Next}
use Rattle.pfs_capture_packets.specs.declared.walks.Next.TheVariants.{On, Here, Stop}
use Rattle.pfs_capture_packets.specs.declared.packets.Reason.TheVariants as reason
use Rattle.pfs_capture_packets.specs.Bytes.{u16_at}

-- the EtherType of a packet that begins with this byte, by the version in its upper four bits: 4 (RFC 791, section 3.1) or 6
-- (RFC 8200, section 3); 0 where it begins none
abbrev pub kind_of_version : ℕ → ℕ
kind_of_version first = if first / 16 == 4 then 0x0800 else (if first / 16 == 6 then 0x86dd else 0)

-- the EtherType of what PPP carries by this protocol: IPv4 (RFC 1332, section 2.1), IPv6 (RFC 5072, section 2), MPLS (RFC 3032,
-- section 4.3); 0 for any other
abbrev pub kind_of_ppp : ℕ → ℕ
kind_of_ppp protocol =
    if protocol == 0x0021 then 0x0800
    else (if protocol == 0x0057 then 0x86dd
    else (if protocol == 0x0281 then 0x8847
    else (if protocol == 0x0283 then 0x8848 else 0)))

-- a header of so many bytes, after which something of a kind begins, unless the frame ends within it
abbrev pub on_behind : List ℕ → HeaderPlace → ℕ → ℕ → Next
on_behind frame place size kind = if nat_le (place.at + size) (length frame) then On (record { kind = kind; at = place.at + size }) else Stop reason.Cut

-- a tag: two bytes, and the EtherType of what follows (IEEE 802.1Q, clause 9.4 and 9.5)
abbrev pub behind_tag : List ℕ → HeaderPlace → Next
behind_tag frame place = on_behind frame place 4 (u16_at frame (place.at + 2))

-- a session's header of six bytes (RFC 2516, section 4), and PPP's protocol in two
abbrev pub behind_session : List ℕ → HeaderPlace → Next
behind_session frame place = on_behind frame place 8 (kind_of_ppp (u16_at frame (place.at + 6)))

-- an entry of four bytes; the lowest bit of the third is set in the last one (RFC 3032, section 2.1), and what follows that one is
-- known by its first byte (section 2.2)
abbrev pub behind_switched : List ℕ → HeaderPlace → Next
behind_switched frame place =
    if nat_le (place.at + 5) (length frame)
    then (if slice_index frame (place.at + 2) % 2 == 0
    then On (record { kind = place.kind; at = place.at + 4 })
    else On (record { kind = kind_of_version (slice_index frame (place.at + 4)); at = place.at + 4 }))
    else Stop reason.Cut

-- after a tag of a virtual network (0x8100, 0x88a8), a session of PPP (0x8864, RFC 2516, section 4) or a label (0x8847, 0x8848,
-- RFC 5332, section 2); anything else is what the frame holds
abbrev pub behind_label : List ℕ → HeaderPlace → Next
behind_label frame place =
    if (place.kind == 0x8100) || (place.kind == 0x88a8) then behind_tag frame place
    else (if place.kind == 0x8864 then behind_session frame place
    else (if (place.kind == 0x8847) || (place.kind == 0x8848) then behind_switched frame place
    else Here))
