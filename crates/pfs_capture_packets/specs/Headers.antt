-- What follows a header: RFC 4302, section 2, RFC 8200, section 4, and the labels of a link.
use Rattle.std.specs.Prelude.{ℕ, ◌+◌, ◌*◌, ◌/◌, ◌==◌, ◌||◌, List, Bool, length, nat_le, if◌then◌else◌, slice_index}
use Rattle.pfs_capture_packets.specs.declared.walks.Layer.{Layer}
use Rattle.pfs_capture_packets.specs.declared.walks.Layer.TheVariants as layer
use Rattle.pfs_capture_packets.specs.declared.walks.HeaderPlace.{HeaderPlace}
use Rattle.pfs_capture_packets.specs.declared.walks.Next.{Next}
use Rattle.pfs_capture_packets.specs.declared.walks.Next.TheVariants.{On, Here, Stop}
use Rattle.pfs_capture_packets.specs.declared.packets.Reason.TheVariants as reason
use Rattle.pfs_capture_packets.specs.Bytes.{u16_at}
use Rattle.pfs_capture_packets.specs.Labels.{behind_label}

-- the header that begins so many bytes after this one, which names its protocol in its first byte
abbrev pub next_header : List ℕ → HeaderPlace → ℕ → Next
next_header bytes place size = On (record { kind = slice_index bytes place.at; at = place.at + size })

-- an authentication header (51) is as long as its second byte says, in words of four bytes less two (RFC 4302, section 2.2)
abbrev pub behind_authentication : List ℕ → HeaderPlace → Next
behind_authentication bytes place =
    if place.kind == 51
    then (if nat_le (place.at + 8) (length bytes) then next_header bytes place ((slice_index bytes (place.at + 1) + 2) * 4) else Stop reason.Cut)
    else Here

-- an extension header: hop-by-hop options (0), routing (43), a fragment (44), options of the destination (60) (RFC 8200, section 4)
abbrev pub is_extension : ℕ → Bool
is_extension kind = (kind == 0) || (kind == 43) || (kind == 44) || (kind == 60)

-- an extension header is as long as its second byte says, in words of eight bytes less one (RFC 8200, sections 4.3, 4.4
-- and 4.6), but a fragment's header is of eight bytes; after it the headers go on in the first fragment alone, whose
-- offset, the upper 13 bits of its third and fourth byte, is 0 (section 4.5)
abbrev pub behind_extension : List ℕ → HeaderPlace → Next
behind_extension bytes place =
    if is_extension place.kind
    then (if nat_le (place.at + 8) (length bytes)
    then (if place.kind == 44
    then (if u16_at bytes (place.at + 2) / 8 == 0 then next_header bytes place 8 else Stop reason.LaterFragment)
    else next_header bytes place ((slice_index bytes (place.at + 1) + 1) * 8))
    else Stop reason.Cut)
    else behind_authentication bytes place

-- where the walk of a layer goes from a header: only authentication headers follow IPv4's own header (RFC 4302, section 3.1)
abbrev pub header_behind : Layer → List ℕ → HeaderPlace → Next
header_behind layer.Link bytes place = behind_label bytes place
header_behind layer.Ip4 bytes place = behind_authentication bytes place
header_behind layer.Ip6 bytes place = behind_extension bytes place
