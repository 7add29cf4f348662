-- The packet of a frame and its way, or why the frame is no record.
use Rattle.std.specs.Prelude.{ℕ, ◌≡◌, ◌==◌, Bool, true, false, List, length, Option, Some, None, Result, Ok, Err, if◌then◌else◌, ok_or, option_and_then, option_map}
use Rattle.std.specs.Option.{option_map_or}
use Rattle.pfs_addr_values.specs.Addresses.{same_family}
use Rattle.pfs_addr_values.specs.Names.{is_name}
use Rattle.pfs_addr_values.specs.declared.packets.Dir.{Dir}
use Rattle.pfs_addr_values.specs.declared.packets.Dir.TheVariants.{In, Out}
use Rattle.pfs_capture_packets.specs.Links.{link_of}
use Rattle.pfs_capture_packets.specs.Logs.{answer_in, is_log, logged_of}
use Rattle.pfs_capture_packets.specs.Packets.{IsCarried, then_read, packet_of}
use Rattle.pfs_capture_packets.specs.Ways.{cooked_dir, ethernet_dir}
use Rattle.pfs_capture_packets.specs.declared.links.Link.{Link}
use Rattle.pfs_capture_packets.specs.declared.links.Link.TheVariants as link
use Rattle.pfs_capture_packets.specs.declared.packets.IpPacket.{IpPacket}
use Rattle.pfs_capture_packets.specs.declared.packets.Reason.{Reason}
use Rattle.pfs_capture_packets.specs.declared.packets.Reason.TheVariants as reason
use Rattle.pfs_capture_packets.specs.declared.ways.Mac.{Mac}
use Rattle.pfs_capture.specs.Points.{Point, is_behind, point_of}
use Rattle.pfs_capture.specs.declared.sorting.Evidence.TheVariants as evidence
use Rattle.pfs_capture.specs.declared.sorting.DirectedPacket.{DirectedPacket}
use Rattle.pfs_capture.specs.declared.sorting.Heading.{Heading}
use Rattle.pfs_capture.specs.declared.sorting.LinkWay.{LinkWay}
use Rattle.pfs_capture.specs.declared.sorting.LinkWay.TheVariants.{Says, Neither, Silent}
use Rattle.pfs_capture.specs.declared.sorting.PacketWay.{PacketWay}

-- a packet from the front of an interface to behind it comes in, one from behind it to its front goes out, any other goes neither way
abbrev pub way_between : Bool → Bool → Option Dir
way_between false true = Some In
way_between true false = Some Out
way_between from to = None

-- the direction by the networks of a packet's addresses
abbrev pub networks_dir : Point → IpPacket → Option Dir
networks_dir point packet = way_between (is_behind point packet.source) (is_behind point packet.destination)

-- what the addresses of an Ethernet frame say, where those of the interface are given: a frame that is neither from it nor to it goes
-- neither way
abbrev pub by_own_macs : List Mac → List ℕ → LinkWay
by_own_macs own frame = if length own == 0 then Silent else option_map_or (λ dir. Says dir evidence.Mac) (ethernet_dir own frame) Neither

abbrev pub by_mac : Point → Link → List ℕ → LinkWay
by_mac point link.Ethernet frame = by_own_macs point.macs frame
by_mac point other frame = Silent

-- what the header of a frame's link says: that of a Linux cooked capture has the direction
abbrev pub by_link : Point → Link → List ℕ → LinkWay
by_link point link frame = option_map_or (λ dir. Says dir evidence.Cooked) (cooked_dir link frame) (by_mac point link frame)

-- whether the other direction is said
abbrev pub contradicts : Dir → Option Dir → Bool
contradicts In (Some Out) = true
contradicts Out (Some In) = true
contradicts dir said = false

-- the direction that a link's header says, or else that of the networks
abbrev pub heading_from : LinkWay → Option Dir → Option Heading
heading_from (Says dir by) networks = Some (record { dir = dir; by = by; is_contradicted = contradicts dir networks })
heading_from Neither networks = None
heading_from Silent networks = option_map (λ dir. record { dir = dir; by = evidence.Networks; is_contradicted = false }) networks

-- the way that a log of packets has itself
abbrev pub logged_way : List ℕ → Option PacketWay
logged_way frame = option_map (λ l. record { heading = record { dir = l.dir; by = evidence.Log; is_contradicted = false }; ifname = l.ifname }) (logged_of frame)

-- the way of a frame's packet at an interface
abbrev pub way_at : Point → Link → List ℕ → IpPacket → Option PacketWay
way_at point link frame packet =
    option_map (λ heading. record { heading = heading; ifname = point.ifname }) (heading_from (by_link point link frame) (networks_dir point packet))

-- the way of a frame's packet and its interface: a log of packets has them itself, and a frame that is of none of the capture's
-- interfaces goes neither way
abbrev pub way_of : List Point → Option (List ℕ) → Link → List ℕ → IpPacket → Option PacketWay
way_of points name link frame packet =
    if is_log link then logged_way frame
    else option_and_then (λ point. way_at point link frame packet) (point_of points name)

-- the packet of a frame of a link, its way and what pf answered, or the one reason why it is no record
abbrev pub found_on_link : List Point → Option (List ℕ) → Link → List ℕ → Result DirectedPacket Reason
found_on_link points name link frame =
    then_read (packet_of link frame) (λ packet. then_read (ok_or (way_of points name link frame packet) reason.NeitherWay) (λ way. Ok (record { way = way; packet = packet; answer = answer_in link frame })))

-- the same of a frame whose link is of this type; one whose type is not read is no record
abbrev pub found_in_frame : List Point → Option (List ℕ) → ℕ → List ℕ → Result DirectedPacket Reason
found_in_frame points name link_type frame = option_map_or (λ link. found_on_link points name link frame) (link_of link_type) (Err reason.LinkType)

-- a packet whose ends are of one family, on an interface with a name, as a row has it
abbrev pub IsFound : DirectedPacket → Type 0
IsFound f = (same_family f.packet.source f.packet.destination ≡ true) × (is_name 15 f.way.ifname ≡ true) × IsCarried f.packet.carried
