-- The account of a capture's frames. (own)
use Rattle.std.specs.Prelude.{◌≡◌, ◌≤◌, ◌<◌, ◌+◌, ◌^◌, ◌++◌, ℕ, Bool, if◌then◌else◌, List, codes, Result, Ok, Err}
use Rattle.std.specs.Fmt.{decimal}
use Rattle.pfs_capture_packets.specs.declared.packets.Reason.{Reason}
use Rattle.pfs_capture_packets.specs.declared.packets.Reason.TheVariants as reason
use Rattle.pfs_capture.specs.declared.accounts.Account.{Account}
use Rattle.pfs_capture.specs.declared.directions.Directions.{Directions}
use Rattle.pfs_capture.specs.declared.sorting.Evidence.{Evidence}
use Rattle.pfs_capture.specs.declared.sorting.Evidence.TheVariants as evidence
use Rattle.pfs_capture.specs.declared.sorting.DirectedPacket.{DirectedPacket}
use Rattle.pfs_capture.specs.declared.sorting.Heading.{Heading}

-- how many records have a direction
abbrev pub records_told : Directions → ℕ
records_told d = d.log + d.cooked + d.mac + d.networks

-- one record more can be counted
abbrev pub AreFew : Directions → Type 0
AreFew d = (records_told d < 2 ^ 63) × (d.contradicted < 2 ^ 63)

-- each frame is a record, or is counted under exactly one reason; each late record is a record; and each record has its direction by one
-- kind of evidence
abbrev pub AddsUp : Account → Type 0
AddsUp a =
    (a.frames ≡ a.records + a.link_types + a.not_ip + a.later_fragments + a.cut + a.too_short + a.neither_way)
    × (a.late ≤ a.records) × (a.records ≡ records_told a.directions) × (a.directions.contradicted ≤ a.records)

-- the directions of no record
abbrev pub no_directions : Directions
no_directions = record { log = 0; cooked = 0; mac = 0; networks = 0; contradicted = 0 }

-- the account of no frame
abbrev pub no_frames : Account
no_frames = record { frames = 0; records = 0; link_types = 0; not_ip = 0; later_fragments = 0; cut = 0; too_short = 0; neither_way = 0; late = 0; directions = no_directions }

-- one direction more by this evidence
abbrev pub evidence_counted : Directions → Evidence → Directions
evidence_counted d evidence.Log = record d { log = d.log + 1 }
evidence_counted d evidence.Cooked = record d { cooked = d.cooked + 1 }
evidence_counted d evidence.Mac = record d { mac = d.mac + 1 }
evidence_counted d evidence.Networks = record d { networks = d.networks + 1 }

-- those of one record more, which counts as contradicted where the networks say the other way
abbrev pub directions_with : Directions → Heading → Directions
directions_with d heading = record (evidence_counted d heading.by) { contradicted = d.contradicted + (if heading.is_contradicted then 1 else 0) }

-- one record more, and where it is late one late record
abbrev pub record_counted : Account → Bool → Heading → Account
record_counted a is_late heading = record a {
  frames = a.frames + 1;
  records = a.records + 1;
  late = a.late + (if is_late then 1 else 0);
  directions = directions_with a.directions heading;
}

-- one frame more that is no record for a reason
abbrev pub reason_counted : Account → Reason → Account
reason_counted a reason.LinkType = record a { frames = a.frames + 1; link_types = a.link_types + 1 }
reason_counted a reason.NotIp = record a { frames = a.frames + 1; not_ip = a.not_ip + 1 }
reason_counted a reason.LaterFragment = record a { frames = a.frames + 1; later_fragments = a.later_fragments + 1 }
reason_counted a reason.Cut = record a { frames = a.frames + 1; cut = a.cut + 1 }
reason_counted a reason.TooShort = record a { frames = a.frames + 1; too_short = a.too_short + 1 }
reason_counted a reason.NeitherWay = record a { frames = a.frames + 1; neither_way = a.neither_way + 1 }

-- one frame more, which is a record, or is none for a reason
abbrev pub frame_counted : Account → Bool → Result DirectedPacket Reason → Account
frame_counted a is_late (Ok found) = record_counted a is_late found.way.heading
frame_counted a is_late (Err r) = reason_counted a r

-- the text of directions, without a line feed
abbrev pub directions_text : Directions → List ℕ
directions_text d =
    codes "directions: by pflog " ++ (decimal d.log
    ++ (codes ", by a cooked header " ++ (decimal d.cooked
    ++ (codes ", by --mac " ++ (decimal d.mac
    ++ (codes ", by networks " ++ (decimal d.networks
    ++ (codes "; networks contradict " ++ decimal d.contradicted))))))))

-- the text of an account, without a line feed; that of its directions is a line of its own
abbrev pub account_text : Account → List ℕ
account_text a =
    codes "frames " ++ (decimal a.frames
    ++ (codes ": records " ++ (decimal a.records
    ++ (codes ", not IP " ++ (decimal a.not_ip
    ++ (codes ", later fragments " ++ (decimal a.later_fragments
    ++ (codes ", cut before their ports " ++ (decimal a.cut
    ++ (codes ", neither in nor out " ++ (decimal a.neither_way
    ++ (codes ", of a link type that is not read " ++ (decimal a.link_types
    ++ (codes ", too short " ++ (decimal a.too_short
    ++ (codes "; records seen before the frame in front " ++ decimal a.late))))))))))))))))
