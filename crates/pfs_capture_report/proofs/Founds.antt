-- What is found in a frame of bytes is a row that can be read.
use Rattle.std.proofs.Common.{length-drop, length-take, [], ◌∷◌, ◌≡◌, ◌≤◌, ◌<◌, ◌+◌, ◌*◌, ◌/◌, ◌%◌, ℕ, Bool, true, false, not, ◌||◌, ◌==◌, List, length, take, drop, Option, Some, None, refl, sym, subst, arith, eq-eqb, if◌then◌else◌, nat_le, nat_lt, ◌∙◌}
use Rattle.std.specs.Prelude.{Err, Ok, Result, ok_or, option_map, slice_index}
use Rattle.std.specs.List.{AllByRecursion}
use Rattle.std.specs.Option.{option_and_then, option_map_or}
use Rattle.std.specs.Str.{bytes_eq}
use Rattle.std.proofs.lemmas.Bool.{false≢true}
use Rattle.std.proofs.lemmas.Bool.Decides.{nat_tests}
use Rattle.std.proofs.lemmas.Nat.{mod_below}
use Rattle.pfs_addr_values.specs.Addresses.{IsAddr, same_family}
use Rattle.pfs_addr_values.specs.Names.{is_name}
use Rattle.pfs_addr_values.specs.Protocols.{proto_of}
use Rattle.pfs_addr_values.specs.declared.packets.Dir.{Dir}
use Rattle.pfs_addr_values.specs.declared.protocols.Proto.TheVariants as proto
use Rattle.pfs_capture_packets.specs.Bytes.{octets_at, u16_at}
use Rattle.pfs_capture_packets.specs.Links.{first_place, link_of}
use Rattle.pfs_capture_packets.specs.Logs.{answer_in, if_some, is_log, log_header, logged_dir_at, logged_of, name_at, text_length}
use Rattle.pfs_capture_packets.specs.Packets.{IsCarried, carried_at, carried_by, ends_past, found_at, framed_packet_at, ipv4_in, ipv6_in, own_end, packet_of, tcp_at, then_read, udp_at, v4_at, v6_at}
use Rattle.pfs_capture_packets.specs.Sent.{flags_of_carried, from_port, proto_of_carried, to_port}
use Rattle.pfs_capture_packets.specs.Walks.{walk_from}
use Rattle.pfs_capture_packets.specs.declared.links.Link.{Link}
use Rattle.pfs_capture_packets.specs.declared.logs.Logged.{Logged}
use Rattle.pfs_capture_packets.specs.declared.packets.Carried.{Carried}
use Rattle.pfs_capture_packets.specs.declared.packets.Carried.TheVariants.{Tcp, Udp, Other}
use Rattle.pfs_capture_packets.specs.declared.packets.IpPacket.{IpPacket}
use Rattle.pfs_capture_packets.specs.declared.packets.Reason.{Reason}
use Rattle.pfs_capture_packets.specs.declared.packets.Reason.TheVariants as reason
use Rattle.pfs_capture.specs.declared.sorting.Evidence.TheVariants as evidence
use Rattle.pfs_capture_packets.specs.declared.walks.Layer.{Layer}
use Rattle.pfs_capture_packets.specs.declared.walks.HeaderPlace.{HeaderPlace}
use Rattle.pfs_capture.specs.Points.{Point, point_named, point_of}
use Rattle.pfs_capture.specs.Sorting.{by_link, found_in_frame, found_on_link, heading_from, logged_way, networks_dir, way_at, way_of}
use Rattle.pfs_capture.specs.Traces.{row_from}
use Rattle.pfs_capture.specs.declared.sorting.DirectedPacket.{DirectedPacket}
use Rattle.pfs_capture.specs.declared.sorting.Heading.{Heading}
use Rattle.pfs_capture.specs.declared.sorting.PacketWay.{PacketWay}
use Rattle.pfs_trace.specs.Rows.{CanSay}
use Rattle.pfs_capture_files.proofs.Octets.{AreBytes, bytes-drop, bytes-take}
use Rattle.pfs_capture_report.proofs.Octets.{octets-bytes, u16-small}
use Rattle.pfs_capture_report.proofs.Reading.{IsReadable}

-- ---- what is read of a frame follows from its parts

read-of : {A B : Type 0} {P : Type 0} (r : Result A Reason) (more : A → Result B Reason) (y : B) → ((x : A) → r ≡ Ok x → more x ≡ Ok y → P) → then_read r more ≡ Ok y → P
read-of (Ok x) more y f h = f x refl h
read-of (Err e) more y f h = cc

unless : {B : Type 0} {P : Type 0} (t : Bool) (e : Reason) (x : Result B Reason) (y : B) → (t ≡ false → x ≡ Ok y → P) → (if t then Err e else x) ≡ Ok y → P
unless true e x y f h = cc
unless false e x y f h = f refl h

when : {B : Type 0} {P : Type 0} (t : Bool) (e : Reason) (x : Result B Reason) (y : B) → (t ≡ true → x ≡ Ok y → P) → (if t then x else Err e) ≡ Ok y → P
when true e x y f h = f refl h
when false e x y f h = cc

abbrev good : {B : Type 0} → B → Result B Reason
good x = Ok x

ok-same : {B : Type 0} {x y : B} → good x ≡ good y → x ≡ y
ok-same h = cc

-- ---- what is carried

tcp-carried : (packet : List ℕ) (own : Option ℕ) (at : ℕ) (c : Carried) → AreBytes packet → tcp_at packet own at ≡ Ok c → IsCarried c
tcp-carried packet own at c h e =
    unless (ends_past own (at + 20)) _ _ c (λ t f.
    when (nat_le (at + 14) (length packet)) _ _ c (λ u g.
    unless (nat_lt (slice_index packet (at + 12) / 16) 5) _ _ c (λ v k.
    subst IsCarried (ok-same k) (u16-small packet at h, u16-small packet (at + 2) h)) g) f) e

udp-carried : (packet : List ℕ) (own : Option ℕ) (at : ℕ) (c : Carried) → AreBytes packet → udp_at packet own at ≡ Ok c → IsCarried c
udp-carried packet own at c h e =
    unless (ends_past own (at + 8)) _ _ c (λ t f.
    when (nat_le (at + 4) (length packet)) _ _ c (λ u g.
    subst IsCarried (ok-same g) (u16-small packet at h, u16-small packet (at + 2) h)) f) e

proto-carried : (packet : List ℕ) (own : Option ℕ) (at k : ℕ) (c : Carried) → AreBytes packet → k < 256 → carried_by (proto_of k) packet own at ≡ Ok c → IsCarried c
proto-carried packet own at k c h small e = by (k == 6) (k == 17) refl refl e
  where
    by : (t u : Bool) → (k == 6) ≡ t → (k == 17) ≡ u → carried_by (if t then proto.Tcp else (if u then proto.Udp else proto.Other k)) packet own at ≡ Ok c → IsCarried c
    by true u p q f = tcp-carried packet own at c h f
    by false true p q f = udp-carried packet own at c h f
    by false false p q f =
        when (nat_le (at + 0) (length packet)) _ _ c (λ v g.
        subst IsCarried (ok-same g) (small, (λ r. false≢true (sym p ∙ eq-eqb k 6 r)), (λ r. false≢true (sym q ∙ eq-eqb k 17 r)))) f

found-carried : (which : Layer) (packet : List ℕ) (own : Option ℕ) (first : HeaderPlace) (c : Carried) → AreBytes packet → found_at which packet own first ≡ Ok c → IsCarried c
found-carried which packet own first c h e =
    read-of (walk_from (length packet) which packet first) (λ place. carried_at packet own place) c (λ place w f.
    proto-carried packet own place.at (place.kind % 256) c h (mod_below place.kind 256 (omega arith)) f) e

-- ---- the packet

pub record IsWholePacket (p : IpPacket) : Type 0 where
  pub family : same_family p.source p.destination ≡ true
  pub source : IsAddr p.source
  pub destination : IsAddr p.destination
  pub carried : IsCarried p.carried

octets-long : (xs : List ℕ) (at n : ℕ) → at + n ≤ length xs → length (octets_at xs at n) ≡ n
octets-long xs at n h = let l = length-drop at xs in let k = length-take n (drop at xs) in omega (arith, l, k)

ipv4-whole : (packet : List ℕ) (p : IpPacket) → AreBytes packet → ipv4_in packet ≡ Ok p → IsWholePacket p
ipv4-whole packet p h e =
    unless (nat_lt (length packet) 20) _ _ p (λ long f.
    unless (not (slice_index packet 0 / 16 == 4) || nat_lt (slice_index packet 0 % 16 * 4) 20) _ _ p (λ t g.
    unless (ends_past (own_end 0 (u16_at packet 2)) (0 + slice_index packet 0 % 16 * 4)) _ _ p (λ u k.
    when (u16_at packet 6 % 8192 == 0) _ _ p (λ v l.
    read-of _ (λ carried. Ok (record { source = v4_at packet 12; destination = v4_at packet 16; carried = carried })) p (λ carried is made.
    let enough : 20 ≤ length packet = grind (arith, nat_tests) in
    subst IsWholePacket (ok-same made) (record {
      family = refl;
      source = (octets-long packet 12 4 (omega arith), octets-bytes packet 12 4 h);
      destination = (octets-long packet 16 4 (omega arith), octets-bytes packet 16 4 h);
      carried = found-carried _ _ _ _ carried (bytes-take _ packet h) is;
    })) l) k) g) f) e

ipv6-whole : (packet : List ℕ) (p : IpPacket) → AreBytes packet → ipv6_in packet ≡ Ok p → IsWholePacket p
ipv6-whole packet p h e =
    unless (nat_lt (length packet) 40) _ _ p (λ long f.
    when (slice_index packet 0 / 16 == 6) _ _ p (λ t g.
    read-of _ (λ carried. Ok (record { source = v6_at packet 8; destination = v6_at packet 24; carried = carried })) p (λ carried is made.
    let enough : 40 ≤ length packet = grind (arith, nat_tests) in
    subst IsWholePacket (ok-same made) (record {
      family = refl;
      source = (octets-long packet 8 16 (omega arith), octets-bytes packet 8 16 h);
      destination = (octets-long packet 24 16 (omega arith), octets-bytes packet 24 16 h);
      carried = found-carried _ _ _ _ carried (bytes-take _ packet h) is;
    })) g) f) e

framed-whole : (frame : List ℕ) (place : HeaderPlace) (p : IpPacket) → AreBytes frame → framed_packet_at frame place ≡ Ok p → IsWholePacket p
framed-whole frame place p h e = when (nat_le (place.at + 0) (length frame)) _ _ p (λ t f. by (place.kind == 0x0800) (place.kind == 0x86dd) f) e
  where
    by : (t u : Bool) → (if t then ipv4_in (drop place.at frame) else (if u then ipv6_in (drop place.at frame) else Err reason.NotIp)) ≡ Ok p → IsWholePacket p
    by true u f = ipv4-whole (drop place.at frame) p (bytes-drop place.at frame h) f
    by false true f = ipv6-whole (drop place.at frame) p (bytes-drop place.at frame h) f
    by false false f = cc

packet-whole : (link : Link) (frame : List ℕ) (p : IpPacket) → AreBytes frame → packet_of link frame ≡ Ok p → IsWholePacket p
packet-whole link frame p h e =
    read-of (first_place link frame) _ p (λ first a g.
    read-of _ (λ place. framed_packet_at frame place) p (λ place b k. framed-whole frame place p h k) g) e

-- columns can say what it carries
carried-said : (c : Carried) → IsCarried c → CanSay (proto_of_carried c) (from_port c) (to_port c) (flags_of_carried c)
carried-said (Tcp from to flags) h = h
carried-said (Udp from to) h = (h.0, h.1, refl)
carried-said (Other n) h = (h.0, h.1, h.2, refl, refl, refl)

-- ---- its way

named : (text : List ℕ) (name : List ℕ) → (if is_name 15 text then Some text else None) ≡ Some name → is_name 15 name ≡ true
named text name e = by (is_name 15 text) refl e
  where
    by : (b : Bool) → is_name 15 text ≡ b → (if b then Some text else None) ≡ Some name → is_name 15 name ≡ true
    by true t f = let same : text ≡ name = cc in subst (λ (n : List ℕ). is_name 15 n ≡ true) same t
    by false t f = cc

logged-named : (frame : List ℕ) (l : Logged) → logged_of frame ≡ Some l → is_name 15 l.ifname ≡ true
logged-named frame l e = whole (nat_le (0 + log_header) (length frame)) e
  where
    name : (dir : Dir) (o : Option (List ℕ)) → name_at (octets_at frame 4 16) ≡ o → if_some o (λ ifname. Some (record { dir = dir; ifname = ifname })) ≡ Some l → is_name 15 l.ifname ≡ true
    name dir None t f = cc
    name dir (Some n) t f =
        let same : record { dir = dir; ifname = n } ≡ l = cc in
        subst (λ (x : Logged). is_name 15 x.ifname ≡ true) same (named (take (text_length (octets_at frame 4 16)) (octets_at frame 4 16)) n t)

    way : (o : Option Dir) → if_some o (λ dir. if_some (name_at (octets_at frame 4 16)) (λ ifname. Some (record { dir = dir; ifname = ifname }))) ≡ Some l → is_name 15 l.ifname ≡ true
    way None f = cc
    way (Some dir) f = name dir (name_at (octets_at frame 4 16)) refl f

    whole : (b : Bool) → (if b then if_some (logged_dir_at (slice_index frame 60)) (λ dir. if_some (name_at (octets_at frame 4 16)) (λ ifname. Some (record { dir = dir; ifname = ifname }))) else None) ≡ Some l
        → is_name 15 l.ifname ≡ true
    whole true f = way (logged_dir_at (slice_index frame 60)) f
    whole false f = cc

-- interfaces with names
abbrev pub AreNamed : List Point → Type 0
AreNamed points = AllByRecursion (λ (p : Point). is_name 15 p.ifname ≡ true) points

point-named : (points : List Point) (name : List ℕ) (p : Point) → AreNamed points → point_named name points ≡ Some p → is_name 15 p.ifname ≡ true
point-named [] name p names e = cc
point-named (q ∷ qs) name p names e = by (bytes_eq q.ifname name) e (λ f. point-named qs name p names.1 f)
  where
    by : (b : Bool) → (if b then Some q else point_named name qs) ≡ Some p → (point_named name qs ≡ Some p → is_name 15 p.ifname ≡ true) → is_name 15 p.ifname ≡ true
    by true f more = let same : q ≡ p = cc f in subst (λ (x : Point). is_name 15 x.ifname ≡ true) same names.0
    by false f more = more f

named-of : (points : List Point) (name : Option (List ℕ)) (p : Point) → AreNamed points → option_and_then (λ n. point_named n points) name ≡ Some p → is_name 15 p.ifname ≡ true
named-of points None p names e = cc
named-of points (Some n) p names e = point-named points n p names e

point-of-named : (points : List Point) (name : Option (List ℕ)) (p : Point) → AreNamed points → point_of points name ≡ Some p → is_name 15 p.ifname ≡ true
point-of-named [] name p names e = named-of [] name p names e
point-of-named (q ∷ []) name p names e = let same : q ≡ p = cc e in subst (λ (x : Point). is_name 15 x.ifname ≡ true) same names.0
point-of-named (q ∷ r ∷ rs) name p names e = named-of (q ∷ r ∷ rs) name p names e

way-named : (points : List Point) (name : Option (List ℕ)) (link : Link) (frame : List ℕ) (p : IpPacket) (w : PacketWay) → AreNamed points → way_of points name link frame p ≡ Some w
    → is_name 15 w.ifname ≡ true
way-named points name link frame p w names e = by (is_log link) e
  where
    log : (o : Option Logged) → logged_of frame ≡ o → option_map (λ l. let way : PacketWay = record { heading = record { dir = l.dir; by = evidence.Log; is_contradicted = false }; ifname = l.ifname } in way) o ≡ Some w
        → is_name 15 w.ifname ≡ true
    log None t f = cc
    log (Some l) t f =
        let same : record { heading = record { dir = l.dir; by = evidence.Log; is_contradicted = false }; ifname = l.ifname } ≡ w = cc in
        subst (λ (x : PacketWay). is_name 15 x.ifname ≡ true) same (logged-named frame l t)

    point-way : (point : Point) (o : Option Heading) → is_name 15 point.ifname ≡ true → option_map (λ heading. let way : PacketWay = record { heading = heading; ifname = point.ifname } in way) o ≡ Some w → is_name 15 w.ifname ≡ true
    point-way point None own f = cc
    point-way point (Some heading) own f =
        let same : record { heading = heading; ifname = point.ifname } ≡ w = cc in
        subst (λ (x : PacketWay). is_name 15 x.ifname ≡ true) same own

    at-point : (o : Option Point) → point_of points name ≡ o → option_and_then (λ point. way_at point link frame p) o ≡ Some w → is_name 15 w.ifname ≡ true
    at-point None t f = cc
    at-point (Some point) t f = point-way point (heading_from (by_link point link frame) (networks_dir point p)) (point-of-named points name point names t) f

    by : (b : Bool) → (if b then logged_way frame else option_and_then (λ point. way_at point link frame p) (point_of points name)) ≡ Some w → is_name 15 w.ifname ≡ true
    by true f = log (logged_of frame) refl f
    by false f = at-point (point_of points name) refl f

-- ---- so the row can be read

on-link-readable : (points : List Point) (name : Option (List ℕ)) (link : Link) (frame : List ℕ) (second : ℕ) (f : DirectedPacket) → AreNamed points → AreBytes frame → second ≤ 4294967295
    → found_on_link points name link frame ≡ Ok f → IsReadable (row_from second f)
on-link-readable points name link frame second f names h late e =
    read-of (packet_of link frame) _ f (λ packet is g. way packet is (way_of points name link frame packet) refl g) e
  where
    way : (packet : IpPacket) → packet_of link frame ≡ Ok packet → (o : Option PacketWay) → way_of points name link frame packet ≡ o
        → then_read (ok_or o reason.NeitherWay) (λ w. let found : DirectedPacket = record { way = w; packet = packet; answer = answer_in link frame } in Ok found) ≡ Ok f
        → IsReadable (row_from second f)
    way packet is None t g = cc
    way packet is (Some w) t g =
        let whole = packet-whole link frame packet h is in
        let same : record { way = w; packet = packet; answer = answer_in link frame } ≡ f = cc in
        subst (λ (x : DirectedPacket). IsReadable (row_from second x)) same (record {
          family = whole.family;
          second = late;
          name = way-named points name link frame packet w names t;
          said = carried-said packet.carried whole.carried;
          source = whole.source;
          destination = whole.destination;
        })

pub found-readable : (points : List Point) (name : Option (List ℕ)) (link_type : ℕ) (frame : List ℕ) (second : ℕ) (f : DirectedPacket) → AreNamed points → AreBytes frame → second ≤ 4294967295
    → found_in_frame points name link_type frame ≡ Ok f → IsReadable (row_from second f)
found-readable points name link_type frame second f names h late e = by (link_of link_type) e
  where
    by : (o : Option Link) → option_map_or (λ link. found_on_link points name link frame) o (Err reason.LinkType) ≡ Ok f → IsReadable (row_from second f)
    by None g = cc
    by (Some link) g = on-link-readable points name link frame second f names h late g
