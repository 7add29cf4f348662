-- The phase of a state, by its protocol: at first, after a packet, its timeout, and its handshake.
use Rattle.std.specs.Prelude.{Bool, true, false, if◌then◌else◌, ◌&&◌, ◌≡◌, List, [], ◌∷◌}
use Rattle.pfs_addr_values.specs.declared.flag_sets.Flags.{Flags}
use Rattle.pfs_addr_values.specs.declared.protocols.Proto.{Proto}
use Rattle.pfs_addr_values.specs.declared.protocols.Proto.TheVariants.{Tcp as OverTcp, Udp as OverUdp, Other as OverOther}
use Rattle.pfs_conf_values.specs.declared.timeouts.TimeoutName.{TimeoutName}
use Rattle.pfs_track.specs.Datagrams.{first_datagram, udp_step, udp_slot, other_slot}
use Rattle.pfs_conf_values.specs.declared.timeouts.TimeoutName.TheVariants.{TcpFirst}
use Rattle.pfs_track.specs.Proxies.{cookie_proxy, first_proxy, proxy_after, proxy_asks, proxy_completes, proxy_joins, proxy_takes}
use Rattle.pfs_track.specs.TcpPhases.{first_tcp, joined_tcp, tcp_completes, tcp_has_closed, tcp_is_half_open, tcp_step}
use Rattle.pfs_track.specs.declared.tcp_phases.TcpPhase.{TcpPhase}
use Rattle.pfs_track.specs.declared.state_phases.StatePhase.{StatePhase}
use Rattle.pfs_track.specs.declared.state_phases.StatePhase.TheVariants.{Tcp, FullTcp, Udp, Other, Proxied}

-- a connection of TCP, by whether its rule tracks fully
abbrev pub tracked : Bool → TcpPhase → StatePhase
tracked true p = FullTcp p
tracked false p = Tcp p

-- the phase of a new state, by its protocol, and by whether its rule tracks fully
abbrev pub first_phase : Bool → Proto → StatePhase
first_phase true OverTcp = FullTcp first_tcp
first_phase false OverTcp = Tcp first_tcp
first_phase full OverUdp = Udp first_datagram
first_phase full (OverOther number) = Other first_datagram

-- the phase of a new state whose SYN pf answers itself
abbrev pub proxied_phase : Bool → StatePhase
proxied_phase full = Proxied (first_proxy full)

-- the phase of a new state for the ACK that brings a SYN cookie
abbrev pub cookie_phase : Bool → StatePhase
cookie_phase full = Proxied (cookie_proxy full)

-- a proxied connection that is joined by a packet of the other peer: its SYN with ACK changes no more than that
abbrev pub joined_phase : Bool → Bool → Flags → StatePhase
joined_phase full counts flags = tracked full (if flags.syn && flags.ack then joined_tcp counts else tcp_step full (joined_tcp counts) false flags)

-- the phase after a later packet
abbrev pub phase_after : StatePhase → Bool → Flags → StatePhase
phase_after (Tcp p) forward flags = Tcp (tcp_step false p forward flags)
phase_after (FullTcp p) forward flags = FullTcp (tcp_step true p forward flags)
phase_after (Udp p) forward flags = Udp (udp_step p forward)
phase_after (Other p) forward flags = Other (udp_step p forward)
phase_after (Proxied p) forward flags =
    if proxy_joins p forward then joined_phase p.full p.counts flags else Proxied (proxy_after p forward flags)

-- the handshake completes at this packet; only TCP has one
abbrev pub completes : StatePhase → Bool → Flags → Bool
completes (Tcp p) forward flags = tcp_completes false p forward flags
completes (FullTcp p) forward flags = tcp_completes true p forward flags
completes (Proxied p) forward flags = proxy_completes p forward flags
completes _ forward flags = false

-- pf takes this packet itself: it goes no further, and the moment of the last packet stays; only where pf leads the handshakes
abbrev pub takes : StatePhase → Bool → Flags → Bool
takes (Proxied p) forward flags = proxy_takes p forward flags
takes _ forward flags = false

-- pf asks the other peer for a connection at this packet, by a SYN of its own; only where pf leads the handshakes
abbrev pub asks_peer : StatePhase → Bool → Flags → Bool
asks_peer (Proxied p) forward flags = proxy_asks p forward flags
asks_peer _ forward flags = false

-- the timeout whose value is the lifetime
abbrev pub slot : StatePhase → TimeoutName
slot (Tcp p) = p.timeout
slot (FullTcp p) = p.timeout
slot (Udp p) = udp_slot p.stage
slot (Other p) = other_slot p.stage
slot (Proxied p) = TcpFirst

-- the handshake has completed, and counts
abbrev pub is_done : StatePhase → Bool
is_done (Tcp p) = p.complete
is_done (FullTcp p) = p.complete
is_done (Proxied p) = p.complete && p.counts
is_done _ = false

-- after these packets, each with whether it goes forward
abbrev pub phase_after_all : StatePhase → List (Bool × Flags) → StatePhase
phase_after_all ph [] = ph
phase_after_all ph (p ∷ packets) = phase_after_all (phase_after ph p.0 p.1) packets

-- whatever packets come, the handshake counts at no time
abbrev pub NeverCounts : StatePhase → Type 0
NeverCounts ph = (packets : List (Bool × Flags)) → is_done (phase_after_all ph packets) ≡ false

-- the maker's half of a connection of TCP is open alone; of one whose handshakes pf leads it is not, since PROXY_SRC and PROXY_DST are
-- above all ranks (likely; pf.conf(5), OPTIONS, "set syncookies", says only: without a finished handshake)
abbrev pub is_half_open : StatePhase → Bool
is_half_open (Tcp p) = tcp_is_half_open p
is_half_open (FullTcp p) = tcp_is_half_open p
is_half_open _ = false

-- both peers have closed their connection, or it was reset; only TCP tells
abbrev pub has_closed : StatePhase → Bool
has_closed (Tcp p) = tcp_has_closed p
has_closed (FullTcp p) = tcp_has_closed p
has_closed _ = false
