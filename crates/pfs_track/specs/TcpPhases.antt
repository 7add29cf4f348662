-- Phases of TCP: the ranks of both peers, their timeout, and whether the handshake has completed.
use Rattle.std.specs.Prelude.{Bool, false, ◌&&◌, ◌||◌}
use Rattle.std.proofs.Common.{lit≤}
use Rattle.std.proofs.lemmas.Bool.{false≢true}
use Rattle.pfs_addr_values.specs.declared.flag_sets.Flags.{Flags}
use Rattle.pfs_conf_values.specs.declared.timeouts.TimeoutName.TheVariants.{TcpFirst}
use Rattle.pfs_track.specs.TcpEstablished.{peers_established}
use Rattle.pfs_track.specs.TcpRanks.{both_reach, is_below, peers_after, tcp_timeout}
use Rattle.pfs_track.specs.declared.tcp_phases.TcpPhase.{TcpPhase}
use Rattle.pfs_track.specs.declared.tcp_ranks.Peers.{Peers}
use Rattle.pfs_track.specs.declared.tcp_ranks.TcpRank.TheVariants.{SynSent, Closed, Established, FinWait2}

-- a new connection: the maker at SYN_SENT, the other at CLOSED, whatever the flags of its packet (own)
abbrev pub first_tcp : TcpPhase
first_tcp = record { maker = SynSent; other = Closed; timeout = TcpFirst; complete = false; established = λ h. absurd (false≢true h) }

-- a connection both of whose handshakes pf has led: both peers at ESTABLISHED, and still the timeout of its SYN (certain); where its
-- handshake does not count, it is as if it had not completed
abbrev pub joined_tcp : Bool → TcpPhase
joined_tcp counts = record { maker = Established; other = Established; timeout = TcpFirst; complete = counts; established = λ h. (lit≤ tt, lit≤ tt) }

-- the ranks after a later packet, by whether the state is tracked fully
abbrev pub tcp_peers : Bool → TcpPhase → Bool → Flags → Peers
tcp_peers full p forward flags = peers_after full forward flags p.maker p.other

-- the phase after a later packet: the ranks, their timeout, and whether the handshake has completed, now or before
abbrev pub tcp_step : Bool → TcpPhase → Bool → Flags → TcpPhase
tcp_step full p forward flags =
    let after = tcp_peers full p forward flags in
    record {
      maker = after.maker;
      other = after.other;
      timeout = tcp_timeout after.maker after.other;
      complete = p.complete || after.completes;
      established = peers_established full p.complete forward flags p.maker p.other p.established;
    }

-- the handshake completes at this packet
abbrev pub tcp_completes : Bool → TcpPhase → Bool → Flags → Bool
tcp_completes full p forward flags = (tcp_peers full p forward flags).completes

-- the maker is above CLOSED and below ESTABLISHED
abbrev pub tcp_is_half_open : TcpPhase → Bool
tcp_is_half_open p = is_below Closed p.maker && is_below p.maker Established

-- both peers are at FIN_WAIT_2 or above
abbrev pub tcp_has_closed : TcpPhase → Bool
tcp_has_closed p = both_reach FinWait2 p.maker p.other
