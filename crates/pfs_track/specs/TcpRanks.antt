-- The ranks of a TCP peer, what the flags of a packet make of them, and which timeout two ranks have.
use Rattle.std.specs.Prelude.{ℕ, Bool, true, false, not, if◌then◌else◌, ◌==◌, ◌&&◌, ◌||◌, ◌≤◌, nat_lt}
use Rattle.pfs_addr_values.specs.declared.flag_sets.Flags.{Flags}
use Rattle.pfs_conf_values.specs.declared.timeouts.TimeoutName.{TimeoutName}
use Rattle.pfs_conf_values.specs.declared.timeouts.TimeoutName.TheVariants.{TcpOpening, TcpEstablished, TcpClosing, TcpFinwait, TcpClosed}
use Rattle.pfs_track.specs.declared.tcp_ranks.RanksAfter.{RanksAfter}
use Rattle.pfs_track.specs.declared.tcp_ranks.Peers.{Peers}
use Rattle.pfs_track.specs.declared.tcp_ranks.TcpRank.{TcpRank}
use Rattle.pfs_track.specs.declared.tcp_ranks.TcpRank.TheVariants.{Closed, Listen, SynSent, SynReceived, Established, CloseWait, FinWait1, Closing, LastAck, FinWait2, TimeWait}

-- the ranks of a peer, in their order (the states of RFC 9293, 3.3.2; the order is own)
abbrev pub rank_number : TcpRank → ℕ
rank_number Closed = 0
rank_number Listen = 1
rank_number SynSent = 2
rank_number SynReceived = 3
rank_number Established = 4
rank_number CloseWait = 5
rank_number FinWait1 = 6
rank_number Closing = 7
rank_number LastAck = 8
rank_number FinWait2 = 9
rank_number TimeWait = 10

-- a rank is that one, or below another
abbrev pub is_rank : TcpRank → TcpRank → Bool
is_rank rank one = rank_number rank == rank_number one

abbrev pub is_below : TcpRank → TcpRank → Bool
is_below rank limit = nat_lt (rank_number rank) (rank_number limit)

-- a rank that is below another becomes that one
abbrev pub raised_rank : TcpRank → TcpRank → TcpRank
raised_rank rank least = if is_below rank least then least else rank

-- a rank is at least ESTABLISHED
abbrev pub IsEstablished : TcpRank → Type 0
IsEstablished rank = rank_number Established ≤ rank_number rank

-- the ranks of a packet's sender and receiver after it, and whether the handshake completes at it
abbrev pub ends : TcpRank → TcpRank → Bool → RanksAfter
ends sender receiver completes = record { sender = sender; receiver = receiver; completes = completes }

-- ACK of a state that is tracked fully, by the first line that applies (certain):
--   a receiver at SYN_SENT becomes ESTABLISHED, and if the sender is at ESTABLISHED, the handshake completes;
--   a receiver at CLOSING becomes FIN_WAIT_2
-- ACK of another, by the first line that applies:
--   a receiver at SYN_SENT becomes ESTABLISHED, and if the sender is at ESTABLISHED, the handshake completes;
--   a receiver at CLOSING becomes FIN_WAIT_2;
--   where the sender is at SYN_SENT and the receiver below it, so that one half is seen alone, both become ESTABLISHED,
--     and the handshake completes;
--   where the sender is at CLOSING, the receiver at ESTABLISHED and the packet goes forward, the receiver becomes CLOSING
abbrev pub ends_after_ack : Bool → Bool → TcpRank → TcpRank → RanksAfter
ends_after_ack true forward s r =
    if is_rank r SynSent then ends s Established (is_rank s Established)
    else (if is_rank r Closing then ends s FinWait2 false
    else ends s r false)
ends_after_ack false forward s r =
    if is_rank r SynSent then ends s Established (is_rank s Established)
    else (if is_rank r Closing then ends s FinWait2 false
    else (if is_rank s SynSent && is_below r SynSent then ends Established Established true
    else (if is_rank s Closing && is_rank r Established && forward then ends s Closing false
    else ends s r false)))

-- what a packet makes of the ranks of its sender and its receiver, by whether its state is tracked fully: SYN, or fully any packet,
-- raises the sender to SYN_SENT, then FIN raises it to CLOSING; then ACK acts; RST makes both TIME_WAIT, and a handshake that the
-- same packet's ACK completes stays complete (own but for what is tracked fully)
abbrev pub ends_after_packet : Bool → Bool → Flags → TcpRank → TcpRank → RanksAfter
ends_after_packet full forward flags s r =
    let syn = if full || flags.syn then raised_rank s SynSent else s in
    let fin = if flags.fin then raised_rank syn Closing else syn in
    let e = if flags.ack then ends_after_ack full forward fin r else ends fin r false in
    if flags.rst then ends TimeWait TimeWait e.completes else e

-- what it makes of the ranks of the maker and the other peer: the maker is the sender of a packet that goes forward
abbrev pub peers_after : Bool → Bool → Flags → TcpRank → TcpRank → Peers
peers_after full true flags maker other =
    let e = ends_after_packet full true flags maker other in record { maker = e.sender; other = e.receiver; completes = e.completes }
peers_after full false flags maker other =
    let e = ends_after_packet full false flags other maker in record { maker = e.receiver; other = e.sender; completes = e.completes }

-- both peers are at least at a rank, or one of them is
abbrev pub both_reach : TcpRank → TcpRank → TcpRank → Bool
both_reach rank a b = not (is_below a rank) && not (is_below b rank)

abbrev pub one_reaches : TcpRank → TcpRank → TcpRank → Bool
one_reaches rank a b = not (is_below a rank) || not (is_below b rank)

-- the timeout after a later packet, by the first line that applies (pf.conf(5), OPTIONS, "set timeout"; the ranks are own):
--   both at least at FIN_WAIT_2: tcp.closed; both at least at CLOSING: tcp.finwait; one below ESTABLISHED: tcp.opening;
--   one at least at CLOSING: tcp.closing; else tcp.established
abbrev pub tcp_timeout : TcpRank → TcpRank → TimeoutName
tcp_timeout a b =
    if both_reach FinWait2 a b then TcpClosed
    else (if both_reach Closing a b then TcpFinwait
    else (if not (both_reach Established a b) then TcpOpening
    else (if one_reaches Closing a b then TcpClosing
    else TcpEstablished)))
