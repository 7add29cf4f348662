-- What each step of a phase keeps: no rank falls, and a handshake completes once. (not promised)
use Rattle.std.specs.Prelude.{Bool, true, false, ◌≡◌, ◌≤◌, ◌||◌, refl, ℕ}
use Rattle.std.proofs.Common.{lit≤}
use Rattle.std.proofs.lemmas.Bool.{false≢true}
use Rattle.pfs_addr_values.specs.declared.flag_sets.Flags.{Flags}
use Rattle.pfs_track.specs.TcpRanks.{rank_number}
use Rattle.pfs_track.specs.TcpPhases.{tcp_peers, tcp_step, tcp_completes}
use Rattle.pfs_track.specs.Datagrams.{once_sent, once_answered, udp_step}
use Rattle.pfs_track.specs.declared.tcp_phases.TcpPhase.{TcpPhase}
use Rattle.pfs_track.specs.declared.datagrams.DatagramPhase.{DatagramPhase}
use Rattle.pfs_track.specs.declared.datagrams.Traffic.{Traffic}
use Rattle.pfs_track.specs.declared.datagrams.Traffic.TheVariants.{Silent, Single, Multiple}
use Rattle.pfs_track.specs.TcpLaws.{peers-rise, peers-complete}

-- ---- TCP

-- what a complete phase shows, and what cannot be shown where the handshake completes, leave only phases that are not
-- complete
once : {P : Type 0} (complete now : Bool) → (complete ≡ true → P) → (P → ⊥) → now ≡ true
    → (complete ≡ false) × ((complete || now) ≡ true)
once true now shown never h = absurd (never (shown refl))
once false now shown never h = (refl, h)

-- no packet lowers the rank of the maker, nor of the other
pub tcp_step-maker : (full : Bool) (p : TcpPhase) (forward : Bool) (flags : Flags) → rank_number p.maker ≤ rank_number (tcp_step full p forward flags).maker
tcp_step-maker full p forward flags = (peers-rise full forward flags p.maker p.other).first

pub tcp_step-other : (full : Bool) (p : TcpPhase) (forward : Bool) (flags : Flags) → rank_number p.other ≤ rank_number (tcp_step full p forward flags).other
tcp_step-other full p forward flags = (peers-rise full forward flags p.maker p.other).second

-- a handshake completes only where it has not, since both ranks would be at ESTABLISHED; and then it has
pub tcp_completes-once : (full : Bool) (p : TcpPhase) (forward : Bool) (flags : Flags) → tcp_completes full p forward flags ≡ true
    → (p.complete ≡ false) × ((tcp_step full p forward flags).complete ≡ true)
tcp_completes-once full p forward flags h = once p.complete (tcp_peers full p forward flags).completes p.established (peers-complete full forward flags p.maker p.other h).first h

-- what was complete is complete
stays : (complete now : Bool) → complete ≡ true → (complete || now) ≡ true
stays true now h = refl
stays false now h = absurd (false≢true h)

-- a handshake that has completed stays so
pub tcp_step-complete : (full : Bool) (p : TcpPhase) (forward : Bool) (flags : Flags) → p.complete ≡ true → (tcp_step full p forward flags).complete ≡ true
tcp_step-complete full p forward flags h = stays p.complete (tcp_peers full p forward flags).completes h

-- ---- the other protocols

-- the ranks of a peer without a handshake, in their order (own)
abbrev pub traffic_number : Traffic → ℕ
traffic_number Silent = 0
traffic_number Single = 1
traffic_number Multiple = 2

-- neither act lowers what was seen of a peer
once_sent-rises : (t : Traffic) → traffic_number t ≤ traffic_number (once_sent t)
once_sent-rises Silent = lit≤ tt
once_sent-rises Single = lit≤ tt
once_sent-rises Multiple = lit≤ tt

once_answered-rises : (t : Traffic) → traffic_number t ≤ traffic_number (once_answered t)
once_answered-rises Silent = lit≤ tt
once_answered-rises Single = lit≤ tt
once_answered-rises Multiple = lit≤ tt

-- no packet lowers what was seen of the maker, nor of the other
pub udp_step-maker : (p : DatagramPhase) (forward : Bool) → traffic_number p.maker ≤ traffic_number (udp_step p forward).maker
udp_step-maker p true = once_sent-rises p.maker
udp_step-maker p false = once_answered-rises p.maker

pub udp_step-other : (p : DatagramPhase) (forward : Bool) → traffic_number p.other ≤ traffic_number (udp_step p forward).other
udp_step-other p true = once_answered-rises p.other
udp_step-other p false = once_sent-rises p.other
