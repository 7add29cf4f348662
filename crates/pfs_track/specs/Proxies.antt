-- Phases of TCP connections whose handshakes pf leads itself. (pf.conf(5), STATEFUL FILTERING, "synproxy state"; certain)
use Rattle.std.specs.Prelude.{Bool, true, false, not, ◌&&◌, ◌||◌}
use Rattle.pfs_addr_values.specs.declared.flag_sets.Flags.{Flags}
use Rattle.pfs_track.specs.declared.proxies.ProxyPhase.{ProxyPhase}

-- the maker is at PROXY_SRC: pf has answered its SYN
abbrev pub first_proxy : Bool → ProxyPhase
first_proxy full = record { complete = false; counts = true; full = full }

-- the maker is at PROXY_DST: its ACK has brought a SYN cookie of pf, and such a handshake never counts
-- (pf.conf(5), OPTIONS, "set syncookies"; likely)
abbrev pub cookie_proxy : Bool → ProxyPhase
cookie_proxy full = record { complete = true; counts = false; full = full }

-- the maker's ACK, with none of SYN, FIN and RST, completes its handshake with pf: it is at PROXY_DST from then on
abbrev pub proxy_completes : ProxyPhase → Bool → Flags → Bool
proxy_completes p forward flags = not p.complete && forward && flags.ack && not (flags.syn || flags.fin || flags.rst)

-- at PROXY_DST by that ACK, which counts
abbrev pub proxy_after : ProxyPhase → Bool → Flags → ProxyPhase
proxy_after p forward flags = record p {
  complete = p.complete || proxy_completes p forward flags;
  counts = p.counts || proxy_completes p forward flags;
}

-- pf takes these packets itself, so that they go no further: at PROXY_SRC all; at PROXY_DST the maker's, and the other peer's SYN
-- with ACK, which answers pf's own SYN
abbrev pub proxy_takes : ProxyPhase → Bool → Flags → Bool
proxy_takes p forward flags = not p.complete || forward || flags.syn && flags.ack

-- at a packet of the maker pf asks the other peer for a connection, by a SYN of its own: at the one that completes the maker's
-- handshake, and again at each one at PROXY_DST
abbrev pub proxy_asks : ProxyPhase → Bool → Flags → Bool
proxy_asks p forward flags = forward && (p.complete || proxy_completes p forward flags)

-- a packet of the other peer joins both handshakes: both peers are at ESTABLISHED
abbrev pub proxy_joins : ProxyPhase → Bool → Bool
proxy_joins p forward = p.complete && not forward
