-- When a handshake has completed, and counts: from the packet at which it completes on; of a SYN cookie never.
use Rattle.std.proofs.Common.{◌≡◌, ◌∙◌, ◌&&◌, ◌||◌, Bool, true, false, if◌then◌else◌, List, [], ◌∷◌, refl, sym, ap, arith, lit≤}
use Rattle.std.proofs.Math.Bool.{or-false}
use Rattle.std.proofs.lemmas.Bool.{false≢true}
use Rattle.pfs_addr_values.specs.declared.flag_sets.Flags.{Flags}
use Rattle.pfs_track.specs.PhaseLaws.{tcp_completes-once}
use Rattle.pfs_track.specs.Proxies.{proxy_completes}
use Rattle.pfs_track.specs.StatePhases.{NeverCounts, completes, cookie_phase, is_done, joined_phase, phase_after, phase_after_all, tracked}
use Rattle.pfs_track.specs.TcpLaws.{peers-complete, peers-rise}
use Rattle.pfs_track.specs.TcpPhases.{joined_tcp, tcp_completes, tcp_step}
use Rattle.pfs_track.specs.TcpRanks.{IsEstablished}
use Rattle.pfs_track.specs.declared.proxies.ProxyPhase.{ProxyPhase}
use Rattle.pfs_track.specs.declared.state_phases.StatePhase.{StatePhase}
use Rattle.pfs_track.specs.declared.state_phases.StatePhase.TheVariants.{Tcp, FullTcp, Udp, Other, Proxied}
use Rattle.pfs_track.specs.declared.tcp_phases.TcpPhase.{TcpPhase}

never : (b : Bool) → (b ≡ true → ⊥) → b ≡ false
never true h = absurd (h refl)
never false h = refl

-- where both peers are at ESTABLISHED, no handshake completes
settled : (full : Bool) (p : TcpPhase) (forward : Bool) (flags : Flags) → IsEstablished p.maker → IsEstablished p.other → tcp_completes full p forward flags ≡ false
settled full p forward flags maker other =
    never (tcp_completes full p forward flags) (λ h. (peers-complete full forward flags p.maker p.other h).first (maker, other))

tracked-done : (full : Bool) (p : TcpPhase) → is_done (tracked full p) ≡ p.complete
tracked-done true p = refl
tracked-done false p = refl

answered-done : (full counts : Bool) (flags : Flags) → (tcp_step full (joined_tcp counts) false flags).complete ≡ counts
answered-done full counts flags =
    ap (λ b. counts || b) (settled full (joined_tcp counts) false flags (lit≤ tt) (lit≤ tt)) ∙ or-false counts

-- a connection that the other peer joins is as it was
pub joined-done : (full counts : Bool) (flags : Flags) → is_done (joined_phase full counts flags) ≡ counts
joined-done full counts flags = by (flags.syn && flags.ack)
  where
    by : (b : Bool) → is_done (tracked full (if b then joined_tcp counts else tcp_step full (joined_tcp counts) false flags)) ≡ counts
    by true = tracked-done full (joined_tcp counts)
    by false = tracked-done full (tcp_step full (joined_tcp counts) false flags) ∙ answered-done full counts flags

both_now : (counts now : Bool) → (now && (counts || now)) ≡ now
both_now counts false = refl
both_now true true = refl
both_now false true = refl

abbrev proxy : Bool → Bool → Bool → ProxyPhase
proxy complete counts full = record { complete = complete; counts = counts; full = full }

abbrev IsDoneAfter : StatePhase → Bool → Flags → Type 0
IsDoneAfter ph forward flags = is_done (phase_after ph forward flags) ≡ (is_done ph || completes ph forward flags)

proxied-after : (complete counts full forward : Bool) (flags : Flags) → IsDoneAfter (Proxied (proxy complete counts full)) forward flags
proxied-after true counts full true flags = refl
proxied-after true counts full false flags = joined-done full counts flags ∙ sym (or-false counts)
proxied-after false counts full forward flags = both_now counts (proxy_completes (proxy false counts full) forward flags)

-- it has completed after a packet where it had before, or completes at it
pub done-after : (ph : StatePhase) (forward : Bool) (flags : Flags) → is_done (phase_after ph forward flags) ≡ (is_done ph || completes ph forward flags)
done-after (Tcp p) forward flags = refl
done-after (FullTcp p) forward flags = refl
done-after (Udp p) forward flags = refl
done-after (Other p) forward flags = refl
done-after (Proxied p) forward flags = proxied-after p.complete p.counts p.full forward flags

proxied-once : (complete counts full forward : Bool) (flags : Flags) → completes (Proxied (proxy complete counts full)) forward flags ≡ true
    → is_done (Proxied (proxy complete counts full)) ≡ false
proxied-once true counts full forward flags h = absurd (false≢true h)
proxied-once false counts full forward flags h = refl

-- it completes only where it had not
pub done-once : (ph : StatePhase) (forward : Bool) (flags : Flags) → completes ph forward flags ≡ true → is_done ph ≡ false
done-once (Tcp p) forward flags h = (tcp_completes-once false p forward flags h).0
done-once (FullTcp p) forward flags h = (tcp_completes-once true p forward flags h).0
done-once (Udp p) forward flags h = refl
done-once (Other p) forward flags h = refl
done-once (Proxied p) forward flags h = proxied-once p.complete p.counts p.full forward flags h

-- ---- a SYN cookie

-- the peers of a connection of TCP are at ESTABLISHED without a handshake that counts
abbrev IsOpened : TcpPhase → Type 0
IsOpened p = (p.complete ≡ false) × IsEstablished p.maker × IsEstablished p.other

abbrev IsUncounted : StatePhase → Type 0
IsUncounted (Tcp p) = IsOpened p
IsUncounted (FullTcp p) = IsOpened p
IsUncounted (Proxied p) = (p.complete ≡ true) × (p.counts ≡ false)
IsUncounted _ = ⊥

opened-after : (full : Bool) (p : TcpPhase) (forward : Bool) (flags : Flags) → IsOpened p → IsOpened (tcp_step full p forward flags)
opened-after full p forward flags h =
    let rise = peers-rise full forward flags p.maker p.other in
    ((λ i. h.0 i || settled full p forward flags h.1 h.2 i), omega (arith, h.1, rise.first), omega (arith, h.2, rise.second))

tracked-uncounted : (full : Bool) (p : TcpPhase) → IsOpened p → IsUncounted (tracked full p)
tracked-uncounted true p h = h
tracked-uncounted false p h = h

joined-uncounted : (full : Bool) (flags : Flags) → IsUncounted (joined_phase full false flags)
joined-uncounted full flags = by (flags.syn && flags.ack)
  where
    by : (b : Bool) → IsUncounted (tracked full (if b then joined_tcp false else tcp_step full (joined_tcp false) false flags))
    by true = tracked-uncounted full (joined_tcp false) (refl, lit≤ tt, lit≤ tt)
    by false = tracked-uncounted full (tcp_step full (joined_tcp false) false flags) (opened-after full (joined_tcp false) false flags (refl, lit≤ tt, lit≤ tt))

proxied-uncounted : (complete counts full forward : Bool) (flags : Flags) → complete ≡ true → counts ≡ false
    → IsUncounted (phase_after (Proxied (proxy complete counts full)) forward flags)
proxied-uncounted false counts full forward flags c k = absurd (cc c)
proxied-uncounted true true full forward flags c k = absurd (cc k)
proxied-uncounted true false full true flags c k = (refl, refl)
proxied-uncounted true false full false flags c k = joined-uncounted full flags

uncounted-after : (ph : StatePhase) (forward : Bool) (flags : Flags) → IsUncounted ph → IsUncounted (phase_after ph forward flags)
uncounted-after (Tcp p) forward flags h = opened-after false p forward flags h
uncounted-after (FullTcp p) forward flags h = opened-after true p forward flags h
uncounted-after (Udp p) forward flags h = absurd h
uncounted-after (Other p) forward flags h = absurd h
uncounted-after (Proxied p) forward flags h = proxied-uncounted p.complete p.counts p.full forward flags h.0 h.1

uncounted-done : (ph : StatePhase) → IsUncounted ph → is_done ph ≡ false
uncounted-done (Tcp p) h = h.0
uncounted-done (FullTcp p) h = h.0
uncounted-done (Udp p) h = refl
uncounted-done (Other p) h = refl
uncounted-done (Proxied p) h = λ i. h.0 i && h.1 i

uncounted-never : (packets : List (Bool × Flags)) (ph : StatePhase) → IsUncounted ph → is_done (phase_after_all ph packets) ≡ false
uncounted-never [] ph h = uncounted-done ph h
uncounted-never (p ∷ packets) ph h = uncounted-never packets (phase_after ph p.0 p.1) (uncounted-after ph p.0 p.1 h)

-- its handshake counts after no packets
pub cookie-never : (full : Bool) → NeverCounts (cookie_phase full)
cookie-never full packets = uncounted-never packets (cookie_phase full) (refl, refl)
