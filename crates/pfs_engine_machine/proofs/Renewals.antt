-- What a packet changes of its state: the phase, which stays one of its protocol, and the moment.
use Rattle.std.proofs.Common.{◌≡◌, ◌||◌, ◌&&◌, ◌==◌, ℕ, Bool, true, false, if◌then◌else◌, refl, ap, ◌∙◌}
use Rattle.std.proofs.Math.Bool.{or-false}
use Rattle.pfs_addr_values.specs.Packets.{PacketView}
use Rattle.pfs_addr_values.specs.declared.flag_sets.Flags.{Flags}
use Rattle.pfs_addr_values.specs.declared.protocols.Proto.{Proto}
use Rattle.pfs_addr_values.specs.declared.protocols.Proto.TheVariants as proto
use Rattle.pfs_store_contract.specs.Touching.{goes_forward, numbered_state_after, state_after_packet}
use Rattle.pfs_store_contract.specs.declared.records.State.{State}
use Rattle.pfs_track.proofs.DoneLaws.{done-after}
use Rattle.pfs_track.specs.Proxies.{proxy_after, proxy_joins}
use Rattle.pfs_track.specs.StatePhases.{completes, is_done, joined_phase, phase_after, tracked}
use Rattle.pfs_track.specs.TcpPhases.{joined_tcp, tcp_step}
use Rattle.pfs_track.specs.declared.proxies.ProxyPhase.{ProxyPhase}
use Rattle.pfs_track.specs.declared.tcp_phases.TcpPhase.{TcpPhase}
use Rattle.pfs_track.specs.declared.state_phases.StatePhase.{StatePhase}
use Rattle.pfs_track.specs.declared.state_phases.StatePhase.TheVariants as phase
use Rattle.pfs_engine_machine.specs.MachineInvariants.{IsPhaseOf, HasPhase}
use Rattle.pfs_engine_machine.specs.Refusals.{is_tcp}
use Rattle.pfs_store_contract.specs.Worlds.{inner_key}

-- ---- phases

-- where no handshake completes, as many have completed as before
pub is_done-same : (ph : StatePhase) (forward : Bool) (flags : Flags) → completes ph forward flags ≡ false
    → is_done (phase_after ph forward flags) ≡ is_done ph
is_done-same ph forward flags e = done-after ph forward flags ∙ ap (λ b. is_done ph || b) e ∙ or-false (is_done ph)

IsPhaseOf-tracked : (full : Bool) (p : TcpPhase) → IsPhaseOf proto.Tcp (tracked full p)
IsPhaseOf-tracked true p = tt
IsPhaseOf-tracked false p = tt

IsPhaseOf-proxied : (p : ProxyPhase) (forward : Bool) (flags : Flags) → IsPhaseOf proto.Tcp (phase_after (phase.Proxied p) forward flags)
IsPhaseOf-proxied p forward flags = by (proxy_joins p forward)
  where
    by : (b : Bool) → IsPhaseOf proto.Tcp (if b then joined_phase p.full p.counts flags else phase.Proxied (proxy_after p forward flags))
    by true = IsPhaseOf-tracked p.full (if flags.syn && flags.ack then joined_tcp p.counts else tcp_step p.full (joined_tcp p.counts) false flags)
    by false = tt

pub IsPhaseOf-after : (protocol : Proto) (ph : StatePhase) (forward : Bool) (flags : Flags) → IsPhaseOf protocol ph
    → IsPhaseOf protocol (phase_after ph forward flags)
IsPhaseOf-after proto.Tcp (phase.Tcp p) forward flags h = tt
IsPhaseOf-after proto.Tcp (phase.FullTcp p) forward flags h = tt
IsPhaseOf-after proto.Tcp (phase.Udp p) forward flags h = h
IsPhaseOf-after proto.Tcp (phase.Other p) forward flags h = h
IsPhaseOf-after proto.Tcp (phase.Proxied p) forward flags h = IsPhaseOf-proxied p forward flags
IsPhaseOf-after proto.Udp (phase.Tcp p) forward flags h = h
IsPhaseOf-after proto.Udp (phase.FullTcp p) forward flags h = h
IsPhaseOf-after proto.Udp (phase.Udp p) forward flags h = tt
IsPhaseOf-after proto.Udp (phase.Other p) forward flags h = tt
IsPhaseOf-after proto.Udp (phase.Proxied p) forward flags h = absurd h
IsPhaseOf-after (proto.Other n) (phase.Tcp p) forward flags h = h
IsPhaseOf-after (proto.Other n) (phase.FullTcp p) forward flags h = h
IsPhaseOf-after (proto.Other n) (phase.Udp p) forward flags h = tt
IsPhaseOf-after (proto.Other n) (phase.Other p) forward flags h = tt
IsPhaseOf-after (proto.Other n) (phase.Proxied p) forward flags h = absurd h

-- only TCP completes
pub is_tcp-completes : (protocol : Proto) (ph : StatePhase) (forward : Bool) (flags : Flags) → IsPhaseOf protocol ph
    → completes ph forward flags ≡ true → is_tcp protocol ≡ true
is_tcp-completes proto.Tcp ph forward flags h e = refl
is_tcp-completes proto.Udp (phase.Tcp p) forward flags h e = absurd h
is_tcp-completes proto.Udp (phase.FullTcp p) forward flags h e = absurd h
is_tcp-completes proto.Udp (phase.Udp p) forward flags h e = cc
is_tcp-completes proto.Udp (phase.Other p) forward flags h e = cc
is_tcp-completes proto.Udp (phase.Proxied p) forward flags h e = absurd h
is_tcp-completes (proto.Other n) (phase.Tcp p) forward flags h e = absurd h
is_tcp-completes (proto.Other n) (phase.FullTcp p) forward flags h e = absurd h
is_tcp-completes (proto.Other n) (phase.Udp p) forward flags h e = cc
is_tcp-completes (proto.Other n) (phase.Other p) forward flags h e = cc
is_tcp-completes (proto.Other n) (phase.Proxied p) forward flags h e = absurd h

-- ---- the state of a number

-- what a packet leaves of its state
pub record IsSameState (before after : State) : Type 0 where
  pub number : after.number ≡ before.number
  pub key : after.key ≡ before.key
  pub inner : after.inner ≡ before.inner
  pub dir : after.dir ≡ before.dir
  pub source : after.source ≡ before.source
  pub rule : after.rule ≡ before.rule

pub renewed-same : (number : ℕ) (p : PacketView) (now : ℕ) (s : State) → IsSameState s (numbered_state_after number p now s)
renewed-same number p now s = go (s.number == number)
  where
    go : (b : Bool) → IsSameState s (if b then state_after_packet p now s else s)
    go true = record { number = refl; key = refl; inner = refl; dir = refl; source = refl; rule = refl }
    go false = record { number = refl; key = refl; inner = refl; dir = refl; source = refl; rule = refl }

pub renewed-phase : (number : ℕ) (p : PacketView) (now : ℕ) (s : State) → HasPhase s → HasPhase (numbered_state_after number p now s)
renewed-phase number p now s h = go (s.number == number)
  where
    go : (b : Bool) → HasPhase (if b then state_after_packet p now s else s)
    go true = (IsPhaseOf-after s.key.proto s.phase (goes_forward p s) p.flags h.0, IsPhaseOf-after (inner_key s).proto s.phase (goes_forward p s) p.flags h.1)
    go false = h
