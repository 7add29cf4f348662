-- What a packet meets: what is held, but where it begins a connection anew, without the state of its key.
use Rattle.std.proofs.Common.{◌≡◌, ◌∙◌, ◌&&◌, ◌||◌, not, ℕ, Bool, true, false, if◌then◌else◌, Option, Some, None, filter, refl, ap, sym}
use Rattle.std.proofs.lemmas.Bool.{and_parts, false≢true}
use Rattle.pfs_addr_values.specs.Packets.{PacketView}
use Rattle.pfs_addr_values.specs.declared.flag_sets.Flags.{Flags}
use Rattle.pfs_conf_values.specs.Configs.{Conf}
use Rattle.pfs_conf_values.specs.Profiles.{is_openbsd}
use Rattle.pfs_store_contract.specs.Calls.{other_than, world_reopened}
use Rattle.pfs_store_contract.specs.Leaving.{world_without}
use Rattle.pfs_store_contract.specs.Touching.{completes_at, goes_forward, may_reopen, reopens}
use Rattle.pfs_store_contract.specs.Worlds.{World, holds_number}
use Rattle.pfs_store_contract.specs.declared.records.State.{State}
use Rattle.pfs_track.specs.StatePhases.{completes, has_closed}
use Rattle.pfs_track.specs.TcpRanks.{ends, ends_after_ack, ends_after_packet, raised_rank}
use Rattle.pfs_track.specs.declared.state_phases.StatePhase.{StatePhase}
use Rattle.pfs_track.specs.declared.state_phases.StatePhase.TheVariants as phase
use Rattle.pfs_track.specs.declared.tcp_ranks.TcpRank.{TcpRank}
use Rattle.pfs_track.specs.declared.tcp_ranks.TcpRank.TheVariants.{Closing, SynSent, TimeWait}
use Rattle.pfs_engine_machine.specs.MachineInvariants.{IsKept}
use Rattle.pfs_engine_machine.specs.Machine.{MachineContents, held_for}
use Rattle.pfs_engine_machine.specs.Sides.{state_for}
use Rattle.pfs_engine_machine.proofs.KeptTime.{kept_left}

-- a fact of it: of what is held, and of that without some states
pub met_has : (conf : Conf) (h : MachineContents) (p : PacketView) (now : ℕ) (Q : World → Type 0) → Q h.world
    → ((stays : State → Bool) → Q (world_without conf h.world stays now)) → Q (held_for conf h p now).world
met_has conf h p now Q same left = by (state_for h.world p)
  where
    by : (found : Option State) → Q (world_reopened conf h.world p now found)
    by None = same
    by (Some s) = go (reopens conf p s)
      where
        go : (b : Bool) → Q (if b then world_without conf h.world (other_than s.number) now else h.world)
        go true = left (other_than s.number)
        go false = same

pub kept_met : (conf : Conf) (h : MachineContents) (p : PacketView) (now : ℕ) → IsKept conf h now → IsKept conf (held_for conf h p now) now
kept_met conf h p now k =
    met_has conf h p now (λ (w : World). IsKept conf (record { world = w; tables = h.tables }) now) k
    (λ stays. kept_left conf h stays (filter (holds_number (filter stays h.world.states)) h.world.pending_states) now now k)

pub made_met : (conf : Conf) (h : MachineContents) (p : PacketView) (now : ℕ) → (held_for conf h p now).world.made ≡ h.world.made
made_met conf h p now = met_has conf h p now (λ (w : World). w.made ≡ h.world.made) refl (λ stays. refl)

-- ---- a packet without ACK completes no handshake

ends_not_complete : (full forward : Bool) (flags : Flags) (s r : TcpRank) → flags.ack ≡ false → (ends_after_packet full forward flags s r).completes ≡ false
ends_not_complete full forward flags s r h =
    let syn = if full || flags.syn then raised_rank s SynSent else s in
    let fin = if flags.fin then raised_rank syn Closing else syn in
    by flags.ack flags.rst (ends_after_ack full forward fin r) (ends fin r false) (λ e. e.completes) (ends TimeWait TimeWait) (λ b. refl) h refl
  where
    by : {E : Type 0} (ack rst : Bool) (x y : E) (done : E → Bool) (closed : Bool → E) → ((b : Bool) → done (closed b) ≡ b) → ack ≡ false → done y ≡ false
        → done (if rst then closed (done (if ack then x else y)) else (if ack then x else y)) ≡ false
    by true rst x y done closed same e f = absurd (false≢true (sym e))
    by false true x y done closed same e f = same (done y) ∙ f
    by false false x y done closed same e f = f

proxy_not_complete : (done forward ack others : Bool) → ack ≡ false → (not done && forward && ack && others) ≡ false
proxy_not_complete true forward ack others h = refl
proxy_not_complete false false ack others h = refl
proxy_not_complete false true true others h = absurd (false≢true (sym h))
proxy_not_complete false true false others h = refl

not_complete : (ph : StatePhase) (forward : Bool) (flags : Flags) → flags.ack ≡ false → completes ph forward flags ≡ false
not_complete (phase.Tcp p) true flags h = ends_not_complete false true flags p.maker p.other h
not_complete (phase.Tcp p) false flags h = ends_not_complete false false flags p.other p.maker h
not_complete (phase.FullTcp p) true flags h = ends_not_complete true true flags p.maker p.other h
not_complete (phase.FullTcp p) false flags h = ends_not_complete true false flags p.other p.maker h
not_complete (phase.Udp p) forward flags h = refl
not_complete (phase.Other p) forward flags h = refl
not_complete (phase.Proxied p) forward flags h = proxy_not_complete p.complete forward flags.ack (not (flags.syn || flags.fin || flags.rst)) h

pub alone-completes : (p : PacketView) (s : State) → p.flags.ack ≡ false → completes_at p s ≡ false
alone-completes p s h = not_complete s.phase (goes_forward p s) p.flags h

-- so one that may begin a connection anew completes none
pub anew-completes : (conf : Conf) (p : PacketView) (s : State) → may_reopen conf p ≡ true → completes_at p s ≡ false
anew-completes conf p s h =
    let flags = (and_parts (is_openbsd conf.profile) (p.flags.syn && not p.flags.ack) h).1 in
    alone-completes p s (unset p.flags.ack (and_parts p.flags.syn (not p.flags.ack) flags).1)
  where
    unset : (b : Bool) → not b ≡ true → b ≡ false
    unset true e = absurd (false≢true e)
    unset false e = refl

-- ---- what is met where no connection is begun anew

unless_closed : (conf : Conf) (w : World) (p : PacketView) (now : ℕ) (found : Option State) → may_reopen conf p ≡ false → world_reopened conf w p now found ≡ w
unless_closed conf w p now None h = refl
unless_closed conf w p now (Some s) h =
    ap (λ b. if b && has_closed s.phase then world_without conf w (other_than s.number) now else w) h

pub met_same : (conf : Conf) (h : MachineContents) (p : PacketView) (now : ℕ) → may_reopen conf p ≡ false → held_for conf h p now ≡ h
met_same conf h p now e = ap (λ (w : World). record { world = w; tables = h.tables }) (unless_closed conf h.world p now (state_for h.world p) e)

-- a packet that completes a handshake meets what is held
pub completing_meets : (conf : Conf) (h : MachineContents) (p : PacketView) (now : ℕ) (s : State) → completes_at p s ≡ true → held_for conf h p now ≡ h
completing_meets conf h p now s done = met_same conf h p now (by (may_reopen conf p) refl)
  where
    by : (b : Bool) → may_reopen conf p ≡ b → b ≡ false
    by true e = absurd (false≢true (sym (anew-completes conf p s e) ∙ done))
    by false e = refl
