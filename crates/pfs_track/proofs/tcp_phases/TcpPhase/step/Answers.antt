-- Answers of TcpPhase::step: a complete phase has both peers established; it is as defined (`phase`).
use Rattle.std.proofs.Common.{◌≡◌, ◌∙◌, Bool, true, ◌||◌, ap, subst, sym}
use Rattle.std.proofs.Props.{props}
use Rattle.pfs_addr_values.specs.declared.flag_sets.Flags.{Flags}
use Rattle.pfs_conf_values.specs.declared.timeouts.TimeoutName.{TimeoutName}
use Rattle.pfs_track.proofs.tcp_phases.TcpPhase.step.Goals as goal
use Rattle.pfs_track.specs.TcpEstablished.{peers_established}
use Rattle.pfs_track.specs.TcpPhases.{tcp_peers, tcp_step}
use Rattle.pfs_track.specs.TcpRanks.{IsEstablished, tcp_timeout}
use Rattle.pfs_track.specs.declared.tcp_phases.TcpPhase.{TcpPhase}
use Rattle.pfs_track.specs.declared.tcp_ranks.Peers.{Peers}

-- what a phase of these peers has to show
abbrev IsShown : Bool → Peers → Type 0
IsShown complete after = (complete || after.completes) ≡ true → IsEstablished after.maker × IsEstablished after.other

-- the phase of these peers
abbrev phase_of : (complete : Bool) (after : Peers) (name : TimeoutName) → IsShown complete after → TcpPhase
phase_of complete after name shown =
    record { maker = after.maker; other = after.other; timeout = name; complete = complete || after.completes; established = shown }

-- a phase is the same whatever its proof is
same_phase : (complete : Bool) (after : Peers) (name : TimeoutName) (a b : IsShown complete after)
    → phase_of complete after name a ≡ phase_of complete after name b
same_phase complete after name a b =
    let one : IsProp (IsShown complete after) = hlevel props in
    ap (λ h. phase_of complete after name h) (one a b)

same_step : (full : Bool) (p : TcpPhase) (forward : Bool) (flags : Flags) (after : Peers) (name : TimeoutName)
    → after ≡ tcp_peers full p forward flags → name ≡ tcp_timeout after.maker after.other
    → (shown : IsShown p.complete after) → phase_of p.complete after name shown ≡ tcp_step full p forward flags
same_step full p forward flags after name e n shown =
    let P : Peers → Type 0 = λ r.
    (h : IsShown p.complete r) → phase_of p.complete r (tcp_timeout r.maker r.other) h ≡ tcp_step full p forward flags in
    let base : P (tcp_peers full p forward flags) = λ h. same_phase p.complete (tcp_peers full p forward flags) _ h _ in
    let named : phase_of p.complete after name shown ≡ phase_of p.complete after (tcp_timeout after.maker after.other) shown =
    ap (λ t. phase_of p.complete after t shown) n in
    named ∙ subst P (sym e) base shown

pub invariant_of-phase : goal.invariant_of-phase
invariant_of-phase c =
    let a = c.args in
    record { established = rw c.meet-after.ensures (peers_established a.full a.self.complete a.forward a.flags a.self.maker a.self.other a.self.established) }

pub returns-clause-phase : goal.returns-clause-phase
returns-clause-phase c = same_step c.args.full c.args.self c.args.forward c.args.flags c.meet-after.result c.timeout_of.result c.meet-after.ensures c.timeout_of.ensures _
