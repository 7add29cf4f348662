-- The connections of a source after a packet of one of its states, and after states are killed for it.
use Rattle.std.proofs.Common.{◌≡◌, ◌≤◌, ◌==◌, ◌&&◌, ◌||◌, ◌⊎◌, inl, inr, not, ℕ, Bool, true, false, if◌then◌else◌, Option, None, Some, List, All, filter, map, refl, ap, sym, ◌∙◌, arith, subst, eq-eqb}
use Rattle.std.proofs.lemmas.Bool.{and_parts, and_right, eqb-true, false≢true, ltb-false}
use Rattle.std.proofs.lemmas.List.Elements.{All-weaker}
use Rattle.pfs_addr_values.proofs.SameLaws.{same_addr_true}
use Rattle.pfs_addr_values.specs.Packets.{PacketView}
use Rattle.pfs_addr_values.specs.Sameness.{same_addr}
use Rattle.pfs_addr_values.specs.declared.addresses.Addr.{Addr}
use Rattle.pfs_conf_values.specs.Configs.{Conf, options_of, scope_of}
use Rattle.pfs_conf_values.specs.declared.actions.Scope.{Scope}
use Rattle.pfs_store_contract.specs.Counts.{node_scope_of, exceeds_maximum, is_connection, is_of_node, node_connections, node_scope_under}
use Rattle.pfs_store_contract.specs.Handshakes.{goes_beside, goes_with, hits_connections, stays_at_kill}
use Rattle.pfs_store_contract.specs.Touching.{completes_at, connections_in, goes_forward, numbered_state_after, state_after_packet, world_after_touch}
use Rattle.pfs_store_contract.specs.Worlds.{World}
use Rattle.pfs_store_contract.specs.declared.records.NodeScope.{NodeScope}
use Rattle.pfs_store_contract.specs.declared.records.State.{State}
use Rattle.pfs_track.specs.StatePhases.{is_done, phase_after}
use Rattle.pfs_engine_machine.specs.MachineInvariants.{IsWithin, TracksAlone, own_scope}
use Rattle.pfs_engine_machine.proofs.Changes.{count-map_at, count-stay_le}
use Rattle.pfs_engine_machine.proofs.Renewals.{is_done-same}

-- this state alone has its number
abbrev pub IsAlone : State → List State → Type 0
IsAlone s states = All (λ (t : State). t.number ≡ s.number → t ≡ s) states

-- what a packet makes of a state, by whether it has the packet's number
renewed-cases : (s : State) (p : PacketView) (now : ℕ) (P : State → State → Type 0) → P s (state_after_packet p now s) → ((t : State) → P t t)
    → (t : State) → (t.number ≡ s.number → t ≡ s) → P t (numbered_state_after s.number p now t)
renewed-cases s p now P here there t alone = go (t.number == s.number) (λ e. alone (eqb-true t.number s.number e))
  where
    go : (b : Bool) → (b ≡ true → t ≡ s) → P t (if b then state_after_packet p now t else t)
    go true same = subst (λ (u : State). P u (state_after_packet p now u)) (sym (same refl)) here
    go false same = there t

-- ---- a handshake that does not complete, or of another source

-- a state is of another node, or its handshake does not complete
stepped-connection : (conf : Conf) (sc : NodeScope) (source : Addr) (s : State) (p : PacketView) (now : ℕ)
    → ((completes_at p s ≡ false) ⊎ (is_of_node conf sc source s ≡ false))
    → is_connection conf sc source (state_after_packet p now s) ≡ is_connection conf sc source s
stepped-connection conf sc source s p now (inl before) =
    ap (λ b. b && is_of_node conf sc source s) (is_done-same s.phase (goes_forward p s) p.flags before)
stepped-connection conf sc source s p now (inr other) =
    and_right (is_done (phase_after s.phase (goes_forward p s) p.flags)) (is_of_node conf sc source s) other
    ∙ sym (and_right (is_done s.phase) (is_of_node conf sc source s) other)

-- then its node has as many connections as before
pub connections-same : (conf : Conf) (sc : NodeScope) (source : Addr) (s : State) (p : PacketView) (now : ℕ) (states : List State)
    → IsAlone s states → ((completes_at p s ≡ false) ⊎ (is_of_node conf sc source s ≡ false))
    → node_connections conf sc source (map (numbered_state_after s.number p now) states) ≡ node_connections conf sc source states
connections-same conf sc source s p now states alone why =
    count-map_at (is_connection conf sc source) (numbered_state_after s.number p now) states
    (All-weaker (λ (t : State). t.number ≡ s.number → t ≡ s)
    (λ (t : State). is_connection conf sc source (numbered_state_after s.number p now t) ≡ is_connection conf sc source t)
    (renewed-cases s p now (λ t u. is_connection conf sc source u ≡ is_connection conf sc source t) (stepped-connection conf sc source s p now why) (λ t. refl))
    states alone)

-- ---- a handshake that completes, within `max-src-conn`

not_exceeded : (most : Option ℕ) (count : ℕ) → exceeds_maximum most count ≡ false → IsWithin most count
not_exceeded None count e = λ n is. cc
not_exceeded (Some m) count e = λ n is. let same : m ≡ n = cc in omega (arith, ltb-false m count e, same)

-- the connections that count are those of the rule's own node
told-connections : (conf : Conf) (w : World) (p : PacketView) (now : ℕ) (s : State) → TracksAlone conf s.rule.0
    → connections_in conf s.source (map (numbered_state_after s.number p now) w.states) (node_scope_of conf s.rule.0) ≡ node_connections conf (own_scope s.rule.0) s.source (map (numbered_state_after s.number p now) w.states)
told-connections conf w p now s alone =
    ap (λ (sc : Option Scope). connections_in conf s.source (map (numbered_state_after s.number p now) w.states) (node_scope_under s.rule.0 sc)) alone

pub connections-within : (conf : Conf) (w : World) (p : PacketView) (now : ℕ) (s : State) (rule : ℕ) (source : Addr)
    → TracksAlone conf rule → is_of_node conf (own_scope rule) source s ≡ true
    → hits_connections conf (world_after_touch conf w s p now) s ≡ false
    → IsWithin (options_of conf rule).max_src_conn (node_connections conf (own_scope rule) source (map (numbered_state_after s.number p now) w.states))
connections-within conf w p now s rule source alone own few =
    let parts = and_parts (s.rule.0 == rule) (same_addr s.source source) own in
    let same_rule = eqb-true s.rule.0 rule parts.0 in
    let same_source = same_addr_true s.source source parts.1 in
    let states = map (numbered_state_after s.number p now) w.states in
    let here : TracksAlone conf s.rule.0 = ap (scope_of conf) same_rule ∙ alone in
    let most = (options_of conf s.rule.0).max_src_conn in
    let count = node_connections conf (own_scope s.rule.0) s.source states in
    let first : IsWithin most count = not_exceeded most count (sym (ap (exceeds_maximum most) (told-connections conf w p now s here)) ∙ few) in
    subst (λ (a : Addr). IsWithin (options_of conf rule).max_src_conn (node_connections conf (own_scope rule) a states)) same_source
    (subst (λ (r : ℕ). IsWithin (options_of conf r).max_src_conn (node_connections conf (own_scope r) s.source states)) same_rule first)

-- ---- states are killed

-- the state of the packet is killed in any case
stepped-goes : (conf : Conf) (p : PacketView) (now : ℕ) (s : State) (flush : Option Scope)
    → goes_with conf.profile flush s.number s.dir s.rule s.source (state_after_packet p now s) ≡ true
stepped-goes conf p now s flush =
    ap (λ b. b || goes_beside conf.profile flush s.dir s.rule s.source (state_after_packet p now s)) (eq-eqb s.number s.number refl)

-- so those that stay are as before, and no node has more connections
pub connections-killed : (conf : Conf) (w : World) (p : PacketView) (now : ℕ) (s : State) (flush : Option Scope) (sc : NodeScope) (source : Addr)
    → IsAlone s w.states
    → node_connections conf sc source (filter (stays_at_kill conf.profile flush s.number s.dir s.rule s.source) (map (numbered_state_after s.number p now) w.states))
    ≤ node_connections conf sc source w.states
connections-killed conf w p now s flush sc source alone =
    count-stay_le (is_connection conf sc source) stays (numbered_state_after s.number p now) w.states
    (All-weaker (λ (t : State). t.number ≡ s.number → t ≡ s) (λ (t : State). stays (numbered_state_after s.number p now t) ≡ true → numbered_state_after s.number p now t ≡ t)
    (renewed-cases s p now (λ t u. stays u ≡ true → u ≡ t) (λ k. absurd (false≢true (sym gone ∙ k))) (λ t k. refl))
    w.states alone)
  where
    stays : State → Bool
    stays = stays_at_kill conf.profile flush s.number s.dir s.rule s.source

    gone : stays (state_after_packet p now s) ≡ false
    gone = ap not (stepped-goes conf p now s flush)
