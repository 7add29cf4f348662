-- A state that meets no limit keeps what every machine keeps, and so does a refusal.
use Rattle.std.proofs.Common.{◌≡◌, ◌∙◌, ◌+◌, ◌≤◌, ◌==◌, ◌&&◌, ℕ, Bool, true, false, Option, Some, None, IfSome, List, [], ◌∷◌, ◌++◌, All, length-append, if◌then◌else◌, refl, ap, sym, subst, arith}
use Rattle.std.proofs.lemmas.Bool.Decides.{nat_tests}
use Rattle.std.proofs.lemmas.List.Elements.{All-push, All-weaker}
use Rattle.pfs_addr_values.proofs.SameLaws.{same_addr_self, same_addr_true, same_key_self, same_key_true}
use Rattle.pfs_addr_values.specs.Keys.{first_end, second_end, key_of}
use Rattle.pfs_addr_values.specs.Packets.{PacketView}
use Rattle.pfs_addr_values.specs.Sameness.{same_addr, same_key}
use Rattle.pfs_addr_values.specs.declared.addresses.Addr.{Addr}
use Rattle.pfs_addr_values.specs.declared.packets.Dir.{Dir}
use Rattle.pfs_addr_values.specs.declared.flag_sets.Flags.{Flags}
use Rattle.pfs_addr_values.specs.declared.packets.Dir.TheVariants as dir
use Rattle.pfs_addr_values.specs.declared.protocols.Proto.{Proto}
use Rattle.pfs_addr_values.specs.declared.protocols.Proto.TheVariants as proto
use Rattle.pfs_conf_values.proofs.RuleLaws.{options_of-AreOptions}
use Rattle.pfs_conf_values.specs.Configs.{Conf, is_synproxy, options_of, scope_of, tracks_fully, translates}
use Rattle.pfs_conf_values.specs.Invariants.{IsConfig}
use Rattle.pfs_conf_values.specs.LoadRules.{IsCount}
use Rattle.pfs_conf_values.specs.declared.actions.Scope.{Scope}
use Rattle.pfs_conf_values.specs.declared.actions.Scope.TheVariants as scope
use Rattle.pfs_store_contract.proofs.MomentLaws.{world_at-up_to_now}
use Rattle.pfs_store_contract.specs.Admission.{asks_in, is_answered, world_after_admission, new_node, new_phase, new_state, nodes_with, apart, inner_side, key_inside, wire_key, wire_side}
use Rattle.pfs_store_contract.specs.Calls.{packet_limit}
use Rattle.pfs_store_contract.specs.Leaving.{end_on, sent_on_side}
use Rattle.pfs_store_contract.specs.SourceLimits.{source_limit}
use Rattle.pfs_store_contract.specs.Counts.{has_node, is_connection, is_node, is_of_node, is_of_rule, node_connections, node_scope_under, node_scope_of, node_states, rule_states, same_scope, scope_nodes}
use Rattle.pfs_store_contract.specs.Worlds.{World, inner_key, state_inside, state_with}
use Rattle.pfs_store_contract.specs.declared.records.Limit.{Limit}
use Rattle.pfs_store_contract.specs.declared.records.Node.{Node}
use Rattle.pfs_store_contract.specs.declared.records.NodeScope.{NodeScope}
use Rattle.pfs_store_contract.specs.declared.records.NodeScope.TheVariants as node_scope
use Rattle.pfs_store_contract.specs.declared.records.State.{State}
use Rattle.pfs_track.specs.StatePhases.{cookie_phase, first_phase, is_done, proxied_phase}
use Rattle.pfs_engine_machine.proofs.Counts.{any-push, count-push_failing, count-push_le, count-push_passing}
use Rattle.pfs_engine_machine.proofs.GuardLaws.{IsTcpWith}
use Rattle.pfs_engine_machine.proofs.Keys.{keys-push}
use Rattle.pfs_engine_machine.proofs.Limits.{MeetsNone, held_free, meets_none, new_free, nodes_room, not_reached, refused_has, world_with_stray}
use Rattle.pfs_engine_machine.proofs.Numbers.{Rise-more, Rise-push}
use Rattle.pfs_engine_machine.proofs.Scopes.{IsScopeOf, global-IsScopeOf, none_without_node, own_scope-IsScopeOf, scope-alone, scope-shared}
use Rattle.pfs_engine_machine.specs.MachineInvariants.{HasNode, HasSource, IsKept, IsPhaseOf, IsWithinShared, TracksAlone, own_scope, IsPlain, outer_key, HasPhase}
use Rattle.std.proofs.lemmas.Bool.{and_parts, and_right, false≢true}
use Rattle.pfs_store_contract.proofs.ScopeLaws.{same_scope_self, same_scope_true}
use Rattle.pfs_engine_machine.specs.Machine.{MachineContents, held_of, held_refused}
use Rattle.pfs_engine_machine.specs.Sides.{are_free}
use Rattle.pfs_addr_values.specs.declared.packets.FlowKey.{FlowKey}
use Rattle.std.specs.List.{find}
use Rattle.std.specs.Prelude.{is_none, unwrap_or}
use Rattle.pfs_engine_machine.proofs.OptionLaws.{none-is}

-- ---- the source's states

-- with one state more, the source is within the maximum of its states
room_states : (conf : Conf) (w : World) (rule : ℕ) (source : Addr) (found : NodeScope) → IsConfig conf → IsScopeOf conf found
    → node_scope_of conf rule ≡ Some found → source_limit conf w (options_of conf rule) source (node_scope_of conf rule) ≡ None
    → All (HasNode conf w.nodes) w.states
    → (n : ℕ) → (options_of conf rule).max_src_states ≡ Some n → node_states conf found source w.states + 1 ≤ n
room_states conf w rule source found sound whole at free noded n is = by (has_node found source w.nodes) refl
  where
    here : source_limit conf w (options_of conf rule) source (Some found) ≡ None
    here = sym (ap (source_limit conf w (options_of conf rule) source) at) ∙ free

    by : (b : Bool) → has_node found source w.nodes ≡ b → node_states conf found source w.states + 1 ≤ n
    by true e = not_reached (options_of conf rule).max_src_states (node_states conf found source w.states) n (held_free conf w (options_of conf rule) source found here e) is
    by false e =
        let count : IsCount n = subst (λ o. IfSome o IsCount) is (options_of-AreOptions conf sound rule).max_src_states in
        omega (arith, none_without_node conf found source w.nodes whole e w.states noded, count.0)

-- the states of each source of a rule that tracks sources by itself
states_with : (conf : Conf) (w : World) (p going : PacketView) (cookie : Bool) (rule now other : ℕ) (source : Addr) → IsConfig conf → TracksAlone conf other
    → MeetsNone conf w rule p.source.addr → All (HasNode conf w.nodes) w.states
    → (n : ℕ) → (options_of conf other).max_src_states ≡ Some n → node_states conf (own_scope other) source w.states ≤ n
    → node_states conf (own_scope other) source (world_after_admission conf w p going rule cookie now).states ≤ n
states_with conf w p going cookie rule now other source sound alone free noded n is before =
    by (is_of_node conf (own_scope other) source (new_state conf (w.made + 1) p going rule cookie now)) refl
  where
    by : (b : Bool) → is_of_node conf (own_scope other) source (new_state conf (w.made + 1) p going rule cookie now) ≡ b
        → node_states conf (own_scope other) source (w.states ++ new_state conf (w.made + 1) p going rule cookie now ∷ []) ≤ n
    by true e =
        let one = (and_parts (rule == other) (same_addr p.source.addr source) e).0 in
        let same : other ≡ rule = grind (arith, nat_tests) in
        let from : source ≡ p.source.addr = sym (same_addr_true p.source.addr source (and_parts (rule == other) (same_addr p.source.addr source) e).1) in
        let own : TracksAlone conf rule = sym (ap (scope_of conf) same) ∙ alone in
        let max : (options_of conf rule).max_src_states ≡ Some n = sym (ap (λ i. (options_of conf i).max_src_states) same) ∙ is in
        let room = room_states conf w rule p.source.addr (own_scope rule) sound (own_scope-IsScopeOf conf rule own) (scope-alone conf rule own) free.sources noded n max in
        let count : node_states conf (own_scope other) source w.states ≡ node_states conf (own_scope rule) p.source.addr w.states = rw (same, from) refl in
        omega (arith, count-push_passing (is_of_node conf (own_scope other) source) w.states (new_state conf (w.made + 1) p going rule cookie now) e, count, room)
    by false e =
        omega (arith, count-push_failing (is_of_node conf (own_scope other) source) w.states (new_state conf (w.made + 1) p going rule cookie now) e, before)

-- a new state is no connection
undone : (full : Bool) (p : Proto) → is_done (first_phase full p) ≡ false
undone true proto.Tcp = refl
undone false proto.Tcp = refl
undone full proto.Udp = refl
undone full (proto.Other n) = refl

undone_new : (conf : Conf) (rule : ℕ) (p : PacketView) (cookie : Bool) → is_done (new_phase conf rule p cookie) ≡ false
undone_new conf rule p true = refl
undone_new conf rule p false = by (is_answered conf rule p)
  where
    by : (b : Bool) → is_done (if b then proxied_phase (tracks_fully conf rule) else first_phase (tracks_fully conf rule) p.proto) ≡ false
    by true = refl
    by false = undone (tracks_fully conf rule) p.proto

connections_with : (conf : Conf) (w : World) (p going : PacketView) (cookie : Bool) (rule now : ℕ) (found : NodeScope) (source : Addr)
    → node_connections conf found source (world_after_admission conf w p going rule cookie now).states ≡ node_connections conf found source w.states
connections_with conf w p going cookie rule now found source =
    count-push_failing (is_connection conf found source) w.states (new_state conf (w.made + 1) p going rule cookie now)
    (ap (λ b. b && is_of_node conf found source (new_state conf (w.made + 1) p going rule cookie now)) (undone_new conf rule p cookie))

-- the states of each rule
rule_states_with : (conf : Conf) (w : World) (p going : PacketView) (cookie : Bool) (rule now other : ℕ) → MeetsNone conf w rule p.source.addr
    → (n : ℕ) → (options_of conf other).max ≡ Some n → rule_states other w.states ≤ n → rule_states other (world_after_admission conf w p going rule cookie now).states ≤ n
rule_states_with conf w p going cookie rule now other free n is before = by (rule == other) refl
  where
    by : (b : Bool) → (rule == other) ≡ b → rule_states other (w.states ++ new_state conf (w.made + 1) p going rule cookie now ∷ []) ≤ n
    by true e =
        let same : other ≡ rule = grind (arith, nat_tests) in
        let max : (options_of conf rule).max ≡ Some n = sym (ap (λ i. (options_of conf i).max) same) ∙ is in
        let room = not_reached (options_of conf rule).max (rule_states rule w.states) n free.most max in
        omega (arith, count-push_passing (is_of_rule other) w.states (new_state conf (w.made + 1) p going rule cookie now) e, ap (λ i. rule_states i w.states) same, room)
    by false e = omega (arith, count-push_failing (is_of_rule other) w.states (new_state conf (w.made + 1) p going rule cookie now) e, before)

-- ---- the nodes

-- a rule whose scope is that of another alone is that one
rule_of_scope : (conf : Conf) (rule other : ℕ) → node_scope_of conf rule ≡ Some (own_scope other) → rule ≡ other
rule_of_scope conf rule other h = by (scope_of conf rule) h
  where
    number_in : NodeScope → ℕ
    number_in (node_scope.Rule r) = r.0
    number_in node_scope.Global = 0

    by : (o : Option Scope) → node_scope_under rule o ≡ Some (own_scope other) → rule ≡ other
    by None k = absurd cc
    by (Some scope.Rule) k =
        let same : node_scope.Rule (record { 0 = rule }) ≡ own_scope other = cc in
        ap number_in same
    by (Some scope.Global) k = absurd cc

-- those of each rule that tracks sources by itself
scope_nodes_with : (conf : Conf) (w : World) (rule number now other : ℕ) (source : Addr) (at : Option NodeScope) → node_scope_of conf rule ≡ at
    → source_limit conf w (options_of conf rule) source at ≡ None
    → (n : ℕ) → (options_of conf other).max_src_nodes ≡ Some n → scope_nodes (own_scope other) w.nodes ≤ n
    → scope_nodes (own_scope other) (nodes_with w.nodes number source now at) ≤ n
scope_nodes_with conf w rule number now other source None is_at free n is before = before
scope_nodes_with conf w rule number now other source (Some found) is_at free n is before = by (has_node found source w.nodes) refl
  where
    more : has_node found source w.nodes ≡ false → (b : Bool) → same_scope found (own_scope other) ≡ b
        → scope_nodes (own_scope other) (w.nodes ++ new_node number found source now ∷ []) ≤ n
    more none true e =
        let own = same_scope_true found (own_scope other) e in
        let same : rule ≡ other = rule_of_scope conf rule other (is_at ∙ ap (λ (s : NodeScope). Some s) own) in
        let max : (options_of conf rule).max_src_nodes ≡ Some n = ap (λ i. (options_of conf i).max_src_nodes) same ∙ is in
        let room = not_reached (options_of conf rule).max_src_nodes (scope_nodes found w.nodes) n (new_free conf w (options_of conf rule) source found free none).0 max in
        omega (arith, count-push_passing (λ (m : Node). same_scope m.scope (own_scope other)) w.nodes (new_node number found source now) e, ap (λ s. scope_nodes s w.nodes) own, room)
    more none false e =
        omega (arith, count-push_failing (λ (m : Node). same_scope m.scope (own_scope other)) w.nodes (new_node number found source now) e, before)

    by : (b : Bool) → has_node found source w.nodes ≡ b
        → scope_nodes (own_scope other) (if b then w.nodes else w.nodes ++ new_node number found source now ∷ []) ≤ n
    by true e = before
    by false e = more e (same_scope found (own_scope other)) refl

-- at most one comes
scope_nodes_more : (nodes : List Node) (number now : ℕ) (source : Addr) (s : NodeScope) (at : Option NodeScope)
    → scope_nodes s (nodes_with nodes number source now at) ≤ scope_nodes s nodes + 1
scope_nodes_more nodes number now source s None = omega arith
scope_nodes_more nodes number now source s (Some found) = by (has_node found source nodes)
  where
    by : (b : Bool) → scope_nodes s (if b then nodes else nodes ++ new_node number found source now ∷ []) ≤ scope_nodes s nodes + 1
    by true = omega arith
    by false = count-push_le (λ (m : Node). same_scope m.scope s) nodes (new_node number found source now)

-- no source loses its node
nodes_with-more : (nodes : List Node) (number now : ℕ) (source : Addr) (at : Option NodeScope) (s : NodeScope) (a : Addr)
    → has_node s a nodes ≡ true → has_node s a (nodes_with nodes number source now at) ≡ true
nodes_with-more nodes number now source None s a h = h
nodes_with-more nodes number now source (Some found) s a h = by (has_node found source nodes)
  where
    by : (b : Bool) → has_node s a (if b then nodes else nodes ++ new_node number found source now ∷ []) ≡ true
    by true = h
    by false = any-push (is_node s a) nodes (new_node number found source now) ∙ rw h refl

-- the source has one in its scope
pub nodes_with-own : (nodes : List Node) (number now : ℕ) (source : Addr) (found : NodeScope) → has_node found source (nodes_with nodes number source now (Some found)) ≡ true
nodes_with-own nodes number now source found = by (has_node found source nodes) refl
  where
    by : (b : Bool) → has_node found source nodes ≡ b → has_node found source (if b then nodes else nodes ++ new_node number found source now ∷ []) ≡ true
    by true e = e
    by false e = any-push (is_node found source) nodes (new_node number found source now) ∙ rw (e, same_scope_self found, same_addr_self source) refl

noded_with : (conf : Conf) (w : World) (p going : PacketView) (cookie : Bool) (rule now : ℕ) → All (HasNode conf w.nodes) w.states
    → All (HasNode conf (world_after_admission conf w p going rule cookie now).nodes) (world_after_admission conf w p going rule cookie now).states
noded_with conf w p going cookie rule now h =
    let nodes = nodes_with w.nodes (w.made + 1) p.source.addr now (node_scope_of conf rule) in
    All-push (HasNode conf nodes) w.states (new_state conf (w.made + 1) p going rule cookie now)
    (All-weaker (HasNode conf w.nodes) (HasNode conf nodes)
    (λ s k found is. nodes_with-more w.nodes (w.made + 1) now p.source.addr (node_scope_of conf rule) found s.source (k found is)) w.states h)
    (λ found is. ap (λ at. has_node found p.source.addr (nodes_with w.nodes (w.made + 1) p.source.addr now at)) is ∙ nodes_with-own w.nodes (w.made + 1) now p.source.addr found)

-- ---- the state itself

phase_first : (full : Bool) (p : Proto) → IsPhaseOf p (first_phase full p)
phase_first true proto.Tcp = tt
phase_first false proto.Tcp = tt
phase_first full proto.Udp = tt
phase_first full (proto.Other n) = tt

-- pf answers TCP alone
answered_tcp : (conf : Conf) (rule : ℕ) (dir : Dir) (protocol : Proto) (flags : Flags) → (is_synproxy conf rule && asks_in dir protocol flags) ≡ true
    → IsPhaseOf protocol (proxied_phase (tracks_fully conf rule))
answered_tcp conf rule dir proto.Tcp flags e = tt
answered_tcp conf rule dir.In proto.Udp flags e = absurd (false≢true (sym (and_right (is_synproxy conf rule) false refl) ∙ e))
answered_tcp conf rule dir.Out proto.Udp flags e = absurd (false≢true (sym (and_right (is_synproxy conf rule) false refl) ∙ e))
answered_tcp conf rule dir.In (proto.Other n) flags e = absurd (false≢true (sym (and_right (is_synproxy conf rule) false refl) ∙ e))
answered_tcp conf rule dir.Out (proto.Other n) flags e = absurd (false≢true (sym (and_right (is_synproxy conf rule) false refl) ∙ e))

phase_new : (conf : Conf) (rule : ℕ) (p : PacketView) (cookie : Bool) → IsTcpWith cookie p.proto → IsPhaseOf p.proto (new_phase conf rule p cookie)
phase_new conf rule p true tcp = subst (λ (q : Proto). IsPhaseOf q (cookie_phase (tracks_fully conf rule))) (sym (tcp refl)) tt
phase_new conf rule p false tcp = by (is_answered conf rule p) refl
  where
    by : (b : Bool) → is_answered conf rule p ≡ b
        → IsPhaseOf p.proto (if b then proxied_phase (tracks_fully conf rule) else first_phase (tracks_fully conf rule) p.proto)
    by true e = answered_tcp conf rule p.dir p.proto p.flags e
    by false e = phase_first (tracks_fully conf rule) p.proto

-- its inner key is that of the packet inside
inner_apart : (wire inner : FlowKey) → unwrap_or (apart wire inner) wire ≡ inner
inner_apart wire inner = by (same_key wire inner) refl
  where
    by : (b : Bool) → same_key wire inner ≡ b → unwrap_or (if b then None else Some inner) wire ≡ inner
    by true e = same_key_true wire inner e
    by false e = refl

pub inner_new : (conf : Conf) (number rule now : ℕ) (p going : PacketView) (cookie : Bool)
    → inner_key (new_state conf number p going rule cookie now) ≡ key_inside p going
inner_new conf number rule now p going cookie = inner_apart (wire_key p going) (key_inside p going)

-- the source of a packet is in its key as it was sent
source_first : (conf : Conf) (number rule now : ℕ) (p going : PacketView) (cookie : Bool) → HasSource (new_state conf number p going rule cookie now)
source_first conf number rule now p going cookie = by p.dir
  where
    key : Dir → FlowKey
    key d = record { proto = p.proto; a = first_end d p; b = second_end d p }

    by : (d : Dir) → (end_on d (sent_on_side d (record (new_state conf number p going rule cookie now) {
      key = wire_side d (key d) (key_of going);
      inner = apart (wire_side d (key d) (key_of going)) (inner_side d (key d) (key_of going));
    }))).addr ≡ p.source.addr
    by dir.In = refl
    by dir.Out = ap (λ (k : FlowKey). k.b.addr) (inner_apart (key_of going) (key dir.Out))

-- a packet goes on from the rules in its own direction and protocol, and where none translates under its own key
pub record IsLedOn (conf : Conf) (p going : PacketView) : Type 0 where
  pub dir : going.dir ≡ p.dir
  pub proto : going.proto ≡ p.proto
  pub key : translates conf ≡ false → key_of going ≡ key_of p

proto_new : (conf : Conf) (p going : PacketView) → IsLedOn conf p going → (wire_key p going).proto ≡ p.proto
proto_new conf p going led = by p.dir
  where
    by : (d : Dir) → (wire_side d (key_of p) (key_of going)).proto ≡ p.proto
    by dir.In = refl
    by dir.Out = led.proto

proto_inside : (conf : Conf) (p going : PacketView) → IsLedOn conf p going → (key_inside p going).proto ≡ p.proto
proto_inside conf p going led = by p.dir
  where
    by : (d : Dir) → (inner_side d (key_of p) (key_of going)).proto ≡ p.proto
    by dir.In = led.proto
    by dir.Out = refl

phase_of_new : (conf : Conf) (number rule now : ℕ) (p going : PacketView) (cookie : Bool) → IsTcpWith cookie p.proto → IsLedOn conf p going
    → HasPhase (new_state conf number p going rule cookie now)
phase_of_new conf number rule now p going cookie tcp led =
    let phase = new_phase conf rule p cookie in
    let is : IsPhaseOf p.proto phase = phase_new conf rule p cookie tcp in (
      subst (λ (q : Proto). IsPhaseOf q phase) (sym (proto_new conf p going led)) is,
      subst (λ (q : Proto). IsPhaseOf q phase)
          (sym (ap (λ (k : FlowKey). k.proto) (inner_new conf number rule now p going cookie) ∙ proto_inside conf p going led)) is,
    )

plain_new : (conf : Conf) (number rule now : ℕ) (p going : PacketView) (cookie : Bool) → IsLedOn conf p going → IsPlain conf (new_state conf number p going rule cookie now)
plain_new conf number rule now p going cookie led none = by p.dir
  where
    at : (d : Dir) → FlowKey → Option FlowKey
    at d goes = apart (wire_side d (key_of p) goes) (inner_side d (key_of p) goes)

    alike : (k : FlowKey) → apart k k ≡ None
    alike k = ap (λ b. if b then None else Some k) (same_key_self k)

    by : (d : Dir) → at d (key_of going) ≡ None
    by dir.In = ap (at dir.In) (led.key none) ∙ alike (key_of p)
    by dir.Out = ap (at dir.Out) (led.key none) ∙ alike (key_of p)

-- both its keys are free
pub free_outside : (w : World) (p going : PacketView) → are_free w p going ≡ true → state_with (wire_key p going) w ≡ None
free_outside w p going e = none-is (state_with (wire_key p going) w) (and_parts (is_none (state_with (wire_key p going) w)) (is_none (state_inside (key_inside p going) w)) e).0

pub free_inside : (w : World) (p going : PacketView) → are_free w p going ≡ true → state_inside (key_inside p going) w ≡ None
free_inside w p going e = none-is (state_inside (key_inside p going) w) (and_parts (is_none (state_with (wire_key p going) w)) (is_none (state_inside (key_inside p going) w)) e).1

-- ---- what is kept

pub kept_admitted : (conf : Conf) (m : MachineContents) (p going : PacketView) (cookie : Bool) (rule now : ℕ) → IsConfig conf → IsTcpWith cookie p.proto → IsLedOn conf p going → are_free m.world p going ≡ true
    → packet_limit conf m.world p rule ≡ None → IsKept conf m now
    → IsKept conf (held_of (world_after_admission conf m.world p going rule cookie now) m.tables) now
kept_admitted conf m p going cookie rule now sound tcp led unheld met k =
    let w = m.world in
    let new = new_state conf (w.made + 1) p going rule cookie now in
    let inside : find (λ (s : State). same_key (inner_key s) (inner_key new)) w.states ≡ None =
    ap (λ (x : FlowKey). find (λ (s : State). same_key (inner_key s) x) w.states) (inner_new conf (w.made + 1) rule now p going cookie) ∙ free_inside w p going unheld in
    let free = meets_none conf w rule p.source.addr met in
    record {
      limits = record {
        states = omega (arith, length-append w.states (new ∷ []), free.room);
        nodes = nodes_room conf w (options_of conf rule) p.source.addr (w.made + 1) now (node_scope_of conf rule) free.sources k.limits.nodes;
        entries = k.limits.entries;
        rule_states = λ other n is. rule_states_with conf w p going cookie rule now other free n is (k.limits.rule_states other n is);
        source_nodes = λ other alone n is.
            scope_nodes_with conf w rule (w.made + 1) now other p.source.addr (node_scope_of conf rule) refl free.sources n is (k.limits.source_nodes other alone n is);
        source_states = λ other source alone n is.
            states_with conf w p going cookie rule now other source sound alone free k.noded n is (k.limits.source_states other source alone n is);
        source_connections = λ other source alone n is.
            omega (arith, connections_with conf w p going cookie rule now (own_scope other) source, k.limits.source_connections other source alone n is);
      };
      numbers = Rise-push 0 w.made w.states new k.numbers (omega arith);
      keys = keys-push outer_key w.states new (free_outside w p going unheld) k.keys;
      inner_keys = keys-push inner_key w.states new inside k.inner_keys;
      plain = All-push (IsPlain conf) w.states new k.plain (plain_new conf (w.made + 1) rule now p going cookie led);
      noded = noded_with conf w p going cookie rule now k.noded;
      sources = All-push HasSource w.states new k.sources (source_first conf (w.made + 1) rule now p going cookie);
      phases = All-push HasPhase w.states new k.phases (phase_of_new conf (w.made + 1) rule now p going cookie tcp led);
      tables = k.tables;
      moments = world_at-up_to_now conf w p going rule cookie now None k.moments;
    }

-- a node without a state, of a source that meets no limit
kept_stray : (conf : Conf) (m : MachineContents) (p : PacketView) (rule now : ℕ)
    → source_limit conf m.world (options_of conf rule) p.source.addr (node_scope_of conf rule) ≡ None → IsKept conf m now
    → IsKept conf (held_of (world_with_stray conf m.world p.source.addr rule now) m.tables) now
kept_stray conf m p rule now free k =
    let w = m.world in
    let nodes = nodes_with w.nodes (w.made + 1) p.source.addr now (node_scope_of conf rule) in
    record {
      limits = record {
        states = k.limits.states;
        nodes = nodes_room conf w (options_of conf rule) p.source.addr (w.made + 1) now (node_scope_of conf rule) free k.limits.nodes;
        entries = k.limits.entries;
        rule_states = k.limits.rule_states;
        source_nodes = λ other alone n is.
            scope_nodes_with conf w rule (w.made + 1) now other p.source.addr (node_scope_of conf rule) refl free n is (k.limits.source_nodes other alone n is);
        source_states = k.limits.source_states;
        source_connections = k.limits.source_connections;
      };
      numbers = Rise-more 0 w.made w.states k.numbers;
      keys = k.keys;
      inner_keys = k.inner_keys;
      plain = k.plain;
      noded = All-weaker (HasNode conf w.nodes) (HasNode conf nodes)
          (λ s h found is. nodes_with-more w.nodes (w.made + 1) now p.source.addr (node_scope_of conf rule) found s.source (h found is)) w.states k.noded;
      phases = k.phases;
      sources = k.sources;
      tables = k.tables;
      moments = world_at-up_to_now conf w p p rule false now None k.moments;
    }

pub kept_refused : (conf : Conf) (m : MachineContents) (p : PacketView) (rule now : ℕ) (l : Limit) → packet_limit conf m.world p rule ≡ Some l → IsKept conf m now
    → IsKept conf (held_refused conf m p now rule l) now
kept_refused conf m p rule now l met k =
    refused_has conf m.world rule p.source.addr now l (λ (w : World). IsKept conf (held_of w m.tables) now) met k (λ free. kept_stray conf m p rule now free k)

-- directly after it, the maxima of a rule with shared nodes hold too
pub shared_admitted : (conf : Conf) (m : MachineContents) (p going : PacketView) (cookie : Bool) (rule now : ℕ) → IsConfig conf
    → packet_limit conf m.world p rule ≡ None → scope_of conf rule ≡ Some scope.Global → IsKept conf m now
    → IsWithinShared conf rule p.source.addr m.world (world_after_admission conf m.world p going rule cookie now)
shared_admitted conf m p going cookie rule now sound met shared k =
    let w = m.world in
    let new = new_state conf (w.made + 1) p going rule cookie now in
    let free = meets_none conf w rule p.source.addr met in
    let own = scope-shared conf rule shared in
    record {
      source_states = λ n is.
          omega (
            arith,
            count-push_le (is_of_node conf node_scope.Global p.source.addr) w.states new,
            room_states conf w rule p.source.addr node_scope.Global sound (global-IsScopeOf conf) own free.sources k.noded n is,
          );
      source_nodes = λ none n is.
          let here : source_limit conf w (options_of conf rule) p.source.addr (Some node_scope.Global) ≡ None = sym (ap (source_limit conf w (options_of conf rule) p.source.addr) own) ∙ free.sources in
          let room = new_free conf w (options_of conf rule) p.source.addr node_scope.Global here none in
          omega (
            arith,
            scope_nodes_more w.nodes (w.made + 1) now p.source.addr node_scope.Global (node_scope_of conf rule),
            not_reached (options_of conf rule).max_src_nodes (scope_nodes node_scope.Global w.nodes) n room.0 is,
          );
    }
