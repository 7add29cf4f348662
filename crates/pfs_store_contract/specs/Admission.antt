-- The limits that a new state meets, and the world with it, or after a refusal. (pf.conf(5), OPTIONS, "set limit", and STATEFUL
-- TRACKING OPTIONS; the order of the limits is own, but under the profile of OpenBSD 7.4)
use Rattle.std.specs.Prelude.{ℕ, ◌+◌, ◌&&◌, not, nat_le, Bool, true, false, if◌then◌else◌, Option, Some, None, List, [], ◌∷◌, ◌++◌, length}
use Rattle.pfs_addr_values.specs.Packets.{PacketView}
use Rattle.pfs_addr_values.specs.Keys.{key_of}
use Rattle.pfs_addr_values.specs.Sameness.{same_key}
use Rattle.pfs_addr_values.specs.declared.addresses.Addr.{Addr}
use Rattle.pfs_addr_values.specs.declared.flag_sets.Flags.{Flags}
use Rattle.pfs_addr_values.specs.declared.packets.Dir.{Dir}
use Rattle.pfs_addr_values.specs.declared.packets.Dir.TheVariants.{In, Out}
use Rattle.pfs_addr_values.specs.declared.packets.FlowKey.{FlowKey}
use Rattle.pfs_addr_values.specs.declared.protocols.Proto.{Proto}
use Rattle.pfs_addr_values.specs.declared.protocols.Proto.TheVariants.{Tcp}
use Rattle.pfs_conf_values.specs.Configs.{Conf, is_synproxy, limit_of, options_of, tracks_fully}
use Rattle.pfs_conf_values.specs.Profiles.{is_openbsd}
use Rattle.pfs_conf_values.specs.declared.limits.LimitName.TheVariants as limit_name
use Rattle.pfs_conf_values.specs.declared.profiles.Profile.{Profile}
use Rattle.pfs_conf_values.specs.declared.profiles.Profile.TheVariants as profile
use Rattle.pfs_track.specs.Scores.{zero_score}
use Rattle.pfs_track.specs.StatePhases.{cookie_phase, first_phase, proxied_phase}
use Rattle.pfs_track.specs.declared.state_phases.StatePhase.{StatePhase}
use Rattle.pfs_store_contract.specs.Worlds.{World}
use Rattle.pfs_store_contract.specs.Counts.{node_scope_of, rule_states, node_states, scope_nodes, has_node, reaches_maximum}
use Rattle.pfs_store_contract.specs.declared.records.Limit.{Limit}
use Rattle.pfs_store_contract.specs.declared.records.Limit.TheVariants as limit
use Rattle.pfs_store_contract.specs.declared.records.Node.{Node}
use Rattle.pfs_store_contract.specs.declared.records.NodeScope.{NodeScope}
use Rattle.pfs_store_contract.specs.declared.records.State.{State}

-- ---- limits

-- the first limit of these rows whose test holds
abbrev pub first_met : List (Bool × Limit) → Option Limit
first_met [] = None
first_met (row ∷ rows) = if row.0 then Some row.1 else first_met rows

-- a test of the scope in which a rule tracks sources: it fails where it tracks none
abbrev pub tracks : Option NodeScope → (NodeScope → Bool) → Bool
tracks None test = false
tracks (Some scope) test = test scope

-- a rule's maximum of states is asked before what is asked of the source (own); of OpenBSD behind it (likely)
abbrev pub in_order : Profile → Bool × Limit → List (Bool × Limit) → List (Bool × Limit)
in_order profile.Own max of_source = max ∷ of_source
in_order profile.OpenBsd74 max of_source = of_source ++ max ∷ []

-- the first limit that a state of this rule and source would meet: the rule's maximum of states; for a source without a
-- node in the rule's scope, the maximum of its nodes and the limit of all nodes; for one with a node, the maximum of the
-- node's states; the limit of all states
abbrev pub limit_met : Conf → World → ℕ → Addr → Option Limit
limit_met conf w rule source =
    let o = options_of conf rule in
    let scope = node_scope_of conf rule in
    first_met (in_order conf.profile (reaches_maximum o.max (rule_states rule w.states), limit.Max) (
    (tracks scope (λ s. not (has_node s source w.nodes) && reaches_maximum o.max_src_nodes (scope_nodes s w.nodes)), limit.MaxSrcNodes)
    ∷ (tracks scope (λ s. not (has_node s source w.nodes) && nat_le (limit_of conf limit_name.SrcNodes) (length w.nodes)), limit.SrcNodes)
    ∷ (tracks scope (λ s. has_node s source w.nodes && reaches_maximum o.max_src_states (node_states conf s source w.states)), limit.MaxSrcStates)
    ∷ []) ++ (nat_le (limit_of conf limit_name.States) (length w.states), limit.States) ∷ [])

-- ---- the two keys of a new state

-- the key on the wire, where the first is that of a packet as it comes to pf, and the second as it goes on
abbrev pub wire_side : Dir → FlowKey → FlowKey → FlowKey
wire_side In came goes = came
wire_side Out came goes = goes

-- the key inside
abbrev pub inner_side : Dir → FlowKey → FlowKey → FlowKey
inner_side In came goes = goes
inner_side Out came goes = came

abbrev pub wire_key : PacketView → PacketView → FlowKey
wire_key p going = wire_side p.dir (key_of p) (key_of going)

abbrev pub key_inside : PacketView → PacketView → FlowKey
key_inside p going = inner_side p.dir (key_of p) (key_of going)

-- the inner key, where it is another than that on the wire
abbrev pub apart : FlowKey → FlowKey → Option FlowKey
apart wire inner = if same_key wire inner then None else Some inner

-- ---- a new state

-- a packet asks for a connection from outside: a SYN without ACK, of TCP, that comes in
abbrev pub asks_in : Dir → Proto → Flags → Bool
asks_in In Tcp flags = flags.syn && not flags.ack
asks_in dir proto flags = false

-- pf answers such a packet itself, in place of the server, where a rule with `synproxy state` lets it in
-- (pf.conf(5), STATEFUL FILTERING, "synproxy state"; certain)
abbrev pub is_answered : Conf → ℕ → PacketView → Bool
is_answered conf rule p = is_synproxy conf rule && asks_in p.dir p.proto p.flags

-- the phase of the state that a packet makes, by whether it brings a SYN cookie
abbrev pub new_phase : Conf → ℕ → PacketView → Bool → StatePhase
new_phase conf rule p true = cookie_phase (tracks_fully conf rule)
new_phase conf rule p false =
    if is_answered conf rule p then proxied_phase (tracks_fully conf rule) else first_phase (tracks_fully conf rule) p.proto

-- the state that a packet makes, which goes on as another
abbrev pub new_state : Conf → ℕ → PacketView → PacketView → ℕ → Bool → ℕ → State
new_state conf number p going rule cookie now = record {
  number = number;
  key = wire_key p going;
  inner = apart (wire_key p going) (key_inside p going);
  dir = p.dir;
  source = p.source.addr;
  rule = record { 0 = rule };
  phase = new_phase conf rule p cookie;
  last = now;
  tag = going.tag;
}

-- the node that is made with it, where its source has none in the rule's scope
abbrev pub new_node : ℕ → NodeScope → Addr → ℕ → Node
new_node number scope source now = record { number = number; scope = scope; source = source; score = zero_score; expires = now }

abbrev pub nodes_with : List Node → ℕ → Addr → ℕ → Option NodeScope → List Node
nodes_with nodes number source now None = nodes
nodes_with nodes number source now (Some scope) = if has_node scope source nodes then nodes else nodes ++ new_node number scope source now ∷ []

-- the world with one state more: numbers count from 1 and are never used again
abbrev pub world_after_admission : Conf → World → PacketView → PacketView → ℕ → Bool → ℕ → World
world_after_admission conf w p going rule cookie now = record w {
  states = w.states ++ new_state conf (w.made + 1) p going rule cookie now ∷ [];
  nodes = nodes_with w.nodes (w.made + 1) p.source.addr now (node_scope_of conf rule);
  made = w.made + 1;
}

-- ---- a refusal

-- whether a refusal leaves a node: of OpenBSD, where `max` refuses a source that has none (likely)
abbrev pub leaves_node : Conf → World → Addr → ℕ → Limit → Bool
leaves_node conf w source rule limit.Max = is_openbsd conf.profile && tracks (node_scope_of conf rule) (λ s. not (has_node s source w.nodes))
leaves_node conf w source rule _ = false

-- the world after it: nothing changes but that node, which takes a number and may leave at once
abbrev pub world_after_refusal : Conf → World → Addr → ℕ → ℕ → Limit → World
world_after_refusal conf w source rule now l =
    if leaves_node conf w source rule l
    then record w { nodes = nodes_with w.nodes (w.made + 1) source now (node_scope_of conf rule); made = w.made + 1 }
    else w
