-- Counts, each the length of a filter. (pf.conf(5), STATEFUL TRACKING OPTIONS)
use Rattle.std.specs.Prelude.{ℕ, ◌==◌, ◌&&◌, nat_le, nat_lt, Bool, false, Option, Some, None, List, length, filter}
use Rattle.std.specs.List.{list_any}
use Rattle.pfs_addr_values.specs.Sameness.{same_addr}
use Rattle.pfs_addr_values.specs.declared.addresses.Addr.{Addr}
use Rattle.pfs_conf_values.specs.Bounds.{is_global}
use Rattle.pfs_conf_values.specs.Configs.{Conf, scope_of}
use Rattle.pfs_conf_values.specs.declared.actions.Scope.{Scope}
use Rattle.pfs_conf_values.specs.declared.actions.Scope.TheVariants as scope
use Rattle.pfs_track.specs.StatePhases.{is_done, is_half_open}
use Rattle.pfs_store_contract.specs.declared.records.State.{State}
use Rattle.pfs_store_contract.specs.declared.records.Node.{Node}
use Rattle.pfs_store_contract.specs.contracts.records.NodeScopePartialEq.TheImpl as scope_eq
use Rattle.pfs_store_contract.specs.declared.records.NodeScope.{NodeScope}
use Rattle.pfs_store_contract.specs.declared.records.NodeScope.TheVariants as node_scope

-- ---- scopes

-- the scope of a rule's source nodes: its own, or that of all rules that track sources globally; none where it tracks none
abbrev pub node_scope_under : ℕ → Option Scope → Option NodeScope
node_scope_under rule None = None
node_scope_under rule (Some scope.Rule) = Some (node_scope.Rule (record { 0 = rule }))
node_scope_under rule (Some scope.Global) = Some node_scope.Global

abbrev pub node_scope_of : Conf → ℕ → Option NodeScope
node_scope_of conf rule = node_scope_under rule (scope_of conf rule)

-- what `==` says of two scopes
abbrev pub same_scope : NodeScope → NodeScope → Bool
same_scope = (scope_eq.ghosts).eq

-- a rule counts in a scope
abbrev pub in_scope : Conf → NodeScope → ℕ → Bool
in_scope conf (node_scope.Rule rule) other = other == rule.0
in_scope conf node_scope.Global other = is_global (scope_of conf other)

-- ---- states

abbrev pub is_of_rule : ℕ → State → Bool
is_of_rule rule s = s.rule.0 == rule

abbrev pub is_of_source : Addr → State → Bool
is_of_source source s = same_addr s.source source

-- a state is one of the node of this scope and source
abbrev pub is_of_node : Conf → NodeScope → Addr → State → Bool
is_of_node conf scope source s = in_scope conf scope s.rule.0 && is_of_source source s

-- a state whose handshake has completed is a connection
abbrev pub is_connection : Conf → NodeScope → Addr → State → Bool
is_connection conf scope source s = is_done s.phase && is_of_node conf scope source s

-- the states of a rule
abbrev pub rule_states : ℕ → List State → ℕ
rule_states rule states = length (filter (is_of_rule rule) states)

-- the half open states (likely; pf.conf(5), OPTIONS, "set syncookies")
abbrev pub half_open : List State → ℕ
half_open states = length (filter (λ (s : State). is_half_open s.phase) states)

-- the states and the connections of a node
abbrev pub node_states : Conf → NodeScope → Addr → List State → ℕ
node_states conf scope source states = length (filter (is_of_node conf scope source) states)

abbrev pub node_connections : Conf → NodeScope → Addr → List State → ℕ
node_connections conf scope source states = length (filter (is_connection conf scope source) states)

-- ---- nodes

-- a node is that of this scope and source
abbrev pub is_node : NodeScope → Addr → Node → Bool
is_node scope source n = same_scope n.scope scope && same_addr n.source source

abbrev pub has_node : NodeScope → Addr → List Node → Bool
has_node scope source nodes = list_any (is_node scope source) nodes

-- the nodes of a scope, with states or retained
abbrev pub scope_nodes : NodeScope → List Node → ℕ
scope_nodes scope nodes = length (filter (λ (n : Node). same_scope n.scope scope) nodes)

-- ---- maxima

-- a maximum, where there is one, is reached, or exceeded
abbrev pub reaches_maximum : Option ℕ → ℕ → Bool
reaches_maximum None count = false
reaches_maximum (Some most) count = nat_le most count

abbrev pub exceeds_maximum : Option ℕ → ℕ → Bool
exceeds_maximum None count = false
exceeds_maximum (Some most) count = nat_lt most count
