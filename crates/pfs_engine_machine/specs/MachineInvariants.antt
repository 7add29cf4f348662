-- What every machine keeps: the limits, and each rule and source its maxima. (pf.conf(5), OPTIONS, "set limit", and STATEFUL
-- TRACKING OPTIONS)
use Rattle.std.specs.Prelude.{ℕ, ◌≡◌, ◌≤◌, ◌<◌, true, false, Option, Some, List, [], ◌∷◌, All, length, unwrap_or, None}
use Rattle.std.specs.List.{AllByRecursion}
use Rattle.std.specs.Option.{ForSome}
use Rattle.pfs_addr_values.specs.Sameness.{same_key}
use Rattle.pfs_addr_values.specs.declared.addresses.Addr.{Addr}
use Rattle.pfs_addr_values.specs.declared.protocols.Proto.{Proto}
use Rattle.pfs_addr_values.specs.declared.protocols.Proto.TheVariants as proto
use Rattle.pfs_eval.specs.Tables.{entry_count}
use Rattle.pfs_addr_values.specs.declared.packets.FlowKey.{FlowKey}
use Rattle.pfs_conf_values.specs.Configs.{Conf, limit_of, options_of, scope_of, translates}
use Rattle.pfs_conf_values.specs.declared.actions.Scope.TheVariants as scope
use Rattle.pfs_conf_values.specs.declared.limits.LimitName.TheVariants as limit_name
use Rattle.pfs_store_contract.specs.Counts.{has_node, node_connections, node_scope_of, node_states, rule_states, scope_nodes}
use Rattle.pfs_store_contract.specs.Leaving.{end_on, sent_key}
use Rattle.pfs_store_contract.specs.Worlds.{IsUpToNow, World, inner_key}
use Rattle.pfs_store_contract.specs.declared.records.Node.{Node}
use Rattle.pfs_store_contract.specs.declared.records.NodeScope.{NodeScope}
use Rattle.pfs_store_contract.specs.declared.records.NodeScope.TheVariants as node_scope
use Rattle.pfs_store_contract.specs.declared.records.State.{State}
use Rattle.pfs_track.specs.declared.state_phases.StatePhase.{StatePhase}
use Rattle.pfs_track.specs.declared.state_phases.StatePhase.TheVariants as phase
use Rattle.pfs_engine_machine.specs.Machine.{MachineContents}

-- a count is within a maximum, where there is one
abbrev pub IsWithin : Option ℕ → ℕ → Type 0
IsWithin most count = ForSome most (λ n. count ≤ n)

-- the scope of a rule's own nodes
abbrev pub own_scope : ℕ → NodeScope
own_scope rule = node_scope.Rule (record { 0 = rule })

-- a rule has source nodes of its own: `source-track rule`
abbrev pub TracksAlone : Conf → ℕ → Type 0
TracksAlone conf rule = scope_of conf rule ≡ Some scope.Rule

-- States, nodes and entries are within their limits; the states of a rule within its `max`; of a rule that tracks sources by
-- itself, the nodes within `max-src-nodes`, and of each source the states within `max-src-states` and the connections within
-- `max-src-conn`.
pub record IsWithinLimits (conf : Conf) (h : MachineContents) : Type 0 where
  pub states : length h.world.states ≤ limit_of conf limit_name.States
  pub nodes : length h.world.nodes ≤ limit_of conf limit_name.SrcNodes
  pub entries : entry_count h.tables ≤ limit_of conf limit_name.TableEntries
  pub rule_states : (rule : ℕ) → IsWithin (options_of conf rule).max (rule_states rule h.world.states)
  pub source_nodes : (rule : ℕ) → TracksAlone conf rule → IsWithin (options_of conf rule).max_src_nodes (scope_nodes (own_scope rule) h.world.nodes)
  pub source_states : (rule : ℕ) (source : Addr) → TracksAlone conf rule → IsWithin (options_of conf rule).max_src_states (node_states conf (own_scope rule) source h.world.states)
  pub source_connections : (rule : ℕ) (source : Addr) → TracksAlone conf rule → IsWithin (options_of conf rule).max_src_conn (node_connections conf (own_scope rule) source h.world.states)

-- ---- what else is kept

-- the numbers of the states rise, from above this one up to that one
abbrev pub Rise : ℕ → List State → ℕ → Type 0
Rise low [] high = low ≤ high
Rise low (s ∷ ss) high = (low < s.number) × Rise s.number ss high

-- a state of a rule that tracks sources has its source's node
abbrev pub HasNode : Conf → List Node → State → Type 0
HasNode conf nodes s = ForSome (node_scope_of conf s.rule.0) (λ scope. has_node scope s.source nodes ≡ true)

-- a phase is one of this protocol
abbrev pub IsPhaseOf : Proto → StatePhase → Type 0
IsPhaseOf proto.Tcp (phase.Tcp p) = Unit {0}
IsPhaseOf proto.Tcp (phase.FullTcp p) = Unit {0}
IsPhaseOf proto.Tcp (phase.Proxied p) = Unit {0}
IsPhaseOf proto.Tcp _ = ⊥
IsPhaseOf _ (phase.Tcp p) = ⊥
IsPhaseOf _ (phase.FullTcp p) = ⊥
IsPhaseOf _ (phase.Proxied p) = ⊥
IsPhaseOf _ _ = Unit {0}

-- the phase of a state is one of the protocol of both its keys
abbrev pub HasPhase : State → Type 0
HasPhase s = IsPhaseOf s.key.proto s.phase × IsPhaseOf (inner_key s).proto s.phase

-- the source of a state is the end of the key of the packet that made it, as it was sent, on the side from which packets of its direction
-- come
abbrev pub HasSource : State → Type 0
HasSource s = (end_on s.dir (sent_key s)).addr ≡ s.source

-- no two of these states have the same key, of those on one side
abbrev pub KeysDiffer : (State → FlowKey) → List State → Type 0
KeysDiffer key_at [] = Unit {0}
KeysDiffer key_at (s ∷ ss) = AllByRecursion (λ (t : State). same_key (key_at s) (key_at t) ≡ false) ss × KeysDiffer key_at ss

-- the key on the wire
abbrev pub outer_key : State → FlowKey
outer_key s = s.key

-- a state has one key where no rule translates
abbrev pub IsPlain : Conf → State → Type 0
IsPlain conf s = translates conf ≡ false → s.inner ≡ None

-- the last moment, 0 before the first event
abbrev pub moment_of : Option ℕ → ℕ
moment_of last = unwrap_or last 0

-- the limits; numbers that rise; a key for one state alone, on the wire and inside, and both are one where no rule translates; a node for
-- each state of a rule that tracks sources; phases of the state's protocol; the source in the key; the tables of the text; no handshake
-- counted after this moment
pub record IsKept (conf : Conf) (h : MachineContents) (now : ℕ) : Type 0 where
  pub limits : IsWithinLimits conf h
  pub numbers : Rise 0 h.world.states h.world.made
  pub keys : KeysDiffer outer_key h.world.states
  pub inner_keys : KeysDiffer inner_key h.world.states
  pub plain : All (IsPlain conf) h.world.states
  pub noded : All (HasNode conf h.world.nodes) h.world.states
  pub phases : All HasPhase h.world.states
  pub sources : All HasSource h.world.states
  pub tables : length h.tables ≡ length conf.tables
  pub moments : IsUpToNow now h.world

-- ---- of a state that a rule with shared nodes makes, directly after it

-- the source's states are within the rule's `max-src-states`; where its node is new, all shared nodes within `max-src-nodes`
pub record IsWithinShared (conf : Conf) (rule : ℕ) (source : Addr) (before after : World) : Type 0 where
  pub source_states : IsWithin (options_of conf rule).max_src_states (node_states conf node_scope.Global source after.states)
  pub source_nodes : has_node node_scope.Global source before.nodes ≡ false → IsWithin (options_of conf rule).max_src_nodes (scope_nodes node_scope.Global after.nodes)
