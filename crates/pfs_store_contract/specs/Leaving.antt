-- States leave: by a purge, killed, or flushed. A node that loses its last state is kept for its retention from then on. (pf.conf(5),
-- STATEFUL TRACKING OPTIONS)
use Rattle.std.specs.Prelude.{ℕ, ◌+◌, ◌==◌, ◌&&◌, nat_lt, Bool, true, if◌then◌else◌, Option, Some, None, List, filter, map}
use Rattle.pfs_addr_values.specs.declared.addresses.Addr.{Addr}
use Rattle.pfs_addr_values.specs.Prefixes.{Network, covers}
use Rattle.pfs_addr_values.specs.Sameness.{same_addr}
use Rattle.pfs_addr_values.specs.declared.packets.Dir.{Dir}
use Rattle.pfs_addr_values.specs.declared.packets.Dir.TheVariants as dir
use Rattle.pfs_addr_values.specs.declared.packets.Endpoint.{Endpoint}
use Rattle.pfs_addr_values.specs.declared.packets.FlowKey.{FlowKey}
use Rattle.pfs_conf_values.specs.Configs.{Conf, options_of, rule_retention, timeout_of}
use Rattle.pfs_conf_values.specs.declared.profiles.Profile.{Profile}
use Rattle.pfs_conf_values.specs.declared.profiles.Profile.TheVariants as profile
use Rattle.pfs_conf_values.specs.declared.timeouts.TimeoutName.TheVariants as timeout
use Rattle.pfs_conf_values.specs.declared.items.RuleNo.{RuleNo}
use Rattle.pfs_store_contract.specs.Worlds.{World, holds_number, inner_key}
use Rattle.pfs_store_contract.specs.Counts.{node_states, is_of_rule, is_of_source}
use Rattle.pfs_store_contract.specs.declared.kills.FromTo.{FromTo}
use Rattle.pfs_store_contract.specs.declared.records.Node.{Node}
use Rattle.pfs_store_contract.specs.declared.records.NodeScope.{NodeScope}
use Rattle.pfs_store_contract.specs.declared.records.NodeScope.TheVariants as node_scope
use Rattle.pfs_store_contract.specs.declared.records.State.{State}

-- how long a node without states is kept: of a rule alone, by its `src.track` and the seconds of its rate; of all, for the global
-- `src.track`
abbrev pub node_retention : Conf → NodeScope → ℕ
node_retention conf (node_scope.Rule rule) = rule_retention conf.profile (timeout_of conf timeout.SrcTrack) (options_of conf rule.0)
node_retention conf node_scope.Global = timeout_of conf timeout.SrcTrack

-- a node that had states before and has none after may leave when its retention is over
abbrev pub node_after_leaving : Conf → List State → List State → ℕ → Node → Node
node_after_leaving conf before after now n =
    if nat_lt 0 (node_states conf n.scope n.source before) && (node_states conf n.scope n.source after == 0)
    then record n { expires = now + node_retention conf n.scope }
    else n

-- the world in which these states stay, and these state numbers are pending
abbrev pub world_with_stay : Conf → World → List State → List ℕ → ℕ → World
world_with_stay conf w states pending now =
    record w { states = states; nodes = map (node_after_leaving conf w.states states now) w.nodes; pending_states = pending }

-- the world in which the states stay that pass a test; pending numbers of states that left are pending no more
abbrev pub world_without : Conf → World → (State → Bool) → ℕ → World
world_without conf w stays now = world_with_stay conf w (filter stays w.states) (filter (holds_number (filter stays w.states)) w.pending_states) now

-- the end of a key on the side from which packets of a direction come
abbrev pub end_on : Dir → FlowKey → Endpoint
end_on dir.In key = key.a
end_on dir.Out key = key.b

-- the states that a flush takes for those of the source of a state that was made in this direction: those that the source made
-- (own); of OpenBSD those whose key has it at the end from which packets of that direction come (likely)
abbrev pub is_beside : Profile → Dir → Addr → State → Bool
is_beside profile.Own dir source s = is_of_source source s
is_beside profile.OpenBsd74 dir source s = same_addr (end_on dir s.key).addr source

-- the states of a source that are flushed: all of them, or those of one rule
abbrev pub is_flushed : Profile → Dir → Addr → Option RuleNo → State → Bool
is_flushed profile dir source None s = is_beside profile dir source s
is_flushed profile dir source (Some rule) s = is_of_rule rule.0 s && is_beside profile dir source s

-- the end of a key on the side to which packets of a direction go
abbrev pub end_beyond : Dir → FlowKey → Endpoint
end_beyond dir.In key = key.b
end_beyond dir.Out key = key.a

-- a prefix, if there is one, covers an address
abbrev pub is_covered : Option Network → Addr → Bool
is_covered None a = true
is_covered (Some p) a = covers p a

-- the key of the packet that made a state, as it was sent
abbrev pub sent_on_side : Dir → State → FlowKey
sent_on_side dir.In s = s.key
sent_on_side dir.Out s = inner_key s

abbrev pub sent_key : State → FlowKey
sent_key s = sent_on_side s.dir s

-- the states that go from these hosts to those: by the source of the packet that made them, and by its destination, as it was sent
-- (pfctl(8), "-k")
abbrev pub is_from_to : FromTo → State → Bool
is_from_to hosts s = covers hosts.from s.source && is_covered hosts.to (end_beyond s.dir (sent_key s)).addr
