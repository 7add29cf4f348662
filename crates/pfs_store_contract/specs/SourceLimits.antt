-- The limits that a new state meets, as a store looks for them: that of the rule, those of the source in the rule's scope, and
-- that of all states. (not promised)
use Rattle.std.specs.Prelude.{ℕ, nat_le, if◌then◌else◌, Option, Some, None, length}
use Rattle.pfs_addr_values.specs.declared.addresses.Addr.{Addr}
use Rattle.pfs_conf_values.specs.Configs.{Conf, limit_of, options_of}
use Rattle.pfs_conf_values.specs.declared.actions.StateOptions.{StateOptions}
use Rattle.pfs_conf_values.specs.declared.limits.LimitName.TheVariants as limit_name
use Rattle.pfs_conf_values.specs.declared.profiles.Profile.{Profile}
use Rattle.pfs_conf_values.specs.declared.profiles.Profile.TheVariants as profile
use Rattle.pfs_store_contract.specs.Worlds.{World}
use Rattle.pfs_store_contract.specs.Counts.{node_scope_of, rule_states, node_states, scope_nodes, has_node, reaches_maximum}
use Rattle.pfs_store_contract.specs.declared.records.Limit.{Limit}
use Rattle.pfs_store_contract.specs.declared.records.Limit.TheVariants as limit
use Rattle.pfs_store_contract.specs.declared.records.NodeScope.{NodeScope}

-- the first that there is
abbrev pub first_of : Option Limit → Option Limit → Option Limit
first_of (Some l) other = Some l
first_of None other = other

-- a source without a node in the scope: the scope's maximum of nodes, then the limit of all nodes
abbrev pub new_node_limit : Conf → World → StateOptions → NodeScope → Option Limit
new_node_limit conf w o scope =
    if reaches_maximum o.max_src_nodes (scope_nodes scope w.nodes) then Some limit.MaxSrcNodes
    else (if nat_le (limit_of conf limit_name.SrcNodes) (length w.nodes) then Some limit.SrcNodes else None)

-- a source with a node: the maximum of its states
abbrev pub held_node_limit : Conf → World → StateOptions → NodeScope → Addr → Option Limit
held_node_limit conf w o scope source =
    if reaches_maximum o.max_src_states (node_states conf scope source w.states) then Some limit.MaxSrcStates else None

-- the limit that a source meets, where the rule tracks sources
abbrev pub source_limit : Conf → World → StateOptions → Addr → Option NodeScope → Option Limit
source_limit conf w o source None = None
source_limit conf w o source (Some scope) =
    if has_node scope source w.nodes then held_node_limit conf w o scope source else new_node_limit conf w o scope

-- the limit of a rule's states
abbrev pub maximum_limit : World → ℕ → StateOptions → Option Limit
maximum_limit w rule o = if reaches_maximum o.max (rule_states rule w.states) then Some limit.Max else None

-- that of the rule's states and that of the source, in the order of the profile
abbrev pub rule_limit : Profile → Option Limit → Option Limit → Option Limit
rule_limit profile.Own maximum of_source = first_of maximum of_source
rule_limit profile.OpenBsd74 maximum of_source = first_of of_source maximum

-- one after the other
abbrev pub limit_in_turn : Conf → World → ℕ → Addr → Option Limit
limit_in_turn conf w rule source =
    first_of (rule_limit conf.profile (maximum_limit w rule (options_of conf rule)) (source_limit conf w (options_of conf rule) source (node_scope_of conf rule)))
    (if nat_le (limit_of conf limit_name.States) (length w.states) then Some limit.States else None)
