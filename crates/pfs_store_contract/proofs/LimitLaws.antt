-- The first limit of the rows is the one that a store finds by asking in turn.
use Rattle.std.proofs.Common.{◌≡◌, ◌&&◌, not, ℕ, Bool, true, false, if◌then◌else◌, nat_le, Option, Some, None, [], ◌∷◌, ◌++◌, ◌<◌, ◌∙◌, length, refl, sym, ap, arith}
use Rattle.std.proofs.lemmas.Bool.Decides.{nat_tests}
use Rattle.pfs_addr_values.specs.declared.addresses.Addr.{Addr}
use Rattle.pfs_conf_values.specs.Configs.{Conf, limit_of, options_of}
use Rattle.pfs_conf_values.specs.declared.actions.StateOptions.{StateOptions}
use Rattle.pfs_conf_values.specs.declared.limits.LimitName.TheVariants as limit_name
use Rattle.pfs_conf_values.specs.declared.profiles.Profile.{Profile}
use Rattle.pfs_conf_values.specs.declared.profiles.Profile.TheVariants as profile
use Rattle.pfs_store_contract.specs.Admission.{first_met, in_order, limit_met, tracks}
use Rattle.pfs_store_contract.specs.Counts.{has_node, node_scope_of, node_states, reaches_maximum, rule_states, scope_nodes}
use Rattle.pfs_store_contract.specs.SourceLimits.{first_of, limit_in_turn, maximum_limit, rule_limit, source_limit}
use Rattle.pfs_store_contract.specs.Worlds.{World}
use Rattle.pfs_store_contract.specs.declared.records.Limit.{Limit}
use Rattle.pfs_store_contract.specs.declared.records.Limit.TheVariants as limit
use Rattle.pfs_store_contract.specs.declared.records.NodeScope.{NodeScope}

-- by what each test says: of the rule's states, whether the source has a node, of its scope, of all nodes, of its states,
-- and of all states
rows_in_turn : (p : Profile) (most held nodes all_nodes states all : Bool)
    → first_met (in_order p (most, limit.Max) ((not held && nodes, limit.MaxSrcNodes) ∷ (not held && all_nodes, limit.SrcNodes)
    ∷ (held && states, limit.MaxSrcStates) ∷ []) ++ (all, limit.States) ∷ [])
    ≡ first_of (rule_limit p (if most then Some limit.Max else None)
    (if held then (if states then Some limit.MaxSrcStates else None)
    else (if nodes then Some limit.MaxSrcNodes else (if all_nodes then Some limit.SrcNodes else None))))
    (if all then Some limit.States else None)
rows_in_turn profile.Own true held nodes all_nodes states all = refl
rows_in_turn profile.Own false true nodes all_nodes true all = refl
rows_in_turn profile.Own false true nodes all_nodes false all = refl
rows_in_turn profile.Own false false true all_nodes states all = refl
rows_in_turn profile.Own false false false true states all = refl
rows_in_turn profile.Own false false false false states all = refl
rows_in_turn profile.OpenBsd74 most true nodes all_nodes true all = refl
rows_in_turn profile.OpenBsd74 true true nodes all_nodes false all = refl
rows_in_turn profile.OpenBsd74 false true nodes all_nodes false all = refl
rows_in_turn profile.OpenBsd74 most false true all_nodes states all = refl
rows_in_turn profile.OpenBsd74 most false false true states all = refl
rows_in_turn profile.OpenBsd74 true false false false states all = refl
rows_in_turn profile.OpenBsd74 false false false false states all = refl

-- of a rule that tracks no sources
rows_untracked : (p : Profile) (most all : Bool)
    → first_met (in_order p (most, limit.Max) ((false, limit.MaxSrcNodes) ∷ (false, limit.SrcNodes) ∷ (false, limit.MaxSrcStates) ∷ []) ++ (all, limit.States) ∷ [])
    ≡ first_of (rule_limit p (if most then Some limit.Max else None) None) (if all then Some limit.States else None)
rows_untracked profile.Own true all = refl
rows_untracked profile.Own false all = refl
rows_untracked profile.OpenBsd74 true all = refl
rows_untracked profile.OpenBsd74 false all = refl

pub met_in_turn : (conf : Conf) (w : World) (rule : ℕ) (source : Addr) → limit_met conf w rule source ≡ limit_in_turn conf w rule source
met_in_turn conf w rule source = by (node_scope_of conf rule)
  where
    o : StateOptions
    o = options_of conf rule

    most : Bool
    most = reaches_maximum o.max (rule_states rule w.states)

    full : Bool
    full = nat_le (limit_of conf limit_name.SrcNodes) (length w.nodes)

    all : Bool
    all = nat_le (limit_of conf limit_name.States) (length w.states)

    by : (scope : Option NodeScope)
        → first_met (in_order conf.profile (most, limit.Max) (
        (tracks scope (λ s. not (has_node s source w.nodes) && reaches_maximum o.max_src_nodes (scope_nodes s w.nodes)), limit.MaxSrcNodes)
        ∷ (tracks scope (λ s. not (has_node s source w.nodes) && full), limit.SrcNodes)
        ∷ (tracks scope (λ s. has_node s source w.nodes && reaches_maximum o.max_src_states (node_states conf s source w.states)), limit.MaxSrcStates)
        ∷ []) ++ (all, limit.States) ∷ [])
        ≡ first_of (rule_limit conf.profile (if most then Some limit.Max else None) (source_limit conf w o source scope))
        (if all then Some limit.States else None)
    by None = rows_untracked conf.profile most all
    by (Some s) =
        rows_in_turn conf.profile most (has_node s source w.nodes) (reaches_maximum o.max_src_nodes (scope_nodes s w.nodes)) full
        (reaches_maximum o.max_src_states (node_states conf s source w.states)) all

-- none is met where neither that of the rule nor that of its source is, and there is room for a state
no_room : (a b : ℕ) → b < a → nat_le a b ≡ false
no_room a b h = grind (arith, nat_tests)

pub none-met : (conf : Conf) (w : World) (rule : ℕ) (source : Addr)
    → None ≡ rule_limit conf.profile (maximum_limit w rule (options_of conf rule)) (source_limit conf w (options_of conf rule) source (node_scope_of conf rule))
    → length w.states < limit_of conf limit_name.States → None ≡ limit_met conf w rule source
none-met conf w rule source e h =
    let room = no_room (limit_of conf limit_name.States) (length w.states) h in
    sym (ap (λ (b : Bool). if b then Some limit.States else None) room)
    ∙ ap (λ (l : Option Limit). first_of l (if nat_le (limit_of conf limit_name.States) (length w.states) then Some limit.States else None)) e
    ∙ sym (met_in_turn conf w rule source)
