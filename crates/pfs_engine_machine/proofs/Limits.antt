-- What a rule and a source have room for where no limit is met, or `max` is the first; so what a refusal leaves.
use Rattle.std.proofs.Common.{◌≡◌, ◌∙◌, ◌+◌, ◌≤◌, ◌&&◌, not, nat_le, ℕ, Bool, true, false, Option, Some, None, [], ◌∷◌, ◌++◌, length, length-append, if◌then◌else◌, refl, ap, sym, arith}
use Rattle.std.proofs.lemmas.Bool.Decides.{nat_tests}
use Rattle.pfs_addr_values.specs.declared.addresses.Addr.{Addr}
use Rattle.pfs_conf_values.specs.Configs.{Conf, limit_of, options_of}
use Rattle.pfs_conf_values.specs.Profiles.{is_openbsd}
use Rattle.pfs_conf_values.specs.declared.actions.StateOptions.{StateOptions}
use Rattle.pfs_conf_values.specs.declared.limits.LimitName.TheVariants as limit_name
use Rattle.pfs_conf_values.specs.declared.profiles.Profile.{Profile}
use Rattle.pfs_conf_values.specs.declared.profiles.Profile.TheVariants as profile
use Rattle.pfs_store_contract.proofs.LimitLaws.{met_in_turn}
use Rattle.pfs_store_contract.specs.Admission.{limit_met, new_node, nodes_with, tracks, world_after_refusal}
use Rattle.pfs_store_contract.specs.Counts.{has_node, node_scope_of, node_states, reaches_maximum, rule_states, scope_nodes}
use Rattle.pfs_store_contract.specs.SourceLimits.{first_of, held_node_limit, maximum_limit, new_node_limit, rule_limit, source_limit}
use Rattle.pfs_store_contract.specs.Worlds.{World}
use Rattle.pfs_store_contract.specs.declared.records.Limit.{Limit}
use Rattle.pfs_store_contract.specs.declared.records.Limit.TheVariants as limit
use Rattle.pfs_store_contract.specs.declared.records.NodeScope.{NodeScope}

-- ---- no limit is met

first_none : (a b : Option Limit) → first_of a b ≡ None → (a ≡ None) × (b ≡ None)
first_none (Some l) b h = absurd cc
first_none None b h = (refl, h)

-- in whatever order the two are asked
rule_none : (p : Profile) (maximum of_source : Option Limit) → rule_limit p maximum of_source ≡ None → (maximum ≡ None) × (of_source ≡ None)
rule_none profile.Own maximum of_source h = first_none maximum of_source h
rule_none profile.OpenBsd74 maximum of_source h = let each = first_none of_source maximum h in (each.1, each.0)

none_where : (b : Bool) (l : Limit) → (if b then Some l else None) ≡ None → b ≡ false
none_where true l h = absurd cc
none_where false l h = refl

-- a maximum that is not reached has room for one more
pub not_reached : (most : Option ℕ) (count n : ℕ) → reaches_maximum most count ≡ false → most ≡ Some n → count + 1 ≤ n
not_reached most count n h is = let free = rw is at h in grind (arith, nat_tests)

-- what it says that a rule and a source meet no limit
pub record MeetsNone (conf : Conf) (w : World) (rule : ℕ) (source : Addr) : Type 0 where
  pub most : reaches_maximum (options_of conf rule).max (rule_states rule w.states) ≡ false
  pub sources : source_limit conf w (options_of conf rule) source (node_scope_of conf rule) ≡ None
  pub room : length w.states + 1 ≤ limit_of conf limit_name.States

pub meets_none : (conf : Conf) (w : World) (rule : ℕ) (source : Addr) → limit_met conf w rule source ≡ None → MeetsNone conf w rule source
meets_none conf w rule source h =
    let maximum = maximum_limit w rule (options_of conf rule) in
    let sources = source_limit conf w (options_of conf rule) source (node_scope_of conf rule) in
    let all = if nat_le (limit_of conf limit_name.States) (length w.states) then Some limit.States else None in
    let outer = first_none (rule_limit conf.profile maximum sources) all (sym (met_in_turn conf w rule source) ∙ h) in
    let inner = rule_none conf.profile maximum sources outer.0 in
    let free = none_where (nat_le (limit_of conf limit_name.States) (length w.states)) limit.States outer.1 in
    record {
      most = none_where (reaches_maximum (options_of conf rule).max (rule_states rule w.states)) limit.Max inner.0;
      sources = inner.1;
      room = grind (arith, nat_tests);
    }

-- a source that has a node has room there
pub held_free : (conf : Conf) (w : World) (o : StateOptions) (source : Addr) (found : NodeScope) → source_limit conf w o source (Some found) ≡ None
    → has_node found source w.nodes ≡ true → reaches_maximum o.max_src_states (node_states conf found source w.states) ≡ false
held_free conf w o source found h has =
    none_where (reaches_maximum o.max_src_states (node_states conf found source w.states)) limit.MaxSrcStates
    (sym (ap (λ b. if b then held_node_limit conf w o found source else new_node_limit conf w o found) has) ∙ h)

-- a source that has none has room for one
pub new_free : (conf : Conf) (w : World) (o : StateOptions) (source : Addr) (found : NodeScope) → source_limit conf w o source (Some found) ≡ None
    → has_node found source w.nodes ≡ false
    → (reaches_maximum o.max_src_nodes (scope_nodes found w.nodes) ≡ false) × (length w.nodes + 1 ≤ limit_of conf limit_name.SrcNodes)
new_free conf w o source found h has =
    by (reaches_maximum o.max_src_nodes (scope_nodes found w.nodes)) (nat_le (limit_of conf limit_name.SrcNodes) (length w.nodes)) refl
    (sym (ap (λ b. if b then held_node_limit conf w o found source else new_node_limit conf w o found) has) ∙ h)
  where
    by : (a b : Bool) → nat_le (limit_of conf limit_name.SrcNodes) (length w.nodes) ≡ b
        → (if a then Some limit.MaxSrcNodes else (if b then Some limit.SrcNodes else None)) ≡ None
        → (a ≡ false) × (length w.nodes + 1 ≤ limit_of conf limit_name.SrcNodes)
    by true b e k = absurd cc
    by false true e k = absurd cc
    by false false e k = (refl, grind (arith, nat_tests))

-- with its node, all nodes are within their limit
pub nodes_room : (conf : Conf) (w : World) (o : StateOptions) (source : Addr) (number now : ℕ) (at : Option NodeScope) → source_limit conf w o source at ≡ None
    → length w.nodes ≤ limit_of conf limit_name.SrcNodes → length (nodes_with w.nodes number source now at) ≤ limit_of conf limit_name.SrcNodes
nodes_room conf w o source number now None free before = before
nodes_room conf w o source number now (Some found) free before = by (has_node found source w.nodes) refl
  where
    by : (b : Bool) → has_node found source w.nodes ≡ b
        → length (if b then w.nodes else w.nodes ++ new_node number found source now ∷ []) ≤ limit_of conf limit_name.SrcNodes
    by true e = before
    by false e = omega (arith, length-append w.nodes (new_node number found source now ∷ []), (new_free conf w o source found free e).1)

-- ---- what a refusal leaves

-- the limit that a source meets is not that of its rule's states
not_max : (conf : Conf) (w : World) (o : StateOptions) (source : Addr) (at : Option NodeScope) → source_limit conf w o source at ≡ Some limit.Max → ⊥
not_max conf w o source None h = absurd cc
not_max conf w o source (Some found) h =
    by (has_node found source w.nodes) (reaches_maximum o.max_src_states (node_states conf found source w.states))
    (reaches_maximum o.max_src_nodes (scope_nodes found w.nodes)) (nat_le (limit_of conf limit_name.SrcNodes) (length w.nodes)) h
  where
    by : (held states nodes all : Bool)
        → (if held then (if states then Some limit.MaxSrcStates else None)
        else (if nodes then Some limit.MaxSrcNodes else (if all then Some limit.SrcNodes else None))) ≡ Some limit.Max → ⊥
    by true true nodes all e = absurd cc
    by true false nodes all e = absurd cc
    by false states true all e = absurd cc
    by false states false true e = absurd cc
    by false states false false e = absurd cc

-- under OpenBSD's profile the source meets none where `max` is the first
max_first : (maximum of_source all : Option Limit) → (of_source ≡ Some limit.Max → ⊥)
    → first_of (rule_limit profile.OpenBsd74 maximum of_source) all ≡ Some limit.Max → of_source ≡ None
max_first maximum None all apart h = refl
max_first maximum (Some l) all apart h = absurd (apart h)

-- the world with a node that a refusal leaves
abbrev pub world_with_stray : Conf → World → Addr → ℕ → ℕ → World
world_with_stray conf w source rule now =
    record w { nodes = nodes_with w.nodes (w.made + 1) source now (node_scope_of conf rule); made = w.made + 1 }

-- it leaves what was held, or that node of a source that meets no limit
pub refused_has : (conf : Conf) (w : World) (rule : ℕ) (source : Addr) (now : ℕ) (l : Limit) (Q : World → Type 0) → limit_met conf w rule source ≡ Some l
    → Q w → (source_limit conf w (options_of conf rule) source (node_scope_of conf rule) ≡ None → Q (world_with_stray conf w source rule now))
    → Q (world_after_refusal conf w source rule now l)
refused_has conf w rule source now limit.MaxSrcNodes Q h same stray = same
refused_has conf w rule source now limit.SrcNodes Q h same stray = same
refused_has conf w rule source now limit.MaxSrcStates Q h same stray = same
refused_has conf w rule source now limit.States Q h same stray = same
refused_has conf w rule source now limit.Max Q h same stray = by conf.profile refl
  where
    maximum : Option Limit
    maximum = maximum_limit w rule (options_of conf rule)

    sources : Option Limit
    sources = source_limit conf w (options_of conf rule) source (node_scope_of conf rule)

    all : Option Limit
    all = if nat_le (limit_of conf limit_name.States) (length w.states) then Some limit.States else None

    first : (p : Profile) → conf.profile ≡ p → first_of (rule_limit p maximum sources) all ≡ Some limit.Max
    first p e = ap (λ (x : Profile). first_of (rule_limit x maximum sources) all) (sym e) ∙ (sym (met_in_turn conf w rule source) ∙ h)

    by : (p : Profile) → conf.profile ≡ p
        → Q (if is_openbsd p && tracks (node_scope_of conf rule) (λ s. not (has_node s source w.nodes)) then world_with_stray conf w source rule now else w)
    by profile.Own e = same
    by profile.OpenBsd74 e = go (tracks (node_scope_of conf rule) (λ s. not (has_node s source w.nodes)))
      where
        go : (b : Bool) → Q (if b then world_with_stray conf w source rule now else w)
        go true = stray (max_first maximum sources all (not_max conf w (options_of conf rule) source (node_scope_of conf rule)) (first profile.OpenBsd74 e))
        go false = same
