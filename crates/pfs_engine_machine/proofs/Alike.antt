-- Lists of source nodes that differ in scores and expiries alone.
use Rattle.std.proofs.Common.{◌≡◌, ◌&&◌, ◌+◌, ◌==◌, ℕ, Bool, true, false, if◌then◌else◌, Option, None, Some, List, length, map, nat_lt, refl, ap, ◌∙◌}
use Rattle.std.proofs.lemmas.List.{length-map}
use Rattle.pfs_addr_values.specs.Sameness.{same_addr}
use Rattle.pfs_addr_values.specs.declared.addresses.Addr.{Addr}
use Rattle.pfs_conf_values.specs.Configs.{Conf, options_of}
use Rattle.pfs_conf_values.specs.declared.actions.Rate.{Rate}
use Rattle.pfs_track.specs.Scores.{score_after}
use Rattle.pfs_store_contract.specs.Counts.{has_node, is_node, node_scope_of, node_states, same_scope, scope_nodes}
use Rattle.pfs_store_contract.specs.Leaving.{node_after_leaving, node_retention}
use Rattle.pfs_store_contract.specs.Touching.{nodes_scored, nodes_touched, node_after_handshake}
use Rattle.pfs_store_contract.specs.declared.records.Node.{Node}
use Rattle.pfs_store_contract.specs.declared.records.NodeScope.{NodeScope}
use Rattle.pfs_store_contract.specs.declared.records.State.{State}
use Rattle.pfs_engine_machine.proofs.Counts.{any-map, count-map}

-- as many nodes, of the same scopes and sources
pub record AreAlike (before after : List Node) : Type 0 where
  pub size : length after ≡ length before
  pub counts : (scope : NodeScope) → scope_nodes scope after ≡ scope_nodes scope before
  pub has : (scope : NodeScope) (source : Addr) → has_node scope source after ≡ has_node scope source before

abbrev pub IsAlike : Node → Node → Type 0
IsAlike before after = (after.scope ≡ before.scope) × (after.source ≡ before.source)

pub alike_same : (nodes : List Node) → AreAlike nodes nodes
alike_same nodes = record { size = refl; counts = λ scope. refl; has = λ scope source. refl }

pub alike_map : (f : Node → Node) → ((n : Node) → IsAlike n (f n)) → (nodes : List Node) → AreAlike nodes (map f nodes)
alike_map f same nodes = record {
  size = length-map nodes f;
  counts = λ scope. count-map (λ (n : Node). same_scope n.scope scope) f (λ n. ap (λ (s : NodeScope). same_scope s scope) (same n).0) nodes;
  has = λ scope source. any-map (is_node scope source) f
      (λ n. ap (λ (s : NodeScope). same_scope s scope && same_addr (f n).source source) (same n).0
      ∙ ap (λ (a : Addr). same_scope n.scope scope && same_addr a source) (same n).1) nodes;
}

-- ---- a handshake

rescored-alike : (scope : NodeScope) (source : Addr) (seconds now : ℕ) (n : Node) → IsAlike n (node_after_handshake scope source seconds now n)
rescored-alike scope source seconds now n = go (is_node scope source n)
  where
    go : (b : Bool) → IsAlike n (if b then record n { score = score_after seconds n.score now } else n)
    go true = (refl, refl)
    go false = (refl, refl)

nodes_scored-alike : (nodes : List Node) (source : Addr) (now : ℕ) (scope : Option NodeScope) (rate : Option Rate)
    → AreAlike nodes (nodes_scored nodes source now scope rate)
nodes_scored-alike nodes source now None rate = alike_same nodes
nodes_scored-alike nodes source now (Some scope) None = alike_same nodes
nodes_scored-alike nodes source now (Some scope) (Some rate) =
    alike_map (node_after_handshake scope source rate.seconds now) (rescored-alike scope source rate.seconds now) nodes

pub nodes_touched-alike : (conf : Conf) (nodes : List Node) (s : State) (now : ℕ) (completes : Bool)
    → AreAlike nodes (nodes_touched conf nodes s now completes)
nodes_touched-alike conf nodes s now true =
    nodes_scored-alike nodes s.source now (node_scope_of conf s.rule.0) (options_of conf s.rule.0).max_src_conn_rate
nodes_touched-alike conf nodes s now false = alike_same nodes

-- ---- states leave

left-alike : (conf : Conf) (before after : List State) (now : ℕ) (n : Node) → IsAlike n (node_after_leaving conf before after now n)
left-alike conf before after now n =
    go (nat_lt 0 (node_states conf n.scope n.source before) && (node_states conf n.scope n.source after == 0))
  where
    go : (b : Bool) → IsAlike n (if b then record n { expires = now + node_retention conf n.scope } else n)
    go true = (refl, refl)
    go false = (refl, refl)

pub left_all-alike : (conf : Conf) (before after : List State) (now : ℕ) (nodes : List Node)
    → AreAlike nodes (map (node_after_leaving conf before after now) nodes)
left_all-alike conf before after now nodes = alike_map (node_after_leaving conf before after now) (left-alike conf before after now) nodes
