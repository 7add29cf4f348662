-- No handshake that a score counts came after a moment, whatever comes by that moment.
use Rattle.std.proofs.Common.{◌≤◌, ◌++◌, ◌∷◌, [], ℕ, Bool, true, false, Option, None, Some, List, All, if◌then◌else◌, ◌+◌, ◌==◌, ◌&&◌, nat_lt, arith}
use Rattle.std.proofs.lemmas.List.Elements.{All-filter, All-map, All-nil, All-push, All-weaker}
use Rattle.pfs_addr_values.specs.Packets.{PacketView}
use Rattle.pfs_addr_values.specs.declared.addresses.Addr.{Addr}
use Rattle.pfs_addr_values.specs.declared.packets.Dir.{Dir}
use Rattle.pfs_conf_values.specs.Configs.{Conf, options_of}
use Rattle.pfs_conf_values.specs.declared.actions.Rate.{Rate}
use Rattle.pfs_conf_values.specs.declared.items.RuleNo.{RuleNo}
use Rattle.pfs_track.specs.Scores.{score_after}
use Rattle.pfs_store_contract.specs.Admission.{leaves_node, new_node, nodes_with}
use Rattle.pfs_store_contract.specs.Calls.{world_at, world_flushed, world_killed, world_touched}
use Rattle.pfs_store_contract.specs.Counts.{has_node, is_node, node_scope_of, node_states}
use Rattle.pfs_store_contract.specs.Leaving.{node_after_leaving, node_retention, world_with_stay}
use Rattle.pfs_store_contract.specs.Purging.{node_slice, state_slice}
use Rattle.pfs_store_contract.specs.Touching.{completes_at, nodes_scored, nodes_touched, node_after_handshake}
use Rattle.pfs_store_contract.specs.Worlds.{IsUpToNow, World, empty_world}
use Rattle.pfs_store_contract.specs.declared.records.Limit.{Limit}
use Rattle.pfs_store_contract.specs.declared.records.Node.{Node}
use Rattle.pfs_store_contract.specs.declared.records.NodeScope.{NodeScope}
use Rattle.pfs_store_contract.specs.declared.records.State.{State}

-- the last handshake that a node's score counts came by a moment
abbrev pub IsScoredBy : ℕ → Node → Type 0
IsScoredBy now n = n.score.last ≤ now

pub empty_world-up_to_now : (now : ℕ) → IsUpToNow now empty_world
empty_world-up_to_now now = All-nil (IsScoredBy now)

pub later-up_to_now : (m n : ℕ) (w : World) → m ≤ n → IsUpToNow m w → IsUpToNow n w
later-up_to_now m n w le h = All-weaker (IsScoredBy m) (IsScoredBy n) (λ d k. omega (arith, le, k)) w.nodes h

nodes_with-scored : (now : ℕ) (nodes : List Node) (number : ℕ) (source : Addr) (at : ℕ) (scope : Option NodeScope) → All (IsScoredBy now) nodes
    → All (IsScoredBy now) (nodes_with nodes number source at scope)
nodes_with-scored now nodes number source at None h = h
nodes_with-scored now nodes number source at (Some scope) h = by (has_node scope source nodes)
  where
    by : (b : Bool) → All (IsScoredBy now) (if b then nodes else nodes ++ new_node number scope source at ∷ [])
    by true = h
    by false = All-push (IsScoredBy now) nodes (new_node number scope source at) h (omega arith)

pub world_at-up_to_now : (conf : Conf) (w : World) (p going : PacketView) (rule : ℕ) (cookie : Bool) (now : ℕ) (limit : Option Limit) → IsUpToNow now w
    → IsUpToNow now (world_at conf w p going rule cookie now limit)
world_at-up_to_now conf w p going rule cookie now None h = nodes_with-scored now w.nodes (w.made + 1) p.source.addr now (node_scope_of conf rule) h
world_at-up_to_now conf w p going rule cookie now (Some l) h = by (leaves_node conf w p.source.addr rule l)
  where
    by : (b : Bool) → IsUpToNow now
        (if b then record w { nodes = nodes_with w.nodes (w.made + 1) p.source.addr now (node_scope_of conf rule); made = w.made + 1 } else w)
    by true = nodes_with-scored now w.nodes (w.made + 1) p.source.addr now (node_scope_of conf rule) h
    by false = h

rescored-scored : (scope : NodeScope) (source : Addr) (seconds now : ℕ) (n : Node) → IsScoredBy now n → IsScoredBy now (node_after_handshake scope source seconds now n)
rescored-scored scope source seconds now n h = by (is_node scope source n)
  where
    by : (b : Bool) → IsScoredBy now (if b then record n { score = score_after seconds n.score now } else n)
    by true = omega arith
    by false = h

nodes_scored-scored : (nodes : List Node) (source : Addr) (now : ℕ) (scope : Option NodeScope) (rate : Option Rate) → All (IsScoredBy now) nodes
    → All (IsScoredBy now) (nodes_scored nodes source now scope rate)
nodes_scored-scored nodes source now None rate h = h
nodes_scored-scored nodes source now (Some scope) None h = h
nodes_scored-scored nodes source now (Some scope) (Some rate) h =
    All-map (IsScoredBy now) (node_after_handshake scope source rate.seconds now) nodes
    (All-weaker (IsScoredBy now) (λ (n : Node). IsScoredBy now (node_after_handshake scope source rate.seconds now n)) (rescored-scored scope source rate.seconds now) nodes h)

nodes_touched-scored : (conf : Conf) (nodes : List Node) (s : State) (now : ℕ) (completes : Bool) → All (IsScoredBy now) nodes
    → All (IsScoredBy now) (nodes_touched conf nodes s now completes)
nodes_touched-scored conf nodes s now true h =
    nodes_scored-scored nodes s.source now (node_scope_of conf s.rule.0) (options_of conf s.rule.0).max_src_conn_rate h
nodes_touched-scored conf nodes s now false h = h

pub world_touched-up_to_now : (conf : Conf) (w : World) (p : PacketView) (now : ℕ) (state : Option State) → IsUpToNow now w
    → IsUpToNow now (world_touched conf w p now state)
world_touched-up_to_now conf w p now None h = h
world_touched-up_to_now conf w p now (Some s) h = nodes_touched-scored conf w.nodes s now (completes_at p s) h

idled-scored : (conf : Conf) (before after : List State) (at now : ℕ) (n : Node) → IsScoredBy now n → IsScoredBy now (node_after_leaving conf before after at n)
idled-scored conf before after at now n h =
    by (nat_lt 0 (node_states conf n.scope n.source before) && (node_states conf n.scope n.source after == 0))
  where
    by : (b : Bool) → IsScoredBy now (if b then record n { expires = at + node_retention conf n.scope } else n)
    by true = h
    by false = h

-- states may leave at any moment
pub left-up_to_now : (conf : Conf) (w : World) (states : List State) (pending : List ℕ) (at now : ℕ) → IsUpToNow now w
    → IsUpToNow now (world_with_stay conf w states pending at)
left-up_to_now conf w states pending at now h =
    All-map (IsScoredBy now) (node_after_leaving conf w.states states at) w.nodes
    (All-weaker (IsScoredBy now) (λ (n : Node). IsScoredBy now (node_after_leaving conf w.states states at n)) (idled-scored conf w.states states at now) w.nodes h)

pub killed-up_to_now : (conf : Conf) (w : World) (number at now : ℕ) → IsUpToNow now w → IsUpToNow now (world_killed conf w number at)
killed-up_to_now conf w number at now h = left-up_to_now conf w _ [] at now h

pub flushed-up_to_now : (conf : Conf) (w : World) (dir : Dir) (source : Addr) (rule : Option RuleNo) (at now : ℕ) → IsUpToNow now w
    → IsUpToNow now (world_flushed conf w dir source rule at)
flushed-up_to_now conf w dir source rule at now h = left-up_to_now conf w _ [] at now h

pub state_slice-up_to_now : (conf : Conf) (w : World) (at now : ℕ) → IsUpToNow now w → IsUpToNow now (state_slice conf w at)
state_slice-up_to_now conf w at now h = left-up_to_now conf w _ [] at now h

pub node_slice-up_to_now : (conf : Conf) (w : World) (at now : ℕ) → IsUpToNow now w → IsUpToNow now (node_slice conf w at)
node_slice-up_to_now conf w at now h = All-filter _ (IsScoredBy now) w.nodes h
