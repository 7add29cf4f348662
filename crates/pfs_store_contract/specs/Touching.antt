-- A packet of a state that is held: its phase is renewed, and at a completed handshake of a rule with a rate its node's
-- score. (pf.conf(5), STATEFUL TRACKING OPTIONS; the table of phases and the score are own)
use Rattle.std.specs.Prelude.{ℕ, ◌==◌, ◌&&◌, not, Bool, true, false, if◌then◌else◌, Option, Some, None, List, map, option_map, unwrap_or}
use Rattle.std.specs.List.{find}
use Rattle.pfs_addr_values.specs.Packets.{PacketView}
use Rattle.pfs_addr_values.specs.declared.addresses.Addr.{Addr}
use Rattle.pfs_addr_values.specs.contracts.packets.DirPartialEq.TheImpl as dir_eq
use Rattle.pfs_conf_values.specs.Configs.{Conf, options_of}
use Rattle.pfs_conf_values.specs.Profiles.{is_openbsd}
use Rattle.pfs_conf_values.specs.declared.actions.Rate.{Rate}
use Rattle.pfs_track.specs.Scores.{score_after, zero_score}
use Rattle.pfs_track.specs.StatePhases.{asks_peer, completes, has_closed, phase_after, takes}
use Rattle.pfs_track.specs.declared.scores.Score.{Score}
use Rattle.pfs_store_contract.specs.Worlds.{World}
use Rattle.pfs_store_contract.specs.Counts.{is_node, node_connections, node_scope_of}
use Rattle.pfs_store_contract.specs.declared.records.Node.{Node}
use Rattle.pfs_store_contract.specs.declared.records.NodeScope.{NodeScope}
use Rattle.pfs_store_contract.specs.declared.records.State.{State}

-- a packet goes forward when its direction is that of the packet that made the state
abbrev pub goes_forward : PacketView → State → Bool
goes_forward p s = (dir_eq.ghosts).eq p.dir s.dir

-- a packet completes the handshake of a state
abbrev pub completes_at : PacketView → State → Bool
completes_at p s = completes s.phase (goes_forward p s) p.flags

-- a SYN without ACK for a connection that has closed: of OpenBSD its state leaves, and the packet is one of no state (certain)
abbrev pub may_reopen : Conf → PacketView → Bool
may_reopen conf p = is_openbsd conf.profile && (p.flags.syn && not p.flags.ack)

abbrev pub reopens : Conf → PacketView → State → Bool
reopens conf p s = may_reopen conf p && has_closed s.phase

-- pf takes a packet of a state itself, so that it goes no further
abbrev pub is_taken : PacketView → State → Bool
is_taken p s = takes s.phase (goes_forward p s) p.flags

-- pf takes a packet of a state, and asks the other peer for a connection by a SYN of its own
abbrev pub is_asking : PacketView → State → Bool
is_asking p s = asks_peer s.phase (goes_forward p s) p.flags

-- the state after its packet: the moment of its last packet stays where pf takes this one
abbrev pub state_after_packet : PacketView → ℕ → State → State
state_after_packet p now s =
    record s { phase = phase_after s.phase (goes_forward p s) p.flags; last = if is_taken p s then s.last else now }

-- the state of a number after its packet
abbrev pub numbered_state_after : ℕ → PacketView → ℕ → State → State
numbered_state_after number p now s = if s.number == number then state_after_packet p now s else s

-- ---- scores

-- the score of a source's node
abbrev pub node_score : NodeScope → Addr → List Node → Score
node_score scope source nodes = unwrap_or (option_map (λ (n : Node). n.score) (find (is_node scope source) nodes)) zero_score

-- the node of a scope and source after a handshake
abbrev pub node_after_handshake : NodeScope → Addr → ℕ → ℕ → Node → Node
node_after_handshake scope source seconds now n = if is_node scope source n then record n { score = score_after seconds n.score now } else n

-- the nodes after a handshake of a source: only a rule that tracks sources and has a rate keeps a score
abbrev pub nodes_scored : List Node → Addr → ℕ → Option NodeScope → Option Rate → List Node
nodes_scored nodes source now None rate = nodes
nodes_scored nodes source now (Some scope) None = nodes
nodes_scored nodes source now (Some scope) (Some rate) = map (node_after_handshake scope source rate.seconds now) nodes

-- ---- the world after a packet of a state

-- the nodes: a completed handshake counts in the score of its source's node
abbrev pub nodes_touched : Conf → List Node → State → ℕ → Bool → List Node
nodes_touched conf nodes s now true = nodes_scored nodes s.source now (node_scope_of conf s.rule.0) (options_of conf s.rule.0).max_src_conn_rate
nodes_touched conf nodes s now false = nodes

-- the state is renewed, and its node's score
abbrev pub world_after_touch : Conf → World → State → PacketView → ℕ → World
world_after_touch conf w s p now = record w {
  states = map (numbered_state_after s.number p now) w.states;
  nodes = nodes_touched conf w.nodes s now (completes_at p s);
}

-- ---- the connections and the score of a source in the scope of a rule; none where the rule tracks no sources

abbrev pub connections_in : Conf → Addr → List State → Option NodeScope → ℕ
connections_in conf source states None = 0
connections_in conf source states (Some scope) = node_connections conf scope source states

abbrev pub score_in : Addr → List Node → Option NodeScope → Score
score_in source nodes None = zero_score
score_in source nodes (Some scope) = node_score scope source nodes
