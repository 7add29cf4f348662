-- Purging in rounds: each second a slice of the states, then a slice of the source nodes. A round is the numbers that were
-- held when it began; a slice examines its first ones, and does not go on into the next round. (own; pf.conf(5), OPTIONS,
-- "interval" for how often all are examined)
use Rattle.std.specs.Prelude.{ℕ, ◌+◌, ◌/◌, ◌==◌, ◌&&◌, not, nat_le, Bool, List, [], ◌∷◌, length, take, drop, filter, map}
use Rattle.std.specs.List.{list_any}
use Rattle.pfs_conf_values.specs.Configs.{Conf, limit_of, timeout_of}
use Rattle.pfs_conf_values.specs.declared.limits.LimitName.TheVariants as limit_name
use Rattle.pfs_conf_values.specs.declared.timeouts.TimeoutName.TheVariants as timeout
use Rattle.pfs_track.specs.Lifetimes.{scaled_lifetime, is_expired}
use Rattle.pfs_store_contract.specs.Worlds.{World}
use Rattle.pfs_store_contract.specs.Counts.{rule_states, node_states}
use Rattle.pfs_store_contract.specs.Leaving.{world_with_stay}
use Rattle.pfs_store_contract.specs.declared.records.Node.{Node}
use Rattle.pfs_store_contract.specs.declared.records.State.{State}

-- ---- rounds

-- how many a slice examines, where at most so many are held
abbrev pub share : ℕ → ℕ → ℕ
share limit interval = 1 + limit / interval

-- what is left of the round, or a new one of all that is held
abbrev pub round : List ℕ → List ℕ → List ℕ
round held [] = held
round held (n ∷ pending) = n ∷ pending

abbrev pub is_among : List ℕ → ℕ → Bool
is_among numbers n = list_any (λ m. m == n) numbers

-- ---- states

abbrev pub state_numbers : List State → List ℕ
state_numbers states = map (λ (s : State). s.number) states

abbrev pub state_share : Conf → ℕ
state_share conf = share (limit_of conf limit_name.States) (timeout_of conf timeout.Interval)

abbrev pub state_round : World → List ℕ
state_round w = round (state_numbers w.states) w.pending_states

-- a state is expired at a second, where these states are held
abbrev pub has_expired : Conf → List State → ℕ → State → Bool
has_expired conf states now s = is_expired (scaled_lifetime conf s.rule.0 s.phase (rule_states s.rule.0 states) (length states)) s.last now

-- a state stays at a slice: it is not examined, or not expired under the counts before the slice
abbrev pub stays : Conf → List State → ℕ → List ℕ → State → Bool
stays conf states now examined s = not (is_among examined s.number && has_expired conf states now s)

abbrev pub state_slice : Conf → World → ℕ → World
state_slice conf w now =
    world_with_stay conf w (filter (stays conf w.states now (take (state_share conf) (state_round w))) w.states) (drop (state_share conf) (state_round w)) now

-- ---- nodes

abbrev pub node_numbers : List Node → List ℕ
node_numbers nodes = map (λ (n : Node). n.number) nodes

abbrev pub node_share : Conf → ℕ
node_share conf = share (limit_of conf limit_name.SrcNodes) (timeout_of conf timeout.Interval)

abbrev pub node_round : World → List ℕ
node_round w = round (node_numbers w.nodes) w.pending_nodes

-- a node has no state, and the moment has come from which it may leave
abbrev pub is_over : Conf → List State → ℕ → Node → Bool
is_over conf states now n = (node_states conf n.scope n.source states == 0) && nat_le n.expires now

abbrev pub node_stays : Conf → List State → ℕ → List ℕ → Node → Bool
node_stays conf states now examined n = not (is_among examined n.number && is_over conf states now n)

abbrev pub node_slice : Conf → World → ℕ → World
node_slice conf w now = record w {
  nodes = filter (node_stays conf w.states now (take (node_share conf) (node_round w))) w.nodes;
  pending_nodes = drop (node_share conf) (node_round w);
}

-- ---- one second: the states, then the nodes

abbrev pub purge : Conf → World → ℕ → World
purge conf w now = node_slice conf (state_slice conf w now) now
