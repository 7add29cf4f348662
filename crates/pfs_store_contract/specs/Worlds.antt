-- What is held: states and source nodes in the order in which they were made, the rounds of the purge, and how many states
-- were made. (pf.conf(5), STATEFUL FILTERING; the order and the rounds are own)
use Rattle.std.specs.Prelude.{ℕ, ◌≤◌, ◌==◌, Bool, Option, List, [], All, unwrap_or}
use Rattle.std.specs.List.{find, list_any}
use Rattle.pfs_addr_values.specs.Sameness.{same_key}
use Rattle.pfs_addr_values.specs.declared.packets.FlowKey.{FlowKey}
use Rattle.pfs_store_contract.specs.declared.records.State.{State}
use Rattle.pfs_store_contract.specs.declared.records.Node.{Node}

-- pending are the numbers that the round of the purge has not examined yet
pub record World : Type 0 where
  pub states : List State
  pub nodes : List Node
  pub pending_states : List ℕ
  pub pending_nodes : List ℕ
  pub made : ℕ

-- the world of these lists
abbrev pub lists : List State → List Node → List ℕ → List ℕ → ℕ → World
lists states nodes pending_states pending_nodes made =
    record { states = states; nodes = nodes; pending_states = pending_states; pending_nodes = pending_nodes; made = made }

-- nothing came yet
abbrev pub empty_world : World
empty_world = record { states = []; nodes = []; pending_states = []; pending_nodes = []; made = 0 }

-- the state that has a key on the wire
abbrev pub state_with : FlowKey → World → Option State
state_with key w = find (λ (s : State). same_key s.key key) w.states

-- the inner key of a state: that of the wire, unless it is another one (pf.conf(5), TRANSLATION)
abbrev pub inner_key : State → FlowKey
inner_key s = unwrap_or s.inner s.key

-- the state that has a key inside
abbrev pub state_inside : FlowKey → World → Option State
state_inside key w = find (λ (s : State). same_key (inner_key s) key) w.states

-- the state of a number
abbrev pub state_numbered : ℕ → World → Option State
state_numbered n w = find (λ (s : State). s.number == n) w.states

-- a state of this number is held
abbrev pub holds_number : List State → ℕ → Bool
holds_number states n = list_any (λ (s : State). s.number == n) states

-- no handshake that a score counts came after this moment
abbrev pub IsUpToNow : ℕ → World → Type 0
IsUpToNow now w = All (λ (n : Node). n.score.last ≤ now) w.nodes
