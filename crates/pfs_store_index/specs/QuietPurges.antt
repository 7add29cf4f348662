-- Seconds that change nothing but the rounds of the purge, and how it is known that they do not. (own)
use Rattle.std.specs.Prelude.{ℕ, zero, suc, ◌≡◌, ◌<◌, ◌≤◌, ◌+◌, ◌-◌, ◌^◌, min, max, Bool, true, false, if◌then◌else◌, List, drop, length, map, take}
use Rattle.std.specs.List.{AllByRecursion}
use Rattle.pfs_conf_values.specs.Configs.{Conf}
use Rattle.pfs_track.specs.Lifetimes.{scaled_lifetime}
use Rattle.pfs_store_contract.specs.Counts.{node_states, rule_states}
use Rattle.pfs_store_contract.specs.Purging.{is_among, node_numbers, node_round, node_share, round, state_numbers, state_round, state_share}
use Rattle.pfs_store_contract.specs.Worlds.{World}
use Rattle.pfs_store_contract.specs.declared.records.Node.{Node}
use Rattle.pfs_store_contract.specs.declared.records.State.{State}
use Rattle.pfs_store_index.specs.declared.passages.KnownStay.{KnownStay}
use Rattle.pfs_store_index.specs.declared.passages.Passage.{Passage}

-- ---- the rounds go on

-- what is left of a round after so many slices, where nothing leaves of what is held
abbrev pub round_after_slices : ℕ → List ℕ → ℕ → List ℕ → List ℕ
round_after_slices share held zero pending = pending
round_after_slices share held (suc slices) pending = round_after_slices share held slices (drop share (round held pending))

-- the world after so many seconds in which nothing leaves
abbrev pub world_after_quiet : Conf → ℕ → World → World
world_after_quiet conf seconds w = record w {
  pending_states = round_after_slices (state_share conf) (state_numbers w.states) seconds w.pending_states;
  pending_nodes = round_after_slices (node_share conf) (node_numbers w.nodes) seconds w.pending_nodes;
}

-- ---- up to when what is held stays

-- a state does not expire before a moment, where these states are held
abbrev pub StateStays : Conf → List State → ℕ → State → Type 0
StateStays conf states until s = until ≤ s.last + scaled_lifetime conf s.rule.0 s.phase (rule_states s.rule.0 states) (length states)

-- a node does not leave before a moment, unless it has states and they leave
abbrev pub NodeStays : Conf → List State → ℕ → Node → Type 0
NodeStays conf states until n = node_states conf n.scope n.source states ≡ 0 → until ≤ n.expires

-- ---- what slices tell

-- the states, and the nodes, that the next slice of this world examines stay up to a moment
abbrev pub SliceStays : Conf → World → ℕ → List State → Type 0
SliceStays conf w until states =
    AllByRecursion (λ (s : State). is_among (take (state_share conf) (state_round w)) s.number ≡ true → StateStays conf w.states until s) states

abbrev pub NodeSliceStays : Conf → World → ℕ → List Node → Type 0
NodeSliceStays conf w until nodes =
    AllByRecursion (λ (n : Node). is_among (take (node_share conf) (node_round w)) n.number ≡ true → NodeStays conf w.states until n) nodes

-- what is known before a slice, where none has told anything: where it begins a round, none of it is examined
abbrev pub known_before : Bool → KnownStay
known_before begins = record { part = if begins then 2 ^ 64 - 1 else 0; all = 0 }

-- and after one: at the end of a round of all
abbrev pub known_after : KnownStay → ℕ → Bool → KnownStay
known_after known until true = record { part = 2 ^ 64 - 1; all = min known.part until }
known_after known until false = record { part = min known.part until; all = known.all }

-- those stay that the round under way has examined, and all stay; a slice that begins a round is the fullest
module _ {X : Type 0} (number : X → ℕ) (Stays : ℕ → X → Type 0) where
  pub record IsKnown (share : ℕ) (xs : List X) (pending : List ℕ) (most : ℕ) (known : KnownStay) : Type 0 where
    pub part : AllByRecursion (λ x. is_among (round (map number xs) pending) (number x) ≡ false → Stays known.part x) xs
    pub all : AllByRecursion (Stays known.all) xs
    pub begun : 0 < known.part → min share (length xs) ≤ max most (length (take share (round (map number xs) pending)))
    pub fullest : 0 < known.all → min share (length xs) ≤ most

abbrev pub AreStatesKnown : Conf → World → ℕ → KnownStay → Type 0
AreStatesKnown conf w most known = IsKnown (λ (s : State). s.number) (StateStays conf w.states) (state_share conf) w.states w.pending_states most known

abbrev pub AreNodesKnown : Conf → World → ℕ → KnownStay → Type 0
AreNodesKnown conf w most known = IsKnown (λ (n : Node). n.number) (NodeStays conf w.states) (node_share conf) w.nodes w.pending_nodes most known

-- so far the seconds are done, with this known of what is held
pub record IsPassage (conf : Conf) (w : World) (at : Passage) : Type 0 where
  pub states : AreStatesKnown conf w at.purged.most_states at.states
  pub nodes : AreNodesKnown conf w at.purged.most_nodes at.nodes
  pub looks : at.purged.looks ≡ at.purged.most_states
