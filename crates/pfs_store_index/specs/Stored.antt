-- A store of what is held, and of two rounds of the purge, each of which is two numbers. (own)
use Rattle.std.specs.Prelude.{ℕ, ◌≡◌, ◌≤◌, Bool, false, if◌then◌else◌, is_some, List, length, slice_index}
use Rattle.std.specs.List.{AllByRecursion}
use Rattle.pfs_addr_values.specs.Packets.{run_limit}
use Rattle.pfs_conf_values.specs.Configs.{Conf, rule_timeout_of}
use Rattle.pfs_conf_values.specs.declared.items.RuleNo.{RuleNo}
use Rattle.pfs_conf_values.specs.declared.timeouts.TimeoutName.{TimeoutName}
use Rattle.pfs_conf_values.specs.declared.timeouts.TimeoutName.TheVariants.{AdaptiveEnd, AdaptiveStart}
use Rattle.pfs_track.specs.Lifetimes.{lifetime_under, value_for}
use Rattle.pfs_store_contract.specs.Purging.{node_numbers, state_numbers}
use Rattle.pfs_store_contract.specs.Worlds.{World, lists}
use Rattle.pfs_store_contract.specs.declared.records.State.{State}
use Rattle.pfs_store_records.specs.Walks.{end_of, state_has_expired}
use Rattle.pfs_store_index.specs.Holdings.{Holding}
use Rattle.pfs_store_index.specs.Rounds.{waiting}

-- numbers from 1 to those made
abbrev pub IsNumbered : ℕ → List ℕ → Type 0
IsNumbered made numbers = AllByRecursion (λ n. (1 ≤ n) × (n ≤ made)) numbers

-- the world of what is held, in rounds with these cursors and marks
abbrev pub world_of : Holding → ℕ → ℕ → ℕ → ℕ → ℕ → World
world_of h cursor mark node_cursor node_mark made =
    lists h.states h.nodes (waiting cursor mark (state_numbers h.states)) (waiting node_cursor node_mark (node_numbers h.nodes)) made

-- a rule scales the lifetimes of its states by a pair of its own, under the count of its states
abbrev pub has_pair : Conf → ℕ → Bool
has_pair conf rule = is_some (rule_timeout_of conf rule AdaptiveStart)

-- how long a state of a rule may stay in phases of a timeout, where the rules had these counts of states and so many were held
abbrev pub seconds_of : Conf → List ℕ → ℕ → RuleNo → TimeoutName → ℕ
seconds_of conf counts held rule timeout =
    lifetime_under (value_for conf rule.0 timeout) (value_for conf rule.0 AdaptiveStart) (value_for conf rule.0 AdaptiveEnd)
    (if has_pair conf rule.0 then slice_index counts rule.0 else held)

-- the moment at which a state expires, and whether it has expired at a second
abbrev pub due_at : Conf → List ℕ → ℕ → State → ℕ
due_at conf counts held s = end_of (seconds_of conf counts held) s

abbrev pub is_due : Conf → List ℕ → ℕ → ℕ → State → Bool
is_due conf counts held now s = state_has_expired (seconds_of conf counts held) now s

-- no rule but the first ones has such a pair
abbrev pub AreUnread : Conf → ℕ → Type 0
AreUnread conf first = (rule : ℕ) → first ≤ rule → has_pair conf rule ≡ false

-- what every store keeps; a run makes few states, so that their numbers fit into 32 bits
pub record IsStored (h : Holding) (cursor mark node_cursor node_mark made room : ℕ) : Type 0 where
  pub order : cursor ≤ mark
  pub mark_made : mark ≤ made
  pub node_order : node_cursor ≤ node_mark
  pub node_mark_made : node_mark ≤ made
  pub few : made ≤ run_limit
  pub numbered : IsNumbered made (state_numbers h.states)
  pub node_numbered : IsNumbered made (node_numbers h.nodes)
  pub places : room ≤ length h.config.items
  pub unread : AreUnread h.config room
