-- What is to go goes in time, whatever arrives. (own; pf.conf(5), OPTIONS, "interval")
use Rattle.std.specs.Prelude.{◌≡◌, ℕ, ◌*◌, Bool, true, false, ◌==◌, List, ◌∷◌, ◌++◌}
use Rattle.std.specs.List.{All, Contains, list_any}
use Rattle.pfs_addr_values.specs.Keys.{key_of}
use Rattle.pfs_addr_values.specs.Sameness.{same_key}
use Rattle.pfs_conf_values.specs.Configs.{Conf, timeout_of}
use Rattle.pfs_conf_values.specs.declared.timeouts.TimeoutName.TheVariants as timeout
use Rattle.pfs_store_contract.specs.Purging.{has_expired, is_over, state_slice}
use Rattle.pfs_store_contract.specs.Worlds.{World, holds_number}
use Rattle.pfs_store_contract.specs.declared.records.Node.{Node}
use Rattle.pfs_store_contract.specs.declared.records.State.{State}
use Rattle.pfs_engine_machine.specs.declared.events.Event.{Event}
use Rattle.pfs_engine_machine.specs.Acts.{RunAct, Arrive, Change, Kill, Purge, acts_of, after, purges}
use Rattle.pfs_engine_machine.specs.Sides.{met_key}

-- these acts come one after another in the run of these events, the second part with twice as many purges as `interval` has seconds
pub record AreTwoRounds (conf : Conf) (events : List Event) (earlier meanwhile later : List RunAct) : Type 0 where
  pub run : acts_of conf events ≡ (earlier ++ meanwhile) ++ later
  pub purges : purges meanwhile ≡ 2 * timeout_of conf timeout.Interval

-- at each purge of the second part this holds of the world before it and of its second
abbrev pub AtEachPurge : Conf → List RunAct → List RunAct → (World → ℕ → Type 0) → Type 0
AtEachPurge conf earlier meanwhile Property =
    (before rest : List RunAct) (now : ℕ) → meanwhile ≡ before ++ Purge now ∷ rest → Property (after conf (earlier ++ before)).world now

-- a packet of a state arrives, by the key of it that it meets
abbrev pub brings : State → RunAct → Bool
brings s (Purge second) = false
brings s (Arrive now p cookie) = same_key (met_key p s) (key_of p)
brings s (Change first now table done) = false
brings s (Kill now hosts) = false

-- A state that is held before 2 * interval purges in a row, of which no packet arrives meanwhile, and that is expired at
-- each of these purges at which it is still held, is not held after the last of them.
abbrev pub StatesGo : Conf → List Event → Type 0
StatesGo conf events =
    (earlier meanwhile later : List RunAct) (s : State) → AreTwoRounds conf events earlier meanwhile later →
    Contains (after conf earlier).world.states s →
    All (λ (a : RunAct). brings s a ≡ false) meanwhile →
    AtEachPurge conf earlier meanwhile (λ w now. holds_number w.states s.number ≡ true → has_expired conf w.states now s ≡ true) →
    holds_number (after conf (earlier ++ meanwhile)).world.states s.number ≡ false

abbrev pub holds_node : List Node → ℕ → Bool
holds_node nodes number = list_any (λ (n : Node). n.number == number) nodes

-- The node of this number has no state and is past its retention, if it is held when the nodes of a second are examined, which
-- is after its states.
abbrev pub IsOver : Conf → ℕ → World → ℕ → Type 0
IsOver conf number w now =
    All (λ (n : Node). n.number ≡ number → is_over conf (state_slice conf w now).states now n ≡ true) (state_slice conf w now).nodes

-- a node that is held before 2 * interval purges in a row, and over at each of them at which it is still held, is not held after
-- the last of them
abbrev pub NodesGo : Conf → List Event → Type 0
NodesGo conf events =
    (earlier meanwhile later : List RunAct) (number : ℕ) → AreTwoRounds conf events earlier meanwhile later →
    AtEachPurge conf earlier meanwhile (IsOver conf number) →
    holds_node (after conf earlier).world.nodes number ≡ true →
    holds_node (after conf (earlier ++ meanwhile)).world.nodes number ≡ false
