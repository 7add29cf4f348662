-- At how many records of states a store looks for a packet, where it counts looks. (own)
use Rattle.std.specs.Prelude.{ℕ, ◌≡◌, ◌≤◌, ◌+◌, ◌-◌, if◌then◌else◌, Option, Some, None, filter}
use Rattle.pfs_addr_values.specs.Packets.{PacketView}
use Rattle.pfs_conf_values.specs.Configs.{Conf, options_of}
use Rattle.pfs_conf_values.specs.declared.actions.Scope.{Scope}
use Rattle.pfs_conf_values.specs.declared.profiles.Profile.{Profile}
use Rattle.pfs_track.specs.StatePhases.{has_closed}
use Rattle.pfs_store_contract.specs.Calls.{other_than, source_states}
use Rattle.pfs_store_contract.specs.Handshakes.{flush_of}
use Rattle.pfs_store_contract.specs.Touching.{may_reopen}
use Rattle.pfs_store_contract.specs.Worlds.{World}
use Rattle.pfs_store_contract.specs.declared.records.State.{State}
use Rattle.pfs_engine_machine.specs.Guards.{Guard, gets_cookie}
use Rattle.pfs_engine_machine.specs.Sides.{state_for}
use Rattle.pfs_engine_machine.specs.declared.events.Outcome.{Outcome}
use Rattle.pfs_engine_machine.specs.declared.events.Outcome.TheVariants as outcome

-- a state, and the others that a flush takes for those of its source
abbrev pub states_beside : Profile → World → Option State → ℕ
states_beside profile w None = 0
states_beside profile w (Some s) = 1 + source_states profile s.dir s.source (filter (other_than s.number) w.states)

-- before it is asked of anything else: where it may begin its connection anew, one to see whether the state of its key has closed,
-- and one more to take that out
abbrev pub first_looks : Conf → PacketView → Option State → ℕ
first_looks conf p None = 0
first_looks conf p (Some s) = if may_reopen conf p then (if has_closed s.phase then 2 else 1) else 0

-- none before it gets a cookie
abbrev pub looks_before : Conf → Guard → World → PacketView → ℕ
looks_before conf g w p = if gets_cookie conf g w p then 0 else first_looks conf p (state_for w p)

-- a kill: one for the packet's own state, and one more to take it out; with `flush` one more at least for each state that is
-- killed, and at most for each that the source had
abbrev pub AreLooksOfKill : Option Scope → ℕ → ℕ → ℕ → Type 0
AreLooksOfKill None killed of_source looks = looks ≡ 2
AreLooksOfKill (Some flush) killed of_source looks = (1 + killed ≤ looks) × (looks ≤ 1 + of_source)

-- so many first, and the others are such
pub record AreLooksBehind (least : ℕ) (AreLooksThen : ℕ → Type 0) (looks : ℕ) : Type 0 where
  pub first : least ≤ looks
  pub others : AreLooksThen (looks - least)

-- by what came of the packet: none where no state has its key, one for the state that has it
abbrev pub AreLooks : Conf → ℕ → Outcome → ℕ → Type 0
AreLooks conf of_source (outcome.State rule) looks = looks ≡ 1
AreLooks conf of_source (outcome.Taken rule) looks = looks ≡ 1
AreLooks conf of_source (outcome.Asking rule) looks = looks ≡ 1
AreLooks conf of_source (outcome.Kill rule limits overload killed) looks =
    AreLooksOfKill (flush_of (options_of conf rule.0).overload) killed of_source looks
AreLooks conf of_source (outcome.New rule) looks = looks ≡ 0
AreLooks conf of_source (outcome.Answered rule) looks = looks ≡ 0
AreLooks conf of_source (outcome.Pass rule) looks = looks ≡ 0
AreLooks conf of_source outcome.Cookie looks = looks ≡ 0
AreLooks conf of_source (outcome.Stateless rule) looks = looks ≡ 0
AreLooks conf of_source (outcome.Block rule) looks = looks ≡ 0
AreLooks conf of_source (outcome.Lost rule) looks = looks ≡ 0
AreLooks conf of_source (outcome.Drop rule limit) looks = looks ≡ 0
AreLooks conf of_source (outcome.Conflict rule) looks = looks ≡ 0
AreLooks conf of_source outcome.Skip looks = looks ≡ 0
AreLooks conf of_source (outcome.Expire removed) looks = looks ≡ 0
AreLooks conf of_source (outcome.Add became) looks = looks ≡ 0
AreLooks conf of_source (outcome.Delete removed) looks = looks ≡ 0
AreLooks conf of_source (outcome.Killed killed) looks = looks ≡ 0
AreLooks conf of_source (outcome.HeldAnswer amounts) looks = looks ≡ 0
