-- A rate counts every handshake of its source, however often the source's node was purged. (own; pf.conf(5), STATEFUL TRACKING
-- OPTIONS, "max-src-conn-rate")
use Rattle.std.specs.Prelude.{◌≡◌, ℕ, ◌*◌, nat_lt, length, option_map, slice_get, Bool, true, false, Some, List, [], ◌∷◌, ◌++◌}
use Rattle.pfs_conf_values.specs.Configs.{Conf, options_of}
use Rattle.pfs_conf_values.specs.declared.actions.Rate.{Rate}
use Rattle.pfs_store_contract.specs.Counts.{node_scope_of}
use Rattle.pfs_store_contract.specs.Touching.{score_in, world_after_touch}
use Rattle.pfs_store_contract.specs.Worlds.{World}
use Rattle.pfs_store_contract.specs.declared.records.State.{State}
use Rattle.pfs_track.specs.Scores.{zero_score}
use Rattle.pfs_track.specs.declared.scores.Score.{Score}
use Rattle.pfs_engine_machine.specs.Machine.{machine_at_moment, start, machine_after, outcomes_of}
use Rattle.pfs_engine_machine.specs.Rates.{handshake_at, history_score}
use Rattle.pfs_engine_machine.specs.declared.events.Event.{Event}
use Rattle.pfs_engine_machine.specs.declared.events.Exceeded.{Exceeded}
use Rattle.pfs_engine_machine.specs.declared.events.Exceeded.TheVariants as exceeded
use Rattle.pfs_engine_machine.specs.declared.events.Outcome.{Outcome}
use Rattle.pfs_engine_machine.specs.declared.events.Outcome.TheVariants as outcome
use Rattle.pfs_engine_machine.specs.declared.events.Arrival.{Arrival}
use Rattle.pfs_engine_machine.specs.declared.events.Arrival.TheVariants as arrival

-- in the run of these events one comes after others and completes the handshake of this state, whose rule has this rate
pub record IsHandshake (conf : Conf) (events before : List Event) (e : Event) (s : State) (rate : Rate) : Type 0 where
  pub run : (later : List Event) × (events ≡ (before ++ e ∷ []) ++ later)
  pub completes : handshake_at conf (machine_after conf (start conf) before) e ≡ Some s
  pub rated : (options_of conf s.rule.0).max_src_conn_rate ≡ Some rate

-- the score that is compared with the limit where a packet completes the handshake of a state: that of its node, with this handshake
abbrev pub score_compared : Conf → World → ℕ → Arrival → State → Score
score_compared conf w now arrival.Skip s = zero_score
score_compared conf w now (arrival.Packet p) s = score_in s.source (world_after_touch conf w s p now).nodes (node_scope_of conf s.rule.0)
score_compared conf w now (arrival.Table table done) s = zero_score
score_compared conf w now (arrival.Kill hosts) s = zero_score
score_compared conf w now arrival.HeldQuery s = zero_score

-- at each handshake of a rule with a rate, that score is the one of the whole history of its source's handshakes
abbrev pub ScoreIsRemembered : Conf → List Event → Type 0
ScoreIsRemembered conf events =
    (before : List Event) (e : Event) (s : State) (rate : Rate) → IsHandshake conf events before e s rate →
    score_compared conf (machine_at_moment conf (machine_after conf (start conf) before) e.time).held.world e.time e.what s
    ≡ history_score conf s.rule.0 s.source (before ++ e ∷ [])

-- `max-src-conn-rate` is one of these limits
abbrev pub exceeds_rate : Exceeded → Bool
exceeds_rate exceeded.Connections = false
exceeds_rate exceeded.Rate = true
exceeds_rate exceeded.Both = true

-- a state is killed and `max-src-conn-rate` is reported
abbrev pub rate_hit : Outcome → Bool
rate_hit (outcome.Kill rule limits overload killed) = exceeds_rate limits
rate_hit _ = false

-- and its outcome in the run is a hit of the rate exactly where that score exceeds 1000 for each handshake of the rate
abbrev pub RateIsRemembered : Conf → List Event → Type 0
RateIsRemembered conf events =
    (before : List Event) (e : Event) (s : State) (rate : Rate) → IsHandshake conf events before e s rate →
    option_map rate_hit (slice_get (outcomes_of conf (start conf) events) (length before))
    ≡ Some (nat_lt (1000 * rate.limit) (history_score conf s.rule.0 s.source (before ++ e ∷ [])).value)
