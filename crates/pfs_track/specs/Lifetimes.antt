-- How long a state may stay without a packet: its timeout, scaled by an adaptive pair; and when that is over.
use Rattle.std.specs.Prelude.{ℕ, Bool, is_some, unwrap_or, ◌+◌, ◌-◌, ◌*◌, ◌/◌, ◌&&◌, ◌||◌, ◌==◌, if◌then◌else◌, nat_le}
use Rattle.pfs_conf_values.specs.Configs.{Conf, timeout_of, rule_timeout_of}
use Rattle.pfs_conf_values.specs.declared.timeouts.TimeoutName.{TimeoutName}
use Rattle.pfs_conf_values.specs.declared.timeouts.TimeoutName.TheVariants.{AdaptiveStart, AdaptiveEnd}
use Rattle.pfs_track.specs.StatePhases.{slot}
use Rattle.pfs_track.specs.declared.state_phases.StatePhase.{StatePhase}

-- a lifetime that a pair (start, end) scales under a count of states: unchanged by (0, 0) and up to start, nothing from
-- end on, and between them the share of it that the count leaves (pf.conf(5), OPTIONS, "adaptive.start")
abbrev pub lifetime_under : ℕ → ℕ → ℕ → ℕ → ℕ
lifetime_under lifetime start end count =
    if (start == 0 && end == 0) || nat_le count start then lifetime
    else (if nat_le end count then 0
    else lifetime * (end - count) / (end - start))

-- what a timeout is for the states of a rule: the rule's value, or else the global one
abbrev pub value_for : Conf → ℕ → TimeoutName → ℕ
value_for conf rule name = unwrap_or (rule_timeout_of conf rule name) (timeout_of conf name)

-- how long a state of a rule may stay without a packet, where the rule has so many states, and all rules together: a rule
-- with an adaptive pair of its own counts its own states, any other is scaled by the global pair under all
abbrev pub scaled_lifetime : Conf → ℕ → StatePhase → ℕ → ℕ → ℕ
scaled_lifetime conf rule phase rule_states all_states =
    lifetime_under (value_for conf rule (slot phase)) (value_for conf rule AdaptiveStart) (value_for conf rule AdaptiveEnd)
    (if is_some (rule_timeout_of conf rule AdaptiveStart) then rule_states else all_states)

-- what came last at a moment, and may stay so long, is expired at a second
abbrev pub is_expired : ℕ → ℕ → ℕ → Bool
is_expired lifetime last second = nat_le (last + lifetime) second
