-- The rate of a source by the whole history of its handshakes, in which no source node occurs. (pf.conf(5), STATEFUL TRACKING
-- OPTIONS, "max-src-conn-rate"; the score is own)
use Rattle.std.specs.Prelude.{ℕ, ◌==◌, ◌&&◌, Bool, if◌then◌else◌, Option, Some, None, List, [], ◌∷◌, filter, map}
use Rattle.pfs_addr_values.specs.Packets.{PacketView}
use Rattle.pfs_addr_values.specs.Sameness.{same_addr}
use Rattle.pfs_addr_values.specs.declared.addresses.Addr.{Addr}
use Rattle.pfs_conf_values.specs.Configs.{Conf, options_of, rate_seconds}
use Rattle.pfs_store_contract.specs.Touching.{completes_at}
use Rattle.pfs_store_contract.specs.Worlds.{World}
use Rattle.pfs_store_contract.specs.declared.records.State.{State}
use Rattle.pfs_track.specs.Scores.{score_after, zero_score}
use Rattle.pfs_track.specs.declared.scores.Score.{Score}
use Rattle.pfs_engine_machine.specs.declared.events.Event.{Event}
use Rattle.pfs_engine_machine.specs.declared.events.Arrival.{Arrival}
use Rattle.pfs_engine_machine.specs.declared.events.Arrival.TheVariants as arrival
use Rattle.pfs_engine_machine.specs.Machine.{Machine, machine_at_moment, start, step}
use Rattle.pfs_engine_machine.specs.Sides.{state_for}

-- a handshake of a state: its rule, its source, and when it completed
pub record Handshake : Type 0 where
  pub rule : ℕ
  pub source : Addr
  pub moment : ℕ

-- the state whose handshake a packet completes
abbrev pub completed_state : PacketView → Option State → Option State
completed_state p None = None
completed_state p (Some s) = if completes_at p s then Some s else None

abbrev pub handshaking_state : World → Arrival → Option State
handshaking_state w arrival.Skip = None
handshaking_state w (arrival.Packet p) = completed_state p (state_for w p)
handshaking_state w (arrival.Table table done) = None
handshaking_state w (arrival.Kill hosts) = None
handshaking_state w arrival.HeldQuery = None

-- the state whose handshake an event completes
abbrev pub handshake_at : Conf → Machine → Event → Option State
handshake_at conf m e = handshaking_state (machine_at_moment conf m e.time).held.world e.what

abbrev pub with_handshake : ℕ → Option State → List Handshake → List Handshake
with_handshake now None others = others
with_handshake now (Some s) others = record { rule = s.rule.0; source = s.source; moment = now } ∷ others

-- all handshakes of a run, in order
abbrev pub handshakes : Conf → Machine → List Event → List Handshake
handshakes conf m [] = []
handshakes conf m (e ∷ es) = with_handshake e.time (handshake_at conf m e) (handshakes conf (step conf m e).1 es)

-- a score through handshakes at these moments
abbrev pub score_through : ℕ → Score → List ℕ → Score
score_through seconds score [] = score
score_through seconds score (t ∷ ts) = score_through seconds (score_after seconds score t) ts

abbrev pub is_from : ℕ → Addr → Handshake → Bool
is_from rule source h = (h.rule == rule) && same_addr h.source source

-- when those of a rule's states of a source completed
abbrev pub moments_of : ℕ → Addr → List Handshake → List ℕ
moments_of rule source all = map (λ (h : Handshake). h.moment) (filter (is_from rule source) all)

-- the score of a rule and a source after these events, from all handshakes of that rule's states of that source
abbrev pub history_score : Conf → ℕ → Addr → List Event → Score
history_score conf rule source events =
    score_through (rate_seconds (options_of conf rule).max_src_conn_rate) zero_score (moments_of rule source (handshakes conf (start conf) events))
