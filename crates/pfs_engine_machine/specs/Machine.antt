-- The machine: what is held, what one event does to it, and a run of events. (pf.conf(5), STATEFUL FILTERING and STATEFUL TRACKING OPTIONS)
use Rattle.std.specs.Prelude.{ℕ, ◌+◌, ◌-◌, ◌||◌, Bool, true, false, if◌then◌else◌, Option, Some, None, List, [], ◌∷◌, length, filter, unwrap_or}
use Rattle.std.specs.List.{range_with_len}
use Rattle.pfs_addr_values.specs.Keys.{under_key}
use Rattle.pfs_addr_values.specs.Packets.{PacketView, with_tag}
use Rattle.pfs_addr_values.specs.declared.addresses.Addr.{Addr}
use Rattle.pfs_addr_values.specs.declared.packets.Dir.{Dir}
use Rattle.pfs_eval.specs.Entries.{Entry}
use Rattle.pfs_eval.specs.Asking.{asking}
use Rattle.pfs_eval.specs.Tables.{added_to, config_entries, deleted_count, entered_to, entries_after, entries_entered, entries_expired, entries_without, entry_count, expired_count}
use Rattle.pfs_eval.specs.Verdict.{Asking, lost_by, packet_behind, verdict}
use Rattle.pfs_eval.specs.declared.tables.Added.{Added}
use Rattle.pfs_conf_values.specs.Configs.{Conf, limit_of, options_of, rule_of}
use Rattle.pfs_conf_values.specs.declared.actions.Action.{Action}
use Rattle.pfs_conf_values.specs.declared.actions.Action.TheVariants as action
use Rattle.pfs_conf_values.specs.declared.actions.Overload.{Overload}
use Rattle.pfs_conf_values.specs.declared.items.RuleNo.{RuleNo}
use Rattle.pfs_conf_values.specs.declared.limits.LimitName.TheVariants as limit_name
use Rattle.pfs_store_contract.specs.Admission.{is_answered, limit_met, world_after_admission, world_after_refusal}
use Rattle.pfs_store_contract.specs.Calls.{from_to_count, onward_key, world_elsewhere, world_reopened}
use Rattle.pfs_store_contract.specs.Handshakes.{flush_of, goes_with, hits_connections, hits_rate, stays_at_kill}
use Rattle.pfs_store_contract.specs.Leaving.{world_without}
use Rattle.pfs_store_contract.specs.Seconds.{world_after_purges}
use Rattle.pfs_store_contract.specs.Touching.{completes_at, is_asking, is_taken, world_after_touch}
use Rattle.pfs_store_contract.specs.Worlds.{World, empty_world}
use Rattle.pfs_store_contract.specs.declared.kills.FromTo.{FromTo}
use Rattle.pfs_store_contract.specs.declared.records.Limit.{Limit}
use Rattle.pfs_store_contract.specs.declared.records.State.{State}
use Rattle.pfs_engine_machine.specs.Guards.{Guard, asked, brings_cookie, gets_cookie, guard_after_packet, guard_after_seconds, no_guard}
use Rattle.pfs_engine_machine.specs.Sides.{are_free, is_taken_on, state_for}
use Rattle.pfs_engine_machine.specs.declared.events.Amounts.{Amounts}
use Rattle.pfs_engine_machine.specs.declared.events.Command.{Command}
use Rattle.pfs_engine_machine.specs.declared.events.Command.TheVariants as command
use Rattle.pfs_engine_machine.specs.declared.events.Event.{Event}
use Rattle.pfs_engine_machine.specs.declared.events.Exceeded.{Exceeded}
use Rattle.pfs_engine_machine.specs.declared.events.Exceeded.TheVariants as exceeded
use Rattle.pfs_engine_machine.specs.declared.events.Outcome.{Outcome}
use Rattle.pfs_engine_machine.specs.declared.events.Outcome.TheVariants as outcome
use Rattle.pfs_engine_machine.specs.declared.events.Arrival.{Arrival}
use Rattle.pfs_engine_machine.specs.declared.events.Arrival.TheVariants as arrival

-- what is held: the states and source nodes, and the entries of each table
pub record MachineContents : Type 0 where
  pub world : World
  pub tables : List (List Entry)

abbrev pub held_of : World → List (List Entry) → MachineContents
held_of world tables = record { world = world; tables = tables }

-- what is held, the guard before it, and the moments of the first event and of the last
pub record Machine : Type 0 where
  pub held : MachineContents
  pub guard : Guard
  pub first : Option ℕ
  pub last : Option ℕ

-- before the first event: no state, no cookie, and the tables as the rules text fills them
abbrev pub start : Conf → Machine
start conf = record { held = held_of empty_world (config_entries conf); guard = no_guard; first = None; last = None }

-- how many states, source nodes and entries are held
abbrev pub states_held : Machine → ℕ
states_held m = length m.held.world.states

abbrev pub nodes_held : Machine → ℕ
nodes_held m = length m.held.world.nodes

abbrev pub entries_held : Machine → ℕ
entries_held m = entry_count m.held.tables

-- ---- time passes: in each whole second a slice of the states and one of the nodes, and behind them the guard's turn

-- the seconds due at a moment, in rising order: those after the last one up to it, and none before the first event
abbrev pub due : Option ℕ → ℕ → List ℕ
due None now = []
due (Some last) now = range_with_len (last + 1) (now - last)

-- the first moment, once an event has come at this one
abbrev pub first_moment : Option ℕ → ℕ → ℕ
first_moment first now = unwrap_or first now

-- the machine at a moment: all seconds due are done
abbrev pub machine_at_moment : Conf → Machine → ℕ → Machine
machine_at_moment conf m now = record {
  held = held_of (world_after_purges conf m.held.world (due m.last now)) m.held.tables;
  guard = guard_after_seconds conf m.held.world m.guard (due m.last now);
  first = Some (first_moment m.first now);
  last = Some now;
}

-- ---- a completed handshake

-- the source is added to the rule's overload table, if it has one
abbrev pub addition_of : Conf → List (List Entry) → Addr → Option Overload → Option Added
addition_of conf tables source None = None
addition_of conf tables source (Some v) = Some (added_to tables (limit_of conf limit_name.TableEntries) v.table.0 source)

abbrev pub tables_after_addition : Conf → List (List Entry) → Addr → ℕ → Option Overload → List (List Entry)
tables_after_addition conf tables source now None = tables
tables_after_addition conf tables source now (Some v) = entries_after tables v.table.0 source now (added_to tables (limit_of conf limit_name.TableEntries) v.table.0 source)

-- the state of this number, direction, rule and source is killed, with those that its rule flushes
abbrev pub answer_of_kill : Conf → MachineContents → ℕ → Dir → RuleNo → Addr → ℕ → Exceeded → Outcome × MachineContents
answer_of_kill conf h number dir rule source now limits =
    let overload = (options_of conf rule.0).overload in
    let flush = flush_of overload in (
      outcome.Kill rule limits (addition_of conf h.tables source overload) (length (filter (goes_with conf.profile flush number dir rule source) h.world.states)),
      held_of (world_without conf h.world (stays_at_kill conf.profile flush number dir rule source) now) (tables_after_addition conf h.tables source now overload),
    )

-- the limits that it exceeds, by whether `max-src-conn` is exceeded and whether `max-src-conn-rate` is; none where neither is
abbrev pub exceeded_of : Bool → Bool → Option Exceeded
exceeded_of true true = Some exceeded.Both
exceeded_of true false = Some exceeded.Connections
exceeded_of false true = Some exceeded.Rate
exceeded_of false false = None

-- a packet of a state of this rule goes on, or pf takes it itself, and asks the other peer then, or not
abbrev pub outcome_of_held : RuleNo → Bool → Bool → Outcome
outcome_of_held rule taken asks = if taken then (if asks then outcome.Asking rule else outcome.Taken rule) else outcome.State rule

-- a packet of the state of this number, direction, rule and source exceeds these limits, or none, and then this comes of it
abbrev pub answer_of_exceeded : Conf → MachineContents → ℕ → Dir → RuleNo → Addr → ℕ → Outcome → Option Exceeded → Outcome × MachineContents
answer_of_exceeded conf h number dir rule source now unhindered (Some limits) = answer_of_kill conf h number dir rule source now limits
answer_of_exceeded conf h number dir rule source now unhindered None = (unhindered, h)

-- a packet of this state completes its handshake, or not, and where it exceeds no limit this comes of it
abbrev pub answer_of_handshake : Conf → MachineContents → State → ℕ → Outcome → Bool → Outcome × MachineContents
answer_of_handshake conf h s now unhindered completes =
    let limits = exceeded_of (hits_connections conf h.world s) (hits_rate conf h.world s) in
    answer_of_exceeded conf h s.number s.dir s.rule s.source now unhindered (if completes then limits else None)

-- ---- one packet, which brings a cookie, or not

-- what is held after a refusal at this limit
abbrev pub held_refused : Conf → MachineContents → PacketView → ℕ → ℕ → Limit → MachineContents
held_refused conf h p now rule l = held_of (world_after_refusal conf h.world p.source.addr rule now l) h.tables

-- a packet that makes a state of this rule goes on, or pf answers it itself
abbrev pub outcome_of_new : RuleNo → Bool → Outcome
outcome_of_new rule answered = if answered then outcome.Answered rule else outcome.New rule

-- it makes its state, whose keys are free; or another state has one of them, and nothing changes (pf of OpenBSD calls that `state-insert`)
abbrev pub answer_of_keys : Conf → MachineContents → PacketView → PacketView → Bool → ℕ → ℕ → Bool → Outcome × MachineContents
answer_of_keys conf h p going cookie now rule true =
    (outcome_of_new (record { 0 = rule }) (cookie || is_answered conf rule p), held_of (world_after_admission conf h.world p going rule cookie now) h.tables)
answer_of_keys conf h p going cookie now rule false = (outcome.Conflict (record { 0 = rule }), h)

-- the state that it would make meets a limit, or none
abbrev pub answer_of_limits : Conf → MachineContents → PacketView → PacketView → Bool → ℕ → ℕ → Option Limit → Outcome × MachineContents
answer_of_limits conf h p going cookie now rule None = answer_of_keys conf h p going cookie now rule (are_free h.world p going)
answer_of_limits conf h p going cookie now rule (Some l) = (outcome.Drop (record { 0 = rule }) l, held_refused conf h p now rule l)

-- a packet that no state is made for passes, by this rule or by none; with a cookie it has nowhere to go
abbrev pub outcome_of_pass : Option RuleNo → Bool → Outcome
outcome_of_pass rule cookie = if cookie then outcome.Stateless rule else outcome.Pass rule

-- what the rule that decides says, which is no `match` rule; the packet goes on as the rules left it
abbrev pub answer_of_action : Conf → MachineContents → PacketView → PacketView → Bool → ℕ → ℕ → Action → Outcome × MachineContents
answer_of_action conf h p going cookie now rule action.Match = (outcome_of_pass None cookie, h)
answer_of_action conf h p going cookie now rule action.Block = (outcome.Block (record { 0 = rule }), h)
answer_of_action conf h p going cookie now rule action.Pass = (outcome_of_pass (Some (record { 0 = rule })) cookie, h)
answer_of_action conf h p going cookie now rule (action.Keep o) = answer_of_limits conf h p going cookie now rule (limit_met conf h.world rule p.source.addr)

-- a rule decides, or none
abbrev pub answer_of_rule : Conf → MachineContents → PacketView → PacketView → Bool → ℕ → Option ℕ → Outcome × MachineContents
answer_of_rule conf h p going cookie now None = (outcome_of_pass None cookie, h)
answer_of_rule conf h p going cookie now (Some rule) = answer_of_action conf h p going cookie now rule (rule_of conf rule).action

-- a rule loses the packet, since its `nat-to` finds no port, before any limit is asked; or none does (pf.conf(5), TRANSLATION)
abbrev pub answer_of_loss : Conf → MachineContents → PacketView → PacketView → Bool → ℕ → Option ℕ → Option ℕ → Outcome × MachineContents
answer_of_loss conf h p going cookie now decides None = answer_of_rule conf h p going cookie now decides
answer_of_loss conf h p going cookie now decides (Some rule) = (outcome.Lost (record { 0 = rule }), h)

-- what the rules ask of packets, and make of them
abbrev pub asking_of : Conf → MachineContents → Asking
asking_of conf h = asking conf.items h.tables (is_taken_on h.world)

-- the rule that decides
abbrev pub deciding_rule : Conf → MachineContents → PacketView → Option ℕ
deciding_rule conf h p = verdict (asking_of conf h) p conf.items

-- the packet as the rules leave it
abbrev pub packet_ruled : Conf → MachineContents → PacketView → PacketView
packet_ruled conf h p = packet_behind (asking_of conf h) p conf.items

-- the rule that loses it, if one does
abbrev pub losing_rule : Conf → MachineContents → PacketView → Option ℕ
losing_rule conf h p = lost_by (asking_of conf h) p conf.items

-- what the rules make of a packet, or of the SYN whose cookie it brings
abbrev pub answer_of_rules : Conf → MachineContents → PacketView → Bool → ℕ → Outcome × MachineContents
answer_of_rules conf h p cookie now =
    answer_of_loss conf h p (packet_ruled conf h (asked p cookie)) cookie now (deciding_rule conf h (asked p cookie)) (losing_rule conf h (asked p cookie))

-- it is one of a held state, or of none
abbrev pub answer_of_state : Conf → MachineContents → PacketView → Bool → ℕ → Option State → Outcome × MachineContents
answer_of_state conf h p cookie now (Some s) =
    answer_of_handshake conf (held_of (world_after_touch conf h.world s p now) h.tables) s now (outcome_of_held s.rule (is_taken p s) (is_asking p s))
    (completes_at p s)
answer_of_state conf h p cookie now None = answer_of_rules conf h p cookie now

-- what a packet meets: where it is a SYN for a connection that has closed, its state has left before
abbrev pub held_for : Conf → MachineContents → PacketView → ℕ → MachineContents
held_for conf h p now = held_of (world_reopened conf h.world p now (state_for h.world p)) h.tables

-- what a packet does to what it meets at a moment
abbrev pub answer_of_key : Conf → MachineContents → PacketView → Bool → ℕ → Outcome × MachineContents
answer_of_key conf h p cookie now = answer_of_state conf h p cookie now (state_for h.world p)

-- what a packet does at a moment
abbrev pub answer_to_packet : Conf → MachineContents → PacketView → Bool → ℕ → Outcome × MachineContents
answer_to_packet conf h p cookie now = answer_of_key conf (held_for conf h p now) p cookie now

-- a packet as it goes on from what it meets, with its flags: with the tag of its state, under the other key of that; or as the rules leave it
abbrev pub going_of_state : Conf → MachineContents → PacketView → Bool → Option State → PacketView
going_of_state conf h p cookie (Some s) = under_key (onward_key p.dir s) (with_tag p s.tag)
going_of_state conf h p cookie None = record (packet_ruled conf h (asked p cookie)) { flags = p.flags }

abbrev pub going_from : Conf → MachineContents → PacketView → Bool → PacketView
going_from conf h p cookie = going_of_state conf h p cookie (state_for h.world p)

-- ---- a packet, behind the guard

-- what it meets: where it gets a cookie, all that is held
abbrev pub held_behind_guard : Conf → Guard → MachineContents → PacketView → ℕ → MachineContents
held_behind_guard conf g h p now = if gets_cookie conf g h.world p then h else held_for conf h p now

-- it gets a cookie, and nothing that is held changes; else it may bring one
abbrev pub answer_behind_guard : Conf → Guard → MachineContents → PacketView → ℕ → Outcome × MachineContents
answer_behind_guard conf g h p now =
    if gets_cookie conf g h.world p then (outcome.Cookie, h) else answer_to_packet conf h p (brings_cookie g h.world p) now

-- as it goes on, where it does
abbrev pub going_behind_guard : Conf → Guard → MachineContents → PacketView → ℕ → PacketView
going_behind_guard conf g h p now = if gets_cookie conf g h.world p then p else going_from conf (held_for conf h p now) p (brings_cookie g h.world p)

-- ---- an administrator: old entries leave a table, an entry is added, that very entry is taken out (pfctl(8), "-T")

-- what is told of a command, in a run that began at the first of these moments, at the second
abbrev pub outcome_of_command : Conf → List (List Entry) → ℕ → ℕ → ℕ → Command → Outcome
outcome_of_command conf tables first now table (command.Expire seconds) = outcome.Expire (expired_count tables table first now seconds)
outcome_of_command conf tables first now table (command.Add e) = outcome.Add (entered_to tables (limit_of conf limit_name.TableEntries) table e)
outcome_of_command conf tables first now table (command.Delete e) = outcome.Delete (deleted_count tables table e)

-- the entries of the tables after it
abbrev pub tables_after_command : Conf → List (List Entry) → ℕ → ℕ → ℕ → Command → List (List Entry)
tables_after_command conf tables first now table (command.Expire seconds) = entries_expired tables table first now seconds
tables_after_command conf tables first now table (command.Add e) = entries_entered tables table e now (entered_to tables (limit_of conf limit_name.TableEntries) table e)
tables_after_command conf tables first now table (command.Delete e) = entries_without tables table e

abbrev pub answer_to_command : Conf → MachineContents → ℕ → ℕ → ℕ → Command → Outcome × MachineContents
answer_to_command conf h first now table done =
    (outcome_of_command conf h.tables first now table done, held_of h.world (tables_after_command conf h.tables first now table done))

-- ---- an administrator takes out the states that go from hosts to hosts (pfctl(8), "-k")

abbrev pub answer_to_kill : Conf → MachineContents → ℕ → FromTo → Outcome × MachineContents
answer_to_kill conf h now hosts = (outcome.Killed (from_to_count h.world hosts), held_of (world_elsewhere conf h.world hosts now) h.tables)

-- ---- an administrator asks how much is held (pfctl(8), "-si")

abbrev pub amounts_of : MachineContents → Amounts
amounts_of h = record { states = length h.world.states; nodes = length h.world.nodes; entries = entry_count h.tables }

-- ---- one event

-- what comes
abbrev pub answer_to_arrival : Conf → Guard → MachineContents → ℕ → ℕ → Arrival → Outcome × MachineContents
answer_to_arrival conf g h first now arrival.Skip = (outcome.Skip, h)
answer_to_arrival conf g h first now (arrival.Packet p) = answer_behind_guard conf g h p now
answer_to_arrival conf g h first now (arrival.Table table done) = answer_to_command conf h first now table.0 done
answer_to_arrival conf g h first now (arrival.Kill hosts) = answer_to_kill conf h now hosts
answer_to_arrival conf g h first now arrival.HeldQuery = (outcome.HeldAnswer (amounts_of h), h)

-- the guard after it
abbrev pub guard_after_arrival : Conf → Guard → MachineContents → ℕ → Arrival → Guard
guard_after_arrival conf g h now (arrival.Packet p) = guard_after_packet conf g h.world p now
guard_after_arrival conf g h now _ = g

-- what comes at the moment of a machine
abbrev pub arrive : Conf → Machine → ℕ → ℕ → Arrival → Outcome × Machine
arrive conf m first now what =
    let answer = answer_to_arrival conf m.guard m.held first now what in
    (answer.0, record m { held = answer.1; guard = guard_after_arrival conf m.guard m.held now what })

-- the seconds due, and then what comes
unfoldable pub step : Conf → Machine → Event → Outcome × Machine
step conf m e = arrive conf (machine_at_moment conf m e.time) (first_moment m.first e.time) e.time e.what

-- a packet as it goes on behind an event, where it does
abbrev pub going_of_arrival : Conf → Machine → ℕ → Arrival → Option PacketView
going_of_arrival conf m now (arrival.Packet p) = Some (going_behind_guard conf m.guard m.held p now)
going_of_arrival conf m now _ = None

abbrev pub sent_on : Conf → Machine → Event → Option PacketView
sent_on conf m e = going_of_arrival conf (machine_at_moment conf m e.time) e.time e.what

-- ---- a run of events: the outcome of each in turn, and the machine after all of them

unfoldable pub outcomes_of : Conf → Machine → List Event → List Outcome
outcomes_of conf m [] = []
outcomes_of conf m (e ∷ es) = (step conf m e).0 ∷ outcomes_of conf (step conf m e).1 es

unfoldable pub machine_after : Conf → Machine → List Event → Machine
machine_after conf m [] = m
machine_after conf m (e ∷ es) = machine_after conf (step conf m e).1 es
