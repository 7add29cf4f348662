-- What may come in a run of events, and where a run stops.
use Rattle.std.specs.Prelude.{ℕ, ◌+◌, ◌≡◌, ◌≤◌, ◌<◌, ◌^◌, ◌⊎◌, false, Option, Some, List, [], ◌∷◌, ◌++◌, length, take, slice_get}
use Rattle.std.specs.Option.{ForSome}
use Rattle.pfs_eval.specs.Tables.{entered_to}
use Rattle.pfs_eval.specs.declared.tables.Entered.TheVariants as entered
use Rattle.pfs_conf_values.specs.Configs.{Conf, is_const_table, limit_of}
use Rattle.pfs_conf_values.specs.declared.limits.LimitName.TheVariants as limit_name
use Rattle.pfs_engine_machine.specs.declared.events.Command.TheVariants as command
use Rattle.pfs_engine_machine.specs.declared.events.Event.{Event}
use Rattle.pfs_engine_machine.specs.declared.events.Outcome.{Outcome}
use Rattle.pfs_engine_machine.specs.declared.events.Arrival.{Arrival}
use Rattle.pfs_engine_machine.specs.declared.events.Arrival.TheVariants as arrival
use Rattle.pfs_engine_machine.specs.Guards.{Guard, guard_for}
use Rattle.pfs_engine_machine.specs.Machine.{MachineContents, Machine, answer_behind_guard, held_behind_guard, machine_after, machine_at_moment, outcomes_of}
use Rattle.pfs_engine_machine.specs.Refusals.{IsFree}

-- ---- what may come

-- a table that the text names, and that is not `const`
pub record MayChange (conf : Conf) (table : ℕ) : Type 0 where
  pub known : table < length conf.tables
  pub changes : is_const_table (slice_get conf.tables table) ≡ false

-- entries are added to such tables, and taken out of them, alone
abbrev pub MayCome : Conf → Arrival → Type 0
MayCome conf (arrival.Table table done) = MayChange conf table.0
MayCome conf _ = Unit {0}

-- a packet comes
abbrev pub IsPacket : Arrival → Type 0
IsPacket (arrival.Packet p) = Unit {0}
IsPacket _ = ⊥

-- an event counts as one packet, or none
abbrev pub packets_of : Arrival → ℕ
packets_of (arrival.Packet p) = 1
packets_of arrival.Skip = 0
packets_of (arrival.Table table done) = 0
packets_of (arrival.Kill hosts) = 0
packets_of arrival.HeldQuery = 0

-- how many of these events are packets
unfoldable pub packets_in : List Event → ℕ
packets_in [] = 0
packets_in (e ∷ es) = packets_of e.what + packets_in es

-- moments do not fall, from this one on, and are small
abbrev pub IsInOrder : Option ℕ → List Event → Type 0
IsInOrder last [] = Unit {0}
IsInOrder last (e ∷ es) = ForSome last (λ m. m ≤ e.time) × (e.time < 2 ^ 32) × IsInOrder (Some e.time) es

-- each of them may come
abbrev pub AreAllowed : Conf → List Event → Type 0
AreAllowed conf [] = Unit {0}
AreAllowed conf (e ∷ es) = MayCome conf e.what × AreAllowed conf es

-- ---- where a run stops

-- what comes at a moment needs memory: a packet that is not free of it, or an entry that is new
abbrev pub NeedsMemory : Conf → Guard → MachineContents → ℕ → Arrival → Type 0
NeedsMemory conf g h now (arrival.Packet p) = IsFree conf (held_behind_guard conf g h p now).world p (answer_behind_guard conf g h p now).0 → ⊥
NeedsMemory conf g h now (arrival.Table table (command.Add e)) = entered_to h.tables (limit_of conf limit_name.TableEntries) table.0 e ≡ entered.New
NeedsMemory conf g h now _ = ⊥

-- where memory is refused to what comes, nothing has changed but that a state has left which the packet does not meet, or that cookies
-- are on
abbrev pub without_memory : Conf → Machine → ℕ → Arrival → Machine
without_memory conf m now (arrival.Packet p) =
    record m { held = held_behind_guard conf m.guard m.held p now; guard = guard_for conf m.guard m.held.world p now }
without_memory conf m now _ = m

-- memory was refused in what came at this event, which needs memory there: the machine is at the event's moment
pub record IsRefusedIn (conf : Conf) (m : Machine) (e : Event) (new : Machine) : Type 0 where
  pub needs : NeedsMemory conf (machine_at_moment conf m e.time).guard (machine_at_moment conf m e.time).held e.time e.what
  pub moment : new ≡ without_memory conf (machine_at_moment conf m e.time) e.time e.what

-- memory was refused for the outcome of this event, before anything changed, or in what came
abbrev pub IsRefusedAt : Conf → Machine → Event → Machine → Type 0
IsRefusedAt conf m e new = (new ≡ m) ⊎ IsRefusedIn conf m e new

-- a run stopped at this event: the outcomes and the packets taken are those of the events before it
pub record IsStoppedAt (conf : Conf) (m : Machine) (es : List Event) (before after : List Outcome) (new : Machine) (taken_before taken k : ℕ) (e : Event) : Type 0 where
  pub next : slice_get es k ≡ Some e
  pub outcomes : after ≡ before ++ outcomes_of conf m (take k es)
  pub counted : taken ≡ taken_before + packets_in (take k es)
  pub refused : IsRefusedAt conf (machine_after conf m (take k es)) e new

abbrev pub IsStopped : Conf → Machine → List Event → List Outcome → List Outcome → Machine → ℕ → ℕ → Type 0
IsStopped conf m es before after new taken_before taken =
    (k : ℕ) × (k < length es) × ((e : Event) × IsStoppedAt conf m es before after new taken_before taken k e)
