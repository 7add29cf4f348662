-- What a call of an engine keeps, counts and costs.
use Rattle.std.specs.Prelude.{ℕ, ◌≡◌, ◌≤◌, ◌+◌, ◌*◌, Bool, true, false, List, length, Some, Result, Ok, IfOk, IsOk, OnOk, OnErr}
use Rattle.pfs_addr_values.specs.Packets.{PacketView}
use Rattle.pfs_conf_values.specs.Configs.{Conf, scope_of}
use Rattle.pfs_conf_values.specs.declared.actions.Scope.TheVariants as scope
use Rattle.pfs_conf_values.specs.declared.items.RuleNo.{RuleNo}
use Rattle.pfs_store_contract.specs.Admission.{leaves_node}
use Rattle.pfs_store_contract.specs.Purging.{node_share, state_share}
use Rattle.pfs_store_contract.specs.Worlds.{World}
use Rattle.pfs_store_contract.specs.declared.records.Limit.{Limit}
use Rattle.pfs_engine_machine.specs.MachineInvariants.{IsWithinLimits, IsWithinShared, moment_of}
use Rattle.pfs_engine_machine.specs.Guards.{Guard, guard_after_packet}
use Rattle.pfs_engine_machine.specs.Looks.{looks_before}
use Rattle.pfs_engine_machine.specs.Machine.{MachineContents, Machine, answer_behind_guard, due, held_behind_guard, held_refused, machine_at_moment, outcome_of_new}
use Rattle.pfs_engine_machine.specs.Refusals.{IsDroppedBehindGuard}
use Rattle.pfs_engine_machine.specs.Runs.{without_memory}
use Rattle.pfs_store_contract.specs.Seconds.{most_nodes, most_states}
use Rattle.pfs_engine_machine.specs.Visits.{AreVisitsBehindGuard}
use Rattle.pfs_engine_machine.specs.declared.events.Arrival.{Arrival}
use Rattle.pfs_engine_machine.specs.declared.events.Arrival.TheVariants as arrival
use Rattle.pfs_engine_machine.specs.declared.events.Event.{Event}
use Rattle.pfs_engine_machine.specs.declared.events.Outcome.{Outcome}
use Rattle.pfs_engine_machine.specs.declared.events.Outcome.TheVariants as outcome
use Rattle.pfs_engine.specs.Meters.{AreLooksBehindGuard}
use Rattle.pfs_engine.specs.Views.{View}
use Rattle.pfs_engine.specs.declared.works.Work.{Work}

-- the configuration and the first and the last moment stay, and what is held is within the limits
pub record StaysAtMoment (before after : View) : Type 0 where
  pub config : after.config ≡ before.config
  pub first : after.machine.first ≡ before.machine.first
  pub last : after.machine.last ≡ before.machine.last
  pub limits : IsWithinLimits after.config after.machine.held

-- the configuration stays, and what is held is within the limits
pub record StaysWithin (before after : View) : Type 0 where
  pub config : after.config ≡ before.config
  pub limits : IsWithinLimits after.config after.machine.held

-- the same, at this last moment
pub record IsAt (time : ℕ) (before after : View) : Type 0 where
  pub config : after.config ≡ before.config
  pub limits : IsWithinLimits after.config after.machine.held
  pub last : after.machine.last ≡ Some time

-- an event counts as so many packets, one at most, or as none where memory was refused
pub record CountsEvent {X E : Type 0} (answer : Result X E) (packets before after : ℕ) : Type 0 where
  pub taken : OnOk answer (after ≡ before + packets)
  pub not_taken : OnErr answer (after ≡ before)
  pub few : after ≤ before + 1

-- one packet more was taken, or none where memory was refused
pub record CountsPacket {X E : Type 0} (answer : Result X E) (before after : ℕ) : Type 0 where
  pub ok : OnOk answer (after ≡ before + 1)
  pub err : OnErr answer (after ≡ before)

-- what a packet meets at the last moment, and what comes of it
abbrev pub met_held : Conf → Machine → PacketView → MachineContents
met_held conf m p = held_behind_guard conf m.guard m.held p (moment_of m.last)

abbrev pub answer_at_last : Conf → Machine → PacketView → Outcome × MachineContents
answer_at_last conf m p = answer_behind_guard conf m.guard m.held p (moment_of m.last)

-- the guard after it
abbrev pub guard_at_last : Conf → Machine → PacketView → Guard
guard_at_last conf m p = guard_after_packet conf m.guard m.held.world p (moment_of m.last)

-- it meets this limit there
abbrev pub IsDroppedAtLast : Conf → Machine → PacketView → RuleNo → Limit → Type 0
IsDroppedAtLast conf m p rule limit = IsDroppedBehindGuard conf m.guard m.held p (moment_of m.last) rule.0 limit

-- a machine of which this is held, behind this guard
abbrev pub holding : Machine → MachineContents → Guard → Machine
holding m h g = record m { held = h; guard = g }

-- a state is refused exactly where a limit is met; then nothing that is held has changed but the node that `max` leaves under OpenBSD's
-- profile, for which memory may be refused
pub record IsRefusedAtLimits {E : Type 0} (conf : Conf) (p : PacketView) (answer : Result Outcome E) (before after : Machine)
    : Type 0 where
  pub met : (rule : RuleNo) (limit : Limit) → IsDroppedAtLast conf before p rule limit → IfOk answer (λ o. o ≡ outcome.Drop rule limit)
  pub free : (rule : RuleNo) (limit : Limit) → IsDroppedAtLast conf before p rule limit
      → leaves_node conf (met_held conf before p).world p.source.addr rule.0 limit ≡ false → IsOk answer
  pub only : (rule : RuleNo) (limit : Limit) → answer ≡ Ok (outcome.Drop rule limit)
      → IsDroppedAtLast conf before p rule limit
      × (after ≡ holding before (held_refused conf (met_held conf before p) p (moment_of before.last) rule.0 limit) (guard_at_last conf before p))

-- what a packet makes of an engine at its last moment: what the machine makes of it, and of the guard; where memory was refused, what it
-- meets is held, behind the guard that it meets
pub record IsAnsweredBy {E : Type 0} (answer : Result Outcome E) (p : PacketView) (before after : View) : Type 0 where
  pub ok : IfOk answer (λ o. (o, after.machine.held) ≡ answer_at_last before.config before.machine p)
  pub guard : OnOk answer (after.machine.guard ≡ guard_at_last before.config before.machine p)
  pub err : OnErr answer (after.machine ≡ without_memory before.config before.machine (moment_of before.machine.last) (arrival.Packet p))
  pub keeps : StaysAtMoment before after
  pub taken : CountsPacket answer before.taken after.taken

-- what it has to do with limits: a state is refused exactly where one is met; and a new state of a rule with shared source nodes
-- is within the limits of its rule, directly after it
pub record IsLimited {E : Type 0} (answer : Result Outcome E) (p : PacketView) (before after : View) : Type 0 where
  pub refused : IsRefusedAtLimits before.config p answer before.machine after.machine
  pub shared : (rule : RuleNo) (answered : Bool) → answer ≡ Ok (outcome_of_new rule answered) → scope_of before.config rule.0 ≡ Some scope.Global
      → IsWithinShared before.config rule.0 p.source.addr (met_held before.config before.machine p).world after.machine.held.world

-- the work of a packet at a moment, behind the guard: the items that it is compared with, and no slice; the looks, where the store counts
-- them: the first ones, and behind them by what came of it, and none where memory was refused. There is none where it gets a cookie
pub record IsWorkOfPacket {E : Type 0} (counts : Bool) (conf : Conf) (m : Machine) (p : PacketView) (now : ℕ) (answer : Result Outcome E) (work : Work)
    : Type 0 where
  pub visits : AreVisitsBehindGuard conf m.guard m.held p now work.visits
  pub slices : work.slices ≡ 0
  pub most_states : work.most_states ≡ 0
  pub most_nodes : work.most_nodes ≡ 0
  pub looks : counts ≡ true → IfOk answer (AreLooksBehindGuard conf m.guard m.held p now work.looks)
  pub no_looks : counts ≡ true → OnErr answer (work.looks ≡ looks_before conf m.guard m.held.world p)
  pub uncounted : counts ≡ false → work.looks ≡ 0

-- the work of seconds that pass: two slices in each, with the most that one of states and one of nodes examines, within their
-- shares; the looks are those of that slice of states, where the store counts them; and no item is compared
pub record IsWorkOfSeconds (counts : Bool) (conf : Conf) (w : World) (seconds : List ℕ) (work : Work) : Type 0 where
  pub slices : work.slices ≡ 2 * length seconds
  pub most_states : work.most_states ≡ most_states conf w seconds
  pub most_nodes : work.most_nodes ≡ most_nodes conf w seconds
  pub states_share : work.most_states ≤ state_share conf
  pub nodes_share : work.most_nodes ≤ node_share conf
  pub visits : work.visits ≡ 0
  pub looks : counts ≡ true → work.looks ≡ work.most_states
  pub uncounted : counts ≡ false → work.looks ≡ 0

-- ---- one event

-- the work of purges and, behind them, of what comes: the slices are those of the purges, the items and the looks those of the packet
abbrev pub work_of_event : Work → Work → Work
work_of_event purges coming =
    record { visits = coming.visits; looks = coming.looks; slices = purges.slices; most_states = purges.most_states; most_nodes = purges.most_nodes }

-- such work behind that of purges
pub record IsWorkBehind (purges : Work) (IsWork : Work → Type 0) (work : Work) : Type 0 where
  pub coming : Work
  pub is : work ≡ work_of_event purges coming
  pub of_coming : IsWork coming

-- the work of a packet behind that of these seconds
pub record IsWorkOfSecondsAnd (counts : Bool) (conf : Conf) (w : World) (seconds : List ℕ) (IsWork : Work → Type 0) (work : Work) : Type 0 where
  pub purges : Work
  pub of_purges : IsWorkOfSeconds counts conf w seconds purges
  pub behind : IsWorkBehind purges IsWork work

-- the work of an event: of the seconds due before it, and of a packet behind them
abbrev pub IsWorkOfComing : {E : Type 0} → Bool → Conf → Machine → Machine → ℕ → Arrival → Result Outcome E → Work → Type 0
IsWorkOfComing counts conf m at now (arrival.Packet p) answer work =
    IsWorkOfSecondsAnd counts conf m.held.world (due m.last now) (IsWorkOfPacket counts conf at p (moment_of at.last) answer) work
IsWorkOfComing counts conf m at now _ answer work = IsWorkOfSeconds counts conf m.held.world (due m.last now) work

abbrev pub IsWorkOfEvent : {E : Type 0} → Bool → Conf → Machine → Event → Result Outcome E → Work → Type 0
IsWorkOfEvent counts conf m e answer work = IsWorkOfComing counts conf m (machine_at_moment conf m e.time) e.time e.what answer work
