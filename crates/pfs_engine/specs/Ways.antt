-- The work of a record: that of its first event, and, where its packet goes on, that of the second behind it.
use Rattle.std.specs.Prelude.{ℕ, ◌≡◌, ◌<◌, ◌+◌, ◌-◌, ◌^◌, ◌⊎◌, length, min, max, [], Bool, Option, Some, None, Result, Ok, Err}
use Rattle.pfs_addr_values.specs.Packets.{PacketView}
use Rattle.pfs_addr_values.specs.declared.memory.NoMemory.{NoMemory}
use Rattle.pfs_conf_values.specs.Configs.{Conf}
use Rattle.pfs_engine_machine.specs.Machine.{Machine, step}
use Rattle.pfs_engine_machine.specs.Ways.{first_event, second_of_record}
use Rattle.pfs_engine_machine.specs.declared.events.Arrival.{Arrival}
use Rattle.pfs_engine_machine.specs.declared.events.Arrival.TheVariants as arrival
use Rattle.pfs_engine_machine.specs.declared.events.Event.{Event}
use Rattle.pfs_engine_machine.specs.declared.events.Outcome.{Outcome}
use Rattle.pfs_engine_machine.specs.declared.events.Way.{Way}
use Rattle.pfs_engine.specs.Calls.{IsWorkOfEvent}
use Rattle.pfs_engine.specs.declared.works.Work.{Work}

-- there are routes: without one a packet is asked once, as it stands
abbrev pub HasRoutes : Conf → Type 0
HasRoutes conf = 0 < length conf.routes

-- a record is no packet, or there are no routes
abbrev pub GoesAlone : Conf → Arrival → Type 0
GoesAlone conf (arrival.Packet p) = conf.routes ≡ []
GoesAlone conf _ = Unit {0}

-- the record of a packet at a moment
abbrev pub record_of_packet : ℕ → PacketView → Event
record_of_packet time p = record { time = time; what = arrival.Packet p }

-- both amounts, as far as 64 bits count
abbrev pub both_of : ℕ → ℕ → ℕ
both_of one two = min (one + two) (2 ^ 64 - 1)

-- the work of two events: the items, looks and slices of both, and the most that one slice examined
abbrev pub work_of_both : Work → Work → Work
work_of_both one two = record {
  visits = both_of one.visits two.visits;
  looks = both_of one.looks two.looks;
  slices = both_of one.slices two.slices;
  most_states = max one.most_states two.most_states;
  most_nodes = max one.most_nodes two.most_nodes;
}

-- the answer of the second event, by that of the record
abbrev pub second_answer : Conf → Machine → Event → Result Way NoMemory → Result Outcome NoMemory
second_answer conf m e (Ok w) = Ok (step conf m e).0
second_answer conf m e (Err refused) = Err refused

-- the work of an event with this answer
abbrev pub IsWorkOfStep : Bool → Conf → Machine → Event → Result Outcome NoMemory → Work → Type 0
IsWorkOfStep counts conf m e answer work = IsWorkOfEvent counts conf m e answer work

-- the work of a second event, behind the work of the first
pub record IsWorkBehindFirst (counts : Bool) (conf : Conf) (m : Machine) (e : Event) (answer : Result Way NoMemory) (first work : Work) : Type 0 where
  pub second : Work
  pub of_second : IsWorkOfStep counts conf m e (second_answer conf m e answer) second
  pub both : work ≡ work_of_both first second

-- the work of an event that is answered, and of the one that follows it, if one does
abbrev pub IsWorkOn : Bool → Conf → Machine → Event → Option Event → Result Way NoMemory → Work → Type 0
IsWorkOn counts conf m e None answer work = IsWorkOfStep counts conf m e (Ok (step conf m e).0) work
IsWorkOn counts conf m e (Some f) answer work =
    (first : Work) × IsWorkOfStep counts conf m e (Ok (step conf m e).0) first × IsWorkBehindFirst counts conf (step conf m e).1 f answer first work

abbrev pub IsWorkOfEvents : Bool → Conf → Machine → Event → Result Way NoMemory → Work → Type 0
IsWorkOfEvents counts conf m r answer work =
    IsWorkOn counts conf m (first_event conf m r) (second_of_record conf m r) answer work

-- the work of a record with this answer: of its events, or of the first alone where memory was refused to that
abbrev pub IsWorkOfWay : Bool → Conf → Machine → Event → Result Way NoMemory → Work → Type 0
IsWorkOfWay counts conf m r (Ok w) work = IsWorkOfEvents counts conf m r (Ok w) work
IsWorkOfWay counts conf m r (Err refused) work =
    IsWorkOfStep counts conf m (first_event conf m r) (Err refused) work ⊎ IsWorkOfEvents counts conf m r (Err refused) work
