-- The whole way of a record: with routes a packet is asked where it comes in, and, if that lets it go on, where it leaves. Each is one
-- event of the machine. (pf(4) has a state at each interface; `set route` is own)
use Rattle.std.specs.Prelude.{ℕ, ◌≡◌, ◌++◌, ◌⊎◌, if◌then◌else◌, Option, Some, None, option_map, List, [], ◌∷◌, true}
use Rattle.std.specs.Option.{option_and_then}
use Rattle.pfs_addr_values.specs.Keys.{key_of, under_key}
use Rattle.pfs_addr_values.specs.Packets.{PacketView, through}
use Rattle.pfs_addr_values.specs.declared.addresses.Addr.{Addr}
use Rattle.pfs_addr_values.specs.declared.packets.Dir.{Dir}
use Rattle.pfs_addr_values.specs.declared.packets.Dir.TheVariants as dir
use Rattle.pfs_conf_values.specs.Configs.{Conf}
use Rattle.pfs_eval.specs.Routing.{interface_to}
use Rattle.pfs_store_contract.specs.Worlds.{World, state_with}
use Rattle.pfs_store_contract.specs.declared.records.State.{State}
use Rattle.pfs_engine_machine.specs.Guards.{asked}
use Rattle.pfs_engine_machine.specs.Machine.{Machine, machine_at_moment, sent_on, step}
use Rattle.pfs_engine_machine.specs.Runs.{IsRefusedIn}
use Rattle.pfs_engine_machine.specs.declared.events.Arrival.{Arrival}
use Rattle.pfs_engine_machine.specs.declared.events.Arrival.TheVariants as arrival
use Rattle.pfs_engine_machine.specs.declared.events.Event.{Event}
use Rattle.pfs_engine_machine.specs.declared.events.Outcome.{Outcome}
use Rattle.pfs_engine_machine.specs.declared.events.Outcome.TheVariants as outcome
use Rattle.pfs_engine_machine.specs.declared.events.Way.{Way}

-- ---- the two interfaces

-- the interface by which packets to an address leave; none where they are for the firewall itself
abbrev pub leaves_by : Conf → Addr → Option (List ℕ)
leaves_by conf a = interface_to conf.routes a

-- a packet as it comes in at an interface
abbrev pub in_by : PacketView → List ℕ → PacketView
in_by p ifname = record p { dir = dir.In; ifname = ifname; came_by = None }

-- a packet that was seen on its way out, as it is inside: it was seen with the addresses of the wire, so it has the inner ones of its
-- state, if one has its key
abbrev pub inside_of : PacketView → Option State → PacketView
inside_of p None = p
inside_of p (Some s) = under_key s.inner p

abbrev pub inside : World → PacketView → PacketView
inside w p = inside_of p (state_with (key_of p) w)

-- a packet is asked first where it comes in: one that was seen on its way out, where packets to its source leave, as it is inside. One
-- that the firewall itself sends is asked where it leaves
abbrev pub comes_in : PacketView → PacketView → Option (List ℕ) → PacketView
comes_in p q None = p
comes_in p q (Some ifname) = in_by q ifname

abbrev pub first_packet_by : Conf → World → PacketView → Dir → PacketView
first_packet_by conf w p dir.In = p
first_packet_by conf w p dir.Out = comes_in p (inside w p) (leaves_by conf (inside w p).source.addr)

abbrev pub first_packet : Conf → World → PacketView → PacketView
first_packet conf w p = first_packet_by conf w p p.dir

-- and then, as it goes on from there, where it leaves: one that was seen as it came in, by the interface to its destination, and if it is
-- for the firewall itself, nowhere; one that was seen on its way out, where it was seen, unless it was asked there first
abbrev pub leaving_by : Conf → PacketView → PacketView → Dir → Dir → Option PacketView
leaving_by conf p going dir.In first = option_map (through going) (leaves_by conf going.destination.addr)
leaving_by conf p going dir.Out dir.In = Some (through going p.ifname)
leaving_by conf p going dir.Out dir.Out = None

abbrev pub leaving : Conf → PacketView → PacketView → PacketView → Option PacketView
leaving conf p first going = leaving_by conf p going p.dir first.dir

-- by what came of it first, it goes on itself, or pf's own SYN goes in its place, or nothing. Pf answers a packet with ACK that makes a
-- state only where it brought a SYN cookie: then its maker's handshake is complete
abbrev pub onward : Outcome → PacketView → Option PacketView
onward (outcome.New rule) p = Some p
onward (outcome.State rule) p = Some p
onward (outcome.Pass rule) p = Some p
onward (outcome.Asking rule) p = Some (asked p true)
onward (outcome.Answered rule) p = if p.flags.ack then Some (asked p true) else None
onward _ p = None

-- ---- the events of a record

abbrev pub first_arrival : Conf → World → Arrival → Arrival
first_arrival conf w (arrival.Packet p) = arrival.Packet (first_packet conf w p)
first_arrival conf w what = what

-- by what is held at its moment
abbrev pub first_event : Conf → Machine → Event → Event
first_event conf m e = record e { what = first_arrival conf (machine_at_moment conf m e.time).held.world e.what }

abbrev pub second_packet : Conf → Outcome → Option PacketView → Arrival → Arrival → Option PacketView
second_packet conf o going (arrival.Packet p) (arrival.Packet first) =
    option_and_then (λ (q : PacketView). option_and_then (onward o) (leaving conf p first q)) going
second_packet conf o going _ _ = None

-- the second, behind this outcome of the first, from which the packet goes on so
abbrev pub second_event : Conf → Event → Event → Outcome → Option PacketView → Option Event
second_event conf e first o going = option_map (λ p. record e { what = arrival.Packet p }) (second_packet conf o going e.what first.what)

-- ---- what comes of a record: the outcome of each of its events, and the machine after them

abbrev pub way_on : Conf → Outcome × Machine → Option Event → Way × Machine
way_on conf answer None = (record { first = answer.0; second = None }, answer.1)
way_on conf answer (Some e) = (record { first = answer.0; second = Some (step conf answer.1 e).0 }, (step conf answer.1 e).1)

abbrev pub way_behind : Conf → Event → Event → Option PacketView → Outcome × Machine → Way × Machine
way_behind conf e first going answer = way_on conf answer (second_event conf e first answer.0 going)

unfoldable pub way : Conf → Machine → Event → Way × Machine
way conf m e = way_behind conf e (first_event conf m e) (sent_on conf m (first_event conf m e)) (step conf m (first_event conf m e))

-- ---- a run of records: what came of each in turn, and the machine after all of them

unfoldable pub ways_of : Conf → Machine → List Event → List Way
ways_of conf m [] = []
ways_of conf m (e ∷ es) = (way conf m e).0 ∷ ways_of conf (way conf m e).1 es

unfoldable pub machine_after_ways : Conf → Machine → List Event → Machine
machine_after_ways conf m [] = m
machine_after_ways conf m (e ∷ es) = machine_after_ways conf (way conf m e).1 es

-- ---- a run of records is a run of their events

abbrev pub events_on : Event → Option Event → List Event
events_on e None = e ∷ []
events_on e (Some f) = e ∷ f ∷ []

abbrev pub second_of_record : Conf → Machine → Event → Option Event
second_of_record conf m e = second_event conf e (first_event conf m e) (step conf m (first_event conf m e)).0 (sent_on conf m (first_event conf m e))

abbrev pub events_of_record : Conf → Machine → Event → List Event
events_of_record conf m e = events_on (first_event conf m e) (second_of_record conf m e)

unfoldable pub events_of_records : Conf → Machine → List Event → List Event
events_of_records conf m [] = []
events_of_records conf m (e ∷ es) = events_of_record conf m e ++ events_of_records conf (way conf m e).1 es

-- the outcomes of a way, one behind the other
abbrev pub outcomes_on : Way → Option Outcome → List Outcome
outcomes_on w None = w.first ∷ []
outcomes_on w (Some o) = w.first ∷ o ∷ []

unfoldable pub outcomes_in : List Way → List Outcome
outcomes_in [] = []
outcomes_in (w ∷ ws) = outcomes_on w w.second ++ outcomes_in ws

-- ---- where memory was refused: at the first event, or at the second, which needs memory there

abbrev pub IsRefusedSecond : Conf → Machine → Event → Machine → Type 0
IsRefusedSecond conf m e new = (f : Event) × (second_of_record conf m e ≡ Some f) × IsRefusedIn conf (step conf m (first_event conf m e)).1 f new

abbrev pub IsRefusedOnWay : Conf → Machine → Event → Machine → Type 0
IsRefusedOnWay conf m e new = IsRefusedIn conf m (first_event conf m e) new ⊎ IsRefusedSecond conf m e new
