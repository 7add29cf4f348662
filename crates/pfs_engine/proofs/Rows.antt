-- A row of a trace: one event, or a second behind it.
use Rattle.std.proofs.Common.{◌≡◌, ◌+◌, ◌∙◌, ℕ, Bool, [], Option, Some, None, refl, ap, sym, subst, arith, inr}
use Rattle.std.specs.Prelude.{Result, Ok, Err, OnErr, OnOk, option_map}
use Rattle.std.specs.Option.{option_and_then}
use Rattle.pfs_addr_values.specs.Packets.{PacketView}
use Rattle.pfs_addr_values.specs.declared.addresses.Addr.{Addr}
use Rattle.pfs_addr_values.specs.declared.packets.Dir.{Dir}
use Rattle.pfs_addr_values.specs.declared.packets.Dir.TheVariants as dir
use Rattle.pfs_addr_values.specs.declared.memory.NoMemory.{NoMemory}
use Rattle.pfs_conf_values.specs.Configs.{Conf}
use Rattle.pfs_store_contract.specs.Worlds.{World}
use Rattle.pfs_engine_machine.specs.Machine.{Machine, machine_at_moment, sent_on, step}
use Rattle.pfs_engine_machine.specs.Runs.{IsPacket, IsRefusedIn, packets_in, packets_of}
use Rattle.pfs_engine_machine.specs.Ways.{IsRefusedOnWay, events_of_record, first_arrival, first_event, first_packet_by, inside, onward, leaves_by, leaving_by, second_event, second_of_record, second_packet}
use Rattle.pfs_engine_machine.specs.declared.events.Arrival.{Arrival}
use Rattle.pfs_engine_machine.specs.declared.events.Arrival.TheVariants as arrival
use Rattle.pfs_engine_machine.specs.declared.events.Event.{Event}
use Rattle.pfs_engine_machine.specs.declared.events.Outcome.{Outcome}
use Rattle.pfs_engine_machine.specs.declared.events.Way.{Way}
use Rattle.pfs_engine.specs.Ways.{GoesAlone, record_of_packet, IsWorkBehindFirst, IsWorkOfEvents, IsWorkOfWay, IsWorkOn, IsWorkOfStep}
use Rattle.pfs_engine.specs.declared.works.Work.{Work}

-- the first event, what came of it, and how its packet goes on
pub record IsFirst (conf : Conf) (m mid : Machine) (r e : Event) (o : Outcome) (going : Option PacketView) : Type 0 where
  pub event : e ≡ first_event conf m r
  pub answer : (o, mid) ≡ step conf m e
  pub goes_on : going ≡ sent_on conf m e

pub is-first : (conf : Conf) (m mid : Machine) (r e : Event) (o : Outcome) (going : Option PacketView) → e ≡ first_event conf m r → (o, mid) ≡ step conf m e
    → going ≡ sent_on conf m e → IsFirst conf m mid r e o going
is-first conf m mid r e o going event answer on = record { event = event; answer = answer; goes_on = on }

-- the answer of the machine
answered : (conf : Conf) (m mid : Machine) (r e : Event) (o : Outcome) (going : Option PacketView) → IsFirst conf m mid r e o going → (o, mid) ≡ step conf m (first_event conf m r)
answered conf m mid r e o going k = k.answer ∙ ap (step conf m) k.event

-- the second event, where it is known what came of the first
then-is : (conf : Conf) (m mid : Machine) (r e : Event) (o : Outcome) (going : Option PacketView) (then : Option Event) → IsFirst conf m mid r e o going
    → then ≡ second_event conf r e o going → then ≡ second_of_record conf m r
then-is conf m mid r e o going then k is =
    is ∙ ap (λ (a : Outcome × Machine). second_event conf r e a.0 going) (answered conf m mid r e o going k)
    ∙ ap (λ (x : Event). second_event conf r x (step conf m (first_event conf m r)).0 going) k.event
    ∙ ap (second_event conf r (first_event conf m r) (step conf m (first_event conf m r)).0) (k.goes_on ∙ ap (sent_on conf m) k.event)

-- the second event of the record of a packet, by its packet
pub second-event : (conf : Conf) (time : ℕ) (p q : PacketView) (o : Outcome) (going : Option PacketView) (then : Option PacketView)
    → then ≡ second_packet conf o going (arrival.Packet p) (arrival.Packet q)
    → option_map (record_of_packet time) then ≡ second_event conf (record_of_packet time p) (record_of_packet time q) o going
second-event conf time p q o going then is = ap (option_map (record_of_packet time)) is

-- ---- how many packets they are

packets-alone : (conf : Conf) (m : Machine) (r : Event) → None ≡ second_of_record conf m r
    → packets_in (events_of_record conf m r) ≡ packets_of (first_event conf m r).what
unfolding packets_in
packets-alone conf m r none = rw (sym none) (omega arith)

of-packet : (what : Arrival) → IsPacket what → packets_of what ≡ 1
of-packet (arrival.Packet p) is = refl
of-packet arrival.Skip is = absurd is
of-packet (arrival.Table table done) is = absurd is
of-packet (arrival.Kill hosts) is = absurd is
of-packet arrival.HeldQuery is = absurd is

packets-both : (conf : Conf) (m : Machine) (r f : Event) → Some f ≡ second_of_record conf m r → IsPacket f.what
    → packets_in (events_of_record conf m r) ≡ packets_of (first_event conf m r).what + 1
unfolding packets_in
packets-both conf m r f some is = rw (sym some) (omega (arith, of-packet f.what is))

pub taken-alone : (conf : Conf) (m mid : Machine) (r e : Event) (o : Outcome) (going : Option PacketView) (before after : ℕ) → IsFirst conf m mid r e o going → None ≡ second_event conf r e o going
    → after ≡ before + packets_of e.what → after ≡ before + packets_in (events_of_record conf m r)
taken-alone conf m mid r e o going before after k none counted =
    counted ∙ ap (λ n. before + n) (ap (λ (x : Event). packets_of x.what) k.event ∙ sym (packets-alone conf m r (then-is conf m mid r e o going None k none)))

pub taken-both : {A : Type 0} (conf : Conf) (m mid : Machine) (r e f : Event) (o : Outcome) (going : Option PacketView) (answer : Result A NoMemory) (before between after : ℕ) → IsFirst conf m mid r e o going
    → Some f ≡ second_event conf r e o going → IsPacket f.what → between ≡ before + packets_of e.what → OnOk answer (after ≡ between + 1)
    → OnOk answer (after ≡ before + packets_in (events_of_record conf m r))
taken-both conf m mid r e f o going (Ok a) before between after k some is counted more =
    let all = packets-both conf m r f (then-is conf m mid r e o going (Some f) k some) is in
    let first = ap (λ (x : Event). packets_of x.what) k.event in
    more ∙ omega (arith, counted, all, first)
taken-both conf m mid r e f o going (Err x) before between after k some is counted more = tt

-- ---- memory was refused to the second

pub refused-second : {A : Type 0} (conf : Conf) (m mid new : Machine) (r e f : Event) (o : Outcome) (going : Option PacketView) (answer : Result A NoMemory) → IsFirst conf m mid r e o going
    → Some f ≡ second_event conf r e o going → OnErr answer (IsRefusedIn conf mid f new) → OnErr answer (IsRefusedOnWay conf m r new)
refused-second conf m mid new r e f o going (Ok a) k some refused = tt
refused-second conf m mid new r e f o going (Err x) k some refused =
    inr (f, sym (then-is conf m mid r e o going (Some f) k some), subst (λ (a : Outcome × Machine). IsRefusedIn conf a.1 f new) (answered conf m mid r e o going k) refused)

-- ---- the work of both

pub work-both : (counts : Bool) (conf : Conf) (m mid : Machine) (r e f : Event) (o : Outcome) (going : Option PacketView) (answer : Result Way NoMemory) (first work : Work) → IsFirst conf m mid r e o going
    → Some f ≡ second_event conf r e o going → IsWorkOfStep counts conf m e (Ok o) first → IsWorkBehindFirst counts conf mid f answer first work
    → IsWorkOfWay counts conf m r answer work
work-both counts conf m mid r e f o going answer first work k some one two = by answer (subst (λ (then : Option Event). IsWorkOn counts conf m (first_event conf m r) then answer work) (then-is conf m mid r e o going (Some f) k some) both)
  where
    one-is : IsWorkOfStep counts conf m (first_event conf m r) (Ok (step conf m (first_event conf m r)).0) first
    one-is = subst (λ (x : Event). IsWorkOfStep counts conf m x (Ok (step conf m (first_event conf m r)).0) first) k.event
        (subst (λ (x : Outcome). IsWorkOfStep counts conf m e (Ok x) first) (ap (λ (a : Outcome × Machine). a.0) (answered conf m mid r e o going k)) one)

    two-is : IsWorkBehindFirst counts conf (step conf m (first_event conf m r)).1 f answer first work
    two-is = subst (λ (x : Machine). IsWorkBehindFirst counts conf x f answer first work) (ap (λ (a : Outcome × Machine). a.1) (answered conf m mid r e o going k)) two

    both : IsWorkOn counts conf m (first_event conf m r) (Some f) answer work
    both = (first, one-is, two-is)

    by : (answer : Result Way NoMemory) → IsWorkOfEvents counts conf m r answer work → IsWorkOfWay counts conf m r answer work
    by (Ok w) is = is
    by (Err x) is = inr is

-- ---- a record that goes alone

leaves-none : (conf : Conf) (a : Addr) → conf.routes ≡ [] → leaves_by conf a ≡ None
leaves-none conf a none = rw none refl

first-packet : (conf : Conf) (w : World) (p : PacketView) (way : Dir) → conf.routes ≡ [] → first_packet_by conf w p way ≡ p
first-packet conf w p dir.In none = refl
first-packet conf w p dir.Out none = rw (leaves-none conf (inside w p).source.addr none) refl

first-arrival : (conf : Conf) (w : World) (what : Arrival) → GoesAlone conf what → first_arrival conf w what ≡ what
first-arrival conf w (arrival.Packet p) none = ap (λ (q : PacketView). arrival.Packet q) (first-packet conf w p p.dir none)
first-arrival conf w arrival.Skip alone = refl
first-arrival conf w (arrival.Table table done) alone = refl
first-arrival conf w (arrival.Kill hosts) alone = refl
first-arrival conf w arrival.HeldQuery alone = refl

pub alone-first : (conf : Conf) (m : Machine) (r : Event) → GoesAlone conf r.what → first_event conf m r ≡ r
alone-first conf m r alone = ap (λ (what : Arrival). record r { what = what }) (first-arrival conf (machine_at_moment conf m r.time).held.world r.what alone)

leaving-none : (conf : Conf) (p going : PacketView) (way : Dir) → conf.routes ≡ [] → leaving_by conf p going way way ≡ None
leaving-none conf p going dir.In none = rw (leaves-none conf going.destination.addr none) refl
leaving-none conf p going dir.Out none = refl

second-none : (conf : Conf) (o : Outcome) (going : Option PacketView) (what : Arrival) → GoesAlone conf what → second_packet conf o going what what ≡ None
second-none conf o (Some going) (arrival.Packet p) none = ap (option_and_then (onward o)) (leaving-none conf p going p.dir none)
second-none conf o None (arrival.Packet p) none = refl
second-none conf o going arrival.Skip alone = refl
second-none conf o going (arrival.Table table done) alone = refl
second-none conf o going (arrival.Kill hosts) alone = refl
second-none conf o going arrival.HeldQuery alone = refl

pub alone-second : (conf : Conf) (r : Event) (o : Outcome) (going : Option PacketView) → GoesAlone conf r.what → second_event conf r r o going ≡ None
alone-second conf r o going alone = ap (option_map (λ (p : PacketView). record r { what = arrival.Packet p })) (second-none conf o going r.what alone)

-- the first event is the record, and there is no second
alone : (conf : Conf) (m mid : Machine) (r : Event) (o : Outcome) → GoesAlone conf r.what → (o, mid) ≡ step conf m r → IsFirst conf m mid r r o (sent_on conf m r)
alone conf m mid r o none answer = record { event = sym (alone-first conf m r none); answer = answer; goes_on = refl }

pub packets-of-alone : (conf : Conf) (m mid : Machine) (r : Event) (o : Outcome) (before after : ℕ) → GoesAlone conf r.what → (o, mid) ≡ step conf m r
    → after ≡ before + packets_of r.what → after ≡ before + packets_in (events_of_record conf m r)
packets-of-alone conf m mid r o before after none answer counted =
    taken-alone conf m mid r r o (sent_on conf m r) before after (alone conf m mid r o none answer) (sym (alone-second conf r o (sent_on conf m r) none)) counted
