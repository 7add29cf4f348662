-- A run of records is a run of their events.
use Rattle.std.proofs.Common.{◌≡◌, ◌≤◌, ◌<◌, ◌^◌, ◌∙◌, ℕ, List, [], ◌∷◌, ◌++◌, Option, Some, None, refl, ap, sym, subst, arith}
use Rattle.std.specs.Option.{ForSome}
use Rattle.std.specs.Prelude.{option_map, unwrap_or}
use Rattle.pfs_addr_values.specs.Packets.{PacketView}
use Rattle.pfs_conf_values.specs.Configs.{Conf}
use Rattle.pfs_engine_machine.specs.Machine.{Machine, machine_after, outcomes_of, step, sent_on}
use Rattle.pfs_engine_machine.specs.Runs.{IsInOrder}
use Rattle.pfs_engine_machine.specs.Ways.{events_of_record, events_of_records, events_on, first_event, machine_after_ways, outcomes_in, outcomes_on, second_event, second_of_record, way, way_on, ways_of, second_packet}
use Rattle.pfs_engine_machine.specs.declared.events.Arrival.TheVariants as arrival
use Rattle.pfs_engine_machine.specs.declared.events.Event.{Event}
use Rattle.pfs_engine_machine.specs.declared.events.Outcome.{Outcome}
use Rattle.pfs_engine_machine.proofs.Running.{machine_after-append}

-- the outcomes of events, and of others behind them
outcomes_of-append : (conf : Conf) (m : Machine) (xs ys : List Event) → outcomes_of conf m (xs ++ ys) ≡ outcomes_of conf m xs ++ outcomes_of conf (machine_after conf m xs) ys
unfolding machine_after outcomes_of
outcomes_of-append conf m [] ys = refl
outcomes_of-append conf m (x ∷ xs) ys = ap (λ (os : List Outcome). (step conf m x).0 ∷ os) (outcomes_of-append conf (step conf m x).1 xs ys)

-- the machine after a record is that after its events
on-machine : (conf : Conf) (m : Machine) (e : Event) (then : Option Event) → (way_on conf (step conf m e) then).1 ≡ machine_after conf m (events_on e then)
unfolding machine_after
on-machine conf m e None = refl
on-machine conf m e (Some f) = refl

pub record-machine : (conf : Conf) (m : Machine) (e : Event) → (way conf m e).1 ≡ machine_after conf m (events_of_record conf m e)
unfolding way
record-machine conf m e = on-machine conf m (first_event conf m e) (second_of_record conf m e)

on-outcomes : (conf : Conf) (m : Machine) (e : Event) (then : Option Event)
    → outcomes_on (way_on conf (step conf m e) then).0 (way_on conf (step conf m e) then).0.second ≡ outcomes_of conf m (events_on e then)
unfolding outcomes_of
on-outcomes conf m e None = refl
on-outcomes conf m e (Some f) = refl

record-outcomes : (conf : Conf) (m : Machine) (e : Event) → outcomes_on (way conf m e).0 (way conf m e).0.second ≡ outcomes_of conf m (events_of_record conf m e)
unfolding way
record-outcomes conf m e = on-outcomes conf m (first_event conf m e) (second_of_record conf m e)

-- and of all records
pub machine-after-ways : (conf : Conf) (m : Machine) (es : List Event) → machine_after_ways conf m es ≡ machine_after conf m (events_of_records conf m es)
unfolding machine_after_ways events_of_records machine_after
machine-after-ways conf m [] = refl
machine-after-ways conf m (e ∷ es) =
    let rest : List Event = events_of_records conf (way conf m e).1 es in
    machine-after-ways conf (way conf m e).1 es
    ∙ ap (λ (n : Machine). machine_after conf n rest) (record-machine conf m e)
    ∙ sym (machine_after-append conf m (events_of_record conf m e) rest)

pub outcomes-of-ways : (conf : Conf) (m : Machine) (es : List Event) → outcomes_in (ways_of conf m es) ≡ outcomes_of conf m (events_of_records conf m es)
unfolding ways_of events_of_records outcomes_of outcomes_in
outcomes-of-ways conf m [] = refl
outcomes-of-ways conf m (e ∷ es) =
    let rest : List Event = events_of_records conf (way conf m e).1 es in
    ap (λ (os : List Outcome). outcomes_on (way conf m e).0 (way conf m e).0.second ++ os) (outcomes-of-ways conf (way conf m e).1 es)
    ∙ ap (λ (os : List Outcome). os ++ outcomes_of conf (way conf m e).1 rest) (record-outcomes conf m e)
    ∙ ap (λ (n : Machine). outcomes_of conf m (events_of_record conf m e) ++ outcomes_of conf n rest) (record-machine conf m e)
    ∙ sym (outcomes_of-append conf m (events_of_record conf m e) rest)

-- an event, if there is one, is at this moment
abbrev IsAtMoment : ℕ → Option Event → Type 0
IsAtMoment moment None = Unit {0}
IsAtMoment moment (Some e) = e.time ≡ moment

-- the events of a record are at its moment
on-order : (last : Option ℕ) (e : Event) (then : Option Event) (rest : List Event) → ForSome last (λ m. m ≤ e.time) → e.time < 2 ^ 32
    → IsAtMoment e.time then → IsInOrder (Some e.time) rest → IsInOrder last (events_on e then ++ rest)
on-order last e None rest after small same order = (after, small, order)
on-order last e (Some f) rest after small same order =
    let early : f.time < 2 ^ 32 = omega (arith, small, same) in
    let behind : ForSome (Some e.time) (λ m. m ≤ f.time) = λ m is. rw (sym (some-is is)) (omega (arith, same)) in
    let P : ℕ → Type 0 = λ t. IsInOrder (Some t) rest in
    (after, small, (behind, early, subst P (sym same) order))
  where
    some-is : {a b : ℕ} → Some a ≡ Some b → a ≡ b
    some-is {a} {b} e = ap (λ (o : Option ℕ). unwrap_or o 0) e

second-moment : (conf : Conf) (e first : Event) (o : Outcome) (going : Option PacketView) → IsAtMoment e.time (second_event conf e first o going)
second-moment conf e first o going = by (second_packet conf o going e.what first.what)
  where
    by : (p : Option PacketView) → IsAtMoment e.time (option_map (λ p. record e { what = arrival.Packet p }) p)
    by None = tt
    by (Some p) = refl

pub order-of-ways : (conf : Conf) (m : Machine) (last : Option ℕ) (es : List Event) → IsInOrder last es → IsInOrder last (events_of_records conf m es)
unfolding events_of_records
order-of-ways conf m last [] order = tt
order-of-ways conf m last (e ∷ es) (after, small, more) =
    let o : Outcome = (step conf m (first_event conf m e)).0 in
    let going : Option PacketView = sent_on conf m (first_event conf m e) in
    on-order last (first_event conf m e) (second_event conf e (first_event conf m e) o going) (events_of_records conf (way conf m e).1 es) after small (second-moment conf e (first_event conf m e) o going)
    (order-of-ways conf (way conf m e).1 (Some e.time) es more)
