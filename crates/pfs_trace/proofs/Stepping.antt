-- The moment of the machine is that of its last event, and what a record says of its own moment.
use Rattle.std.proofs.Common.{◌≡◌, ◌<◌, ◌≤◌, ℕ, List, Bool, true, false, Option, Some, None, refl, sym, ap, arith, subst}
use Rattle.std.specs.Prelude.{Result, Ok, Err, cond, not, ◌^◌, ◌==◌, if◌then◌else◌, length, nat_le, nat_lt, ok_or, option_map, slice_get}
use Rattle.std.specs.Option.{ForSome, option_map_or}
use Rattle.std.proofs.lemmas.Map.Entries.{option_filter}
use Rattle.std.specs.List.{position_or_len}
use Rattle.std.proofs.lemmas.Bool.Decides.{nat_tests}
use Rattle.pfs_addr_values.specs.Numbers.{number_of}
use Rattle.pfs_addr_values.specs.Packets.{PacketView}
use Rattle.pfs_conf_values.specs.Configs.{Conf, has_name, is_const_table, table_named}
use Rattle.pfs_conf_values.specs.declared.filters.TableNo.{TableNo}
use Rattle.pfs_store_contract.specs.declared.kills.FromTo.{FromTo}
use Rattle.pfs_engine_machine.specs.Machine.{Machine, sent_on, step}
use Rattle.pfs_engine_machine.specs.Runs.{MayCome, MayChange}
use Rattle.pfs_engine_machine.specs.Ways.{first_event, second_packet, way, way_on}
use Rattle.pfs_engine_machine.specs.declared.events.Command.{Command}
use Rattle.pfs_engine_machine.specs.declared.events.Event.{Event}
use Rattle.pfs_engine_machine.specs.declared.events.Outcome.{Outcome}
use Rattle.pfs_engine_machine.specs.declared.events.Arrival.{Arrival}
use Rattle.pfs_engine_machine.specs.declared.events.Arrival.TheVariants as arrival
use Rattle.pfs_trace.specs.declared.faults.TraceFault.{TraceFault}
use Rattle.pfs_trace.specs.declared.faults.TraceFault.TheVariants as fault
use Rattle.pfs_trace.specs.declared.events.RecordVerb.{RecordVerb}
use Rattle.pfs_trace.specs.declared.events.RecordVerb.TheVariants as verb
use Rattle.pfs_trace.specs.Columns.{column_of}
use Rattle.pfs_trace.specs.Events.{Change, addition_at, and_then, arrival_at, at_moment, change_at, changing, deletion_at, end_at, event_at, event_by, expiry_at, falls, ends_asked_at, in_column, kill_at, nameless_at, nothing_in, number_to, packet_at, question_at, verb_of}

last-step : (conf : Conf) (m : Machine) (e : Event) → (step conf m e).1.last ≡ Some e.time
unfolding step
last-step conf m e = refl

pub last-way : (conf : Conf) (m : Machine) (r : Event) → (way conf m r).1.last ≡ Some r.time
unfolding way
last-way conf m r = by (second_packet conf o (sent_on conf m first) r.what first.what)
  where
    first : Event
    first = first_event conf m r

    answer : Outcome × Machine
    answer = step conf m first

    o : Outcome
    o = answer.0

    by : (p : Option PacketView) → (way_on conf answer (option_map (λ p. record r { what = arrival.Packet p }) p)).1.last ≡ Some r.time
    by None = last-step conf m first
    by (Some p) = last-step conf answer.1 (record r { what = arrival.Packet p })

-- ---- the moment of a record

number_to-bound : (most : ℕ) (o : Option ℕ) (n : ℕ) → option_filter (λ x. nat_le x most) o ≡ Some n → n ≤ most
number_to-bound most None n q = cc
number_to-bound most (Some x) n q = by (nat_le x most) refl q
  where
    by : (b : Bool) → nat_le x most ≡ b → cond b (Some x) None ≡ Some n → n ≤ most
    by true test e = let same : x ≡ n = cc in rw (← same) (grind (arith, nat_tests, test))
    by false test e = cc

order-kept : (last : Option ℕ) (time : ℕ) → falls last time ≡ false → ForSome last (λ m. m ≤ time)
order-kept None time q x e = cc
order-kept (Some m) time q x e = let same : m ≡ x = cc in rw (← same) (grind (arith, nat_tests, q))

-- ---- the table of a record

-- a table that is found by its name is one of the configuration's
named-known : (conf : Conf) (name : List ℕ) (t : TableNo) → table_named conf name ≡ Some t → t.0 < length conf.tables
named-known conf name t e = by (nat_lt at (length conf.tables)) refl e
  where
    at : ℕ
    at = position_or_len (has_name name) conf.tables

    by : (b : Bool) → nat_lt at (length conf.tables) ≡ b → option_map (λ (n : ℕ). let found : TableNo = record { 0 = n } in found) (if b then Some at else None) ≡ Some t
        → t.0 < length conf.tables
    by true test h =
        let same : record { 0 = at } ≡ t = cc in
        let number : at ≡ t.0 = ap (λ (x : TableNo). x.0) same in
        rw (← number) (grind (arith, nat_tests, test))
    by false test h = cc

changing-may : (conf : Conf) (o : Option TableNo) (t : TableNo) → ((u : TableNo) → o ≡ Some u → u.0 < length conf.tables) → changing conf o ≡ Some t
    → MayChange conf t.0
changing-may conf None t known e = cc
changing-may conf (Some u) t known e = by (is_const_table (slice_get conf.tables u.0)) refl e
  where
    by : (b : Bool) → is_const_table (slice_get conf.tables u.0) ≡ b → cond (not b) (Some u) None ≡ Some t → MayChange conf t.0
    by true test h = cc
    by false test h =
        let same : u ≡ t = cc in
        subst (λ (x : TableNo). MayChange conf x.0) same (record { known = known u refl; changes = test })

-- what is done to it may come
change-may : (conf : Conf) (done : Command) (name : List ℕ) (w : Arrival)
    → option_map (λ t. arrival.Table t done) (changing conf (table_named conf name)) ≡ Some w → MayCome conf w
change-may conf done name w e = by (changing conf (table_named conf name)) refl e
  where
    by : (o : Option TableNo) → changing conf (table_named conf name) ≡ o → option_map (λ t. arrival.Table t done) o ≡ Some w → MayCome conf w
    by None at h = cc
    by (Some t) at h =
        let same : arrival.Table t done ≡ w = cc in
        subst (MayCome conf) same (changing-may conf (table_named conf name) t (named-known conf name) at)

-- a packet, and a record that is skipped, may come
arrived-may : (conf : Conf) (packet : Option PacketView) → MayCome conf (option_map_or arrival.Packet packet arrival.Skip)
arrived-may conf None = tt
arrived-may conf (Some p) = tt

-- it is not before the last one, and may come
record IsRead (conf : Conf) (last : Option ℕ) (time : ℕ) (e : Event) : Type 0 where
  order : falls last time ≡ false
  moment : e.time ≡ time
  may : MayCome conf e.what

moment-read : (conf : Conf) (row : ℕ) (last : Option ℕ) (time : ℕ) (o : Option Arrival) (e : Event) → ((w : Arrival) → o ≡ Some w → MayCome conf w)
    → at_moment row last time o ≡ Ok e → IsRead conf last time e
moment-read conf row last time o e may q = by (falls last time) refl q
  where
    made : falls last time ≡ false → (w : Option Arrival) → o ≡ w
        → and_then (ok_or w (fault.Table row)) (λ comes. Ok (record { time = time; what = comes })) ≡ Ok e → IsRead conf last time e
    made test None at h = cc
    made test (Some w) at h =
        let same : record { time = time; what = w } ≡ e = cc in record {
          order = test;
          moment = sym (ap (λ (d : Event). d.time) same);
          may = subst (λ (d : Event). MayCome conf d.what) same (may w at);
        }

    by : (b : Bool) → falls last time ≡ b
        → (if b then Err (fault.TimeFell row) else and_then (ok_or o (fault.Table row)) (λ comes. Ok (record { time = time; what = comes }))) ≡ Ok e → IsRead conf last time e
    by true test h = cc
    by false test h = made test o refl h

arrival-read : (conf : Conf) (row : ℕ) (last : Option ℕ) (time : ℕ) (fields : List (List ℕ)) (e : Event) → arrival_at row last time fields ≡ Ok e → IsRead conf last time e
arrival-read conf row last time fields e q = by (packet_at row fields) q
  where
    by : (r : Result (Option PacketView) TraceFault) → and_then r (λ packet. at_moment row last time (Some (option_map_or arrival.Packet packet arrival.Skip))) ≡ Ok e → IsRead conf last time e
    by (Err f) h = cc
    by (Ok o) h =
        let comes : Arrival = option_map_or arrival.Packet o arrival.Skip in
        moment-read conf row last time (Some comes) e (λ w same. let is : comes ≡ w = cc in subst (MayCome conf) is (arrived-may conf o)) h

change-read : (conf : Conf) (row : ℕ) (last : Option ℕ) (time : ℕ) (read : Result Change TraceFault) (e : Event) → change_at conf row last time read ≡ Ok e → IsRead conf last time e
change-read conf row last time (Err f) e h = cc
change-read conf row last time (Ok x) e h = moment-read conf row last time (option_map (λ t. arrival.Table t x.1) (changing conf (table_named conf x.0))) e (change-may conf x.1 x.0) h

-- what follows an empty column, and the last ones
empty-read : {P : Type 0} (row column : ℕ) (o : Option Unit) (more : Result Event TraceFault) (e : Event) → (more ≡ Ok e → P) → in_column row column o (λ n. more) ≡ Ok e → P
empty-read row column None more e f h = cc
empty-read row column (Some n) more e f h = f h

end-read : {P : Type 0} (r : Result Unit TraceFault) (more : Result Event TraceFault) (e : Event) → (more ≡ Ok e → P) → and_then r (λ n. more) ≡ Ok e → P
end-read (Err x) more e f h = cc
end-read (Ok n) more e f h = f h

question-read : (conf : Conf) (row : ℕ) (last : Option ℕ) (time : ℕ) (fields : List (List ℕ)) (e : Event) → question_at row last time fields ≡ Ok e → IsRead conf last time e
question-read conf row last time fields e q =
    end-read (nameless_at row fields) _ e
    (empty-read row 5 (nothing_in (column_of fields 5)) _ e
    (empty-read row 6 (nothing_in (column_of fields 6)) _ e
    (end-read (end_at row fields) _ e
    (moment-read conf row last time (Some arrival.HeldQuery) e (λ w same. let is : arrival.HeldQuery ≡ w = cc in subst (MayCome conf) is tt))))) q

kill-read : (conf : Conf) (row : ℕ) (last : Option ℕ) (time : ℕ) (read : Result FromTo TraceFault) (e : Event) → kill_at row last time read ≡ Ok e → IsRead conf last time e
kill-read conf row last time (Err f) e h = cc
kill-read conf row last time (Ok hosts) e h =
    moment-read conf row last time (Some (arrival.Kill hosts)) e (λ w same. let is : arrival.Kill hosts ≡ w = cc in subst (MayCome conf) is tt) h

-- the event of a record: its moment is not before the last one, and is small, and it may come
pub record IsEvent (conf : Conf) (last : Option ℕ) (e : Event) : Type 0 where
  pub order : ForSome last (λ m. m ≤ e.time)
  pub moment : e.time < 2 ^ 32
  pub table : MayCome conf e.what

pub event-read : (conf : Conf) (row : ℕ) (last : Option ℕ) (fields : List (List ℕ)) (e : Event) → event_at conf row last fields ≡ Ok e → IsEvent conf last e
event-read conf row last fields e q = by_length (length fields == 9) q
  where
    by_kind : (time : ℕ) (v : Option RecordVerb) → event_by conf row last time fields v ≡ Ok e → IsRead conf last time e
    by_kind time None h = arrival-read conf row last time fields e h
    by_kind time (Some verb.HeldQuery) h = question-read conf row last time fields e h
    by_kind time (Some verb.Expire) h = change-read conf row last time (expiry_at row fields) e h
    by_kind time (Some verb.Add) h = change-read conf row last time (addition_at row fields) e h
    by_kind time (Some verb.Kill) h = kill-read conf row last time (ends_asked_at row fields) e h
    by_kind time (Some verb.Delete) h = change-read conf row last time (deletion_at row fields) e h

    by_time : (o : Option ℕ) → number_to 4294967295 (column_of fields 1) ≡ o
        → in_column row 1 o (λ time. event_by conf row last time fields (verb_of (column_of fields 2))) ≡ Ok e → IsEvent conf last e
    by_time None test h = cc
    by_time (Some time) test h =
        let read = by_kind time (verb_of (column_of fields 2)) h in
        let small : time ≤ 4294967295 = number_to-bound 4294967295 (number_of (column_of fields 1)) time test in record {
          order = rw read.moment (order-kept last time read.order);
          moment = omega (arith, small, read.moment);
          table = read.may;
        }

    by_length : (b : Bool)
        → (if b then in_column row 1 (number_to 4294967295 (column_of fields 1)) (λ time. event_by conf row last time fields (verb_of (column_of fields 2))) else Err (fault.Columns row)) ≡ Ok e
        → IsEvent conf last e
    by_length true h = by_time (number_to 4294967295 (column_of fields 1)) refl h
    by_length false h = cc
