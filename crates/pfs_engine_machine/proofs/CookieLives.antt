-- A packet that gets a cookie, and one whose cookie no rule takes up, leave nothing; and how long a cookie of a run is good.
use Rattle.std.proofs.Common.{◌≡◌, ◌≤◌, ◌+◌, ◌-◌, ◌/◌, ◌&&◌, ◌||◌, not, ℕ, Bool, true, false, if◌then◌else◌, Option, Some, None, unwrap_or, List, [], ◌∷◌, ◌++◌, inr, refl, ap, ◌∙◌, sym, subst, arith}
use Rattle.std.specs.FinSet as set
use Rattle.std.specs.List.{range_with_len}
use Rattle.std.specs.Option.{ForSome}
use Rattle.std.proofs.lemmas.List.Elements.{recursion_from_All}
use Rattle.std.proofs.lemmas.Bool.{false≢true}
use Rattle.pfs_addr_values.proofs.SameLaws.{same_key_self}
use Rattle.pfs_addr_values.specs.Keys.{key_of}
use Rattle.pfs_addr_values.specs.Packets.{PacketView}
use Rattle.pfs_addr_values.specs.declared.packets.FlowKey.{FlowKey}
use Rattle.pfs_conf_values.specs.Configs.{Conf}
use Rattle.pfs_conf_values.specs.Profiles.{is_openbsd}
use Rattle.pfs_cookies.specs.CookieLaws.{given-fresh}
use Rattle.pfs_cookies.specs.Cookies.{cookies_turned, has_cookie}
use Rattle.pfs_store_contract.specs.Purging.{purge}
use Rattle.pfs_store_contract.specs.Worlds.{World}
use Rattle.pfs_engine_machine.specs.declared.events.Arrival.{Arrival}
use Rattle.pfs_engine_machine.specs.declared.events.Arrival.TheVariants as arrival
use Rattle.pfs_engine_machine.specs.declared.events.Command.TheVariants as command
use Rattle.pfs_engine_machine.specs.declared.events.Event.{Event}
use Rattle.pfs_engine_machine.specs.declared.events.Outcome.{Outcome}
use Rattle.pfs_engine_machine.specs.declared.events.Outcome.TheVariants as outcome
use Rattle.pfs_engine_machine.specs.CookieLife.{CookiesEnd, CookiesLast, IsCookieGiven, NothingIsHeld, asks_again, leaves_nothing}
use Rattle.pfs_engine_machine.specs.Guards.{Guard, are_on, brings_cookie, gets_cookie, guard_after_packet, guard_after_seconds, guard_at_second, guard_begun, guard_for, guard_given, guard_rested, guard_taken, guard_turned, is_turn}
use Rattle.pfs_engine_machine.specs.MachineInvariants.{moment_of}
use Rattle.pfs_engine_machine.specs.Machine.{MachineContents, Machine, answer_behind_guard, answer_to_arrival, answer_to_packet, due, first_moment, guard_after_arrival, held_for, machine_after, machine_at_moment, start, step}
use Rattle.pfs_engine_machine.specs.Runs.{IsInOrder}
use Rattle.pfs_engine_machine.proofs.Answering.{no_cookie_by_rules, stateless_leaves_all}
use Rattle.pfs_engine_machine.proofs.GuardLaws.{brought-ack}
use Rattle.pfs_engine_machine.proofs.CookieEnds.{Ended, ends-moment, ends-run, ends-then}
use Rattle.pfs_engine_machine.proofs.GuardTurns.{HasTurned, fresh-lasts}
use Rattle.pfs_engine_machine.proofs.Reopening.{met_same}
use Rattle.pfs_engine_machine.proofs.Running.{machine_after-append, machine_after-push, order-front, order-last}

-- ---- nothing is held

-- one that brings a cookie begins no connection anew
brought-meets : (conf : Conf) (g : Guard) (h : MachineContents) (p : PacketView) (now : ℕ) → brings_cookie g h.world p ≡ true → held_for conf h p now ≡ h
brought-meets conf g h p now e = met_same conf h p now (by (is_openbsd conf.profile) p.flags.syn p.flags.ack (brought-ack g h.world p e))
  where
    by : (of_openbsd syn ack : Bool) → ack ≡ true → (of_openbsd && (syn && not ack)) ≡ false
    by true true true k = refl
    by true true false k = absurd (false≢true k)
    by true false ack k = refl
    by false syn ack k = refl

answered-nothing : (conf : Conf) (g : Guard) (h : MachineContents) (p : PacketView) (now : ℕ) (o : Outcome) → (answer_to_packet conf h p (brings_cookie g h.world p) now).0 ≡ o
    → leaves_nothing o ≡ true → (answer_to_packet conf h p (brings_cookie g h.world p) now).1 ≡ h
answered-nothing conf g h p now outcome.Cookie e k = absurd (no_cookie_by_rules conf (held_for conf h p now) p (brings_cookie g h.world p) now e)
answered-nothing conf g h p now (outcome.Stateless rule) e k =
    let all = stateless_leaves_all conf (held_for conf h p now) p (brings_cookie g h.world p) now rule e in
    all.1 ∙ brought-meets conf g h p now all.0
answered-nothing conf g h p now (outcome.State rule) e k = absurd (false≢true k)
answered-nothing conf g h p now (outcome.New rule) e k = absurd (false≢true k)
answered-nothing conf g h p now (outcome.Answered rule) e k = absurd (false≢true k)
answered-nothing conf g h p now (outcome.Taken rule) e k = absurd (false≢true k)
answered-nothing conf g h p now (outcome.Asking rule) e k = absurd (false≢true k)
answered-nothing conf g h p now (outcome.Pass rule) e k = absurd (false≢true k)
answered-nothing conf g h p now (outcome.Block rule) e k = absurd (false≢true k)
answered-nothing conf g h p now (outcome.Lost rule) e k = absurd (false≢true k)
answered-nothing conf g h p now (outcome.Drop rule limit) e k = absurd (false≢true k)
answered-nothing conf g h p now (outcome.Conflict rule) e k = absurd (false≢true k)
answered-nothing conf g h p now (outcome.Kill rule limits overload killed) e k = absurd (false≢true k)
answered-nothing conf g h p now outcome.Skip e k = absurd (false≢true k)
answered-nothing conf g h p now (outcome.Expire n) e k = absurd (false≢true k)
answered-nothing conf g h p now (outcome.Add became) e k = absurd (false≢true k)
answered-nothing conf g h p now (outcome.Delete n) e k = absurd (false≢true k)
answered-nothing conf g h p now (outcome.Killed n) e k = absurd (false≢true k)
answered-nothing conf g h p now (outcome.HeldAnswer amounts) e k = absurd (false≢true k)

guarded-nothing : (conf : Conf) (g : Guard) (h : MachineContents) (p : PacketView) (now : ℕ) → leaves_nothing (answer_behind_guard conf g h p now).0 ≡ true
    → (answer_behind_guard conf g h p now).1 ≡ h
guarded-nothing conf g h p now = by (gets_cookie conf g h.world p)
  where
    rules : Outcome × MachineContents
    rules = answer_to_packet conf h p (brings_cookie g h.world p) now

    by : (b : Bool) → leaves_nothing (if b then (outcome.Cookie, h) else rules).0 ≡ true → (if b then (outcome.Cookie, h) else rules).1 ≡ h
    by true k = refl
    by false k = answered-nothing conf g h p now rules.0 refl k

arrived-nothing : (conf : Conf) (g : Guard) (h : MachineContents) (first now : ℕ) (what : Arrival) → leaves_nothing (answer_to_arrival conf g h first now what).0 ≡ true
    → (answer_to_arrival conf g h first now what).1 ≡ h
arrived-nothing conf g h first now arrival.Skip k = refl
arrived-nothing conf g h first now (arrival.Packet p) k = guarded-nothing conf g h p now k
arrived-nothing conf g h first now (arrival.Table table (command.Expire seconds)) k = absurd (false≢true k)
arrived-nothing conf g h first now (arrival.Table table (command.Add e)) k = absurd (false≢true k)
arrived-nothing conf g h first now (arrival.Table table (command.Delete e)) k = absurd (false≢true k)
arrived-nothing conf g h first now (arrival.Kill hosts) k = absurd (false≢true k)
arrived-nothing conf g h first now arrival.HeldQuery k = refl

pub nothing-is-held : (conf : Conf) → NothingIsHeld conf
unfolding step
nothing-is-held conf m e k =
    let at = machine_at_moment conf m e.time in arrived-nothing conf at.guard at.held (first_moment m.first e.time) e.time e.what k

-- ---- the secret turns from a moment that has come

-- by now
abbrev IsSince : Guard → ℕ → Type 0
IsSince g now = ForSome g.since (λ since. since ≤ now)

since-second : (conf : Conf) (w : World) (g : Guard) (s now : ℕ) → IsSince g now → IsSince (guard_at_second conf w g s) now
since-second conf w g s now h = by (is_turn g.since s) (not (are_on conf.syncookies (guard_rested conf w g).on))
  where
    turned : (b : Bool) → IsSince (if b then record (guard_rested conf w g) { since = None } else record (guard_rested conf w g) { out = cookies_turned g.out }) now
    turned true = λ since e. cc
    turned false = h

    by : (b off : Bool) → IsSince (if b then guard_turned conf (guard_rested conf w g) else g) now
    by true off = turned _
    by false off = h

since-seconds : (conf : Conf) (w : World) (g : Guard) (ss : List ℕ) (now : ℕ) → IsSince g now → IsSince (guard_after_seconds conf w g ss) now
since-seconds conf w g [] now h = h
since-seconds conf w g (s ∷ ss) now h =
    since-seconds conf (purge conf w s) (guard_at_second conf (purge conf w s) g s) ss now (since-second conf (purge conf w s) g s now h)

since-given : (g : Guard) (key : FlowKey) (now : ℕ) → IsSince g now → IsSince (guard_given g key now) now
since-given g key now h = by g.since h
  where
    by : (o : Option ℕ) → ForSome o (λ since. since ≤ now) → ForSome (Some (unwrap_or o now)) (λ since. since ≤ now)
    by None k since e = let same : now ≡ since = cc in omega (arith, same)
    by (Some t) k since e = k since e

since-for : (conf : Conf) (g : Guard) (w : World) (p : PacketView) (now : ℕ) → IsSince g now → IsSince (guard_for conf g w p now) now
since-for conf g w p now h = by (gets_cookie conf g w p && not (are_on conf.syncookies g.on))
  where
    by : (b : Bool) → IsSince (if b then guard_begun g now else g) now
    by true = λ since e. let same : now ≡ since = cc in omega (arith, same)
    by false = h

since-packet : (conf : Conf) (g : Guard) (w : World) (p : PacketView) (now : ℕ) → IsSince g now → IsSince (guard_after_packet conf g w p now) now
since-packet conf g w p now h = by (gets_cookie conf g w p) (brings_cookie g w p)
  where
    by : (gets brings : Bool) → IsSince (if gets then guard_given (guard_for conf g w p now) (key_of p) now else if brings then guard_taken g (key_of p) else g) now
    by true brings = since-given (guard_for conf g w p now) (key_of p) now (since-for conf g w p now h)
    by false true = h
    by false false = h

since-arrival : (conf : Conf) (g : Guard) (h : MachineContents) (now : ℕ) (what : Arrival) → IsSince g now → IsSince (guard_after_arrival conf g h now what) now
since-arrival conf g h now arrival.Skip k = k
since-arrival conf g h now (arrival.Packet p) k = since-packet conf g h.world p now k
since-arrival conf g h now (arrival.Table table done) k = k
since-arrival conf g h now (arrival.Kill hosts) k = k
since-arrival conf g h now arrival.HeldQuery k = k

since-later : (g : Guard) (now later : ℕ) → now ≤ later → IsSince g now → IsSince g later
since-later g now later le h since e = omega (arith, le, h since e)

-- after the seconds that are due
since-moment : (conf : Conf) (m : Machine) (now : ℕ) → ForSome m.last (λ l. l ≤ now) → IsSince m.guard (moment_of m.last) → IsSince (machine_at_moment conf m now).guard now
since-moment conf m now order h =
    since-seconds conf m.held.world m.guard (due m.last now) now (since-later m.guard (moment_of m.last) now (by m.last order) h)
  where
    by : (last : Option ℕ) → ForSome last (λ l. l ≤ now) → moment_of last ≤ now
    by None k = omega arith
    by (Some last) k = k last refl

since-step : (conf : Conf) (m : Machine) (e : Event) → ForSome m.last (λ l. l ≤ e.time) → IsSince m.guard (moment_of m.last) → IsSince (step conf m e).1.guard (moment_of (step conf m e).1.last)
unfolding step
since-step conf m e order h =
    let at = machine_at_moment conf m e.time in since-arrival conf at.guard at.held e.time e.what (since-moment conf m e.time order h)

since-run : (conf : Conf) (m : Machine) (es : List Event) → IsInOrder m.last es → IsSince m.guard (moment_of m.last)
    → IsSince (machine_after conf m es).guard (moment_of (machine_after conf m es).last)
unfolding machine_after step
since-run conf m [] order h = h
since-run conf m (e ∷ es) order h = since-run conf (step conf m e).1 es order.2 (since-step conf m e order.0 h)

-- ---- a cookie that is given

-- what the guard is then
record HasGiven (g : Guard) (key : FlowKey) (now : ℕ) : Type 0 where
  since : ℕ
  is : g.since ≡ Some since
  come : since ≤ now
  new : set.contains g.out.fresh key ≡ true

given-new : (g : Guard) (key : FlowKey) (now : ℕ) → IsSince g now → HasGiven (guard_given g key now) key now
given-new g key now h = record {
  since = unwrap_or g.since now;
  is = refl;
  come = since-given g key now h (unwrap_or g.since now) refl;
  new = given-fresh g.out key key ∙ ap (λ b. b || set.contains g.out.fresh key) (same_key_self key);
}

-- a packet of which this comes got a cookie
given-packet : (conf : Conf) (g : Guard) (h : MachineContents) (p : PacketView) (now : ℕ) → (answer_behind_guard conf g h p now).0 ≡ outcome.Cookie → IsSince g now
    → HasGiven (guard_after_packet conf g h.world p now) (key_of p) now
given-packet conf g h p now e s = by (gets_cookie conf g h.world p) e
  where
    by : (b : Bool) → (if b then (outcome.Cookie, h) else answer_to_packet conf h p (brings_cookie g h.world p) now).0 ≡ outcome.Cookie
        → HasGiven (if b then guard_given (guard_for conf g h.world p now) (key_of p) now else if brings_cookie g h.world p then guard_taken g (key_of p) else g) (key_of p) now
    by true k = given-new (guard_for conf g h.world p now) (key_of p) now (since-for conf g h.world p now s)
    by false k = absurd (no_cookie_by_rules conf (held_for conf h p now) p (brings_cookie g h.world p) now k)

given-arrival : (conf : Conf) (g : Guard) (h : MachineContents) (first now : ℕ) (what : Arrival) (p : PacketView) → what ≡ arrival.Packet p
    → (answer_to_arrival conf g h first now what).0 ≡ outcome.Cookie → IsSince g now → HasGiven (guard_after_arrival conf g h now what) (key_of p) now
given-arrival conf g h first now what p same e s =
    let packet : (answer_behind_guard conf g h p now).0 ≡ outcome.Cookie = sym (ap (λ (x : Arrival). (answer_to_arrival conf g h first now x).0) same) ∙ e in
    subst (λ (x : Arrival). HasGiven (guard_after_arrival conf g h now x) (key_of p) now) (sym same) (given-packet conf g h p now packet s)

given-step : (conf : Conf) (m : Machine) (e : Event) (p : PacketView) → e.what ≡ arrival.Packet p → (step conf m e).0 ≡ outcome.Cookie
    → ForSome m.last (λ l. l ≤ e.time) → IsSince m.guard (moment_of m.last) → HasGiven (step conf m e).1.guard (key_of p) e.time
unfolding step
given-step conf m e p what gets order s =
    let at = machine_at_moment conf m e.time in
    given-arrival conf at.guard at.held (first_moment m.first e.time) e.time e.what p what gets (since-moment conf m e.time order s)

stepped-last : (conf : Conf) (m : Machine) (e : Event) → (step conf m e).1.last ≡ Some e.time
unfolding step
stepped-last conf m e = refl

-- how often the secret has turned
turned-by : (g : Guard) (since now : ℕ) → g.since ≡ Some since → since ≤ now → HasTurned g since ((now - since) / 15) now
turned-by g since now is come = record { is = is; last = omega (arith, come); next = omega (arith, come) }

-- the seconds that pass
seconds-then : (conf : Conf) (m : Machine) (now n : ℕ) → m.last ≡ Some now
    → (machine_at_moment conf m (now + n)).guard ≡ guard_after_seconds conf m.held.world m.guard (range_with_len (now + 1) n)
seconds-then conf m now n e =
    let same : now + n - now ≡ n = omega arith in
    ap (λ (o : Option ℕ). guard_after_seconds conf m.held.world m.guard (due o (now + n))) e
    ∙ ap (λ (k : ℕ). guard_after_seconds conf m.held.world m.guard (range_with_len (now + 1) k)) same

-- of a machine that gives it
module _ (conf : Conf) (m : Machine) (e : Event) (p : PacketView) (given : HasGiven (step conf m e).1.guard (key_of p) e.time) where
  abbrev next : Machine
  next = (step conf m e).1

  turned : HasTurned next.guard given.since ((e.time - given.since) / 15) e.time
  turned = turned-by next.guard given.since e.time given.is given.come

  lasts-then : (n : ℕ) → n ≤ 15 → has_cookie (machine_at_moment conf next (e.time + n)).guard.out (key_of p) ≡ true
  lasts-then n few =
      ap (λ (x : Guard). has_cookie x.out (key_of p)) (seconds-then conf next e.time n (stepped-last conf m e))
      ∙ fresh-lasts conf next.guard given.since ((e.time - given.since) / 15) (key_of p) given.new n e.time next.held.world turned (omega (arith, few, given.come))

-- ---- of a run

given-run : (conf : Conf) (events before : List Event) (e : Event) (p : PacketView) (meanwhile : List Event) → IsInOrder None events → IsCookieGiven conf events before e p meanwhile
    → HasGiven (step conf (machine_after conf (start conf) before) e).1.guard (key_of p) e.time
given-run conf events before e p meanwhile order is =
    let o : IsInOrder None (before ++ e ∷ []) = order-front None (before ++ e ∷ []) meanwhile
    (order-front None ((before ++ e ∷ []) ++ meanwhile) is.run.0 (subst (IsInOrder None) is.run.1 order)) in
    given-step conf (machine_after conf (start conf) before) e p is.what is.gets (order-last conf (start conf) before e o)
    (since-run conf (start conf) before (order-front None before (e ∷ []) o) (λ since k. cc))

then-is : (conf : Conf) (before : List Event) (e : Event) (meanwhile : List Event)
    → machine_after conf (start conf) ((before ++ e ∷ []) ++ meanwhile) ≡ machine_after conf (step conf (machine_after conf (start conf) before) e).1 meanwhile
then-is conf before e meanwhile =
    machine_after-append conf (start conf) (before ++ e ∷ []) meanwhile
    ∙ ap (λ (m : Machine). machine_after conf m meanwhile) (machine_after-push conf (start conf) before e)

pub cookies-last : (conf : Conf) (events : List Event) → IsInOrder None events → CookiesLast conf events
unfolding machine_after
cookies-last conf events order before e p n is few =
    ap (λ (m : Machine). has_cookie (machine_at_moment conf m (e.time + n)).guard.out (key_of p)) (then-is conf before e [])
    ∙ lasts-then conf (machine_after conf (start conf) before) e p (given-run conf events before e p [] order is) n few

order-next : (conf : Conf) (m : Machine) (es : List Event) (e : Event) (rest : List Event) → IsInOrder m.last ((es ++ e ∷ []) ++ rest) → IsInOrder (Some e.time) rest
unfolding step
order-next conf m [] e rest o = o.2
order-next conf m (d ∷ es) e rest o = order-next conf (step conf m d).1 es e rest o.2

-- of the machine that has given it
given-ended : (conf : Conf) (m : Machine) (e : Event) (p : PacketView) → HasGiven (step conf m e).1.guard (key_of p) e.time
    → Ended conf (key_of p) (e.time + 30) (step conf m e).1
given-ended conf m e p given = record {
  last = e.time;
  is = stepped-last conf m e;
  ends = inr (inr (record {
    since = given.since;
    times = (e.time - given.since) / 15;
    turned = turned-by (step conf m e).1.guard given.since e.time given.is given.come;
    in_time = omega (arith, given.come);
  }));
}

pub cookies-end : (conf : Conf) (events : List Event) → IsInOrder None events → CookiesEnd conf events
cookies-end conf events order before e p meanwhile now is others late =
    let m : Machine = machine_after conf (start conf) before in
    let key : FlowKey = key_of p in
    let front : IsInOrder None ((before ++ e ∷ []) ++ meanwhile) =
    order-front None ((before ++ e ∷ []) ++ meanwhile) is.run.0 (subst (IsInOrder None) is.run.1 order) in
    let next : IsInOrder (step conf m e).1.last meanwhile =
    subst (λ (o : Option ℕ). IsInOrder o meanwhile) (sym (stepped-last conf m e)) (order-next conf (start conf) before e meanwhile front) in
    let ended : Ended conf key (e.time + 30) (machine_after conf (step conf m e).1 meanwhile) =
    ends-run conf key (e.time + 30) (step conf m e).1 meanwhile next (recursion_from_All (λ (d : Event). asks_again key d.what ≡ false) meanwhile others)
    (given-ended conf m e p (given-run conf events before e p meanwhile order is)) in
    ap (λ (x : Machine). has_cookie (machine_at_moment conf x now).guard.out key) (then-is conf before e meanwhile)
    ∙ ends-then key (e.time + 30) (machine_at_moment conf (machine_after conf (step conf m e).1 meanwhile) now).guard (ended.last + (now - ended.last)) (omega (arith, late))
    (ends-moment conf key (e.time + 30) (machine_after conf (step conf m e).1 meanwhile) ended.last now ended.is ended.ends)
