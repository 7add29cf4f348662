-- What is held stays within the limits through the acts of a run whose moments do not fall.
use Rattle.std.proofs.Common.{◌≤◌, ℕ, Bool, true, false, if◌then◌else◌, Option, Some, None, List, [], ◌∷◌, ◌++◌, map, arith, refl, subst, ◌≡◌}
use Rattle.std.specs.Option.{ForSome}
use Rattle.pfs_addr_values.specs.Packets.{PacketView}
use Rattle.pfs_conf_values.specs.Configs.{Conf}
use Rattle.pfs_conf_values.specs.Invariants.{IsConfig}
use Rattle.pfs_engine_machine.proofs.GuardLaws.{IsTcpWith, brought-tcp}
use Rattle.pfs_engine_machine.proofs.KeptPackets.{kept_answered}
use Rattle.pfs_engine_machine.proofs.KeptTime.{kept_command, kept_elsewhere, kept_later, kept_purge, kept_start}
use Rattle.pfs_engine_machine.specs.MachineInvariants.{IsKept, moment_of}
use Rattle.pfs_engine_machine.specs.Guards.{Guard, brings_cookie, gets_cookie}
use Rattle.pfs_engine_machine.specs.Machine.{MachineContents, Machine, due, first_moment, machine_at_moment, start, step}
use Rattle.pfs_engine_machine.specs.Runs.{IsInOrder}
use Rattle.pfs_engine_machine.specs.declared.events.Event.{Event}
use Rattle.pfs_engine_machine.specs.declared.events.Arrival.{Arrival}
use Rattle.pfs_engine_machine.specs.declared.events.Arrival.TheVariants as arrival
use Rattle.pfs_engine_machine.specs.Acts.{RunAct, Arrive, Change, Kill, Purge, StaysWithinLimits, acts_from, arrivals, arrivals_at, act_done, acts_done, acts_of, after}
use Rattle.pfs_engine_machine.specs.TwoKeys.{KeysStayAlone}

-- the moments of the packets among these acts do not fall, from this one on; and those that bring a cookie are of TCP
abbrev AreOrdered : ℕ → List RunAct → Type 0
AreOrdered now [] = Unit {0}
AreOrdered now (Purge s ∷ acts) = AreOrdered now acts
AreOrdered now (Arrive t p cookie ∷ acts) = (now ≤ t) × IsTcpWith cookie p.proto × AreOrdered t acts
AreOrdered now (Change f t table done ∷ acts) = AreOrdered now acts
AreOrdered now (Kill t hosts ∷ acts) = AreOrdered now acts

ordered-lower : (now later : ℕ) (acts : List RunAct) → now ≤ later → AreOrdered later acts → AreOrdered now acts
ordered-lower now later [] h o = tt
ordered-lower now later (Purge s ∷ acts) h o = ordered-lower now later acts h o
ordered-lower now later (Arrive t p cookie ∷ acts) h o = (omega (arith, h, o.0), o.1, o.2)
ordered-lower now later (Change f t table done ∷ acts) h o = ordered-lower now later acts h o
ordered-lower now later (Kill t hosts ∷ acts) h o = ordered-lower now later acts h o

ordered-front : (now : ℕ) (xs ys : List RunAct) → AreOrdered now (xs ++ ys) → AreOrdered now xs
ordered-front now [] ys o = tt
ordered-front now (Purge s ∷ xs) ys o = ordered-front now xs ys o
ordered-front now (Arrive t p cookie ∷ xs) ys o = (o.0, o.1, ordered-front t xs ys o.2)
ordered-front now (Change f t table done ∷ xs) ys o = ordered-front now xs ys o
ordered-front now (Kill t hosts ∷ xs) ys o = ordered-front now xs ys o

ordered-purges : (now : ℕ) (ss : List ℕ) (rest : List RunAct) → AreOrdered now rest → AreOrdered now (map (λ s. Purge s) ss ++ rest)
ordered-purges now [] rest o = o
ordered-purges now (s ∷ ss) rest o = ordered-purges now ss rest o

ordered-packet : (conf : Conf) (g : Guard) (h : MachineContents) (first now : ℕ) (p : PacketView) (rest : List RunAct) → AreOrdered now rest
    → AreOrdered now (arrivals conf g h first now (arrival.Packet p) ++ rest)
ordered-packet conf g h first now p rest o = by (gets_cookie conf g h.world p)
  where
    by : (b : Bool) → AreOrdered now ((if b then [] else Arrive now p (brings_cookie g h.world p) ∷ []) ++ rest)
    by true = o
    by false = (omega arith, brought-tcp g h.world p, o)

ordered-arrivals : (conf : Conf) (g : Guard) (h : MachineContents) (first now : ℕ) (what : Arrival) (rest : List RunAct) → AreOrdered now rest
    → AreOrdered now (arrivals conf g h first now what ++ rest)
ordered-arrivals conf g h first now arrival.Skip rest o = o
ordered-arrivals conf g h first now (arrival.Packet p) rest o = ordered-packet conf g h first now p rest o
ordered-arrivals conf g h first now (arrival.Table table done) rest o = o
ordered-arrivals conf g h first now (arrival.Kill hosts) rest o = o
ordered-arrivals conf g h first now arrival.HeldQuery rest o = o

acts-ordered : (conf : Conf) (m : Machine) (es : List Event) → IsInOrder m.last es → AreOrdered (moment_of m.last) (acts_from conf m es)
unfolding step
acts-ordered conf m [] o = tt
acts-ordered conf m (e ∷ es) o =
    let from = first_moment m.first e.time in
    let at = machine_at_moment conf m e.time in
    let later = acts_from conf (step conf m e).1 es in
    let rest = ordered-arrivals conf at.guard at.held from e.time e.what later (acts-ordered conf (step conf m e).1 es o.2) in
    ordered-purges (moment_of m.last) (due m.last e.time) (arrivals_at conf at from e.time e.what ++ later)
    (ordered-lower (moment_of m.last) e.time (arrivals_at conf at from e.time e.what ++ later) (by m.last o.0) rest)
  where
    by : (last : Option ℕ) → ForSome last (λ m. m ≤ e.time) → moment_of last ≤ e.time
    by None h = omega arith
    by (Some m) h = h m refl

-- what a machine keeps, at some moment
abbrev IsKeptSometime : Conf → MachineContents → Type 0
IsKeptSometime conf h = (now : ℕ) × IsKept conf h now

kept_all : (conf : Conf) (h : MachineContents) (now : ℕ) (acts : List RunAct) → IsConfig conf → AreOrdered now acts → IsKept conf h now → IsKeptSometime conf (acts_done conf h acts)
kept_all conf h now [] sound o k = (now, k)
kept_all conf h now (Purge s ∷ acts) sound o k = kept_all conf (act_done conf h (Purge s)) now acts sound o (kept_purge conf h s now k)
kept_all conf h now (Arrive t p cookie ∷ acts) sound o k =
    kept_all conf (act_done conf h (Arrive t p cookie)) t acts sound o.2 (kept_answered conf h p cookie t sound o.1 (kept_later conf h now t o.0 k))
kept_all conf h now (Change f t table done ∷ acts) sound o k =
    kept_all conf (act_done conf h (Change f t table done)) now acts sound o (kept_command conf h f t table done now k)
kept_all conf h now (Kill t hosts ∷ acts) sound o k =
    kept_all conf (act_done conf h (Kill t hosts)) now acts sound o (kept_elsewhere conf h hosts t now k)

kept-through : (conf : Conf) (events : List Event) → IsConfig conf → IsInOrder None events → (earlier later : List RunAct) → acts_of conf events ≡ earlier ++ later
    → IsKeptSometime conf (after conf earlier)
kept-through conf events sound order earlier later split =
    kept_all conf (start conf).held 0 earlier sound
    (ordered-front 0 earlier later (subst (AreOrdered 0) split (acts-ordered conf (start conf) events order))) (kept_start conf sound)

pub stays-within : (conf : Conf) (events : List Event) → IsConfig conf → IsInOrder None events → StaysWithinLimits conf events
stays-within conf events sound order earlier later split = (kept-through conf events sound order earlier later split).1.limits

pub stays-alone : (conf : Conf) (events : List Event) → IsConfig conf → IsInOrder None events → KeysStayAlone conf events
stays-alone conf events sound order earlier later split =
    let k = (kept-through conf events sound order earlier later split).1 in
    record { outer = k.keys; inner = k.inner_keys }
