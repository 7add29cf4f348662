-- A cookie is forgotten in time, whatever comes but another SYN of its key.
use Rattle.std.proofs.Common.{◌≡◌, ◌≤◌, ◌<◌, ◌+◌, ◌-◌, ◌*◌, ◌&&◌, ◌||◌, ◌⊎◌, inl, inr, not, ℕ, zero, suc, Bool, true, false, if◌then◌else◌, Option, Some, unwrap_or, List, [], ◌∷◌, refl, ap, ◌∙◌, sym, subst, arith}
use Rattle.std.specs.FinSet as set
use Rattle.std.specs.FinSet.{contains-empty}
use Rattle.std.specs.List.{AllByRecursion, range_with_len}
use Rattle.std.proofs.lemmas.Bool.{false≢true}
use Rattle.pfs_addr_values.specs.Keys.{key_of}
use Rattle.pfs_addr_values.specs.Packets.{PacketView}
use Rattle.pfs_addr_values.specs.Sameness.{same_key}
use Rattle.pfs_addr_values.specs.declared.packets.FlowKey.{FlowKey}
use Rattle.pfs_conf_values.specs.Configs.{Conf}
use Rattle.pfs_cookies.specs.CookieLaws.{given-fresh, has_cookie-given, has_cookie-taken, has_cookie-turned, taken-fresh}
use Rattle.pfs_cookies.specs.Cookies.{has_cookie}
use Rattle.pfs_cookies.specs.KeyOrders.{key_cmp}
use Rattle.pfs_store_contract.specs.Purging.{purge}
use Rattle.pfs_store_contract.specs.Admission.{asks_in}
use Rattle.pfs_store_contract.specs.Worlds.{World}
use Rattle.pfs_engine_machine.specs.CookieLife.{asks_again}
use Rattle.pfs_engine_machine.specs.Guards.{Guard, are_on, brings_cookie, gets_cookie, guard_after_packet, guard_after_seconds, guard_at_second, guard_begun, guard_for, guard_given, guard_rested, guard_taken, guard_turned}
use Rattle.pfs_engine_machine.specs.Machine.{MachineContents, Machine, due, guard_after_arrival, machine_after, machine_at_moment, step}
use Rattle.pfs_engine_machine.specs.Runs.{IsInOrder}
use Rattle.pfs_engine_machine.specs.declared.events.Arrival.{Arrival}
use Rattle.pfs_engine_machine.specs.declared.events.Arrival.TheVariants as arrival
use Rattle.pfs_engine_machine.specs.declared.events.Event.{Event}
use Rattle.pfs_engine_machine.proofs.GuardLaws.{gets-asks}
use Rattle.pfs_engine_machine.proofs.GuardTurns.{HasTurned, at_no_turn, at_turn, gone-second, not-fresh, on-to, reaches, turned-either, turned-gone, turned_fully}

-- a turn that comes so many seconds behind the last one comes in time
pub record TurnsBy (g : Guard) (now more until : ℕ) : Type 0 where
  pub since : ℕ
  pub times : ℕ
  pub turned : HasTurned g since times now
  pub in_time : since + 15 * times + more ≤ until

-- by then the cookie of a key is forgotten: it is already; or it is under the secret before, if at all, and the next turn is in
-- time; or the turn after the next is in time
abbrev pub EndsBy : FlowKey → ℕ → Guard → ℕ → Type 0
EndsBy key until g now =
    (has_cookie g.out key ≡ false) ⊎ (((set.contains g.out.fresh key ≡ false) × TurnsBy g now 15 until) ⊎ TurnsBy g now 30 until)

-- and it is forgotten then
pub ends-then : (key : FlowKey) (until : ℕ) (g : Guard) (now : ℕ) → until ≤ now → EndsBy key until g now → has_cookie g.out key ≡ false
ends-then key until g now late (inl gone) = gone
ends-then key until g now late (inr (inl k)) = absurd (omega (arith, late, k.1.in_time, k.1.turned.next))
ends-then key until g now late (inr (inr k)) = absurd (omega (arith, late, k.in_time, k.turned.next))

-- ---- a second

ends-turned : (conf : Conf) (key : FlowKey) (until : ℕ) (g : Guard) (now : ℕ) (k : TurnsBy g now 30 until) → now + 1 ≡ k.since + 15 * k.times + 15
    → EndsBy key until (guard_turned conf g) (now + 1)
ends-turned conf key until g now k e = by (turned-either conf g key)
  where
    full : EndsBy key until (turned_fully g) (now + 1)
    full = inr (inl (
      contains-empty key_cmp key,
      record {
        since = k.since;
        times = k.times + 1;
        turned = record { is = k.turned.is; last = omega (arith, e); next = omega (arith, e) };
        in_time = omega (arith, k.in_time);
      },
    ))

    by : (has_cookie (guard_turned conf g).out key ≡ false) ⊎ (guard_turned conf g ≡ turned_fully g) → EndsBy key until (guard_turned conf g) (now + 1)
    by (inl gone) = inl gone
    by (inr same) = subst (λ (x : Guard). EndsBy key until x (now + 1)) (sym same) full

-- without a turn
later : (g : Guard) (now more until : ℕ) (k : TurnsBy g now more until) → now + 1 < k.since + 15 * k.times + 15 → TurnsBy g (now + 1) more until
later g now more until k l = record { since = k.since; times = k.times; turned = on-to g k.since k.times now k.turned l; in_time = k.in_time }

-- the turns of another guard, whose secret turns from the same second
abbrev turns-as : (g other : Guard) (now more until : ℕ) → ((s : ℕ) → g.since ≡ Some s → other.since ≡ Some s) → TurnsBy g now more until → TurnsBy other now more until
turns-as g other now more until same k = record {
  since = k.since;
  times = k.times;
  turned = record { is = same k.since k.turned.is; last = k.turned.last; next = k.turned.next };
  in_time = k.in_time;
}

ends-second : (conf : Conf) (w : World) (key : FlowKey) (until : ℕ) (g : Guard) (now : ℕ) → EndsBy key until g now → EndsBy key until (guard_at_second conf w g (now + 1)) (now + 1)
ends-second conf w key until g now (inl gone) = inl (gone-second conf w g (now + 1) key gone)
ends-second conf w key until g now (inr (inl k)) = by (reaches now (k.1.since + 15 * k.1.times + 15) k.1.turned.next)
  where
    by : (now + 1 < k.1.since + 15 * k.1.times + 15) ⊎ (now + 1 ≡ k.1.since + 15 * k.1.times + 15) → EndsBy key until (guard_at_second conf w g (now + 1)) (now + 1)
    by (inl few) =
        subst (λ (x : Guard). EndsBy key until x (now + 1)) (sym (at_no_turn conf w g k.1.since k.1.times now k.1.turned few))
        (inr (inl (k.0, later g now 15 until k.1 few)))
    by (inr same) =
        inl (ap (λ (x : Guard). has_cookie x.out key) (at_turn conf w g k.1.since k.1.times now k.1.turned same) ∙ turned-gone conf (guard_rested conf w g) key k.0)
ends-second conf w key until g now (inr (inr k)) = by (reaches now (k.since + 15 * k.times + 15) k.turned.next)
  where
    by : (now + 1 < k.since + 15 * k.times + 15) ⊎ (now + 1 ≡ k.since + 15 * k.times + 15) → EndsBy key until (guard_at_second conf w g (now + 1)) (now + 1)
    by (inl few) =
        subst (λ (x : Guard). EndsBy key until x (now + 1)) (sym (at_no_turn conf w g k.since k.times now k.turned few)) (inr (inr (later g now 30 until k few)))
    by (inr same) =
        subst (λ (x : Guard). EndsBy key until x (now + 1)) (sym (at_turn conf w g k.since k.times now k.turned same))
        (ends-turned conf key until (guard_rested conf w g) now (turns-as g (guard_rested conf w g) now 30 until (λ s since. since) k) same)

ends-seconds : (conf : Conf) (key : FlowKey) (until n now : ℕ) (w : World) (g : Guard) → EndsBy key until g now
    → EndsBy key until (guard_after_seconds conf w g (range_with_len (now + 1) n)) (now + n)
ends-seconds conf key until zero now w g h = let same : now ≡ now + 0 = omega arith in subst (EndsBy key until g) same h
ends-seconds conf key until (suc n) now w g h =
    let v = purge conf w (now + 1) in
    let x = guard_at_second conf v g (now + 1) in
    let same : now + 1 + n ≡ now + suc n = omega arith in
    subst (EndsBy key until (guard_after_seconds conf v x (range_with_len (now + 1 + 1) n))) same
    (ends-seconds conf key until n (now + 1) v x (ends-second conf v key until g now h))

-- ---- a packet

-- cookies go on under a fresh secret
ends-begun : (key : FlowKey) (until : ℕ) (g : Guard) (now : ℕ) → EndsBy key until g now → EndsBy key until (guard_begun g now) now
ends-begun key until g now (inl gone) = inl (has_cookie-turned g.out key ∙ not-fresh g.out key gone)
ends-begun key until g now (inr (inl k)) = inl (has_cookie-turned g.out key ∙ k.0)
ends-begun key until g now (inr (inr k)) = inr (inl (
  contains-empty key_cmp key,
  record {
    since = now;
    times = 0;
    turned = record { is = refl; last = omega arith; next = omega arith };
    in_time = omega (arith, k.in_time, k.turned.next);
  },
))

ends-for : (conf : Conf) (key : FlowKey) (until : ℕ) (g : Guard) (w : World) (p : PacketView) (now : ℕ) → EndsBy key until g now → EndsBy key until (guard_for conf g w p now) now
ends-for conf key until g w p now h = by (gets_cookie conf g w p && not (are_on conf.syncookies g.on))
  where
    by : (b : Bool) → EndsBy key until (if b then guard_begun g now else g) now
    by true = ends-begun key until g now h
    by false = h

-- where turning has begun, a cookie doesn't change from when
given-turned : (g : Guard) (other : FlowKey) (now more until : ℕ) → TurnsBy g now more until → TurnsBy (guard_given g other now) now more until
given-turned g other now more until = turns-as g (guard_given g other now) now more until (λ s since. ap (λ (o : Option ℕ). Some (unwrap_or o now)) since)

-- another key gets a cookie
ends-given : (key : FlowKey) (until : ℕ) (g : Guard) (other : FlowKey) (now : ℕ) → same_key other key ≡ false → EndsBy key until g now
    → EndsBy key until (guard_given g other now) now
ends-given key until g other now apart (inl gone) = inl (has_cookie-given g.out other key ∙ (λ i. apart i || gone i))
ends-given key until g other now apart (inr (inl k)) =
    inr (inl (given-fresh g.out other key ∙ (λ i. apart i || k.0 i), given-turned g other now 15 until k.1))
ends-given key until g other now apart (inr (inr k)) = inr (inr (given-turned g other now 30 until k))

taken-turned : (g : Guard) (other : FlowKey) (now more until : ℕ) → TurnsBy g now more until → TurnsBy (guard_taken g other) now more until
taken-turned g other now more until = turns-as g (guard_taken g other) now more until (λ s since. since)

none-left : (b : Bool) → (b && false) ≡ false
none-left true = refl
none-left false = refl

ends-taken : (key : FlowKey) (until : ℕ) (g : Guard) (other : FlowKey) (now : ℕ) → EndsBy key until g now → EndsBy key until (guard_taken g other) now
ends-taken key until g other now (inl gone) =
    inl (has_cookie-taken g.out other key ∙ (ap (λ b. not (same_key other key) && b) gone ∙ none-left (not (same_key other key))))
ends-taken key until g other now (inr (inl k)) =
    inr (inl (taken-fresh g.out other key ∙ (ap (λ b. not (same_key other key) && b) k.0 ∙ none-left (not (same_key other key))), taken-turned g other now 15 until k.1))
ends-taken key until g other now (inr (inr k)) = inr (inr (taken-turned g other now 30 until k))

ends-packet : (conf : Conf) (key : FlowKey) (until : ℕ) (g : Guard) (w : World) (p : PacketView) (now : ℕ) → asks_again key (arrival.Packet p) ≡ false
    → EndsBy key until g now → EndsBy key until (guard_after_packet conf g w p now) now
ends-packet conf key until g w p now other h = by (gets_cookie conf g w p) (brings_cookie g w p) refl
  where
    apart : (asks same : Bool) → asks ≡ true → (asks && same) ≡ false → same ≡ false
    apart true same e f = f
    apart false same e f = absurd (false≢true e)

    by : (gets brings : Bool) → gets_cookie conf g w p ≡ gets
        → EndsBy key until (if gets then guard_given (guard_for conf g w p now) (key_of p) now else if brings then guard_taken g (key_of p) else g) now
    by true brings e =
        ends-given key until (guard_for conf g w p now) (key_of p) now
        (apart (asks_in p.dir p.proto p.flags) (same_key (key_of p) key) (gets-asks conf g w p e) other) (ends-for conf key until g w p now h)
    by false true e = ends-taken key until g (key_of p) now h
    by false false e = h

-- ---- a run

ends-arrival : (conf : Conf) (key : FlowKey) (until : ℕ) (g : Guard) (h : MachineContents) (now : ℕ) (what : Arrival) → asks_again key what ≡ false
    → EndsBy key until g now → EndsBy key until (guard_after_arrival conf g h now what) now
ends-arrival conf key until g h now arrival.Skip other k = k
ends-arrival conf key until g h now (arrival.Packet p) other k = ends-packet conf key until g h.world p now other k
ends-arrival conf key until g h now (arrival.Table table done) other k = k
ends-arrival conf key until g h now (arrival.Kill hosts) other k = k
ends-arrival conf key until g h now arrival.HeldQuery other k = k

-- at a moment, or at the last one, if that is later
pub ends-moment : (conf : Conf) (key : FlowKey) (until : ℕ) (m : Machine) (last now : ℕ) → m.last ≡ Some last → EndsBy key until m.guard last
    → EndsBy key until (machine_at_moment conf m now).guard (last + (now - last))
ends-moment conf key until m last now is h =
    subst (λ (o : Option ℕ). EndsBy key until (guard_after_seconds conf m.held.world m.guard (due o now)) (last + (now - last))) (sym is)
    (ends-seconds conf key until (now - last) last m.held.world m.guard h)

ends-step : (conf : Conf) (key : FlowKey) (until : ℕ) (m : Machine) (last : ℕ) (e : Event) → asks_again key e.what ≡ false → m.last ≡ Some last → last ≤ e.time
    → EndsBy key until m.guard last → EndsBy key until (step conf m e).1.guard e.time
unfolding step
ends-step conf key until m last e other is order h =
    let at = machine_at_moment conf m e.time in
    let same : last + (e.time - last) ≡ e.time = omega (arith, order) in
    ends-arrival conf key until at.guard at.held e.time e.what other (subst (EndsBy key until at.guard) same (ends-moment conf key until m last e.time is h))

-- the last moment is not before this one
pub record Ended (conf : Conf) (key : FlowKey) (until : ℕ) (m : Machine) : Type 0 where
  pub last : ℕ
  pub is : m.last ≡ Some last
  pub ends : EndsBy key until m.guard last

stepped : (conf : Conf) (m : Machine) (e : Event) → (step conf m e).1.last ≡ Some e.time
unfolding step
stepped conf m e = refl

pub ends-run : (conf : Conf) (key : FlowKey) (until : ℕ) (m : Machine) (es : List Event) → IsInOrder m.last es
    → AllByRecursion (λ (d : Event). asks_again key d.what ≡ false) es → Ended conf key until m → Ended conf key until (machine_after conf m es)
unfolding machine_after
ends-run conf key until m [] order others h = h
ends-run conf key until m (e ∷ es) order others h =
    ends-run conf key until (step conf m e).1 es (subst (λ (o : Option ℕ). IsInOrder o es) (sym (stepped conf m e)) order.2) others.1 (record {
      last = e.time;
      is = stepped conf m e;
      ends = ends-step conf key until m h.last e others.0 h.is (order.0 h.last h.is) h.ends;
    })
