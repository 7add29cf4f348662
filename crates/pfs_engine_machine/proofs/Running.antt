-- A run with one event more.
use Rattle.std.proofs.Common.{arith, ◌≡◌, ℕ, ◌+◌, ◌<◌, ◌≤◌, List, [], ◌∷◌, ◌++◌, length, take, drop, get_or, Option, Some, refl, ap, ◌∙◌, sym, append_assoc, add-one, drop-cons, subst}
use Rattle.std.proofs.lemmas.List.{append-nil, take_more}
use Rattle.std.specs.Option.{ForSome}
use Rattle.pfs_conf_values.specs.Configs.{Conf}
use Rattle.pfs_engine_machine.specs.declared.events.Event.{Event}
use Rattle.pfs_engine_machine.specs.declared.events.Outcome.{Outcome}
use Rattle.pfs_engine_machine.specs.Machine.{Machine, step, machine_after, outcomes_of}
use Rattle.pfs_engine_machine.specs.Runs.{MayCome, AreAllowed, IsInOrder, packets_in, packets_of}

-- one event more
pub machine_after-push : (conf : Conf) (m : Machine) (xs : List Event) (e : Event) → machine_after conf m (xs ++ e ∷ []) ≡ (step conf (machine_after conf m xs) e).1
unfolding machine_after
machine_after-push conf m [] e = refl
machine_after-push conf m (x ∷ xs) e = machine_after-push conf (step conf m x).1 xs e

-- and more of them
pub machine_after-append : (conf : Conf) (m : Machine) (xs ys : List Event) → machine_after conf m (xs ++ ys) ≡ machine_after conf (machine_after conf m xs) ys
unfolding machine_after
machine_after-append conf m [] ys = refl
machine_after-append conf m (x ∷ xs) ys = machine_after-append conf (step conf m x).1 xs ys

pub outcomes_of-push : (conf : Conf) (m : Machine) (xs : List Event) (e : Event) → outcomes_of conf m (xs ++ e ∷ []) ≡ outcomes_of conf m xs ++ (step conf (machine_after conf m xs) e).0 ∷ []
unfolding machine_after outcomes_of
outcomes_of-push conf m [] e = refl
outcomes_of-push conf m (x ∷ xs) e = ap (λ (os : List Outcome). (step conf m x).0 ∷ os) (outcomes_of-push conf (step conf m x).1 xs e)

pub machine_next : (conf : Conf) (first m m' : Machine) (o : Outcome) (es : List Event) (i : ℕ) (d : Event) → i < length es → (o, m') ≡ step conf m (get_or es i d) → m ≡ machine_after conf first (take i es) → m' ≡ machine_after conf first (take (i + 1) es)
machine_next conf first m m' o es i d h s e =
    ap (λ (a : Outcome × Machine). a.1) s ∙ ap (λ (k : Machine). (step conf k (get_or es i d)).1) e ∙ sym (ap (machine_after conf first) (take_more es i d h) ∙ machine_after-push conf first (take i es) (get_or es i d))

pub outcomes_next : (conf : Conf) (first m m' : Machine) (before out : List Outcome) (o : Outcome) (es : List Event) (i : ℕ) (d : Event) → i < length es → (o, m') ≡ step conf m (get_or es i d) → m ≡ machine_after conf first (take i es) → out ≡ before ++ outcomes_of conf first (take i es) → out ++ o ∷ [] ≡ before ++ outcomes_of conf first (take (i + 1) es)
outcomes_next conf first m m' before out o es i d h s e f =
    let a = ap (outcomes_of conf first) (take_more es i d h) ∙ outcomes_of-push conf first (take i es) (get_or es i d) in
    let b = ap (λ (a : Outcome × Machine). a.0) s ∙ ap (λ (k : Machine). (step conf k (get_or es i d)).0) e in
    rw (a, f, b, append_assoc)

pub order_next : (last : Option ℕ) (es : List Event) (i : ℕ) (d : Event) → i < length es → IsInOrder last (drop i es) → IsInOrder (Some (get_or es i d).time) (drop (i + 1) es)
order_next last es i d h o = let P : List Event → Type 0 = IsInOrder last in rw add-one ((subst P (drop-cons es i d h) o).2)

pub allowed_here : (conf : Conf) (es : List Event) (i : ℕ) (d : Event) → i < length es → AreAllowed conf (drop i es) → MayCome conf (get_or es i d).what
allowed_here conf es i d h a = let P : List Event → Type 0 = AreAllowed conf in (subst P (drop-cons es i d h) a).0

pub allowed_next : (conf : Conf) (es : List Event) (i : ℕ) (d : Event) → i < length es → AreAllowed conf (drop i es) → AreAllowed conf (drop (i + 1) es)
allowed_next conf es i d h a = let P : List Event → Type 0 = AreAllowed conf in rw add-one ((subst P (drop-cons es i d h) a).1)

-- of events in order, so are the first, and the last is not before the moment of the others
pub order-front : (last : Option ℕ) (xs ys : List Event) → IsInOrder last (xs ++ ys) → IsInOrder last xs
order-front last [] ys o = tt
order-front last (x ∷ xs) ys o = (o.0, o.1, order-front (Some x.time) xs ys o.2)

pub order-last : (conf : Conf) (m : Machine) (es : List Event) (e : Event) → IsInOrder m.last (es ++ e ∷ []) → ForSome (machine_after conf m es).last (λ l. l ≤ e.time)
unfolding machine_after step
order-last conf m [] e o = o.0
order-last conf m (d ∷ es) e o = order-last conf (step conf m d).1 es e o.2

pub machine_none : (conf : Conf) (m : Machine) → m ≡ machine_after conf m []
unfolding machine_after
machine_none conf m = refl

pub outcomes_none : (conf : Conf) (m : Machine) (before : List Outcome) → before ≡ before ++ outcomes_of conf m []
unfolding outcomes_of
outcomes_none conf m before = sym (append-nil before)

-- ---- how many packets were taken

packets_in-push : (xs : List Event) (e : Event) → packets_in (xs ++ e ∷ []) ≡ packets_in xs + packets_of e.what
unfolding packets_in
packets_in-push [] e = omega arith
packets_in-push (x ∷ xs) e = omega (arith, packets_in-push xs e)

pub taken_next : (before taken more : ℕ) (es : List Event) (i : ℕ) (d : Event) → i < length es → taken ≡ before + packets_in (take i es)
    → more ≡ taken + packets_of (get_or es i d).what → more ≡ before + packets_in (take (i + 1) es)
taken_next before taken more es i d h e m =
    let next = ap packets_in (take_more es i d h) ∙ packets_in-push (take i es) (get_or es i d) in
    omega (arith, next, e, m)

pub taken_none : (taken : ℕ) → taken ≡ taken + packets_in []
unfolding packets_in
taken_none taken = omega arith
