-- Turns of the secret: a cookie is good until the second one after it.
use Rattle.std.proofs.Common.{◌≡◌, ◌≢◌, ◌≤◌, ◌<◌, ◌+◌, ◌-◌, ◌*◌, ◌%◌, ◌==◌, ◌&&◌, ◌||◌, ◌⊎◌, inl, inr, not, nat_lt, ℕ, zero, suc, Bool, true, false, if◌then◌else◌, Option, Some, None, refl, ap, ◌∙◌, sym, arith}
use Rattle.std.specs.FinSet as set
use Rattle.std.specs.FinSet.{contains-empty, empty_of_len}
use Rattle.std.specs.List.{range_with_len}
use Rattle.std.proofs.lemmas.Bool.{cases_lt, false≢true}
use Rattle.std.proofs.lemmas.Bool.Decides.{nat_tests}
use Rattle.pfs_addr_values.specs.declared.packets.FlowKey.{FlowKey}
use Rattle.pfs_conf_values.specs.Configs.{Conf}
use Rattle.pfs_cookies.specs.Cookies.{CookiesOut, Keys, cookies_turned, has_cookie, out_count}
use Rattle.pfs_cookies.specs.CookieLaws.{has_cookie-turned}
use Rattle.pfs_cookies.specs.KeyOrders.{key_cmp}
use Rattle.pfs_store_contract.specs.Purging.{purge}
use Rattle.pfs_store_contract.specs.Worlds.{World}
use Rattle.pfs_engine_machine.specs.Guards.{Guard, are_on, guard_after_seconds, guard_at_second, guard_rested, guard_turned, is_turn}

-- ---- none is out exactly where the sets are empty

some_key : (s : Keys) (q : FlowKey) → set.contains s q ≡ true → set.len s ≢ 0
some_key s q h none = false≢true (sym (ap (λ (t : Keys). set.contains t q) (empty_of_len s none) ∙ contains-empty key_cmp q) ∙ h)

no_key : (s : Keys) (q : FlowKey) → set.len s ≡ 0 → set.contains s q ≡ false
no_key s q none = ap (λ (t : Keys). set.contains t q) (empty_of_len s none) ∙ contains-empty key_cmp q

some-out : (c : CookiesOut) (q : FlowKey) → has_cookie c q ≡ true → (out_count c == 0) ≡ false
some-out c q = by (set.contains c.fresh q) (set.contains c.former q) (some_key c.fresh q) (some_key c.former q)
  where
    by : (f m : Bool) → (f ≡ true → set.len c.fresh ≢ 0) → (m ≡ true → set.len c.former ≢ 0) → (f || m) ≡ true → (out_count c == 0) ≡ false
    by true m a b h = let some = a refl in grind (arith, nat_tests, some)
    by false true a b h = let some = b refl in grind (arith, nat_tests, some)
    by false false a b h = absurd (false≢true h)

none-out : (c : CookiesOut) (q : FlowKey) → (out_count c == 0) ≡ true → has_cookie c q ≡ false
none-out c q h =
    let none : set.len c.fresh + set.len c.former ≡ 0 = grind (arith, nat_tests, h) in
    (λ i. no_key c.fresh q (omega (arith, none)) i || no_key c.former q (omega (arith, none)) i)

-- ---- one turn

-- where the key has a cookie, the other secret is used, and turning goes on
abbrev pub turned_fully : Guard → Guard
turned_fully g = record { on = g.on; since = g.since; out = cookies_turned g.out }

turned-some : (conf : Conf) (g : Guard) (q : FlowKey) → has_cookie g.out q ≡ true → guard_turned conf g ≡ turned_fully g
turned-some conf g q h = by (not (are_on conf.syncookies g.on)) (out_count g.out == 0) (some-out g.out q h)
  where
    by : (off none : Bool) → none ≡ false → (if off && none then record g { since = None } else record g { out = cookies_turned g.out }) ≡ turned_fully g
    by true true e = absurd (false≢true (sym e))
    by true false e = refl
    by false none e = refl

-- a cookie that is not under the secret in use is forgotten
pub turned-gone : (conf : Conf) (g : Guard) (q : FlowKey) → set.contains g.out.fresh q ≡ false → has_cookie (guard_turned conf g).out q ≡ false
turned-gone conf g q h = by (not (are_on conf.syncookies g.on)) (out_count g.out == 0) refl
  where
    by : (off none : Bool) → (out_count g.out == 0) ≡ none → has_cookie (if off && none then record g { since = None } else record g { out = cookies_turned g.out }).out q ≡ false
    by true true e = none-out g.out q e
    by true false e = has_cookie-turned g.out q ∙ h
    by false none e = has_cookie-turned g.out q ∙ h

-- a turn forgets all, or the other secret is used
pub turned-either : (conf : Conf) (g : Guard) (q : FlowKey) → (has_cookie (guard_turned conf g).out q ≡ false) ⊎ (guard_turned conf g ≡ turned_fully g)
turned-either conf g q = by (not (are_on conf.syncookies g.on)) (out_count g.out == 0) refl
  where
    by : (off none : Bool) → (out_count g.out == 0) ≡ none
        → (has_cookie (if off && none then record g { since = None } else record g { out = cookies_turned g.out }).out q ≡ false)
        ⊎ ((if off && none then record g { since = None } else record g { out = cookies_turned g.out }) ≡ turned_fully g)
    by true true e = inl (none-out g.out q e)
    by true false e = inr refl
    by false none e = inr refl

pub not-fresh : (c : CookiesOut) (q : FlowKey) → has_cookie c q ≡ false → set.contains c.fresh q ≡ false
not-fresh c q = by (set.contains c.fresh q)
  where
    by : (f : Bool) → (f || set.contains c.former q) ≡ false → f ≡ false
    by true h = absurd (false≢true (sym h))
    by false h = refl

-- ---- what is forgotten stays so

pub gone-second : (conf : Conf) (w : World) (g : Guard) (s : ℕ) (q : FlowKey) → has_cookie g.out q ≡ false → has_cookie (guard_at_second conf w g s).out q ≡ false
gone-second conf w g s q h = by (is_turn g.since s)
  where
    by : (b : Bool) → has_cookie (if b then guard_turned conf (guard_rested conf w g) else g).out q ≡ false
    by true = turned-gone conf (guard_rested conf w g) q (not-fresh g.out q h)
    by false = h

-- ---- seconds that turn, and others

-- so many times has the secret turned by now
pub record HasTurned (g : Guard) (since times now : ℕ) : Type 0 where
  pub is : g.since ≡ Some since
  pub last : since + 15 * times ≤ now
  pub next : now < since + 15 * times + 15

no-turn : (since times now : ℕ) → since + 15 * times ≤ now → now + 1 < since + 15 * times + 15 → is_turn (Some since) (now + 1) ≡ false
no-turn since times now h l = by (now - (since + 15 * times)) (omega (arith, h, l)) (omega (arith, h, l))
  where
    by : (d : ℕ) → now + 1 - since ≡ 15 * times + (d + 1) → d + 1 < 15 → (nat_lt since (now + 1) && (now + 1 - since) % 15 == 0) ≡ false
    by d e few = grind (arith, nat_tests, e, few, h)

turn : (since times now : ℕ) → now + 1 ≡ since + 15 * times + 15 → is_turn (Some since) (now + 1) ≡ true
turn since times now e = grind (arith, nat_tests, e)

-- a second in which the secret doesn't turn
pub at_no_turn : (conf : Conf) (w : World) (g : Guard) (since times now : ℕ) → HasTurned g since times now → now + 1 < since + 15 * times + 15
    → guard_at_second conf w g (now + 1) ≡ g
at_no_turn conf w g since times now h l =
    ap (λ (b : Bool). if b then guard_turned conf (guard_rested conf w g) else g)
    (ap (λ (o : Option ℕ). is_turn o (now + 1)) h.is ∙ no-turn since times now h.last l)

-- and one in which it does
pub at_turn : (conf : Conf) (w : World) (g : Guard) (since times now : ℕ) → HasTurned g since times now → now + 1 ≡ since + 15 * times + 15
    → guard_at_second conf w g (now + 1) ≡ guard_turned conf (guard_rested conf w g)
at_turn conf w g since times now h e =
    ap (λ (b : Bool). if b then guard_turned conf (guard_rested conf w g) else g)
    (ap (λ (o : Option ℕ). is_turn o (now + 1)) h.is ∙ turn since times now e)

pub reaches : (now next : ℕ) → now < next → (now + 1 < next) ⊎ (now + 1 ≡ next)
reaches now next h = by (cases_lt (now + 1) next)
  where
    by : (now + 1 < next) ⊎ (next ≤ now + 1) → (now + 1 < next) ⊎ (now + 1 ≡ next)
    by (inl l) = inl l
    by (inr l) = inr (omega (arith, l, h))

-- one second more without a turn
pub on-to : (g : Guard) (since times now : ℕ) → HasTurned g since times now → now + 1 < since + 15 * times + 15 → HasTurned g since times (now + 1)
on-to g since times now h l = record { is = h.is; last = omega (arith, h.last); next = l }

-- ---- under the secret before

-- good until the next turn
former-lasts : (conf : Conf) (g : Guard) (since times : ℕ) (q : FlowKey) → has_cookie g.out q ≡ true → (n now : ℕ) (w : World) → HasTurned g since times now
    → now + n < since + 15 * times + 15 → has_cookie (guard_after_seconds conf w g (range_with_len (now + 1) n)).out q ≡ true
former-lasts conf g since times q has zero now w h l = has
former-lasts conf g since times q has (suc n) now w h l =
    let v : World = purge conf w (now + 1) in
    let few : now + 1 < since + 15 * times + 15 = omega (arith, l) in
    ap (λ (x : Guard). has_cookie (guard_after_seconds conf v x (range_with_len (now + 1 + 1) n)).out q) (at_no_turn conf v g since times now h few)
    ∙ former-lasts conf g since times q has n (now + 1) v (on-to g since times now h few) (omega (arith, l))

-- ---- under the secret in use

fresh-has : (c : CookiesOut) (q : FlowKey) → set.contains c.fresh q ≡ true → has_cookie c q ≡ true
fresh-has c q h = ap (λ b. b || set.contains c.former q) h

-- its turn makes it one under the secret before
fresh-turned : (conf : Conf) (w : World) (g : Guard) (since times now : ℕ) (q : FlowKey) → set.contains g.out.fresh q ≡ true → HasTurned g since times now
    → now + 1 ≡ since + 15 * times + 15 → guard_at_second conf w g (now + 1) ≡ turned_fully (guard_rested conf w g)
fresh-turned conf w g since times now q new h e =
    at_turn conf w g since times now h e ∙ turned-some conf (guard_rested conf w g) q (fresh-has g.out q new)

next-turned : (conf : Conf) (w : World) (g : Guard) (since times now : ℕ) → HasTurned g since times now → now + 1 ≡ since + 15 * times + 15
    → HasTurned (turned_fully (guard_rested conf w g)) since (times + 1) (now + 1)
next-turned conf w g since times now h e = record { is = h.is; last = omega (arith, e); next = omega (arith, e) }

-- good until the second turn
pub fresh-lasts : (conf : Conf) (g : Guard) (since times : ℕ) (q : FlowKey) → set.contains g.out.fresh q ≡ true → (n now : ℕ) (w : World) → HasTurned g since times now
    → now + n < since + 15 * times + 30 → has_cookie (guard_after_seconds conf w g (range_with_len (now + 1) n)).out q ≡ true
fresh-lasts conf g since times q new zero now w h l = fresh-has g.out q new
fresh-lasts conf g since times q new (suc n) now w h l =
    by (reaches now (since + 15 * times + 15) h.next)
    (λ few. fresh-lasts conf g since times q new n (now + 1) (purge conf w (now + 1)) (on-to g since times now h few) (omega (arith, l)))
  where
    v : World
    v = purge conf w (now + 1)

    by : (now + 1 < since + 15 * times + 15) ⊎ (now + 1 ≡ since + 15 * times + 15)
        → (now + 1 < since + 15 * times + 15 → has_cookie (guard_after_seconds conf v g (range_with_len (now + 1 + 1) n)).out q ≡ true)
        → has_cookie (guard_after_seconds conf v (guard_at_second conf v g (now + 1)) (range_with_len (now + 1 + 1) n)).out q ≡ true
    by (inl few) rest =
        ap (λ (x : Guard). has_cookie (guard_after_seconds conf v x (range_with_len (now + 1 + 1) n)).out q) (at_no_turn conf v g since times now h few)
        ∙ rest few
    by (inr same) rest =
        ap (λ (x : Guard). has_cookie (guard_after_seconds conf v x (range_with_len (now + 1 + 1) n)).out q) (fresh-turned conf v g since times now q new h same)
        ∙ former-lasts conf (turned_fully (guard_rested conf v g)) since (times + 1) q (has_cookie-turned g.out q ∙ new) n (now + 1) v
        (next-turned conf v g since times now h same) (omega (arith, l))
