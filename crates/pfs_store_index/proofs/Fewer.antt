-- Where states leave, no other state stays for a shorter time: a lifetime under fewer states is no shorter.
use Rattle.std.proofs.Common.{◌≡◌, ◌≤◌, ◌<◌, ◌-◌, ◌*◌, ◌/◌, ◌==◌, ◌||◌, ◌&&◌, nat_le, ℕ, Bool, true, false, if◌then◌else◌, is_some, List, [], ◌∷◌, length, filter, refl, subst, arith}
use Rattle.std.proofs.lemmas.Bool.Decides.{nat_tests}
use Rattle.std.proofs.lemmas.List.Sums.{count_by-le-length, length-filter}
use Rattle.std.proofs.lemmas.Nat.{le-div}
use Rattle.std.proofs.Math.Nat.{div-le_of_le-mul, div-mul-le_self, mul-le-mul_left, mul_comm}
use Rattle.pfs_conf_values.specs.Configs.{Conf, rule_timeout_of}
use Rattle.pfs_conf_values.specs.declared.timeouts.TimeoutName.TheVariants.{AdaptiveStart, AdaptiveEnd}
use Rattle.pfs_track.specs.Lifetimes.{lifetime_under, value_for}
use Rattle.pfs_track.specs.StatePhases.{slot}
use Rattle.pfs_store_contract.specs.Counts.{is_of_rule, rule_states}
use Rattle.pfs_store_index.specs.QuietPurges.{StateStays}
use Rattle.pfs_store_contract.specs.declared.records.State.{State}

-- ---- counts

pub fewer-all : {X : Type 0} (p : X → Bool) (xs : List X) → length (filter p xs) ≤ length xs
fewer-all p xs = omega (arith, length-filter p xs, count_by-le-length p xs)

fewer-of : (p q : State → Bool) (xs : List State) → length (filter q (filter p xs)) ≤ length (filter q xs)
fewer-of p q [] = omega arith
fewer-of p q (x ∷ xs) = go (p x) (q x) refl (fewer-of p q xs)
  where
    go : (b c : Bool) → q x ≡ c → length (filter q (filter p xs)) ≤ length (filter q xs)
        → length (filter q (if b then x ∷ filter p xs else filter p xs)) ≤ length (if c then x ∷ filter q xs else filter q xs)
    go true true e more = rw e (omega (arith, more))
    go true false e more = rw e (omega (arith, more))
    go false true e more = omega (arith, more)
    go false false e more = omega (arith, more)

-- ---- a lifetime

share-longer : (lifetime a b c : ℕ) → 0 < c → b ≤ a → lifetime * b / c ≤ lifetime * a / c
share-longer lifetime a b c h k =
    let l = div-mul-le_self (lifetime * b) c in
    let m = mul-le-mul_left lifetime k in
    le-div (lifetime * b / c) (lifetime * a) c h (omega (arith, l, m))

share-less : (lifetime b c : ℕ) → b ≤ c → lifetime * b / c ≤ lifetime
share-less lifetime b c k = div-le_of_le-mul c (subst (λ z. lifetime * b ≤ z) (mul_comm lifetime c) (mul-le-mul_left lifetime k))

lifetime-longer : (lifetime start end count fewer : ℕ) → fewer ≤ count → lifetime_under lifetime start end count ≤ lifetime_under lifetime start end fewer
lifetime-longer lifetime start end count fewer h = go (start == 0 && end == 0) (nat_le count start) refl (nat_le fewer start) refl (nat_le end count) refl (nat_le end fewer) refl
  where
    go : (z b : Bool) → nat_le count start ≡ b → (c : Bool) → nat_le fewer start ≡ c → (d : Bool) → nat_le end count ≡ d → (e : Bool) → nat_le end fewer ≡ e
        → (if z || b then lifetime else (if d then 0 else (lifetime * (end - count) / (end - start)))) ≤ (if z || c then lifetime else (if e then 0 else (lifetime * (end - fewer) / (end - start))))
    go true b tb c tc d td e te = omega arith
    go false true tb true tc d td e te = omega arith
    go false true tb false tc d td e te = absurd (grind (arith, nat_tests, tb, tc, h))
    go false false tb true tc true td e te = omega arith
    go false false tb true tc false td e te =
        let k : end - count ≤ end - start = grind (arith, nat_tests, tb) in
        share-less lifetime (end - count) (end - start) k
    go false false tb false tc true td e te = omega arith
    go false false tb false tc false td true te = absurd (grind (arith, nat_tests, td, te, h))
    go false false tb false tc false td false te =
        let some : 0 < end - start = grind (arith, nat_tests, tc, te) in
        share-longer lifetime (end - fewer) (end - count) (end - start) some (omega (arith, h))

-- ---- a state

pub stays-longer : (conf : Conf) (p : State → Bool) (held : List State) (u : ℕ) (s : State) → StateStays conf held u s → StateStays conf (filter p held) u s
stays-longer conf p held u s h =
    let own = is_some (rule_timeout_of conf s.rule.0 AdaptiveStart) in
    let l = lifetime-longer (value_for conf s.rule.0 (slot s.phase)) (value_for conf s.rule.0 AdaptiveStart) (value_for conf s.rule.0 AdaptiveEnd)
    (if own then rule_states s.rule.0 held else length held) (if own then rule_states s.rule.0 (filter p held) else length (filter p held)) (fewer own) in
    omega (arith, h, l)
  where
    fewer : (b : Bool) → (if b then rule_states s.rule.0 (filter p held) else length (filter p held)) ≤ (if b then rule_states s.rule.0 held else length held)
    fewer true = fewer-of p (is_of_rule s.rule.0) held
    fewer false = fewer-all p held
