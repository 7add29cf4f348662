-- Writes in a row.
use Rattle.std.proofs.Common.{◌≡◌, ◌+◌, ◌++◌, ◌≤◌, ℕ, List, Option, Some, None, take, drop, append_assoc, take-add, arith}
use Rattle.std.proofs.lemmas.List.{take-take}
use Rattle.std.proofs.lemmas.Grind.{common_steps}
use Rattle.std.specs.Io.KnownBytes.{Appends}

-- known bytes that grew by bs and then by cs grew by both
pub Appends-more : (a b c : Option (List ℕ)) (bs cs : List ℕ) → Appends a b bs → Appends b c cs → Appends a c (bs ++ cs)
Appends-more None b c bs cs p q = tt
Appends-more (Some xs) None c bs cs p q = absurd p
Appends-more (Some xs) (Some ys) None bs cs p q = absurd q
Appends-more (Some xs) (Some ys) (Some zs) bs cs p q = rw (q, p) (append_assoc xs bs cs)

taken : (i n m : ℕ) (bs : List ℕ) → n ≤ m → take i bs ++ take n (take m (drop i bs)) ≡ take (i + n) bs
taken i n m bs h = grind (arith, common_steps, take-add, take-take)

-- the same of the front of a text, a part of its rest at a time
pub Appends-taken : (a b c : Option (List ℕ)) (i n m : ℕ) (bs : List ℕ) → n ≤ m
    → Appends a b (take i bs) → Appends b c (take n (take m (drop i bs))) → Appends a c (take (i + n) bs)
Appends-taken a b c i n m bs h p q = rw (taken i n m bs h) at (Appends-more a b c (take i bs) (take n (take m (drop i bs))) p q)
