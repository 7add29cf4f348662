-- The powers that units of a second can be, and the nanoseconds that so many units are.
use Rattle.std.proofs.Common.{ℕ, ◌≤◌, ◌<◌, ◌*◌, ◌/◌, ◌^◌, arith, lit<}
use Rattle.std.proofs.Math.Nat.{div-lt_iff_lt-mul, pow-le-pow_right}

pub tens : (n : ℕ) → n ≤ 19 → 10 ^ n < 2 ^ 64
tens n h =
    let most : 10 ^ n ≤ 10 ^ 19 = pow-le-pow_right (lit< tt) h in
    omega arith

pub twos : (n : ℕ) → n ≤ 63 → 2 ^ n < 2 ^ 64
twos n h =
    let most : 2 ^ n ≤ 2 ^ 63 = pow-le-pow_right (lit< tt) h in
    omega arith

-- less than a second is fewer than a billion nanoseconds
pub fraction_below : (units in_second : ℕ) → units < in_second → units * 1000000000 / in_second < 1000000000
fraction_below units in_second h =
    let more : units * 1000000000 < 1000000000 * in_second = omega arith in
    let some : 0 < in_second = omega arith in
    (div-lt_iff_lt-mul some).1 more
