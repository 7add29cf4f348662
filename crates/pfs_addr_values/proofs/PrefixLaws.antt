-- Laws of prefixes: what clearing the bits past a length keeps, and which addresses a prefix covers.
use Rattle.std.proofs.Common.{ℕ, zero, suc, List, [], ◌∷◌, ◌≡◌, ◌≤◌, ◌<◌, ◌*◌, ◌/◌, ◌%◌, ◌^◌, ◌-◌, true, nat_eq, get_or, refl, ap, sym, ◌∙◌, arith, subst, eqb-true, eq-eqb}
use native.Mathlib.Nat.{mod-eq_of_lt}
use Rattle.std.specs.Prelude.{All}
use Rattle.std.specs.Int.{w32, w128, bytes_high_first, from_be_bytes, to_be_bytes}
use Rattle.std.proofs.lemmas.List.Elements.{All-head, All-tail, All-nil, All-cons}
use Rattle.std.proofs.lemmas.Nat.{be_bytes_4, from_be_bytes-to_be_bytes_4, shl-shr, shr_split}
use Rattle.std.proofs.lemmas.Bool.{and_from, and_parts}
use Rattle.pfs_addr_values.proofs.WideLaws.{below_128, from_to_16, to_from_16}
use Rattle.pfs_addr_values.specs.Addresses.{IsAddr, same_family, width_of}
use Rattle.pfs_addr_values.specs.Prefixes.{Network, IsNetwork, first_bits, cleared_addr, network_of, covers}
use Rattle.pfs_addr_values.specs.declared.addresses.Addr.{Addr}
use Rattle.pfs_addr_values.specs.declared.addresses.Addr.TheVariants.{V4, V6}

abbrev IsByte : ℕ → Type 0
IsByte b = b < 256

-- the bytes of an address are below 256, and past its end as well
byte_of : (bytes : List ℕ) → All IsByte bytes → (i : ℕ) → get_or bytes i 0 < 256
byte_of [] all i = omega arith
byte_of (b ∷ bytes) all zero = All-head IsByte b bytes all
byte_of (b ∷ bytes) all (suc i) = byte_of bytes (All-tail IsByte b bytes all) i

-- the number of four bytes is below 2 ^ 32
below_32 : (bytes : List ℕ) → All IsByte bytes → from_be_bytes w32 bytes < 2 ^ 32
below_32 bytes all = omega (arith, byte_of bytes all 0, byte_of bytes all 1, byte_of bytes all 2, byte_of bytes all 3)

-- what is written of a number is bytes
written : (k n : ℕ) → All IsByte (bytes_high_first k n)
written zero n = All-nil IsByte
written (suc zero) n =
    let low : n % 256 < 256 = omega arith in
    All-cons IsByte (n % 256) [] low (All-nil IsByte)
written (suc (suc k)) n =
    let low : n / 256 ^ suc k % 256 < 256 = omega arith in
    All-cons IsByte (n / 256 ^ suc k % 256) (bytes_high_first (suc k) n) low (written (suc k) n)

-- clearing keeps an address an address
pub cleared_is_addr : (n : ℕ) (a : Addr) → IsAddr (cleared_addr n a)
unfolding cleared_addr
cleared_is_addr n (V4 bytes) = (refl, written 4 _)
cleared_is_addr n (V6 bytes) = (refl, written 16 _)

-- clearing keeps the family, so the width
pub cleared_width : (n : ℕ) (a : Addr) → width_of (cleared_addr n a) ≡ width_of a
unfolding cleared_addr
cleared_width n (V4 bytes) = refl
cleared_width n (V6 bytes) = refl

pub cleared_family : (n : ℕ) (a : Addr) → same_family (cleared_addr n a) a ≡ true
unfolding cleared_addr
cleared_family n (V4 bytes) = refl
cleared_family n (V6 bytes) = refl

-- the high part of a number is no greater than the number
high_part : (x k m : ℕ) → x < m → x / 2 ^ k * 2 ^ k < m
high_part x k m h = omega (arith, shr_split x k)

-- clearing leaves the first bits as they are
pub cleared_first : (n : ℕ) (a : Addr) → IsAddr a → first_bits n (cleared_addr n a) ≡ first_bits n a
unfolding cleared_addr
cleared_first n (V4 bytes) h =
    ap (λ x. x / 2 ^ (32 - n)) (from_be_bytes-to_be_bytes_4 _ (high_part (from_be_bytes w32 bytes) (32 - n) (2 ^ 32) (below_32 bytes h.1)))
    ∙ shl-shr _ (32 - n)
cleared_first n (V6 bytes) h =
    ap (λ x. x / 2 ^ (128 - n)) (from_to_16 _ (high_part (from_be_bytes w128 bytes) (128 - n) (2 ^ 128) (below_128 bytes (byte_of bytes h.1))))
    ∙ shl-shr _ (128 - n)

-- addresses of one family with the same first bits have the same prefix
pub cleared_same : (n : ℕ) (a b : Addr) → same_family a b ≡ true → first_bits n a ≡ first_bits n b → cleared_addr n a ≡ cleared_addr n b
unfolding cleared_addr
cleared_same n (V4 x) (V4 y) f h = ap (λ q. V4 (to_be_bytes w32 (q * 2 ^ (32 - n)))) h
cleared_same n (V6 x) (V6 y) f h = ap (λ q. V6 (to_be_bytes w128 (q * 2 ^ (128 - n)))) h
cleared_same n (V4 x) (V6 y) f h = absurd (cc f)
cleared_same n (V6 x) (V4 y) f h = absurd (cc f)

-- clearing twice is clearing once
pub cleared_twice : (n : ℕ) (a : Addr) → IsAddr a → cleared_addr n (cleared_addr n a) ≡ cleared_addr n a
cleared_twice n a h = cleared_same n (cleared_addr n a) a (cleared_family n a) (cleared_first n a h)

-- the prefix of an address is one
pub network_of_is_network : (a : Addr) (n : ℕ) → IsAddr a → n ≤ width_of a → IsNetwork (network_of a n)
network_of_is_network a n h short = record {
  addr = cleared_is_addr n a;
  short = subst (λ w. n ≤ w) (sym (cleared_width n a)) short;
  zeros = cleared_twice n a h;
}

-- a prefix covers an address only where it is the address's own prefix of its length
pub covers_true : (p : Network) (a : Addr) → IsNetwork p → covers p a ≡ true → p ≡ network_of a p.bits
unfolding covers
covers_true p a h e =
    let (family, bits) = and_parts (same_family p.addr a) (nat_eq (first_bits p.bits p.addr) (first_bits p.bits a)) e in
    let same : p.addr ≡ cleared_addr p.bits a = sym h.zeros ∙ cleared_same p.bits p.addr a family (eqb-true _ _ bits) in
    λ i. record { addr = same i; bits = p.bits }

-- the prefix of an address covers it
pub network_covers : (a : Addr) (n : ℕ) → IsAddr a → covers (network_of a n) a ≡ true
unfolding covers
network_covers a n h = and_from _ _ (cleared_family n a) (eq-eqb _ _ (cleared_first n a h))

-- so a prefix covers exactly the addresses whose prefix of its length it is
pub covers_of : (p : Network) (a : Addr) → IsAddr a → p ≡ network_of a p.bits → covers p a ≡ true
covers_of p a h e = subst (λ q. covers q a ≡ true) (sym e) (network_covers a p.bits h)

-- a prefix of all bits is the address itself
pub network_whole : (a : Addr) → IsAddr a → cleared_addr (width_of a) a ≡ a
unfolding cleared_addr
network_whole (V4 bytes) h = ap V4 (be_bytes_4 bytes _ h.0 (byte_of bytes h.1) (omega arith))
network_whole (V6 bytes) h = ap V6 (ap (to_be_bytes w128) (whole_number (from_be_bytes w128 bytes)) ∙ to_from_16 bytes h.0 (byte_of bytes h.1))
  where
    whole_number : (m : ℕ) → m / 2 ^ (128 - 128) * 2 ^ (128 - 128) ≡ m
    whole_number m = omega arith

-- ---- how sixteen bytes are cleared by shifts

all_away : (x : ℕ) → x < 2 ^ 128 → 0 ≡ x / 2 ^ (128 - 0) * 2 ^ (128 - 0)
all_away x small = let none : x / 2 ^ 128 ≡ 0 = omega arith in ap (λ (k : ℕ). k * 2 ^ 128) (sym none)

pub shifted_away : (n : ℕ) (bytes : List ℕ) (x : ℕ) (new : List ℕ) → x ≡ from_be_bytes w128 bytes → x < 2 ^ 128 → n ≡ 0 → new ≡ to_be_bytes w128 0 → V6 new ≡ cleared_addr n (V6 bytes)
unfolding cleared_addr
shifted_away n bytes x new e small none is =
    ap V6 (is ∙ ap (to_be_bytes w128)
    (all_away x small ∙ (ap (λ (m : ℕ). x / 2 ^ (128 - m) * 2 ^ (128 - m)) (sym none) ∙ ap (λ (y : ℕ). y / 2 ^ (128 - n) * 2 ^ (128 - n)) e)))

pub shifted : (n : ℕ) (bytes : List ℕ) (x k : ℕ) (new : List ℕ) → x ≡ from_be_bytes w128 bytes → x < 2 ^ 128 → k ≡ n → new ≡ to_be_bytes w128 (x / 2 ^ (128 - k) * 2 ^ (128 - k) % 2 ^ 128)
    → V6 new ≡ cleared_addr n (V6 bytes)
unfolding cleared_addr
shifted n bytes x k new e small same is =
    let fits = mod-eq_of_lt (high_part x (128 - k) (2 ^ 128) small) in
    ap V6 (is ∙ ap (to_be_bytes w128) (fits ∙ (ap (λ (m : ℕ). x / 2 ^ (128 - m) * 2 ^ (128 - m)) same ∙ ap (λ (y : ℕ). y / 2 ^ (128 - n) * 2 ^ (128 - n)) e)))
