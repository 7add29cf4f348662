-- The lengths of a table's prefixes, as its look-ups go through them.
use Rattle.std.specs.Prelude.{ℕ, ◌≡◌, ◌+◌, ◌≤◌, List, length, slice_index}
use Rattle.pfs_addr_values.specs.declared.addresses.Addr.{Addr}
use Rattle.pfs_addr_values.specs.declared.addresses.Addr.TheVariants.{V4, V6}
use Rattle.pfs_addr_values.specs.Addresses.{width_of}
use Rattle.pfs_addr_values.specs.Prefixes.{Network}
use Rattle.pfs_eval.specs.declared.lengths.Lengths.{Lengths}

-- the numbers of an address's family
abbrev pub numbers_for : Addr → Lengths → List ℕ
numbers_for (V4 bytes) l = l.inet
numbers_for (V6 bytes) l = l.inet6

-- the fewest bits, from a number on, that a prefix leaves out, or one more than the address has
abbrev pub next : Lengths → Addr → ℕ → ℕ
next l a n = slice_index (numbers_for a l) n

-- there is a place for each number of bits
abbrev pub AreLong : Lengths → Type 0
AreLong l = (length l.inet ≡ 34) × (length l.inet6 ≡ 130)

-- the number at a place is at least the place, and at most one more than the address has bits
pub record AreOn (l : Lengths) : Type 0 where
  pub least : (a : Addr) (n : ℕ) → n ≤ width_of a + 1 → n ≤ next l a n
  pub most : (a : Addr) (n : ℕ) → n ≤ width_of a + 1 → next l a n ≤ width_of a + 1

-- a prefix is noted: at each place up to the number of bits that it leaves out, the next number is at most that number
abbrev pub IsLengthNoted : Lengths → Network → Type 0
IsLengthNoted l p = (n : ℕ) → n + p.bits ≤ width_of p.addr → next l p.addr n + p.bits ≤ width_of p.addr
