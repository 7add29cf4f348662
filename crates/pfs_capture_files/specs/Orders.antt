-- Numbers in a list of bytes, of both byte orders.
use Rattle.std.specs.Prelude.{ℕ, ◌+◌, ◌*◌, List, slice_index}
use Rattle.pfs_capture_files.specs.declared.orders.Order.{Order}
use Rattle.pfs_capture_files.specs.declared.orders.Order.TheVariants.{Big, Little}

-- the halves of a number, the higher one first, of which these are written one after the other
abbrev pub highest_first : {A : Type 0} → Order → A → A → A × A
highest_first Big first second = (first, second)
highest_first Little first second = (second, first)

-- the number of these halves, the lower of which is below this
abbrev pub joined : ℕ → ℕ × ℕ → ℕ
joined half halves = halves.0 * half + halves.1

-- the number of two bytes
abbrev pub u16_in : Order → List ℕ → ℕ → ℕ
u16_in order bytes at = joined 256 (highest_first order (slice_index bytes at) (slice_index bytes (at + 1)))

-- the number of four bytes
abbrev pub u32_in : Order → List ℕ → ℕ → ℕ
u32_in order bytes at = joined 65536 (highest_first order (u16_in order bytes at) (u16_in order bytes (at + 2)))

-- the number of eight bytes
abbrev pub u64_in : Order → List ℕ → ℕ → ℕ
u64_in order bytes at = joined 4294967296 (highest_first order (u32_in order bytes at) (u32_in order bytes (at + 4)))
