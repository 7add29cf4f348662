-- Numbers in a list of bytes.
use Rattle.std.specs.Prelude.{ℕ, ◌+◌, ◌*◌, List, take, drop, slice_index}

-- the number of two bytes in network byte order, the higher one first (RFC 791, appendix B)
abbrev pub u16_at : List ℕ → ℕ → ℕ
u16_at bytes at = slice_index bytes at * 256 + slice_index bytes (at + 1)

-- the number of four bytes in network byte order
abbrev pub u32_at : List ℕ → ℕ → ℕ
u32_at bytes at = u16_at bytes at * 65536 + u16_at bytes (at + 2)

-- so many bytes from a place on
abbrev pub octets_at : List ℕ → ℕ → ℕ → List ℕ
octets_at bytes at count = take count (drop at bytes)
