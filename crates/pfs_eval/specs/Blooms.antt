-- A Bloom filter: which prefixes a table may have. (own) (not promised)
use Rattle.std.specs.Prelude.{ℕ, ◌+◌, ◌*◌, ◌/◌, ◌%◌, ◌^◌, ◌==◌, ◌&&◌, ◌≡◌, Bool, true, not, bit_and, Option, Some, None, List, All, length, slice_get}
use Rattle.pfs_addr_values.specs.declared.addresses.Addr.{Addr}
use Rattle.pfs_addr_values.specs.declared.addresses.Addr.TheVariants.{V4, V6}
use Rattle.pfs_addr_values.specs.Prefixes.{first_bits}
use Rattle.pfs_eval.specs.Entries.{Entry}

-- the hash of a prefix, of its first bits and how many they are
unfoldable pub prefix_hash : ℕ → ℕ → ℕ
prefix_hash first bits = (first * 11400714819323198485 % 2 ^ 64 + bits * 14029467366897019727 % 2 ^ 64) % 2 ^ 64

-- the place of its word among so many
unfoldable pub word_place : ℕ → ℕ → ℕ
word_place hash words = (hash / 2 ^ 32 * words % 2 ^ 64) / 2 ^ 32

-- one bit of a word, by a number; the second bit of a hash is by its other half
unfoldable pub bit_of : ℕ → ℕ
bit_of number = 2 ^ (number / 2 ^ 20 % 64)

abbrev pub other_half : ℕ → ℕ
other_half hash = hash / 2 ^ 6

-- whether a word has both bits of a hash; a word that is not there has each
abbrev pub word_has : ℕ → Option ℕ → Bool
word_has hash None = true
word_has hash (Some word) = not (bit_and word (bit_of hash) == 0) && not (bit_and word (bit_of (other_half hash)) == 0)

abbrev pub has_bits : List ℕ → ℕ → Bool
has_bits words hash = word_has hash (slice_get words (word_place hash (length words)))

-- whether a table may have the prefix of an address with so many bits: of IPv4 if its bits are set
abbrev pub may_have : List ℕ → Addr → ℕ → Bool
may_have words (V4 bytes) n = has_bits words (prefix_hash (first_bits n (V4 bytes)) n)
may_have words (V6 bytes) n = true

-- each entry is one that the table may have
abbrev pub AreKnown : List ℕ → List Entry → Type 0
AreKnown words entries = All (λ (x : Entry). may_have words x.0.addr x.0.bits ≡ true) entries
