-- Prefixes: which addresses they cover, that their bits past the length are zero, and their texts.
use Rattle.std.specs.Prelude.{ℕ, List, Bool, ◌≡◌, ◌≤◌, ◌==◌, ◌&&◌, ◌/◌, ◌*◌, ◌^◌, ◌-◌, [], ◌∷◌, ◌++◌, ◌⊎◌, slice_index}
use Rattle.std.specs.Fmt.{decimal}
use Rattle.std.specs.Hash.{HashWrites}
use Rattle.std.specs.Int.{w32, w128, from_be_bytes, to_be_bytes}
use Rattle.pfs_addr_values.specs.Addresses.{IsAddr, IsAddrText, same_family, width_of}
use Rattle.pfs_addr_values.specs.declared.addresses.Addr.{Addr}
use Rattle.pfs_addr_values.specs.declared.addresses.Addr.TheVariants.{V4, V6}

-- the fields of a prefix: an address, and how many of its first bits count
pub record Network : Type 0 where
  pub addr : Addr
  pub bits : ℕ

-- an address as one number, its first byte the highest
abbrev pub addr_number : Addr → ℕ
addr_number (V4 bytes) = from_be_bytes w32 bytes
addr_number (V6 bytes) = from_be_bytes w128 bytes

-- the first bits of an address, as a number
abbrev pub first_bits : ℕ → Addr → ℕ
first_bits n a = addr_number a / 2 ^ (width_of a - n)

-- an address with all bits past the first ones zero
unfoldable pub cleared_addr : ℕ → Addr → Addr
cleared_addr n (V4 bytes) = V4 (to_be_bytes w32 (from_be_bytes w32 bytes / 2 ^ (32 - n) * 2 ^ (32 - n)))
cleared_addr n (V6 bytes) = V6 (to_be_bytes w128 (from_be_bytes w128 bytes / 2 ^ (128 - n) * 2 ^ (128 - n)))

-- the prefix of an address, of so many bits
abbrev pub network_of : Addr → ℕ → Network
network_of a n = record { addr = cleared_addr n a; bits = n }

-- a prefix covers an address of its family when their first bits agree (pf.conf(5), TABLES)
unfoldable pub covers : Network → Addr → Bool
covers p a = same_family p.addr a && (first_bits p.bits p.addr == first_bits p.bits a)

-- a prefix has an address, at most as many bits as that, and zeros past them
pub record IsNetwork (p : Network) : Type 0 where
  pub addr : IsAddr p.addr
  pub short : p.bits ≤ width_of p.addr
  pub zeros : cleared_addr p.bits p.addr ≡ p.addr

-- a text writes a prefix when it is the text of an address alone, all of whose bits count, or that text followed by a
-- slash and the number of bits in decimal; the bits past them are cleared
pub record PrefixText (text : List ℕ) (p : Network) : Type 0 where
  pub addr : Addr
  pub is_addr : IsAddr addr
  pub short : p.bits ≤ width_of addr
  pub of : p ≡ network_of addr p.bits
  pub before : List ℕ
  pub address : IsAddrText before addr
  pub spelled : ((text ≡ before) × (p.bits ≡ width_of addr)) ⊎ (text ≡ before ++ 47 ∷ decimal p.bits)

-- what a hasher is fed with of a prefix: of IPv4 one whole word, which takes fewer steps than its bytes (own)
abbrev pub writes_of_bits : ℕ → Addr → HashWrites
writes_of_bits bits (V4 a) = (slice_index a 0 ∷ slice_index a 1 ∷ slice_index a 2 ∷ slice_index a 3 ∷ bits ∷ 0 ∷ 0 ∷ 0 ∷ []) ∷ []
writes_of_bits bits (V6 a) = a ∷ (bits ∷ []) ∷ []

abbrev pub prefix_writes : Network → HashWrites
prefix_writes p = writes_of_bits p.bits p.addr
