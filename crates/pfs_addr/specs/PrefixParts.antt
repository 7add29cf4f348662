-- The two parts of a prefix's text around its slash: an address, and a length without zeros in front. (not promised)
use Rattle.std.specs.Prelude.{ℕ, List, Bool, Option, Some, None, if◌then◌else◌, not, ◌&&◌, ◌==◌, ◌≡◌, ◌≤◌, nat_lt, length, slice_index}
use Rattle.std.specs.Fmt.{decimal}
use Rattle.pfs_addr_values.specs.Addresses.{IsAddr, IsAddrText, width_of}
use Rattle.pfs_addr_values.specs.Prefixes.{Network, network_of}
use Rattle.pfs_addr_values.specs.declared.addresses.Addr.{Addr}
use Rattle.pfs_addr_values.specs.Numbers.{number_of}

-- a byte other than a slash
abbrev pub is_no_slash : ℕ → Bool
is_no_slash b = not (b == 47)

-- a zero and more after it
abbrev pub is_padded : List ℕ → Bool
is_padded text = nat_lt 1 (length text) && (slice_index text 0 == 48)

-- a number that a byte can hold
abbrev pub small_of : Option ℕ → Option ℕ
small_of None = None
small_of (Some n) = if nat_lt n 256 then Some n else None

-- the length of a prefix that a text writes: a number without zeros in front
unfoldable pub length_of : List ℕ → Option ℕ
length_of text = if is_padded text then None else small_of (number_of text)

-- the texts before and after a slash write a prefix when they are an address and the number of bits
pub record PartsText (address length : List ℕ) (p : Network) : Type 0 where
  pub addr : Addr
  pub is_addr : IsAddr addr
  pub short : p.bits ≤ width_of addr
  pub of : p ≡ network_of addr p.bits
  pub spelled : IsAddrText address addr
  pub counted : length ≡ decimal p.bits
