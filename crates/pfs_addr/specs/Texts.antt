-- The address and the prefix of a text, found piece by piece. That they are those whose text it is, is proved
-- (proofs/PieceLaws.antt).
use Rattle.std.specs.Prelude.{ℕ, List, [], ◌∷◌, Option, Some, None, option_map, if◌then◌else◌, ◌&&◌, ◌==◌, nat_lt, nat_le, length, slice_index}
use Rattle.std.specs.List.{list_all, list_any, slice_split}
use Rattle.std.specs.Net.Addr.{octets_of}
use Rattle.std.specs.Net.Reader.{read_ipv6, whole_value}
use Rattle.pfs_addr_values.specs.Addresses.{is_no_dot, width_of}
use Rattle.pfs_addr_values.specs.Numbers.{number_of}
use Rattle.pfs_addr_values.specs.Prefixes.{Network, network_of}
use Rattle.pfs_addr_values.specs.declared.addresses.Addr.{Addr}
use Rattle.pfs_addr_values.specs.declared.addresses.Addr.TheVariants.{V4, V6}

-- a number without a zero in front, at most so great
abbrev pub up_to : ℕ → Option ℕ → Option ℕ
up_to most None = None
up_to most (Some n) = if nat_le n most then Some n else None

abbrev pub bare_number : ℕ → List ℕ → Option ℕ
bare_number most text = if (slice_index text 0 == 48) && nat_lt 1 (length text) then None else up_to most (number_of text)

-- four bytes, where all are there
abbrev pub fourth : ℕ → ℕ → ℕ → Option ℕ → Option Addr
fourth a b c None = None
fourth a b c (Some d) = Some (V4 (a ∷ b ∷ c ∷ d ∷ []))

abbrev pub third : ℕ → ℕ → Option ℕ → Option ℕ → Option Addr
third a b None d = None
third a b (Some c) d = fourth a b c d

abbrev pub second : ℕ → Option ℕ → Option ℕ → Option ℕ → Option Addr
second a None c d = None
second a (Some b) c d = third a b c d

abbrev pub four_bytes : Option ℕ → Option ℕ → Option ℕ → Option ℕ → Option Addr
four_bytes None b c d = None
four_bytes (Some a) b c d = second a b c d

-- the address of four pieces
abbrev pub quad : List (List ℕ) → Option Addr
quad (a ∷ b ∷ c ∷ d ∷ []) = four_bytes (bare_number 255 a) (bare_number 255 b) (bare_number 255 c) (bare_number 255 d)
quad _ = None

-- the IPv4 address whose text this is: its pieces between dots are four bytes in decimal
unfoldable pub quad_of : List ℕ → Option Addr
quad_of text = quad (slice_split (λ b. b == 46) text)

-- the IPv6 address whose text this is: groups of hexadecimal digits, and no dot
unfoldable pub groups_of : List ℕ → Option Addr
groups_of text =
    if list_all is_no_dot text
    then option_map (λ segments. V6 (octets_of segments)) (whole_value (read_ipv6 text))
    else None

-- the address whose text this is; with a colon it is IPv6
unfoldable pub addr_of : List ℕ → Option Addr
addr_of text = if list_any (λ b. b == 58) text then groups_of text else quad_of text

-- an address with a length
abbrev pub with_length : Addr → Option ℕ → Option Network
with_length a None = None
with_length a (Some n) = Some (network_of a n)

abbrev pub alone : Option Addr → Option Network
alone None = None
alone (Some a) = Some (network_of a (width_of a))

abbrev pub cut_at : Option Addr → List ℕ → Option Network
cut_at None length = None
cut_at (Some a) length = with_length a (bare_number (width_of a) length)

-- the prefix of the pieces between slashes
abbrev pub prefix_of_pieces : List (List ℕ) → Option Network
prefix_of_pieces (address ∷ []) = alone (addr_of address)
prefix_of_pieces (address ∷ length ∷ []) = cut_at (addr_of address) length
prefix_of_pieces _ = None

-- the prefix whose text this is
unfoldable pub prefix_of : List ℕ → Option Network
prefix_of text = prefix_of_pieces (slice_split (λ b. b == 47) text)
