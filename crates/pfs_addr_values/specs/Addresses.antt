-- Addresses of both families: their bytes, their width in bits, and their texts.
use Rattle.std.specs.Prelude.{ℕ, List, Bool, true, false, not, ◌==◌, ◌≡◌, ◌<◌, length, All, map}
use Rattle.std.specs.List.{join_with_byte, list_all}
use Rattle.std.specs.Fmt.{decimal}
use Rattle.std.specs.Net.Addr.{segments_of}
use Rattle.std.specs.Net.Grammar.{IsColonHex}
use Rattle.std.specs.Net.Text.{hex_groups_text}
use Rattle.pfs_addr_values.specs.declared.addresses.Addr.{Addr}
use Rattle.pfs_addr_values.specs.declared.addresses.Addr.TheVariants.{V4, V6}

-- four bytes make an IPv4 address (RFC 791, section 3.2), sixteen an IPv6 address (RFC 4291, section 2)
abbrev pub IsAddr : Addr → Type 0
IsAddr (V4 bytes) = (length bytes ≡ 4) × All (λ b. b < 256) bytes
IsAddr (V6 bytes) = (length bytes ≡ 16) × All (λ b. b < 256) bytes

-- the number of bits of an address of its family
abbrev pub width_of : Addr → ℕ
width_of (V4 bytes) = 32
width_of (V6 bytes) = 128

-- the bytes of an address, in the order in which they are written
abbrev pub bytes_of : Addr → List ℕ
bytes_of (V4 bytes) = bytes
bytes_of (V6 bytes) = bytes

-- whether an address is IPv6
abbrev pub is_ipv6 : Addr → Bool
is_ipv6 (V4 bytes) = false
is_ipv6 (V6 bytes) = true

-- whether two addresses are both IPv4 or both IPv6
abbrev pub same_family : Addr → Addr → Bool
same_family (V4 a) (V4 b) = true
same_family (V6 a) (V6 b) = true
same_family a b = false

-- bytes in decimal, joined by dots
abbrev pub dotted_decimal : List ℕ → List ℕ
dotted_decimal bytes = join_with_byte 46 (map decimal bytes)

-- a byte other than a dot
abbrev pub is_no_dot : ℕ → Bool
is_no_dot b = not (b == 46)

-- A text writes an address. IPv4 has one text, RFC 791's dotted quad. IPv6 has those of RFC 4291, section 2.2: eight
-- groups of one to four hexadecimal digits, joined by `:` (form 1), where `::` may occur once, for one or more groups
-- of zeros (form 2). Form 3, the tail with dots, writes no address (own), and neither does a zone (RFC 4007, section
-- 11).
abbrev pub IsAddrText : List ℕ → Addr → Type 0
IsAddrText text (V4 bytes) = text ≡ dotted_decimal bytes
IsAddrText text (V6 bytes) = IsColonHex text (segments_of bytes) × (list_all is_no_dot text ≡ true)

-- The text in which an address is shown. IPv4: the dotted quad. IPv6: by RFC 5952, section 4, small hexadecimal digits
-- without leading zeros in a group, and `::` for the longest run of two or more groups of zeros, of equal runs the
-- first; never with dots.
abbrev pub addr_text : Addr → List ℕ
addr_text (V4 bytes) = dotted_decimal bytes
addr_text (V6 bytes) = hex_groups_text (segments_of bytes)
