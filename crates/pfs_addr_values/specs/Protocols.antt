-- Protocols: their numbers, their names in texts, and which of them have ports.
use Rattle.std.specs.Prelude.{ℕ, List, Bool, true, false, Option, Some, None, if◌then◌else◌, ◌==◌, ◌||◌, nat_lt, codes}
use Rattle.std.specs.Str.{bytes_eq}
use Rattle.pfs_addr_values.specs.Numbers.{number_of}
use Rattle.pfs_addr_values.specs.declared.protocols.Proto.{Proto}
use Rattle.pfs_addr_values.specs.declared.protocols.Proto.TheVariants.{Tcp, Udp, Other}

-- the protocol of a number
abbrev pub proto_of : ℕ → Proto
proto_of n = if n == 6 then Tcp else (if n == 17 then Udp else Other n)

-- the number of a protocol
abbrev pub number_of_proto : Proto → ℕ
number_of_proto Tcp = 6
number_of_proto Udp = 17
number_of_proto (Other n) = n

-- only packets of TCP and UDP have ports
abbrev pub has_ports : Proto → Bool
has_ports Tcp = true
has_ports Udp = true
has_ports (Other n) = false

-- ICMP and ICMPv6, the protocols 1 and 58
abbrev pub is_icmp : Proto → Bool
is_icmp p = (number_of_proto p == 1) || (number_of_proto p == 58)

-- the protocol of a number that a byte can hold
abbrev pub proto_numbered : Option ℕ → Option Proto
proto_numbered None = None
proto_numbered (Some n) = if nat_lt n 256 then Some (proto_of n) else None

-- the protocol that a text names or numbers
unfoldable pub proto_in : List ℕ → Option Proto
proto_in text =
    if bytes_eq text (codes "tcp") then Some Tcp
    else (if bytes_eq text (codes "udp") then Some Udp
    else (if bytes_eq text (codes "icmp") then Some (proto_of 1)
    else (if bytes_eq text (codes "icmp6") then Some (proto_of 58)
    else (if bytes_eq text (codes "esp") then Some (proto_of 50)
    else (if bytes_eq text (codes "ah") then Some (proto_of 51)
    else (if bytes_eq text (codes "gre") then Some (proto_of 47)
    else proto_numbered (number_of text)))))))
