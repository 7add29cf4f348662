-- Prefixes that cover an address, each with what is kept beside it, and the narrowest of them.
use Rattle.std.specs.Prelude.{nat_le, if◌then◌else◌, Option, Some, None, List, [], ◌∷◌}
use Rattle.pfs_addr_values.specs.declared.addresses.Addr.{Addr}
use Rattle.pfs_addr_values.specs.Prefixes.{Network, covers}

-- of a prefix and one that follows it, the one with more bits
abbrev pub narrower : {K : Type 0} → Network × K → Option (Network × K) → Network × K
narrower e None = e
narrower e (Some f) = if nat_le f.0.bits e.0.bits then e else f

-- of the prefixes that cover an address, the one with most bits
abbrev pub narrowest : {K : Type 0} → List (Network × K) → Addr → Option (Network × K)
narrowest [] a = None
narrowest (e ∷ es) a = if covers e.0 a then Some (narrower e (narrowest es a)) else narrowest es a
