-- Entries of tables as a text says them: a prefix and whether it is negated; when prefixes are the same.
use Rattle.std.specs.Prelude.{All, Bool, false, ◌&&◌, ◌==◌, Option, List, map}
use Rattle.std.specs.List.{IsDistinct}
use Rattle.std.specs.Str.{bytes_eq}
use Rattle.std.specs.Map.{lookup}
use Rattle.pfs_addr_values.specs.Prefixes.{IsNetwork, Network}
use Rattle.pfs_addr_values.specs.declared.addresses.Addr.{Addr}
use Rattle.pfs_addr_values.specs.declared.addresses.Addr.TheVariants.{V4, V6}

-- an entry of a table: a prefix, and whether it is negated
abbrev pub TextEntry : Type 0
TextEntry = Network × Bool

-- two addresses are the same: of one family, and all their bytes
abbrev pub are_same_addr : Addr → Addr → Bool
are_same_addr (V4 a) (V4 b) = bytes_eq a b
are_same_addr (V6 a) (V6 b) = bytes_eq a b
are_same_addr a b = false

-- two prefixes are the same: their addresses, and how many bits count
abbrev pub same_network : Network → Network → Bool
same_network p q = are_same_addr p.addr q.addr && (p.bits == q.bits)

-- whether the entry with this prefix is negated, if there is one
abbrev pub sign_of : List TextEntry → Network → Option Bool
sign_of entries p = lookup (same_network p) entries

-- entries of a table: prefixes, no two the same
pub record AreEntries (entries : List TextEntry) : Type 0 where
  pub networks : All (λ (e : TextEntry). IsNetwork e.0) entries
  pub distinct : IsDistinct same_network (map (λ (e : TextEntry). e.0) entries)
