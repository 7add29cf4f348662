-- Entries of a table as it holds them, each with its mark, and the answer of the narrowest.
use Rattle.std.specs.Prelude.{ℕ, Bool, false, not, ◌&&◌, ◌==◌, if◌then◌else◌, Option, Some, None, List, map}
use Rattle.std.specs.List.{IsDistinct, list_any}
use Rattle.std.specs.Map.{lookup}
use Rattle.pfs_addr_values.specs.declared.addresses.Addr.{Addr}
use Rattle.pfs_addr_values.specs.Addresses.{width_of}
use Rattle.pfs_addr_values.specs.Prefixes.{Network, covers}
use Rattle.pfs_conf_values.specs.Entries.{TextEntry, same_network}
use Rattle.pfs_eval.specs.Covering.{narrowest}
use Rattle.pfs_eval.specs.declared.entries.Mark.{Mark}
use Rattle.pfs_eval.specs.declared.entries.TableEntry.{TableEntry}

-- an entry of a table: a prefix, and what is kept beside it
abbrev pub Entry : Type 0
Entry = Network × Mark

-- no two entries of a table have the same prefix
abbrev pub AreDistinct : List Entry → Type 0
AreDistinct entries = IsDistinct same_network (map (λ (e : Entry). e.0) entries)

-- the entry that a rules text says: it was added at no moment
abbrev pub entry_of_text : TextEntry → Entry
entry_of_text e = (e.0, record { negated = e.1; moment = None })

-- yes if there is an entry, and it is not negated
abbrev pub says_yes : Option Entry → Bool
says_yes None = false
says_yes (Some e) = not e.1.negated

-- the answer of a table for an address: the narrowest entry that covers it says so (pf.conf(5), TABLES)
abbrev pub answer_of : List Entry → Addr → Bool
answer_of entries a = says_yes (narrowest entries a)

-- whether this is the prefix of an address that has so many bits
abbrev pub is_prefix_of : Addr → ℕ → Network → Bool
is_prefix_of a bits p = (p.bits == bits) && covers p a

-- the mark of the entry that is the prefix of an address with so many bits
abbrev pub mark_at : List Entry → Addr → ℕ → Option Mark
mark_at entries a bits = lookup (is_prefix_of a bits) entries

-- whether a table has an entry, negated or not, for the prefix of an address with so many bits
abbrev pub holds_prefix : List Entry → Addr → ℕ → Bool
holds_prefix entries a bits = list_any (λ (e : Entry). is_prefix_of a bits e.0) entries

-- whether a table has an entry for exactly this host, negated or not
abbrev pub holds_host : List Entry → Addr → Bool
holds_host entries a = holds_prefix entries a (width_of a)

-- the mark of the entry with exactly this prefix
abbrev pub mark_of : List Entry → Network → Option Mark
mark_of entries p = mark_at entries p.addr p.bits

-- two signs are the same: both negated, or neither
abbrev pub same_sign : Bool → Bool → Bool
same_sign a b = if a then b else not b

-- an entry of a table is this very one: its prefix, and its sign
abbrev pub is_entry : TableEntry → Entry → Bool
is_entry e x = is_prefix_of e.prefix.addr e.prefix.bits x.0 && same_sign x.1.negated e.negated
