-- What a visit reads of an item, in few bytes, so that a walk over items that fail reads little. (not promised)
use Rattle.std.specs.Prelude.{ℕ, ◌≡◌, ◌-◌, ◌==◌, ◌/◌, ◌^◌, nat_le, min, Bool, true, false, if◌then◌else◌, Option, Some, None, List, [], ◌∷◌, length, slice_get, slice_index}
use Rattle.std.specs.Int.{from_be_bytes, from_le_bytes, to_le_bytes, w32, w64}
use Rattle.pfs_addr_values.specs.declared.addresses.Addr.{Addr}
use Rattle.pfs_addr_values.specs.declared.addresses.Addr.TheVariants.{V4, V6}
use Rattle.pfs_conf_values.specs.declared.filters.Filter.{Filter}
use Rattle.pfs_conf_values.specs.declared.filters.FlagTest.{FlagTest}
use Rattle.pfs_conf_values.specs.declared.filters.FlagTest.TheVariants as flag_test
use Rattle.pfs_conf_values.specs.declared.filters.Host.{Host}
use Rattle.pfs_conf_values.specs.declared.filters.Host.TheVariants as host
use Rattle.pfs_conf_values.specs.declared.filters.Interface.{Interface}
use Rattle.pfs_conf_values.specs.declared.filters.TableNo.{TableNo}
use Rattle.pfs_eval.specs.Matching.{filter_of, turned_if}
use Rattle.pfs_eval.specs.declared.glances.Glance.{Glance}
use Rattle.pfs_eval.specs.declared.glances.Near.{Near}
use Rattle.pfs_eval.specs.declared.glances.NearKind.TheVariants as near
use Rattle.pfs_eval.specs.declared.glances.OnKind.{OnKind}
use Rattle.pfs_eval.specs.declared.glances.OnKind.TheVariants as on
use Rattle.pfs_eval.specs.declared.lines.Line.{Line}

-- ---- an interface

-- what is kept of a name in eight bytes: its first seven, zeros where it has fewer, and its length
abbrev pub name_bytes : List ℕ → List ℕ
name_bytes name =
    slice_index name 0 ∷ slice_index name 1 ∷ slice_index name 2 ∷ slice_index name 3 ∷ slice_index name 4 ∷ slice_index name 5
    ∷ slice_index name 6 ∷ min (length name) 255 ∷ []

-- the number that has these bytes, and no other
pub record IsWordOf (name : List ℕ) (word : ℕ) : Type 0 where
  pub bytes : to_le_bytes w64 word ≡ name_bytes name
  pub is : word ≡ from_le_bytes w64 (name_bytes name)

-- whether the eight bytes say the whole name
abbrev pub is_short : List ℕ → Bool
is_short name = nat_le (length name) 7

abbrev pub on_kind : Interface → OnKind
on_kind i = if is_short i.name then (if i.negated then on.Other else on.This) else on.Far

-- what is kept of the interface that is asked for
abbrev pub IsOnKept : Option Interface → OnKind → ℕ → Type 0
IsOnKept None kind word = kind ≡ on.Any
IsOnKept (Some i) kind word = (kind ≡ on_kind i) × IsWordOf i.name word

-- ---- a host

-- what is kept of a host: of a prefix of IPv4 the address as a number, and how many bits of it don't count; of a table its number. A
-- prefix of IPv6 stands in the item alone
abbrev pub near_prefix : Addr → ℕ → Bool → Near
near_prefix (V4 bytes) bits negated = record { kind = near.Inet; hidden = 32 - bits; negated = negated; word = from_be_bytes w32 bytes }
near_prefix (V6 bytes) bits negated = record { kind = near.Far; hidden = 0; negated = negated; word = 0 }

abbrev pub near_host : Host TableNo → Near
near_host host.Any = record { kind = near.Any; hidden = 0; negated = false; word = 0 }
near_host (host.Prefix prefix negated) = near_prefix prefix.addr prefix.bits negated
near_host (host.Table table negated) = record { kind = near.Table; hidden = 0; negated = negated; word = table.0 }

-- whether such a prefix of IPv4 holds of an address
abbrev pub inet_holds : Near → Addr → Bool
inet_holds near (V4 bytes) = turned_if near.negated (near.word / 2 ^ near.hidden == from_be_bytes w32 bytes / 2 ^ near.hidden)
inet_holds near (V6 bytes) = false

-- ---- an item

abbrev pub asks_flags : FlagTest → Bool
asks_flags flag_test.Any = false
asks_flags (flag_test.Exactly set among) = true

-- what is kept of a filter
pub record IsFilterKept (f : Filter) (g : Glance) : Type 0 where
  pub on : IsOnKept f.on g.on g.word
  pub dir : g.dir ≡ f.dir
  pub family : g.family ≡ f.family
  pub proto : g.proto ≡ f.proto
  pub source : g.source ≡ near_host f.from.host
  pub destination : g.destination ≡ near_host f.to.host
  pub source_ports : g.source_ports ≡ f.from.ports
  pub destination_ports : g.destination_ports ≡ f.to.ports
  pub flags : g.asks_flags ≡ asks_flags f.flags

-- what is kept of a line
pub record IsGlance (line : Line) (g : Glance) : Type 0 where
  pub skips : g.skips ≡ line.skips
  pub depth : g.depth ≡ line.item.depth
  pub filter : IsFilterKept (filter_of line.item.what) g

-- what is kept of each of these lines
pub record AreGlances (lines : List Line) (glances : List Glance) : Type 0 where
  pub long : length glances ≡ length lines
  pub each : (p : ℕ) (line : Line) (g : Glance) → slice_get lines p ≡ Some line → slice_get glances p ≡ Some g → IsGlance line g
