-- The index by source: what a state is filed under, and in which set of pairs of a source and a number. (own)
use Rattle.std.specs.Prelude.{ℕ, ◌≡◌, ◌==◌, ◌&&◌, Bool, true, false, cond, reverse}
use Rattle.std.specs.BTreeMap.{is_at as is_found}
use Rattle.std.specs.BTreeSet as tree
use Rattle.std.specs.BTreeSet.{BTreeSet}
use Rattle.std.specs.Int.{w32, from_le_bytes}
use Rattle.std.specs.Ordering.{nat_cmp, ordering_then}
use Rattle.std.specs.declared.cmp.Ordering.{Ordering}
use Rattle.pfs_addr_values.specs.Sameness.{same_addr}
use Rattle.pfs_addr_values.specs.declared.addresses.Addr.{Addr}
use Rattle.pfs_addr_values.specs.declared.addresses.Addr.TheVariants.{V4 as Addr-V4, V6 as Addr-V6}
use Rattle.pfs_addr_values.specs.declared.packets.Dir.{Dir}
use Rattle.pfs_addr_values.specs.declared.packets.Dir.TheVariants as dir
use Rattle.pfs_conf_values.specs.declared.profiles.Profile.{Profile}
use Rattle.pfs_conf_values.specs.declared.profiles.Profile.TheVariants as profile
use Rattle.pfs_store_contract.specs.Leaving.{end_on}
use Rattle.pfs_store_contract.specs.declared.records.State.{State}
use Rattle.pfs_store_index.specs.contracts.sources.SourceOrd.TheImpl as source_ord
use Rattle.pfs_store_index.specs.declared.flush_index.FlushIndex.{FlushIndex}
use Rattle.pfs_store_index.specs.declared.sources.Source.{Source}
use Rattle.pfs_store_index.specs.declared.sources.Source.TheVariants.{V4 as Source-V4, V6 as Source-V6}

-- ---- pairs of a source and a number

-- an address, its last byte the highest
abbrev pub ordered_source : Addr → Source
ordered_source (Addr-V4 bytes) = Source-V4 (from_le_bytes w32 bytes)
ordered_source (Addr-V6 bytes) = Source-V6 (reverse bytes)

-- how `cmp` orders two sources, and two pairs of source and number
abbrev pub source_cmp : Source → Source → Ordering
source_cmp = (source_ord.ghosts).cmp

abbrev pub pair_cmp : Source × ℕ → Source × ℕ → Ordering
pair_cmp a b = ordering_then (source_cmp a.0 b.0) (nat_cmp a.1 b.1)

-- the set has this pair and those that it had; or those without this pair; or only those
abbrev pub HasPair : Source × ℕ → BTreeSet (Source × ℕ) → BTreeSet (Source × ℕ) → Type 0
HasPair p old new = (q : Source × ℕ) → tree.contains pair_cmp new q ≡ cond (is_found (pair_cmp p) q) true (tree.contains pair_cmp old q)

abbrev pub LosesPair : Source × ℕ → BTreeSet (Source × ℕ) → BTreeSet (Source × ℕ) → Type 0
LosesPair p old new = (q : Source × ℕ) → tree.contains pair_cmp new q ≡ cond (is_found (pair_cmp p) q) false (tree.contains pair_cmp old q)

abbrev pub SamePairs : BTreeSet (Source × ℕ) → BTreeSet (Source × ℕ) → Type 0
SamePairs old new = (q : Source × ℕ) → tree.contains pair_cmp new q ≡ tree.contains pair_cmp old q

-- ---- the states that are filed

-- the address under which a state is filed, for flushes whose state was made in a direction
abbrev pub filed_under : Profile → Dir → State → Addr
filed_under profile.Own dir s = s.source
filed_under profile.OpenBsd74 dir s = (end_on dir s.key).addr

-- the set for those flushes
abbrev pub pairs_on : Profile → Dir → FlushIndex → BTreeSet (Source × ℕ)
pairs_on profile.Own dir f = f.first
pairs_on profile.OpenBsd74 dir.In f = f.first
pairs_on profile.OpenBsd74 dir.Out f = f.second

-- the pair is that of a state, where states are filed under these addresses
abbrev pub is_pair : (State → Addr) → Addr → ℕ → State → Bool
is_pair under source n s = same_addr (under s) source && (s.number == n)

-- the pair of a state
abbrev pub pair_of : Profile → Dir → State → Source × ℕ
pair_of profile dir s = (ordered_source (filed_under profile dir s), s.number)

-- no state is filed
abbrev pub AreEmpty : FlushIndex → Type 0
AreEmpty f = (profile : Profile) (dir : Dir) (q : Source × ℕ) → tree.contains pair_cmp (pairs_on profile dir f) q ≡ false

-- a state more is filed, or one less, or the same ones
abbrev pub HasFiled : Profile → State → FlushIndex → FlushIndex → Type 0
HasFiled profile s old new = (dir : Dir) → HasPair (pair_of profile dir s) (pairs_on profile dir old) (pairs_on profile dir new)

abbrev pub LosesFiled : Profile → State → FlushIndex → FlushIndex → Type 0
LosesFiled profile s old new = (dir : Dir) → LosesPair (pair_of profile dir s) (pairs_on profile dir old) (pairs_on profile dir new)

abbrev pub SameFiled : Profile → FlushIndex → FlushIndex → Type 0
SameFiled profile old new = (dir : Dir) → SamePairs (pairs_on profile dir old) (pairs_on profile dir new)
