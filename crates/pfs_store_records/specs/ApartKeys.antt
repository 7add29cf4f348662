-- The keys of states whose keys are apart, which lie aside from the records, by the number of the state. (own)
use Rattle.std.specs.Prelude.{◌≡◌, ℕ, cond, true, Option, Some, None, IsSome, List, option_map}
use Rattle.std.specs.BTreeMap.{is_at}
use Rattle.std.specs.List.{AllByRecursion}
use Rattle.std.specs.Map.{lookup}
use Rattle.std.specs.Ordering.{nat_cmp}
use Rattle.pfs_addr_values.specs.declared.packets.FlowKey.{FlowKey}
use Rattle.pfs_store_contract.specs.Worlds.{holds_number}
use Rattle.pfs_store_contract.specs.declared.records.State.{State}
use Rattle.pfs_store_records.specs.Records.{Placed, placed_at}
use Rattle.pfs_store_records.specs.declared.apart_keys.Keys.{Keys}

-- what lies aside for a number, where these keys lie aside
abbrev pub lying : List (ℕ × Keys) → ℕ → Option Keys
lying aside n = lookup (is_at (nat_cmp n)) aside

-- these keys, or none, lie aside for a number now, and for each other number what lay there
abbrev pub HasKeys : ℕ → Option Keys → List (ℕ × Keys) → List (ℕ × Keys) → Type 0
HasKeys number keys before after = (n : ℕ) → lying after n ≡ cond (is_at (nat_cmp number) n) keys (lying before n)

-- what lies aside of a state
abbrev pub keys_apart : State → Option Keys
keys_apart s = option_map (λ (inner : FlowKey). record { wire = s.key; inner = inner }) s.inner

-- a state with the keys that lie aside, or with the one of its record alone
abbrev pub with_keys : Option Keys → State → State
with_keys None s = record s { inner = None }
with_keys (Some keys) s = record s { key = keys.wire; inner = Some keys.inner }

-- each record, with the keys that lie aside for its number
abbrev pub whole_record : List (ℕ × Keys) → Placed → Placed
whole_record aside p = placed_at p.place (with_keys (lying aside p.state.number) p.state)

-- nothing lies aside but for states that are held
abbrev pub AreHeld : List (ℕ × Keys) → List State → Type 0
AreHeld aside states = (n : ℕ) → IsSome (lying aside n) → holds_number states n ≡ true

-- a state, but for its keys, which are those of another
abbrev pub rekeyed : State → State → State
rekeyed other s = record s { key = other.key; inner = other.inner }

-- the record at this place is kept as this, but for its keys
abbrev pub IsKeptAt : ℕ → State → List Placed → Type 0
IsKeptAt place kept records = AllByRecursion (λ (p : Placed). p.place ≡ place → rekeyed kept p.state ≡ kept) records
