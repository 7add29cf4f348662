-- How records and nodes are kept: each value at a place, and an ordered map from its number to the place. (not promised)
use Rattle.std.specs.Prelude.{◌≡◌, ℕ, ◌<◌, ◌&&◌, Bool, if◌then◌else◌, Option, Some, List, filter_map, length, option_map}
use Rattle.std.specs.BTreeMap.{is_at}
use Rattle.std.specs.List.{AllByRecursion}
use Rattle.std.specs.List.Sorted.{IsStrictlySortedBy}
use Rattle.std.specs.Map.{keys_of, lookup}
use Rattle.std.specs.Ordering.{nat_cmp}
use Rattle.slab.specs.Slab.{Slab, get}
use Rattle.pfs_addr_values.specs.Sameness.{same_addr}
use Rattle.pfs_addr_values.specs.declared.addresses.Addr.{Addr}
use Rattle.pfs_store_contract.specs.Counts.{half_open, same_scope, scope_nodes}
use Rattle.pfs_store_contract.specs.declared.records.NodeScope.{NodeScope}
use Rattle.pfs_store_contract.specs.declared.records.NodeScope.TheVariants as node_scope
use Rattle.pfs_store_contract.specs.declared.records.State.{State}
use Rattle.pfs_store_records.specs.Records.{Placed, placed_at, states_of}
use Rattle.pfs_store_records.specs.Tallies.{count_of, nodes_of}
use Rattle.pfs_store_records.specs.declared.nodes.NodeTally.{NodeTally}

-- the values at the places of these entries
abbrev pub values_at : {P V : Type 0} → (P → Option V) → List (ℕ × P) → List V
values_at {P} at es = filter_map (λ (e : ℕ × P). at e.1) es

module _ {P V : Type 0} (number : V → ℕ) (StandsAt : V → P → Type 0) where
  -- at the place of an entry is a value of the entry's number, whose place it is
  abbrev pub IsPlaced : (P → Option V) → ℕ × P → Type 0
  IsPlaced at e = (v : V) × (at e.1 ≡ Some v) × (number v ≡ e.0) × StandsAt v e.1

  -- each entry has its value, and their numbers rise
  pub record AreInPlace (at : P → Option V) (es : List (ℕ × P)) : Type 0 where
    pub placed : AllByRecursion (IsPlaced at) es
    pub ordered : IsStrictlySortedBy nat_cmp (keys_of es)

-- ---- records of states

abbrev pub number_in : Placed → ℕ
number_in p = p.state.number

-- the record says that this is its place
abbrev pub RecordIsAt : Placed → ℕ → Type 0
RecordIsAt p place = p.place ≡ place

abbrev pub record_in : Slab State → ℕ → Option Placed
record_in slab place = option_map (placed_at place) (get slab place)

-- the records are kept, and so many of their states are half open
pub record AreCounted (slab : Slab State) (es : List (ℕ × ℕ)) (count : ℕ) : Type 0 where
  pub kept : AreInPlace number_in RecordIsAt (record_in slab) es
  pub counted : count ≡ half_open (states_of (values_at (record_in slab) es))

-- ---- source nodes

abbrev pub number_of_node : NodeTally → ℕ
number_of_node t = t.node.number

-- the scope and the source by which a node is found
abbrev pub source_of_node : NodeTally → NodeScope × Addr
source_of_node t = (t.node.scope, t.node.source)

-- what `==` says of two scopes with sources
abbrev pub same_source : NodeScope × Addr → NodeScope × Addr → Bool
same_source a b = same_scope a.0 b.0 && same_addr a.1 b.1

abbrev pub tally_in : Slab NodeTally → ℕ → Option NodeTally
tally_in slab place = get slab place

-- the table has this place for the scope and the source of the node
abbrev pub NodeIsAt : (NodeScope × Addr → Option ℕ) → NodeTally → ℕ → Type 0
NodeIsAt table t place = table (source_of_node t) ≡ Some place

-- the node may have any place
abbrev pub Anywhere : NodeTally → ℕ → Type 0
Anywhere t place = Unit {0}

-- at this place is a node of this scope and source, and the order has it
abbrev pub IsFoundAt : (ℕ → Option NodeTally) → List (ℕ × ℕ) → NodeScope × Addr → ℕ → Type 0
IsFoundAt at es source place =
    (t : NodeTally) × (at place ≡ Some t) × (source_of_node t ≡ source) × (lookup (is_at (nat_cmp t.node.number)) es ≡ Some place)

-- the nodes are kept, the table leads to the nodes that are looked up in it, and the counts are those of the scopes
pub record IsNoted (table : NodeScope × Addr → Option ℕ) (at : ℕ → Option NodeTally) (es : List (ℕ × ℕ)) (rules : List ℕ) (global : ℕ) : Type 0 where
  pub kept : AreInPlace number_of_node (NodeIsAt table) at es
  pub found : (source : NodeScope × Addr) (place : ℕ) → table source ≡ Some place → IsFoundAt at es source place
  pub counted : (scope : NodeScope) → count_of rules global scope ≡ scope_nodes scope (nodes_of (values_at at es))

-- ---- counts of scopes

abbrev pub one_if : Bool → ℕ
one_if b = if b then 1 else 0

-- the counts are the same at each scope
abbrev pub SameCounts : (NodeScope → ℕ) → (NodeScope → ℕ) → Type 0
SameCounts old new = (scope : NodeScope) → new scope ≡ old scope

-- these counts of rules have a place for that of the scope
abbrev pub HasRoom : List ℕ → NodeScope → Type 0
HasRoom rules (node_scope.Rule rule) = rule.0 < length rules
HasRoom rules node_scope.Global = Unit {0}
