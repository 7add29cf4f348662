-- How the indexes and the counts are tied to the states and the source nodes that are held. (own)
use Rattle.std.specs.Prelude.{ℕ, ◌≡◌, ◌<◌, Bool, false, Option, Some, None, List, length, map, option_map}
use Rattle.std.specs.BTreeSet as tree
use Rattle.std.specs.HashMap as hash
use Rattle.std.specs.HashMap.{HashMap}
use Rattle.std.specs.List.{find, list_any, AllByRecursion, IsDistinct}
use Rattle.pfs_addr_values.specs.Addresses.{IsAddr}
use Rattle.pfs_addr_values.specs.Sameness.{same_key}
use Rattle.pfs_addr_values.specs.declared.addresses.Addr.{Addr}
use Rattle.pfs_addr_values.specs.declared.packets.Dir.{Dir}
use Rattle.pfs_addr_values.specs.declared.packets.FlowKey.{FlowKey}
use Rattle.pfs_conf_values.specs.Configs.{Conf}
use Rattle.pfs_store_contract.specs.Counts.{node_connections, node_scope_of, node_states}
use Rattle.pfs_store_contract.specs.Plain.{AreCounts}
use Rattle.pfs_store_contract.specs.Worlds.{inner_key}
use Rattle.pfs_store_contract.specs.declared.records.StateHandle.{StateHandle}
use Rattle.pfs_store_contract.specs.declared.records.State.{State}
use Rattle.pfs_store_records.specs.Records.{Placed, states_of}
use Rattle.pfs_store_records.specs.declared.nodes.NodeTally.{NodeTally}
use Rattle.pfs_store_index.specs.Filed.{filed_under, is_pair, ordered_source, pair_cmp, pairs_on}
use Rattle.pfs_store_index.specs.declared.flush_index.FlushIndex.{FlushIndex}
use Rattle.pfs_store_index.specs.declared.indexes.IndexEntry.{IndexEntry}
use Rattle.pfs_store_records.specs.Changes.{HasTally, IsScoped, IsScored, at_node, left_of}

-- ---- the index by key

-- a record has this key
abbrev pub has_key : FlowKey → Placed → Bool
has_key key p = same_key p.state.key key

abbrev pub key_in : Placed → FlowKey
key_in p = p.state.key

-- this is the inner key, where it is another than that on the wire
abbrev pub is_inner : FlowKey → Option FlowKey → Bool
is_inner key None = false
is_inner key (Some inner) = same_key inner key

-- a record has this key inside, and another on the wire
abbrev pub has_apart : FlowKey → Placed → Bool
has_apart key p = is_inner key p.state.inner

-- a record has this key inside
abbrev pub has_inside : FlowKey → Placed → Bool
has_inside key p = same_key (inner_key p.state) key

abbrev pub inner_in : Placed → FlowKey
inner_in p = inner_key p.state

-- what the indexes by key have of a record
abbrev pub entry_of : Placed → IndexEntry
entry_of p = record { number = p.state.number; rule = p.state.rule; place = p.place }

-- what was found, by it
abbrev pub found_of : IndexEntry → StateHandle
found_of e = record { number = record { 0 = e.number }; rule = e.rule; place = e.place }

-- ---- the counts of nodes

-- a tally, counted anew
abbrev pub tally_of_states : Conf → List State → NodeTally → NodeTally
tally_of_states conf states t = record {
  node = t.node;
  states = node_states conf t.node.scope t.node.source states;
  connections = node_connections conf t.node.scope t.node.source states;
}

-- the counts of a tally are those of the states
abbrev pub IsCounted : Conf → List State → NodeTally → Type 0
IsCounted conf states t = t ≡ tally_of_states conf states t

-- the rule of a state is one of so many
abbrev pub HasRule : ℕ → State → Type 0
HasRule count s = s.rule.0 < count

-- each index and each count is that of the records
pub record IsTied {S : Type 0} (conf : Conf) (records : List Placed) (keys insides : HashMap FlowKey IndexEntry S) (counts : List ℕ) (tallies : List NodeTally) (filing : FlushIndex) : Type 0 where
  pub by_key : (key : FlowKey) → hash.get same_key keys key ≡ option_map entry_of (find (has_key key) records)
  pub by_inner : (key : FlowKey) → hash.get same_key insides key ≡ option_map entry_of (find (has_apart key) records)
  pub distinct : IsDistinct same_key (map key_in records)
  pub distinct_inside : IsDistinct same_key (map inner_in records)
  pub by_rule : AreCounts counts (states_of records)
  pub size : length counts ≡ length conf.items
  pub ruled : AllByRecursion (HasRule (length counts)) (states_of records)
  pub counted : AllByRecursion (IsCounted conf (states_of records)) tallies
  pub scoped : AllByRecursion (IsScoped conf) tallies
  pub scored : AllByRecursion IsScored tallies
  pub noded : AllByRecursion (HasTally conf tallies) (states_of records)
  pub paired : (dir : Dir) (source : Addr) (n : ℕ) → IsAddr source
      → tree.contains pair_cmp (pairs_on conf.profile dir filing) (ordered_source source, n) ≡ list_any (is_pair (filed_under conf.profile dir) source n) (states_of records)

-- ---- a state leaves

abbrev pub left_at : Conf → State → ℕ → NodeTally → NodeTally
left_at conf s now = at_node (node_scope_of conf s.rule.0) s.source (left_of conf s now)
