-- The source nodes, each with the counts of its states, by rising number. (pf.conf(5), STATEFUL TRACKING OPTIONS; the
-- counts are own)
use Rattle.std.specs.Prelude.{◌≡◌, ℕ, ◌==◌, ◌&&◌, not, Bool, true, if◌then◌else◌, List, map, slice_index}
use Rattle.std.specs.List.{IsDistinct, list_any}
use Rattle.pfs_addr_values.specs.declared.addresses.Addr.{Addr}
use Rattle.pfs_store_contract.specs.Counts.{is_node}
use Rattle.pfs_store_contract.specs.Purging.{node_numbers}
use Rattle.pfs_store_contract.specs.declared.records.Node.{Node}
use Rattle.pfs_store_contract.specs.declared.records.NodeScope.{NodeScope}
use Rattle.pfs_store_contract.specs.declared.records.NodeScope.TheVariants as node_scope
use Rattle.pfs_store_records.specs.Records.{IsRising}
use Rattle.pfs_store_records.specs.declared.nodes.NodeTally.{NodeTally}

-- the nodes, without their counts
abbrev pub nodes_of : List NodeTally → List Node
nodes_of tallies = map (λ (t : NodeTally). t.node) tallies

-- the tally of the node of this scope and source
abbrev pub is_tally : NodeScope → Addr → NodeTally → Bool
is_tally scope source t = is_node scope source t.node

-- the tally of the node of this number
abbrev pub has_node_number : ℕ → NodeTally → Bool
has_node_number number t = t.node.number == number

-- two tallies are of one scope and source
abbrev pub same_node : NodeTally → NodeTally → Bool
same_node t u = is_tally t.node.scope t.node.source u

-- the numbers of the nodes rise, and no two are of one scope and source
pub record IsOrderly (tallies : List NodeTally) : Type 0 where
  pub rising : IsRising (node_numbers (nodes_of tallies))
  pub distinct : IsDistinct same_node tallies

-- ---- changes

-- there is a tally of this one's scope, source and number
abbrev pub IsTallied : NodeTally → List NodeTally → Type 0
IsTallied tally tallies =
    list_any (λ (t : NodeTally). is_tally tally.node.scope tally.node.source t && has_node_number tally.node.number t) tallies ≡ true

-- the tally of a node, written in place of the one that it has
abbrev pub put_tally : NodeTally → NodeTally → NodeTally
put_tally tally t = if has_node_number tally.node.number t then tally else t

-- the tally stays where that of this number is removed
abbrev pub other_node : ℕ → NodeTally → Bool
other_node number t = not (has_node_number number t)

-- ---- counts by scope

-- the count of a scope, where these are the counts of the first rules, and that of the global scope
abbrev pub count_of : List ℕ → ℕ → NodeScope → ℕ
count_of rules global (node_scope.Rule rule) = slice_index rules rule.0
count_of rules global node_scope.Global = global
