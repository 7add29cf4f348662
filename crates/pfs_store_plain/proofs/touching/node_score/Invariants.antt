-- Invariant of node_score: the first node of the scope and source is among those that are left.
use Rattle.std.proofs.Common.{◌≡◌, drop}
use Rattle.std.specs.List.{find}
use Rattle.pfs_store_contract.specs.Counts.{is_node}
use Rattle.pfs_store_plain.proofs.touching.node_score.Given as goal

-- the first is among the rest
abbrev pub invariant-loop-node : goal.invariant-loop-node
invariant-loop-node l = find (is_node l.scope l.source) (drop l.node-index l.nodes) ≡ find (is_node l.scope l.source) l.nodes
