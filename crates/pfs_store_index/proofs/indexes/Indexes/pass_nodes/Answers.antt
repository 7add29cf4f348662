-- Answers of Indexes::pass_nodes: a walk by tallies is one by their nodes (`passing`, `until`, `leaver`).
use Rattle.std.proofs.Common.{◌≡◌, option_map, true, subst}
use Rattle.std.specs.List.{AllByRecursion}
use Rattle.pfs_store_contract.specs.Purging.{is_over}
use Rattle.pfs_store_index.specs.QuietPurges.{NodeStays}
use Rattle.pfs_store_contract.specs.declared.records.Node.{Node}
use Rattle.pfs_store_index.specs.Holdings.{Holding}
use Rattle.pfs_store_records.specs.Records.{between, states_of}
use Rattle.pfs_store_records.specs.Walks.{IsPassing, StopsWalkAt}
use Rattle.pfs_store_records.specs.declared.nodes.NodeTally.{NodeTally}
use Rattle.pfs_store_index.proofs.Retained.{node_number}
use Rattle.pfs_store_index.proofs.PassingNodes.{kept-nodes, passing-nodes, stops-nodes}
use Rattle.pfs_store_index.proofs.indexes.Indexes.pass_nodes.Goals as goal

pub returns-clause-passing : goal.returns-clause-passing
returns-clause-passing g c =
    subst (λ (h : Holding). IsPassing node_number (is_over h.config h.states c.args.now) h.nodes c.args.round.cursor c.args.round.mark c.args.share c.walk.result.stayed c.walk.result.last) c.self.view_is
    (passing-nodes c.self.inside.config (states_of c.self.inside.records) c.args.now c.args.round.cursor c.args.round.mark c.args.share c.walk.result.stayed c.walk.result.last c.self.inside.nodes c.self.invariant.counted c.walk.ensures.passing)

pub returns-clause-until : goal.returns-clause-until
returns-clause-until g c =
    subst (λ (h : Holding). AllByRecursion (λ (n : Node). between c.args.round.cursor c.walk.result.last (node_number n) ≡ true → NodeStays h.config h.states c.walk.result.until n) h.nodes) c.self.view_is
    (kept-nodes c.self.inside.config (states_of c.self.inside.records) c.args.round.cursor c.walk.result.last c.walk.result.until c.self.inside.nodes c.self.invariant.counted c.walk.ensures.until)

pub returns-clause-leaver : goal.returns-clause-leaver
returns-clause-leaver g c =
    let k = c.walk.result in
    subst (λ (h : Holding). StopsWalkAt node_number (is_over h.config h.states c.args.now) h.nodes k.last c.args.round.mark k.stayed c.args.share (option_map (λ (t : NodeTally). t.node) k.leaver)) c.self.view_is
    (stops-nodes c.self.inside.config (states_of c.self.inside.records) c.args.now k.last c.args.round.mark k.stayed c.args.share k.leaver c.self.inside.nodes c.self.invariant.counted c.walk.ensures.leaver)
