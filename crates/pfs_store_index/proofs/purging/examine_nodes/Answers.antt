-- Answers of examine_nodes: a stretch of nodes that stay, and after it one that leaves, or the end of the share.
use Rattle.std.proofs.Common.{◌≡◌, ◌==◌, ℕ, Bool, true, Option, None, Some, List, option_map, subst, take, arith}
use Rattle.std.proofs.lemmas.Bool.{and_parts}
use Rattle.std.proofs.lemmas.Bool.Decides.{nat_tests}
use Rattle.pfs_conf_values.specs.Configs.{Conf}
use Rattle.pfs_store_contract.specs.Counts.{node_states}
use Rattle.pfs_store_contract.specs.Purging.{is_over, node_numbers}
use Rattle.pfs_store_index.specs.QuietPurges.{NodeStays}
use Rattle.pfs_store_contract.specs.declared.records.Node.{Node}
use Rattle.pfs_store_contract.specs.declared.records.State.{State}
use Rattle.pfs_store_records.specs.Walks.{IsStop, StopsWalkAt}
use Rattle.pfs_store_records.specs.declared.nodes.NodeTally.{NodeTally}
use Rattle.pfs_store_index.specs.Rounds.{waiting}
use Rattle.pfs_store_index.proofs.Retained.{node_number}
use Rattle.pfs_store_index.proofs.RisingWalks.{all-in}
use Rattle.pfs_store_index.proofs.Stretches.{passing-examined, passing-stays, stop-examined, stop-stays, stop-taken}
use Rattle.pfs_store_index.proofs.Untils.{hold-next, less_kept, nodes-passed}
use Rattle.pfs_store_index.proofs.purging.examine_nodes.Goals as goal

-- the node at which the walk stopped
stop : (leaves : Node → Bool) (ns : List Node) (last most stayed share : ℕ) (o : Option NodeTally) (t : NodeTally) → o ≡ Some t
    → StopsWalkAt node_number leaves ns last most stayed share (option_map (λ (u : NodeTally). u.node) o) → IsStop node_number leaves ns last most stayed share t.node
stop leaves ns last most stayed share o t q h = subst (λ (p : Option NodeTally). StopsWalkAt node_number leaves ns last most stayed share (option_map (λ (u : NodeTally). u.node) p)) q h

none_of : (n : ℕ) → (n == 0) ≡ true → n ≡ 0
none_of n h = grind (arith, nat_tests)

-- it has no states
stateless : (conf : Conf) (xs : List State) (now : ℕ) (n : Node) → is_over conf xs now n ≡ true → node_states conf n.scope n.source xs ≡ 0
stateless conf xs now n h = none_of (node_states conf n.scope n.source xs) (and_parts (node_states conf n.scope n.source xs == 0) _ h).0

pub drop_node-requires-clause-held : goal.drop_node-requires-clause-held
drop_node-requires-clause-held g c =
    (stop (is_over c.args.indexes.now.config c.args.indexes.now.states c.args.now) c.args.indexes.now.nodes c.pass_nodes-passed.result.last c.args.round.mark c.pass_nodes-passed.result.stayed c.args.share c.pass_nodes-passed.result.leaver c.in-Some.tally c.in-Some.is c.pass_nodes-passed.ensures.leaver).found

pub drop_node-requires-clause-stateless : goal.drop_node-requires-clause-stateless
drop_node-requires-clause-stateless g c =
    stateless c.args.indexes.now.config c.args.indexes.now.states c.args.now c.in-Some.tally.node
    (stop (is_over c.args.indexes.now.config c.args.indexes.now.states c.args.now) c.args.indexes.now.nodes c.pass_nodes-passed.result.last c.args.round.mark c.pass_nodes-passed.result.stayed c.args.share c.pass_nodes-passed.result.leaver c.in-Some.tally c.in-Some.is c.pass_nodes-passed.ensures.leaver).passes

pub returns-in-Some-clause-nodes : goal.returns-in-Some-clause-nodes
returns-in-Some-clause-nodes g c =
    stop-stays node_number (is_over c.args.indexes.now.config c.args.indexes.now.states c.args.now) c.args.round.cursor c.args.round.mark c.args.share c.pass_nodes-passed.result.stayed c.pass_nodes-passed.result.last c.args.indexes.now.nodes c.pass_nodes-passed.ensures.passing
    c.in-Some.tally.node c.drop_node.new.self.nodes
    (stop (is_over c.args.indexes.now.config c.args.indexes.now.states c.args.now) c.args.indexes.now.nodes c.pass_nodes-passed.result.last c.args.round.mark c.pass_nodes-passed.result.stayed c.args.share c.pass_nodes-passed.result.leaver c.in-Some.tally c.in-Some.is c.pass_nodes-passed.ensures.leaver)
    c.node_numbers_rise.ensures c.drop_node.ensures.nodes

pub returns-in-Some-clause-examined : goal.returns-in-Some-clause-examined
returns-in-Some-clause-examined g c =
    stop-examined node_number (is_over c.args.indexes.now.config c.args.indexes.now.states c.args.now) c.args.round.cursor c.args.round.mark c.args.share c.pass_nodes-passed.result.stayed c.pass_nodes-passed.result.last c.args.indexes.now.nodes c.pass_nodes-passed.ensures.passing
    c.in-Some.tally.node c.drop_node.new.self.nodes
    (stop (is_over c.args.indexes.now.config c.args.indexes.now.states c.args.now) c.args.indexes.now.nodes c.pass_nodes-passed.result.last c.args.round.mark c.pass_nodes-passed.result.stayed c.args.share c.pass_nodes-passed.result.leaver c.in-Some.tally c.in-Some.is c.pass_nodes-passed.ensures.leaver)
    c.node_numbers_rise.ensures c.drop_node.ensures.nodes

pub returns-in-Some-clause-order : goal.returns-in-Some-clause-order
returns-in-Some-clause-order g c =
    (all-in node_number c.pass_nodes-passed.result.last c.args.round.mark c.in-Some.tally.node.number c.args.indexes.now.nodes
    (stop (is_over c.args.indexes.now.config c.args.indexes.now.states c.args.now) c.args.indexes.now.nodes c.pass_nodes-passed.result.last c.args.round.mark c.pass_nodes-passed.result.stayed c.args.share c.pass_nodes-passed.result.leaver c.in-Some.tally c.in-Some.is c.pass_nodes-passed.ensures.leaver).next).most

pub returns-in-Some-clause-until : goal.returns-in-Some-clause-until
returns-in-Some-clause-until g c =
    let k = c.pass_nodes-passed.result in
    let conf = c.args.indexes.now.config in
    let xs = c.args.indexes.now.states in
    let ns = c.args.indexes.now.nodes in
    let ws = waiting c.args.round.cursor c.args.round.mark (node_numbers ns) in
    let taken = stop-taken node_number (is_over c.args.indexes.now.config c.args.indexes.now.states c.args.now) c.args.round.cursor c.args.round.mark c.args.share c.pass_nodes-passed.result.stayed c.pass_nodes-passed.result.last c.args.indexes.now.nodes c.pass_nodes-passed.ensures.passing
    c.in-Some.tally.node c.drop_node.new.self.nodes
    (stop (is_over c.args.indexes.now.config c.args.indexes.now.states c.args.now) c.args.indexes.now.nodes c.pass_nodes-passed.result.last c.args.round.mark c.pass_nodes-passed.result.stayed c.args.share c.pass_nodes-passed.result.leaver c.in-Some.tally c.in-Some.is c.pass_nodes-passed.ensures.leaver)
    c.node_numbers_rise.ensures c.drop_node.ensures.nodes in
    hold-next node_number (NodeStays conf xs) (less_kept conf xs) c.in-Some.tally.node.number k.until (take k.stayed ws) _ ns c.drop_node.new.self.nodes c.drop_node.ensures.nodes taken
    (nodes-passed conf xs _ _ _ _ _ _ _ _ c.pass_nodes-passed.ensures.passing c.pass_nodes-passed.ensures.until)

pub returns-in-None-clause-nodes : goal.returns-in-None-clause-nodes
returns-in-None-clause-nodes g c = passing-stays node_number _ _ _ _ _ _ _ c.pass_nodes-passed.ensures.passing

pub returns-in-None-clause-until : goal.returns-in-None-clause-until
returns-in-None-clause-until g c =
    nodes-passed c.args.indexes.now.config c.args.indexes.now.states _ _ _ _ _ _ _ _ c.pass_nodes-passed.ensures.passing c.pass_nodes-passed.ensures.until

-- where it stopped at none
none : (leaves : Node → Bool) (ns : List Node) (last most stayed share : ℕ) (o : Option NodeTally) → o ≡ None
    → StopsWalkAt node_number leaves ns last most stayed share (option_map (λ (u : NodeTally). u.node) o) → StopsWalkAt node_number leaves ns last most stayed share None
none leaves ns last most stayed share o q h = subst (λ (p : Option NodeTally). StopsWalkAt node_number leaves ns last most stayed share (option_map (λ (u : NodeTally). u.node) p)) q h

pub returns-in-None-clause-examined : goal.returns-in-None-clause-examined
returns-in-None-clause-examined g c =
    let k = c.pass_nodes-passed.result in
    passing-examined node_number _ _ _ _ _ _ _ c.pass_nodes-passed.ensures.passing
    (none (is_over c.args.indexes.now.config c.args.indexes.now.states c.args.now) c.args.indexes.now.nodes k.last c.args.round.mark k.stayed c.args.share k.leaver c.in-None.is c.pass_nodes-passed.ensures.leaver)
