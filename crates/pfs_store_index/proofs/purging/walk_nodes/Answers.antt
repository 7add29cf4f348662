-- Answers of walk_nodes: one stretch more, and at the end that the share was examined and which nodes stay.
use Rattle.std.proofs.Common.{◌≡◌, ◌∙◌, List, refl, ap, subst, filter, length, take, arith}
use Rattle.pfs_conf_values.specs.Configs.{Conf}
use Rattle.pfs_store_contract.specs.Purging.{is_over, node_numbers, node_stays}
use Rattle.pfs_store_index.specs.QuietPurges.{NodeStays}
use Rattle.pfs_store_contract.specs.declared.records.State.{State}
use Rattle.pfs_store_index.specs.Rounds.{nodes_survive, waiting}
use Rattle.pfs_store_index.specs.Staying.{NodesHold}
use Rattle.pfs_store_index.proofs.Retained.{node_number}
use Rattle.pfs_store_index.proofs.RisingWalks.{examined-dropped, examined-taken, stays-none}
use Rattle.pfs_store_index.proofs.Stretches.{examined-more, examined-none, stretch-more}
use Rattle.pfs_store_index.proofs.Untils.{hold-more, hold-none, less_kept}
use Rattle.pfs_store_index.proofs.purging.walk_nodes.Goals as goal

pub loop-done-init : goal.loop-done-init
loop-done-init g c = rw c.none-done.ensures (record {
  config = refl;
  kept = refl;
  held = c.node_count-held.ensures;
  order = c.requires.order;
  examined = examined-none c.args.share (waiting c.args.round.cursor c.args.round.mark (node_numbers c.args.indexes.now.nodes));
  nodes = stays-none node_number (is_over c.args.indexes.now.config c.args.indexes.now.states c.args.now) c.args.indexes.now.nodes;
  until = hold-none node_number (NodeStays c.args.indexes.now.config c.args.indexes.now.states) _ c.args.indexes.now.nodes;
  looks = omega arith;
})

pub loop-done-preserved : goal.loop-done-preserved
loop-done-preserved g c =
    let i = c.loop-done.invariant in
    let done = c.loop-done.done in
    let conf = c.args.indexes.now.config in
    let xs = c.args.indexes.now.states in
    let ws = waiting c.args.round.cursor c.args.round.mark (node_numbers c.args.indexes.now.nodes) in
    let zs = waiting done.cursor c.args.round.mark (node_numbers c.loop-done.indexes.nodes) in
    let leaves = is_over conf xs c.args.now in
    let f = c.examine_nodes-next.ensures in
    let more = c.examine_nodes-next.result in
    let ns' = c.examine_nodes-next.new.indexes.nodes in
    let e : ns' ≡ filter (nodes_survive leaves (take more.examined zs)) c.loop-done.indexes.nodes =
    f.nodes ∙ (λ j. filter (nodes_survive (is_over (i.config j) (i.kept j) c.args.now) (take more.examined zs)) c.loop-done.indexes.nodes) in
    rw c.then-done.ensures (record {
      config = f.config ∙ i.config;
      kept = f.states ∙ i.kept;
      held = i.held;
      order = f.order;
      examined = examined-more c.args.share done.examined more.examined done.left more.left ws zs (waiting more.cursor c.args.round.mark (node_numbers ns')) c.loop-done-test.true i.examined f.examined;
      nodes = stretch-more node_number leaves done.examined more.examined ws zs c.args.indexes.now.nodes c.loop-done.indexes.nodes ns' i.nodes i.examined.rest e;
      until =
          hold-more node_number (NodeStays conf xs) (less_kept conf xs) done.examined more.examined done.until more.until ws zs _ c.loop-done.indexes.nodes ns' i.examined.rest e i.until
          (subst (λ (ys : List State). NodesHold conf ys (take more.examined zs) more.until ns') i.kept
          (subst (λ (k : Conf). NodesHold k c.loop-done.indexes.states (take more.examined zs) more.until ns') i.config f.until));
      looks = omega (arith, f.looks, i.looks);
    })

-- all that the share allows are examined
all : (g : _) (c : goal.After-steps g) → c.loop-done.done.examined ≡ length (take c.args.share (waiting c.args.round.cursor c.args.round.mark (node_numbers c.args.indexes.now.nodes)))
all g c = c.loop-done.invariant.examined.ends (omega (arith, c.loop-done-test.false))

pub returns-clause-examined : goal.returns-clause-examined
returns-clause-examined g c = rw c.steps.ensures (all g c)

pub returns-clause-nodes : goal.returns-clause-nodes
returns-clause-nodes g c =
    let ws = waiting c.args.round.cursor c.args.round.mark (node_numbers c.args.indexes.now.nodes) in
    c.loop-done.invariant.nodes
    ∙ ap (λ zs. filter (node_stays c.args.indexes.now.config c.args.indexes.now.states c.args.now zs) c.args.indexes.now.nodes) (examined-taken _ c.args.share ws (all g c))

pub returns-clause-waiting : goal.returns-clause-waiting
returns-clause-waiting g c =
    let ws = waiting c.args.round.cursor c.args.round.mark (node_numbers c.args.indexes.now.nodes) in
    rw c.steps.ensures (c.loop-done.invariant.examined.rest ∙ examined-dropped _ c.args.share ws (all g c))

pub returns-clause-until : goal.returns-clause-until
returns-clause-until g c =
    let ws = waiting c.args.round.cursor c.args.round.mark (node_numbers c.args.indexes.now.nodes) in
    rw c.steps.ensures (subst (λ ns. NodesHold c.args.indexes.now.config c.args.indexes.now.states ns c.loop-done.done.until c.loop-done.indexes.nodes)
    (examined-taken _ c.args.share ws (all g c)) c.loop-done.invariant.until)
