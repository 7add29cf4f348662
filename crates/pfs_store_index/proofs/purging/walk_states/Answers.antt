-- Answers of walk_states: one stretch more, and at the end which states stay (`states`) and still wait.
use Rattle.std.proofs.Common.{◌≡◌, ◌∙◌, ap, refl, subst, filter, length, take, map, arith}
use Rattle.pfs_store_contract.specs.Leaving.{node_after_leaving}
use Rattle.pfs_store_contract.specs.Purging.{state_numbers}
use Rattle.pfs_store_index.specs.Rounds.{states_survive, waiting}
use Rattle.pfs_store_index.specs.Stored.{due_at, is_due}
use Rattle.pfs_store_index.specs.Staying.{StatesHold}
use Rattle.pfs_conf_values.specs.Configs.{Conf}
use Rattle.pfs_store_contract.proofs.LeavingLaws.{retained-same}
use Rattle.pfs_store_index.proofs.Retained.{step-nodes}
use Rattle.pfs_store_index.proofs.Leavings.{state_number}
use Rattle.pfs_store_index.proofs.Storing.{due-hold, due-stays}
use Rattle.pfs_store_index.proofs.Untils.{StaysTo, hold-more, hold-none, less_stays}
use Rattle.pfs_store_index.proofs.Stretches.{examined-more, examined-none, stretch-more}
use Rattle.pfs_store_index.proofs.RisingWalks.{examined-dropped, examined-taken, stays-none, stays_by}
use Rattle.pfs_store_index.proofs.purging.walk_states.Goals as goal

pub loop-done-init : goal.loop-done-init
loop-done-init g c = rw c.none-done.ensures (record {
  config = refl;
  held = c.state_count-held.ensures;
  order = c.requires.order;
  examined = examined-none c.args.share (waiting c.args.round.cursor c.args.round.mark (state_numbers c.args.indexes.now.states));
  states = stays-none state_number (is_due c.args.indexes.now.config c.args.counts.now (length c.args.indexes.now.states) c.args.now) c.args.indexes.now.states;
  nodes = retained-same c.args.indexes.now.config c.args.indexes.now.states c.args.now c.args.indexes.now.nodes;
  until = hold-none state_number (StaysTo (due_at c.args.indexes.now.config c.args.counts.now (length c.args.indexes.now.states))) _ c.args.indexes.now.states;
  looks = omega arith;
})

pub loop-done-preserved : goal.loop-done-preserved
loop-done-preserved g c =
    let i = c.loop-done.invariant in
    let done = c.loop-done.done in
    let conf = c.args.indexes.now.config in
    let held = length c.args.indexes.now.states in
    let ws = waiting c.args.round.cursor c.args.round.mark (state_numbers c.args.indexes.now.states) in
    let zs = waiting done.cursor c.args.round.mark (state_numbers c.loop-done.indexes.states) in
    let leaves = is_due conf c.args.counts.now held c.args.now in
    let f = c.examine-next.ensures in
    let more = c.examine-next.result in
    let xs' = c.examine-next.new.indexes.states in
    let e : xs' ≡ filter (states_survive leaves (take more.examined zs)) c.loop-done.indexes.states =
    f.states ∙ (λ j. filter (states_survive (is_due (i.config j) c.args.counts.now (i.held j) c.args.now) (take more.examined zs)) c.loop-done.indexes.states) in
    let m : c.examine-next.new.indexes.nodes ≡ map (node_after_leaving conf c.loop-done.indexes.states xs' c.args.now) c.loop-done.indexes.nodes =
    f.nodes ∙ (λ j. map (node_after_leaving (i.config j) c.loop-done.indexes.states xs' c.args.now) c.loop-done.indexes.nodes) in
    rw c.then-done.ensures (record {
      config = f.config ∙ i.config;
      held = i.held;
      order = f.order;
      examined = examined-more c.args.share done.examined more.examined done.left more.left ws zs (waiting more.cursor c.args.round.mark (state_numbers xs')) c.loop-done-test.true i.examined f.examined;
      states = stretch-more state_number leaves done.examined more.examined ws zs c.args.indexes.now.states c.loop-done.indexes.states xs' i.states i.examined.rest e;
      nodes = step-nodes conf (stays_by state_number leaves (take done.examined ws)) (states_survive leaves (take more.examined zs)) c.args.now c.args.indexes.now.states c.loop-done.indexes.states xs' c.args.indexes.now.nodes c.loop-done.indexes.nodes _ i.states e i.nodes m;
      until =
          let k = subst (λ (k : Conf). StatesHold (due_at k c.args.counts.now c.state_count-held.result) (take more.examined zs) more.until xs') i.config f.until in
          hold-more state_number (StaysTo (due_at conf c.args.counts.now held)) (less_stays (due_at conf c.args.counts.now held)) done.examined more.examined done.until more.until ws zs _
          c.loop-done.indexes.states xs' i.examined.rest e i.until
          (subst (λ n. StatesHold (due_at conf c.args.counts.now n) (take more.examined zs) more.until xs') i.held k);
      looks = omega (arith, f.looks, i.looks);
    })

-- all that the share allows are examined
all : (g : _) (c : goal.After-steps g) → c.loop-done.done.examined ≡ length (take c.args.share (waiting c.args.round.cursor c.args.round.mark (state_numbers c.args.indexes.now.states)))
all g c = c.loop-done.invariant.examined.ends (omega (arith, c.loop-done-test.false))

pub returns-clause-examined : goal.returns-clause-examined
returns-clause-examined g c = rw c.steps.ensures (all g c)

pub returns-clause-states : goal.returns-clause-states
returns-clause-states g c =
    let ws = waiting c.args.round.cursor c.args.round.mark (state_numbers c.args.indexes.now.states) in
    let conf = c.args.indexes.now.config in
    let xs = c.args.indexes.now.states in
    c.loop-done.invariant.states ∙ ap (λ zs. filter (stays_by state_number (is_due conf c.args.counts.now (length xs) c.args.now) zs) xs) (examined-taken _ c.args.share ws (all g c))
    ∙ due-stays conf c.args.counts.now xs c.args.now (take c.args.share ws) xs c.requires.counts c.requires.unread

pub returns-clause-waiting : goal.returns-clause-waiting
returns-clause-waiting g c =
    let ws = waiting c.args.round.cursor c.args.round.mark (state_numbers c.args.indexes.now.states) in
    rw c.steps.ensures (c.loop-done.invariant.examined.rest ∙ examined-dropped _ c.args.share ws (all g c))

pub returns-clause-until : goal.returns-clause-until
returns-clause-until g c =
    let ws = waiting c.args.round.cursor c.args.round.mark (state_numbers c.args.indexes.now.states) in
    let conf = c.args.indexes.now.config in
    let xs = c.args.indexes.now.states in
    rw c.steps.ensures (due-hold conf c.args.counts.now xs (take c.args.share ws) c.loop-done.done.until c.loop-done.indexes.states c.requires.counts c.requires.unread
    (subst (λ ns. StatesHold (due_at conf c.args.counts.now (length xs)) ns c.loop-done.done.until c.loop-done.indexes.states) (examined-taken _ c.args.share ws (all g c)) c.loop-done.invariant.until))
