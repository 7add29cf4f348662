-- Answers of examine: a stretch of states that stay, and after it one that leaves, or the end of the share.
use Rattle.std.proofs.Common.{◌∙◌, ◌+◌, ◌-◌, ◌≤◌, sym, ap, subst, filter}
use Rattle.pfs_store_contract.specs.Calls.{other_than}
use Rattle.pfs_store_contract.specs.Purging.{state_numbers}
use Rattle.pfs_store_contract.specs.declared.records.State.{State}
use Rattle.pfs_store_index.specs.Rounds.{IsExamined, waiting}
use Rattle.pfs_store_index.specs.Stored.{due_at, is_due}
use Rattle.pfs_store_contract.proofs.LeavingLaws.{retained-same}
use Rattle.pfs_store_index.proofs.Stretches.{IsStretch, stretch-leaves, stretch-stays}
use Rattle.pfs_store_index.proofs.Untils.{hold-leaves, hold-stays}
use Rattle.pfs_store_index.proofs.purging.examine.Goals as goal

stretch : (g : _) (c : goal.After-take_out g)
    → IsStretch (is_due c.args.indexes.now.config c.args.counts.now c.args.held c.args.now) c.args.round.cursor c.args.round.mark c.in-Some.state.number c.args.share
    (c.walk_to_due-walk.result.stayed + 1) (c.args.share - c.walk_to_due-walk.result.stayed - 1) c.args.indexes.now.states c.take_out.new.self.states
stretch g c =
    let k = c.walk_to_due-walk.result in
    let xs = c.args.indexes.now.states in
    stretch-leaves (is_due c.args.indexes.now.config c.args.counts.now c.args.held c.args.now) c.args.round.cursor c.args.round.mark c.args.share k.stayed k.last k.leaver c.in-Some.state xs c.take_out.new.self.states c.in-Some.is c.state_numbers_rise.ensures c.walk_to_due-walk.ensures.walk
    (c.take_out.ensures.states ∙ ap (λ (s : State). filter (other_than s.number) xs) c.in-Some.state-is)

pub returns-in-Some-clause-states : goal.returns-in-Some-clause-states
returns-in-Some-clause-states g c = (stretch g c).stay

pub returns-in-Some-clause-examined : goal.returns-in-Some-clause-examined
returns-in-Some-clause-examined g c =
    let k = c.walk_to_due-walk.result in
    subst (λ (s : State). IsExamined c.args.share (k.stayed + 1) (c.args.share - k.stayed - 1) (waiting c.args.round.cursor c.args.round.mark (state_numbers c.args.indexes.now.states)) (waiting s.number c.args.round.mark (state_numbers c.take_out.new.self.states)))
    (sym c.in-Some.state-is) (stretch g c).part

pub returns-in-Some-clause-order : goal.returns-in-Some-clause-order
returns-in-Some-clause-order g c = subst (λ (s : State). s.number ≤ c.args.round.mark) (sym c.in-Some.state-is) (stretch g c).to

passed : (g : _) (c : goal.In-None g)
    → IsStretch (is_due c.args.indexes.now.config c.args.counts.now c.args.held c.args.now) c.args.round.cursor c.args.round.mark c.walk_to_due-walk.result.last c.args.share
    c.walk_to_due-walk.result.stayed 0 c.args.indexes.now.states c.args.indexes.now.states
passed g c =
    let k = c.walk_to_due-walk.result in
    stretch-stays (is_due c.args.indexes.now.config c.args.counts.now c.args.held c.args.now) c.args.round.cursor c.args.round.mark c.args.share k.stayed k.last k.leaver c.args.indexes.now.states
    c.in-None.is c.walk_to_due-walk.ensures.walk

pub returns-in-None-clause-states : goal.returns-in-None-clause-states
returns-in-None-clause-states g c = (passed g c).stay

pub returns-in-None-clause-examined : goal.returns-in-None-clause-examined
returns-in-None-clause-examined g c = (passed g c).part

pub returns-in-None-clause-nodes : goal.returns-in-None-clause-nodes
returns-in-None-clause-nodes g c = retained-same c.args.indexes.now.config c.args.indexes.now.states c.args.now c.args.indexes.now.nodes

pub returns-in-Some-clause-until : goal.returns-in-Some-clause-until
returns-in-Some-clause-until g c =
    let k = c.walk_to_due-walk.result in
    let xs = c.args.indexes.now.states in
    hold-leaves (due_at c.args.indexes.now.config c.args.counts.now c.args.held) (is_due c.args.indexes.now.config c.args.counts.now c.args.held c.args.now) c.args.round.cursor c.args.round.mark c.args.share k.stayed k.last k.until k.leaver c.in-Some.state xs c.take_out.new.self.states
    c.in-Some.is c.walk_to_due-walk.ensures.walk c.walk_to_due-walk.ensures.until (c.take_out.ensures.states ∙ ap (λ (s : State). filter (other_than s.number) xs) c.in-Some.state-is)

pub returns-in-None-clause-until : goal.returns-in-None-clause-until
returns-in-None-clause-until g c =
    let k = c.walk_to_due-walk.result in
    hold-stays (due_at c.args.indexes.now.config c.args.counts.now c.args.held) (is_due c.args.indexes.now.config c.args.counts.now c.args.held c.args.now) c.args.round.cursor c.args.round.mark c.args.share k.stayed k.last k.until k.leaver c.args.indexes.now.states
    c.walk_to_due-walk.ensures.walk c.walk_to_due-walk.ensures.until
