-- Answers of purge_seconds as a kind of store has it that says no other: a second more is done, and at the end all are.
use Rattle.std.proofs.Common.{◌≡◌, ◌+◌, ◌∙◌, arith, max}
use Rattle.pfs_store_contract.specs.Seconds.{purged_of, seconds, world_after_purges}
use Rattle.pfs_store_contract.proofs.Passages.{all-done, next-done, purged_with, second-done}
use Rattle.pfs_store_contract.proofs.store.Store.purge_seconds.Goals as goal

pub loop-second-preserved : goal.loop-second-preserved
loop-second-preserved g c =
    let i = c.loop-second.invariant in
    let counts = g.Self.Store.counts in
    let held = g.Self.Store.world in
    let conf = g.Self.Store.config in
    let first = conf c.args.self.now in
    let w = held c.loop-second.self in
    let states = c.purge_states-states in
    let nodes = c.purge_nodes-nodes in
    let done = second-done counts first (conf c.loop-second.self) (conf states.new.self) w (held states.new.self) (held nodes.new.self) (c.loop-second.second + 1) states.result nodes.result
    c.new-looks.result states.new.meter c.new-node_looks.result nodes.new.meter i.same states.ensures.config states.ensures.world nodes.ensures.world states.ensures.answer nodes.ensures.answer
    c.new-looks.ensures states.ensures.looks states.ensures.uncounted c.new-node_looks.ensures nodes.ensures.looks nodes.ensures.uncounted in
    let told = c.of_slices-done.ensures ∙ (λ j. purged_with (c.count.ensures j) states.result.examined (max nodes.result.examined (c.count-in-loop-second.ensures j))) ∙ done.1 in
    let next = next-done counts first w _ c.loop-second.purged c.of_slices-done.result _ c.loop-second.second _ c.args.to c.loop-second-test.true done.0 told c.greatest-purged.ensures
    c.second_after-second.ensures in
    record { order = next.1; left = next.2 ∙ i.left; same = nodes.ensures.config ∙ states.ensures.config ∙ i.same }

all : (g : _) (c : goal.After-loop-second g)
    → (g.Self.Store.world c.loop-second.self ≡ world_after_purges (g.Self.Store.config c.args.self.now) (g.Self.Store.world c.args.self.now) (seconds c.args.from c.args.to))
    × (c.loop-second.purged ≡ purged_of g.Self.Store.counts (g.Self.Store.config c.args.self.now) (g.Self.Store.world c.args.self.now) (seconds c.args.from c.args.to))
all g c =
    all-done g.Self.Store.counts (g.Self.Store.config c.args.self.now) (g.Self.Store.world c.args.self.now) _ c.loop-second.purged c.loop-second.second c.args.to _ c.loop-second.invariant.order
    (omega (arith, c.loop-second-test.false)) c.loop-second.invariant.left

pub returns-clause-world : goal.returns-clause-world
returns-clause-world g c = (all g c).0

pub returns-clause-answer : goal.returns-clause-answer
returns-clause-answer g c = (all g c).1
