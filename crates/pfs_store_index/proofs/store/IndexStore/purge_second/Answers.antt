-- Answers of IndexStore::purge_second: its two slices are the purge of a second; and what they tell of those to come.
use Rattle.std.proofs.Common.{◌≡◌, ◌+◌, ◌∙◌, ap, max, refl, true}
use Rattle.pfs_store_contract.specs.Passages.{purged_both, purged_in}
use Rattle.pfs_store_contract.specs.Purging.{purge}
use Rattle.pfs_store_contract.proofs.Passages.{purged_with, second-done}
use Rattle.pfs_store_index.proofs.Quieting.{second-known}
use Rattle.pfs_store_index.proofs.store.IndexStore.purge_second.Goals as goal

done : (g : _) (c : goal.After-after-2 g)
    → (c.slice_nodes-nodes.new.self.world ≡ purge c.args.self.now.config c.args.self.now.world (c.args.at.second + 1))
    × (c.of_slices-done.result ≡ purged_in true c.args.self.now.config c.args.self.now.world (c.args.at.second + 1))
done g c =
    let states = c.slice_states-states in
    let nodes = c.slice_nodes-nodes in
    let both = second-done true c.args.self.now.config c.args.self.now.config states.new.self.config c.args.self.now.world states.new.self.world nodes.new.self.world (c.args.at.second + 1) states.result.slice nodes.result.slice
    c.new-looks.result states.new.meter c.new-node_looks.result nodes.new.meter refl states.ensures.config states.ensures.world nodes.ensures.world states.ensures.answer nodes.ensures.answer
    c.new-looks.ensures (λ _. states.ensures.looks) (λ e. absurd cc) c.new-node_looks.ensures (λ _. nodes.ensures.looks) (λ e. absurd cc) in
    (both.0, c.of_slices-done.ensures ∙ (λ j. purged_with (c.count.ensures j) states.result.slice.examined (max nodes.result.slice.examined (c.count-2.ensures j))) ∙ both.1)

pub returns-clause-world : goal.returns-clause-world
returns-clause-world g c = (done g c).0

pub returns-clause-purged : goal.returns-clause-purged
returns-clause-purged g c = c.greatest.ensures ∙ ap (purged_both c.args.at.purged) (done g c).1

pub returns-clause-passage : goal.returns-clause-passage
returns-clause-passage g c =
    let states = c.slice_states-states in
    let nodes = c.slice_nodes-nodes in
    second-known c.args.self.now.config states.new.self.config c.args.self.now.world states.new.self.world nodes.new.self.world (c.args.at.second + 1) (c.args.at.second + 1) c.args.at states.result nodes.result
    c.nodes_behind-known.result c.after.result c.after-2.result c.greatest.result states.ensures.config states.ensures.world states.ensures.answer states.ensures.until states.ensures.over
    nodes.ensures.world nodes.ensures.until nodes.ensures.over c.nodes_behind-known.ensures.same c.nodes_behind-known.ensures.anew (returns-clause-purged g c) c.after.ensures c.after-2.ensures c.requires.passage
