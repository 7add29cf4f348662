-- Answers of IndexStore's purge_seconds: at the end all seconds are done.
use Rattle.std.proofs.Common.{◌≡◌, ◌∙◌, ap, arith, refl, sym, true}
use Rattle.pfs_store_contract.specs.Passages.{done_after, done_of}
use Rattle.pfs_store_contract.specs.Seconds.{purged_of, seconds, world_after_purges}
use Rattle.pfs_store_contract.specs.declared.records.Purged.{Purged}
use Rattle.pfs_store_contract.proofs.Passages.{all-done}
use Rattle.pfs_store_index.proofs.store.IndexStoreStore.purge_seconds.Goals as goal

pub loop-at-init : goal.loop-at-init
loop-at-init g c = record {
  order = c.requires.order;
  left = ap (λ (p : Purged). done_after true c.args.self.now.config (done_of c.args.self.now.world p) (seconds c.args.from c.args.to)) c.none.ensures;
  known = record {
    states = c.states_known.ensures c.none.result.most_states;
    nodes = c.nodes_known.ensures c.none.result.most_nodes;
    looks = ap (λ (p : Purged). p.looks) c.none.ensures ∙ sym (ap (λ (p : Purged). p.most_states) c.none.ensures);
  };
  same = refl;
}

all : (g : _) (c : goal.After-result-1 g)
    → (c.loop-at.self.world ≡ world_after_purges c.args.self.now.config c.args.self.now.world (seconds c.args.from c.args.to))
    × (c.loop-at.at.purged ≡ purged_of true c.args.self.now.config c.args.self.now.world (seconds c.args.from c.args.to))
all g c =
    let i = c.loop-at.invariant in
    all-done true c.args.self.now.config c.args.self.now.world c.loop-at.self.world c.loop-at.at.purged c.loop-at.at.second c.args.to _ i.order (omega (arith, c.loop-at-test.false)) i.left

pub returns-clause-world : goal.returns-clause-world
returns-clause-world g c = (all g c).0

pub returns-clause-answer : goal.returns-clause-answer
returns-clause-answer g c = (all g c).1
