-- Answers of IndexStore::go_on: a second more is done, or all that are quiet; what is left comes to the same (`left`).
use Rattle.std.proofs.Common.{◌<◌, ◌∙◌, ap, arith, sym, true}
use Rattle.pfs_store_contract.specs.Passages.{done_after, done_of}
use Rattle.pfs_store_contract.specs.Seconds.{seconds}
use Rattle.pfs_store_contract.specs.declared.records.Purged.{Purged}
use Rattle.pfs_store_contract.proofs.Passages.{one-done}
use Rattle.pfs_store_index.proofs.Quieting.{passed-left}
use Rattle.pfs_store_index.proofs.store.IndexStore.go_on.Goals as goal

pub returns-then-quiet-eq0-clause-left : goal.returns-then-quiet-eq0-clause-left
returns-then-quiet-eq0-clause-left g c =
    let s = c.args.self.now in
    let done = c.purge_second in
    ap (λ n. done_after true s.config (done_of done.new.self.world done.result.purged) (seconds n c.args.to)) done.ensures.second
    ∙ one-done true s.config s.world done.new.self.world c.args.at.purged done.result.purged c.args.at.second c.args.to c.requires.order done.ensures.world done.ensures.purged

pub returns-else-quiet-eq0-clause-left : goal.returns-else-quiet-eq0-clause-left
returns-else-quiet-eq0-clause-left g c =
    let s = c.args.self.now in
    let quiet = c.quiet_seconds-quiet in
    let some : 0 < quiet.result = omega (arith, c.if-quiet-eq0.false) in
    let done = c.pass_over in
    passed-left s.config s.world done.new.self.world c.args.at done.result.purged quiet.result done.result.second c.args.to some done.ensures.world done.ensures.purged done.ensures.second quiet.ensures.order
    (quiet.ensures.states some) (quiet.ensures.nodes some) done.ensures.fits.0 done.ensures.fits.1 c.requires.passage

pub returns-else-quiet-eq0-clause-passage : goal.returns-else-quiet-eq0-clause-passage
returns-else-quiet-eq0-clause-passage g c =
    let done = c.pass_over in
    record {
      states = done.ensures.states done.result.purged.most_states;
      nodes = done.ensures.nodes done.result.purged.most_nodes;
      looks = ap (λ (p : Purged). p.looks) done.ensures.purged ∙ c.requires.passage.looks ∙ sym (ap (λ (p : Purged). p.most_states) done.ensures.purged);
    }
