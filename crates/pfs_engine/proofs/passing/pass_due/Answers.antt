-- Answers of pass_due: two slices for each second since the last moment, each within its share (`work`).
use Rattle.std.proofs.Common.{◌∙◌, ap, arith, if◌then◌else◌, sym}
use Rattle.std.proofs.lemmas.List.FromFn.{length-range_with_len}
use Rattle.pfs_store_contract.specs.Seconds.{most_states, seconds}
use Rattle.pfs_store_contract.specs.declared.records.Purged.{Purged}
use Rattle.pfs_engine_machine.proofs.Shares.{most_nodes-share, most_states-share}
use Rattle.pfs_engine.specs.declared.works.Work.{Work}
use Rattle.pfs_engine.proofs.passing.pass_due.Goals as goal

pub returns-in-Some-2-clause-work : goal.returns-in-Some-2-clause-work
returns-in-Some-2-clause-work g c =
    let conf = c.args.held.now.config in
    let w = c.args.held.now.held.world in
    let due = seconds c.in-Some-2.last c.args.now in
    let done = c.pass-purged.ensures.answer in
    let states = ap (λ (p : Purged). p.most_states) done in
    let nodes = ap (λ (p : Purged). p.most_nodes) done in
    let looks = ap (λ (p : Purged). p.looks) done in
    rw c.in-Some-2.is (record {
      slices = rw length-range_with_len;
      most_states = states;
      most_nodes = nodes;
      states_share = omega (arith, states, most_states-share conf w due);
      nodes_share = omega (arith, nodes, most_nodes-share conf w due);
      visits = ap (λ (x : Work). x.visits) c.none-in-Some-2.ensures;
      looks = λ on. looks ∙ ap (λ b. if b then most_states conf w due else 0) on ∙ sym states;
      uncounted = λ off. looks ∙ ap (λ b. if b then most_states conf w due else 0) off;
    })
