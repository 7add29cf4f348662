-- Answers of FlushIndex::insert: the pairs of the state are filed (`ok`).
use Rattle.std.proofs.Common.{◌≡◌, ◌∙◌, false, ap, subst, sym}
use Rattle.std.specs.BTreeSet.{contains}
use Rattle.std.proofs.lemmas.Result.{on_ok_weaker}
use Rattle.pfs_addr_values.specs.Addresses.{IsAddr}
use Rattle.pfs_addr_values.specs.declared.packets.Dir.TheVariants as dir
use Rattle.pfs_conf_values.specs.declared.profiles.Profile.{Profile}
use Rattle.pfs_store_index.specs.Filed.{HasFiled, filed_under, ordered_source, pair_cmp, pairs_on}
use Rattle.pfs_store_index.specs.declared.sources.Source.{Source}
use Rattle.pfs_store_index.proofs.Filings.{ends-have, source-has}
use Rattle.pfs_store_index.proofs.flush_index.FlushIndex.insert.Goals as goal

pub returns-in-Own-clause-ok : goal.returns-in-Own-clause-ok
returns-in-Own-clause-ok c =
    on_ok_weaker c.insert_one.result
    (λ h. subst (λ (q : Profile). HasFiled q c.args.state.now c.args.self.now (record { first = c.insert_one.new.pairs; second = c.args.self.now.second })) (sym c.in-Own.is)
    (source-has c.args.state.now c.args.self.now (record { first = c.insert_one.new.pairs; second = c.args.self.now.second }) c.of.result c.of.ensures.value h))
    c.insert_one.ensures.ok

pub insert_both-requires : goal.insert_both-requires
insert_both-requires c =
    let s = c.args.state.now in
    let free = subst (λ (q : Profile). IsAddr (filed_under q dir.In s) → contains pair_cmp (pairs_on q dir.In c.args.self.now) (ordered_source (filed_under q dir.In s), s.number) ≡ false) c.in-OpenBsd74.is (c.requires.absent dir.In) in
    record { absent = ap (λ (o : Source). contains pair_cmp c.args.self.now.first (o, s.number)) c.of-in-OpenBsd74.ensures.value ∙ free c.of-in-OpenBsd74.ensures.addr }

pub returns-in-OpenBsd74-clause-ok : goal.returns-in-OpenBsd74-clause-ok
returns-in-OpenBsd74-clause-ok c =
    on_ok_weaker c.insert_both.result
    (λ h. subst (λ (q : Profile). HasFiled q c.args.state.now c.args.self.now (record { first = c.insert_both.new.first; second = c.insert_both.new.second })) (sym c.in-OpenBsd74.is)
    (ends-have c.args.state.now c.args.self.now (record { first = c.insert_both.new.first; second = c.insert_both.new.second }) c.of-in-OpenBsd74.result c.of-in-OpenBsd74-2.result c.of-in-OpenBsd74.ensures.value c.of-in-OpenBsd74-2.ensures.value h))
    c.insert_both.ensures.ok
