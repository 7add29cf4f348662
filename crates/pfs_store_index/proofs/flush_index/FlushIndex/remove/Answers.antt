-- Answers of FlushIndex::remove: the pairs of the state are filed no more (`filed`).
use Rattle.std.proofs.Common.{subst, sym}
use Rattle.pfs_conf_values.specs.declared.profiles.Profile.{Profile}
use Rattle.pfs_store_index.specs.Filed.{LosesFiled}
use Rattle.pfs_store_index.proofs.Filings.{ends-lose, source-loses}
use Rattle.pfs_store_index.proofs.flush_index.FlushIndex.remove.Goals as goal

pub returns-in-Own-clause-filed : goal.returns-in-Own-clause-filed
returns-in-Own-clause-filed c =
    subst (λ (q : Profile). LosesFiled q c.args.state.now c.args.self.now (record { first = c.remove.new.self; second = c.args.self.now.second })) (sym c.in-Own.is)
    (source-loses c.args.state.now c.args.self.now (record { first = c.remove.new.self; second = c.args.self.now.second }) c.of.result c.of.ensures.value c.remove.ensures.updates.0)

pub returns-in-OpenBsd74-clause-filed : goal.returns-in-OpenBsd74-clause-filed
returns-in-OpenBsd74-clause-filed c =
    subst (λ (q : Profile). LosesFiled q c.args.state.now c.args.self.now (record { first = c.remove-in-OpenBsd74.new.self; second = c.remove-in-OpenBsd74-2.new.self })) (sym c.in-OpenBsd74.is)
    (ends-lose c.args.state.now c.args.self.now (record { first = c.remove-in-OpenBsd74.new.self; second = c.remove-in-OpenBsd74-2.new.self }) c.of-in-OpenBsd74.result c.of-in-OpenBsd74-2.result
    c.of-in-OpenBsd74.ensures.value c.of-in-OpenBsd74-2.ensures.value c.remove-in-OpenBsd74.ensures.updates.0 c.remove-in-OpenBsd74-2.ensures.updates.0)
