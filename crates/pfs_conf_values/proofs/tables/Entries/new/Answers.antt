-- Answer of Entries::new: where there are no entries, all are prefixes and no two the same.
use Rattle.std.proofs.Common.{[], arith, subst, sym}
use Rattle.std.specs.List.{IsDistinct}
use Rattle.pfs_conf_values.specs.Entries.{AreEntries}
use Rattle.pfs_conf_values.proofs.tables.Entries.new.Goals as goal

none : AreEntries []
unfolding IsDistinct
none = record { networks = λ k d l. absurd (omega arith); distinct = tt }

pub of-requires : goal.of-requires
of-requires c = subst (λ entries. AreEntries entries) (sym c.new.ensures.items) none
