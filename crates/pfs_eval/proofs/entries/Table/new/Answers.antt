-- Answer of Table::new: without an entry no length is noted.
use Rattle.std.proofs.Common.{List, [], subst, sym}
use Rattle.pfs_eval.specs.Entries.{Entry}
use Rattle.pfs_eval.specs.Holdings.{AreEntriesKept}
use Rattle.pfs_eval.specs.declared.lengths.Lengths.{Lengths}
use Rattle.pfs_eval.proofs.Narrowest.{kept-none}
use Rattle.pfs_eval.proofs.entries.Table.new.Goals as goal

pub invariant_of-result : goal.invariant_of-result
invariant_of-result c =
    subst (λ (es : List Entry). AreEntriesKept es c.none.result c.of_all.result c.none-2.result) (sym c.with_hasher.ensures.empty)
    (subst (λ (l : Lengths). AreEntriesKept [] l c.of_all.result c.none-2.result) (sym c.none.ensures) (kept-none c.of_all.result c.none-2.result (c.none-2.ensures [])))
