-- Answers of insert_both: where the second set is refused memory, the pair of the first is taken out again.
use Rattle.std.proofs.Common.{rules}
use Rattle.pfs_store_index.specs.Filed.{SamePairs}
use Rattle.pfs_store_index.proofs.SourcePairs.{set-undone}
use Rattle.pfs_store_index.proofs.flush_index.insert_both.Goals as goal

pub returns-in-Err-insert-clause-err : goal.returns-in-Err-insert-clause-err
returns-in-Err-insert-clause-err c =
    let same : SamePairs c.args.second.now c.insert-in-Ok.new.self = search rules in
    (set-undone c.args.a c.args.first.now c.insert.new.self c.remove.new.self c.requires.absent c.in-Ok.ensures.updates.0 c.remove.ensures.updates.0, same)
