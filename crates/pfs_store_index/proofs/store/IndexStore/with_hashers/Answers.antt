-- Answer of IndexStore::with_hashers: with nothing held, no number was used.
use Rattle.std.proofs.Common.{rules}
use Rattle.pfs_store_index.proofs.store.IndexStore.with_hashers.Goals as goal

pub invariant_of-result : goal.invariant_of-result
invariant_of-result g c =
    rw c.in_ok-new.ensures
    (record {
      order = search rules;
      mark_made = search rules;
      node_order = search rules;
      node_mark_made = search rules;
      few = search rules;
      numbered = search rules;
      node_numbered = search rules;
      places = search rules;
      unread = search rules;
    })
