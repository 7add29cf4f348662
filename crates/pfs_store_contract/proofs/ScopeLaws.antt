-- The test of two scopes of source nodes decides whether they are the same.
use Rattle.std.proofs.Common.{◌≡◌, true, rules}
use Rattle.pfs_store_contract.specs.Counts.{same_scope}
use Rattle.pfs_store_contract.specs.declared.records.NodeScope.{NodeScope}

pub same_scope_true : (a b : NodeScope) → same_scope a b ≡ true → a ≡ b
same_scope_true a b h = search rules

pub same_scope_self : (a : NodeScope) → same_scope a a ≡ true
same_scope_self a = search rules
