-- Answer of ApartKeys::get: where nothing lies aside, nothing does for this number.
use Rattle.std.proofs.Common.{◌∙◌, ap, sym}
use Rattle.std.specs.BTreeMap.{is_at}
use Rattle.std.specs.Map.{lookup}
use Rattle.std.specs.Ordering.{nat_cmp}
use Rattle.pfs_store_records.proofs.Joining.{none-lies}
use Rattle.pfs_store_records.proofs.apart_keys.ApartKeys.get.Goals as goal

pub returns-then-is_empty : goal.returns-then-is_empty
returns-then-is_empty c =
    sym (ap (lookup (is_at (nat_cmp c.args.number))) (none-lies c.self.inside.by_number.entries (c.is_empty.ensures.0 c.if-is_empty.true))) ∙ ap (lookup (is_at (nat_cmp c.args.number))) c.self.view_is
