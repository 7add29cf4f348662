-- What became of the source of killed states in an overload table, without the names of its cases.
use Rattle.std.specs.Prelude.{Option, Some, None}
use Rattle.pfs_eval.specs.declared.tables.Added.{Added}
use Rattle.pfs_eval.specs.declared.tables.Added.TheVariants as added

-- none where the rule has no overload table
abbrev pub Addition : Type 0
Addition = Option Added

-- one of four values: where the source was added, was held, did not fit, or there is no table
abbrev pub value_of_addition : {A : Type 0} → A → A → A → A → Addition → A
value_of_addition new held full none (Some added.New) = new
value_of_addition new held full none (Some added.AlreadyThere) = held
value_of_addition new held full none (Some added.Full) = full
value_of_addition new held full none None = none
