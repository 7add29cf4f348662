-- Invariant of Tables::new: the tables so far have the entries that the configuration says.
use Rattle.std.proofs.Common.{◌≡◌, map, take}
use Rattle.pfs_conf_values.specs.declared.tables.TableDef.{TableDef}
use Rattle.pfs_eval.specs.Entries.{entry_of_text}
use Rattle.pfs_eval.proofs.OneTableChanged.{entries_of}
use Rattle.pfs_eval.proofs.tables.Tables.new.Given as goal

abbrev pub invariant-loop-number : goal.invariant-loop-number
invariant-loop-number l = entries_of l.tables.items ≡ map (λ (t : TableDef). map entry_of_text t.entries) (take l.number l.config.tables)
