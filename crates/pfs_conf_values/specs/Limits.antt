-- The four limits of `set limit`: their values by name, and those of a text that sets none.
use Rattle.std.specs.Prelude.{ℕ}
use Rattle.pfs_conf_values.specs.declared.limits.LimitName.{LimitName}
use Rattle.pfs_conf_values.specs.declared.limits.LimitName.TheVariants.{States, SrcNodes, Tables, TableEntries}
use Rattle.pfs_conf_values.specs.declared.limits.Limits.{Limits}

-- the value of one limit
abbrev pub limit_value : Limits → LimitName → ℕ
limit_value limits States = limits.states
limit_value limits SrcNodes = limits.src_nodes
limit_value limits Tables = limits.tables
limit_value limits TableEntries = limits.table_entries

-- the limits with one replaced
abbrev pub limits_with : Limits → LimitName → ℕ → Limits
limits_with limits States n = record limits { states = n }
limits_with limits SrcNodes n = record limits { src_nodes = n }
limits_with limits Tables n = record limits { tables = n }
limits_with limits TableEntries n = record limits { table_entries = n }

-- the limits of a text that sets none (own)
abbrev pub default_limits : Limits
default_limits = record { states = 100000; src_nodes = 10000; tables = 1000; table_entries = 200000 }
