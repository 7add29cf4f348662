-- The tables that a text has named so far: their numbers, and which of them are defined.
use Rattle.std.specs.Prelude.{ℕ, Bool, true, false, if◌then◌else◌, List, [], ◌∷◌, ◌++◌, min, slice_index_or, slice_set}
use Rattle.std.specs.List.{list_any, position_or_len}
use Rattle.std.specs.Str.{bytes_eq}
use Rattle.pfs_conf_values.specs.Configs.{table_names}
use Rattle.pfs_conf_values.specs.declared.tables.TableDef.{TableDef}

-- the tables that a text has named so far, by their numbers, and which of them it has defined
pub record Named : Type 0 where
  pub tables : List TableDef
  pub defined : List Bool

-- whether a table is named
abbrev pub is_named : List ℕ → List TableDef → Bool
is_named name tables = list_any (bytes_eq name) (table_names tables)

-- the place of the table of a name; of a new name the place that it gets: the next
abbrev pub place_in : List ℕ → List TableDef → ℕ
place_in name tables = position_or_len (bytes_eq name) (table_names tables)

-- the number of the table at a place is that place, as far as numbers of 32 bits go. No configuration has more tables: its limit
-- on tables is at most 4294967295
abbrev pub table_number : ℕ → ℕ
table_number place = min place 4294967295

-- a table that is named and not defined: one without entries
abbrev pub undefined_table : List ℕ → TableDef
undefined_table name = record { name = name; is_const = false; entries = [] }

-- a name is used: if it is new, there is one more table, which is not defined
abbrev pub naming : List ℕ → Named → Named
naming name n =
    if is_named name n.tables then n
    else record { tables = n.tables ++ undefined_table name ∷ []; defined = n.defined ++ false ∷ [] }

-- whether the table of a name is defined
abbrev pub is_defined_in : List ℕ → Named → Bool
is_defined_in name n = slice_index_or n.defined (place_in name n.tables) false

-- a table takes the place of one of that number, and is defined
abbrev pub defined_at : ℕ → TableDef → Named → Named
defined_at number t n = record { tables = slice_set n.tables number t; defined = slice_set n.defined number true }

-- a table is defined (pf.conf(5), TABLES)
abbrev pub defining : TableDef → Named → Named
defining t n = defined_at (place_in t.name n.tables) t (naming t.name n)
