-- The line of a table. (pf.conf(5), TABLES; its form is own)
use Rattle.std.specs.Prelude.{ℕ, Bool, true, false, List, [], ◌++◌, Option, Some, None, codes, map, slice_get}
use Rattle.pfs_conf_values.specs.Entries.{TextEntry}
use Rattle.pfs_conf_values.specs.declared.filters.TableNo.{TableNo}
use Rattle.pfs_conf_values.specs.declared.tables.TableDef.{TableDef}
use Rattle.pfs_conf_show.specs.Pieces.{bracketed_list, not_text, prefix_text}

-- the name of a table of a list
abbrev pub name_in : Option TableDef → List ℕ
name_in None = []
name_in (Some t) = t.name

-- `<t>`
abbrev pub angled_name : List ℕ → List ℕ
angled_name name = codes "<" ++ (name ++ codes ">")

-- a table of a number, by its name
abbrev pub table_ref : List TableDef → TableNo → List ℕ
table_ref tables table = angled_name (name_in (slice_get tables table.0))

-- an entry: a prefix, with `!` where it is negated
abbrev pub entry_text : TextEntry → List ℕ
entry_text e = not_text e.1 ++ prefix_text e.0

abbrev pub const_text : Bool → List ℕ
const_text true = codes " const"
const_text false = []

-- `table <t> const { e, e }`: the word only where the table is const, the braces only where it has entries
abbrev pub table_text : TableDef → List ℕ
table_text t =
    codes "table " ++ (angled_name t.name ++ (const_text t.is_const
    ++ (bracketed_list (codes " { ") (codes " }") (map entry_text t.entries) ++ codes "\n")))
