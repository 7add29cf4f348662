-- Room in a rule's overload table, made before a packet changes anything. (not promised)
use Rattle.std.specs.Prelude.{ℕ, ◌≡◌, ◌≤◌, ◌<◌, ◌⊎◌, true, Option, length}
use Rattle.std.specs.Option.{ForSome}
use Rattle.pfs_eval.specs.Holdings.{Holdings}
use Rattle.pfs_eval.specs.Tables.{entry_count, has_room}
use Rattle.pfs_conf_values.specs.declared.actions.Overload.{Overload}

-- one more entry fits into a table without memory, or the entries are at their limit
abbrev pub Fits : Holdings → ℕ → Type 0
Fits held table = (has_room held.room table ≡ true) ⊎ (held.limit ≤ entry_count held.entries)

-- a source can be added to the overload table, if there is one, without memory
abbrev pub HasRoomFor : Holdings → Option Overload → Type 0
HasRoomFor held overload = ForSome overload (λ (v : Overload). (v.table.0 < length held.entries) × Fits held v.table.0)
