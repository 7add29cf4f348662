-- The answer of a table for an address, a host or an entry that is added, entries that leave, and room for more.
use Rattle.std.specs.Prelude.{◌≡◌, ◌≤◌, ◌⊎◌, ℕ, ◌+◌, Bool, true, false, not, nat_le, nat_lt, if◌then◌else◌, Option, Some, None, List, [], ◌∷◌, ◌++◌, filter, length, map, unwrap_or, slice_get, slice_set, slice_index}
use Rattle.std.specs.List.{sum_by}
use Rattle.pfs_addr_values.specs.declared.addresses.Addr.{Addr}
use Rattle.pfs_addr_values.specs.Addresses.{width_of}
use Rattle.pfs_addr_values.specs.Prefixes.{network_of}
use Rattle.pfs_conf_values.specs.Configs.{Conf}
use Rattle.pfs_conf_values.specs.declared.tables.TableDef.{TableDef}
use Rattle.pfs_eval.specs.Entries.{Entry, answer_of, entry_of_text, holds_host, is_entry, mark_of, same_sign}
use Rattle.pfs_eval.specs.Holdings.{Holdings}
use Rattle.pfs_eval.specs.declared.entries.Mark.{Mark}
use Rattle.pfs_eval.specs.declared.tables.Added.{Added}
use Rattle.pfs_eval.specs.declared.entries.TableEntry.{TableEntry}
use Rattle.pfs_eval.specs.declared.tables.Added.TheVariants.{New, AlreadyThere, Full}
use Rattle.pfs_eval.specs.declared.tables.Entered.{Entered}
use Rattle.pfs_eval.specs.declared.tables.Entered.TheVariants as entered

-- the entries of the tables of a configuration
abbrev pub config_entries : Conf → List (List Entry)
config_entries conf = map (λ (t : TableDef). map entry_of_text t.entries) conf.tables

-- ---- the answer of a table

-- the entries of a table in order; none where there is no such table
abbrev pub entries_at : List (List Entry) → ℕ → List Entry
entries_at tables t = unwrap_or (slice_get tables t) []

-- the answer of a table for an address: of its entries that cover the address, the one with most bits says; yes if there
-- is one and it is not negated (pf.conf(5), TABLES)
unfoldable pub table_answer : List (List Entry) → ℕ → Addr → Bool
table_answer tables t a = answer_of (entries_at tables t) a

-- how many entries the tables have together
abbrev pub entry_count : List (List Entry) → ℕ
entry_count tables = sum_by (λ (es : List Entry). length es) tables

-- the entries after one was put last into a table
abbrev pub put_last : List (List Entry) → ℕ → Entry → List (List Entry)
put_last tables t e = slice_set tables t (entries_at tables t ++ e ∷ [])

-- ---- a host is added (own)

-- the entry of a single host that is added at a moment
abbrev pub host_entry : Addr → ℕ → Entry
host_entry a now = (network_of a (width_of a), record { negated = false; moment = Some now })

-- what becomes of a host: held where the table has an entry for exactly that host, negated or not; else full where the
-- tables together have as many entries as the limit; else new
abbrev pub added_to : List (List Entry) → ℕ → ℕ → Addr → Added
added_to tables limit t a =
    if holds_host (entries_at tables t) a then AlreadyThere else (if nat_le limit (entry_count tables) then Full else New)

-- the entries after that: a new host is last in its table, and else nothing changes; a host that is held keeps
-- the moment at which it was added
abbrev pub entries_after : List (List Entry) → ℕ → Addr → ℕ → Added → List (List Entry)
entries_after tables t a now New = put_last tables t (host_entry a now)
entries_after tables t a now AlreadyThere = tables
entries_after tables t a now Full = tables

-- ---- an entry is added (pfctl(8), "-T add")

-- the entry that is added at a moment
abbrev pub entry_since : TableEntry → ℕ → Entry
entry_since e now = (e.prefix, record { negated = e.negated; moment = Some now })

-- what becomes of it, by the mark of its prefix in the table and whether the entries are at their limit: held where the sign is
-- the same, a conflict where it is the other; where the prefix is not there full, or new
abbrev pub entered_beside : Option Mark → Bool → Bool → Entered
entered_beside (Some m) negated full = if same_sign m.negated negated then entered.AlreadyThere else entered.Conflict
entered_beside None negated full = if full then entered.Full else entered.New

abbrev pub entered_to : List (List Entry) → ℕ → ℕ → TableEntry → Entered
entered_to tables limit t e = entered_beside (mark_of (entries_at tables t) e.prefix) e.negated (nat_le limit (entry_count tables))

-- the entries after that: a new one is last in its table, and else nothing changes
abbrev pub entries_entered : List (List Entry) → ℕ → TableEntry → ℕ → Entered → List (List Entry)
entries_entered tables t e now entered.New = put_last tables t (entry_since e now)
entries_entered tables t e now entered.AlreadyThere = tables
entries_entered tables t e now entered.Conflict = tables
entries_entered tables t e now entered.Full = tables

-- ---- an entry is taken out (pfctl(8), "-T delete")

-- the entries of the tables without that very one of a table, the others in their order
abbrev pub entries_without : List (List Entry) → ℕ → TableEntry → List (List Entry)
entries_without tables t e = slice_set tables t (filter (λ (x : Entry). not (is_entry e x)) (entries_at tables t))

-- how many leave: one, or none
abbrev pub deleted_count : List (List Entry) → ℕ → TableEntry → ℕ
deleted_count tables t e = length (filter (is_entry e) (entries_at tables t))

-- ---- entries expire (pfctl(8), "-T expire"; which moments count is own)

-- an entry was added so many seconds ago, or before that. For one that the rules text says the first moment counts
abbrev pub is_old : ℕ → ℕ → ℕ → Mark → Bool
is_old first now seconds m = nat_le (unwrap_or m.moment first + seconds) now

-- the entries of a table that are not so old, in their order
abbrev pub young : ℕ → ℕ → ℕ → List Entry → List Entry
young first now seconds es = filter (λ (e : Entry). not (is_old first now seconds e.1)) es

-- how many are so old
abbrev pub old_count : ℕ → ℕ → ℕ → List Entry → ℕ
old_count first now seconds es = length (filter (λ (e : Entry). is_old first now seconds e.1) es)

-- the entries of the tables after the old ones of a table left
abbrev pub entries_expired : List (List Entry) → ℕ → ℕ → ℕ → ℕ → List (List Entry)
entries_expired tables t first now seconds = slice_set tables t (young first now seconds (entries_at tables t))

-- how many left
abbrev pub expired_count : List (List Entry) → ℕ → ℕ → ℕ → ℕ → ℕ
expired_count tables t first now seconds = old_count first now seconds (entries_at tables t)

-- ---- room

-- whether one more entry fits into a table without memory. room: how many fit into each
abbrev pub has_room : List ℕ → ℕ → Bool
has_room room t = nat_lt 0 (slice_index room t)

-- a host that is added to a table needs no memory: it fits, or the entries are at their limit
abbrev pub IsReady : Holdings → ℕ → Type 0
IsReady h t = (has_room h.room t ≡ true) ⊎ (h.limit ≤ entry_count h.entries)

-- of every other table the room is as it was, and one that was ready still is
pub record OthersKept (t : ℕ) (old new : Holdings) : Type 0 where
  pub room : (u : ℕ) → (u ≡ t → ⊥) → slice_index new.room u ≡ slice_index old.room u
  pub ready : (u : ℕ) → (u ≡ t → ⊥) → IsReady old u → IsReady new u
