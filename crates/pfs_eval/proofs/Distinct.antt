-- No two entries of one table have the same prefix: of a text, and after one table has changed.
use Rattle.std.proofs.Common.{◌≡◌, ℕ, ◌<◌, Bool, List, filter, length, map, get_or, set, ap, sym, subst, ◌∙◌}
use Rattle.std.specs.Prelude.{All}
use Rattle.std.specs.List.{IsDistinct}
use Rattle.std.proofs.lemmas.List.{get_or-map, length-map, map-set}
use Rattle.std.proofs.lemmas.List.Elements.{All-map, All-set}
use Rattle.std.proofs.lemmas.Map.Made.{IsDistinct-keys_filter}
use Rattle.std.proofs.lemmas.Simd.{map-map}
use Rattle.pfs_conf_values.specs.Entries.{TextEntry, same_network}
use Rattle.pfs_conf_values.specs.Invariants.{IsTable}
use Rattle.pfs_conf_values.specs.declared.tables.TableDef.{TableDef}
use Rattle.pfs_eval.specs.Entries.{AreDistinct, Entry, entry_of_text}
use Rattle.pfs_eval.specs.Holdings.{HeldEntries}
use Rattle.pfs_eval.proofs.OneTableChanged.{entries_of}

-- fewer entries
pub distinct-filter : (stays : Entry → Bool) (es : List Entry) → AreDistinct es → AreDistinct (filter stays es)
distinct-filter stays es d = IsDistinct-keys_filter same_network stays es d

-- the entries of a text
distinct-text : (es : List TextEntry) → IsDistinct same_network (map (λ (e : TextEntry). e.0) es) → AreDistinct (map entry_of_text es)
distinct-text es d = subst (IsDistinct same_network) (sym (map-map (λ (e : Entry). e.0) entry_of_text es)) d

-- those of the tables of a configuration
pub distinct-tables : (tables : List TableDef) → All IsTable tables
    → All AreDistinct (map (λ (t : TableDef). map entry_of_text t.entries) tables)
distinct-tables tables h = All-map AreDistinct (λ (t : TableDef). map entry_of_text t.entries) tables
    (λ n d l. distinct-text _ ((h n d l).distinct))

-- those of one of the tables
pub distinct-at : (xs : List HeldEntries) (i : ℕ) (t : HeldEntries) → i < length xs → t ≡ get_or xs i t → All AreDistinct (entries_of xs)
    → AreDistinct t.entries
distinct-at xs i t h e d =
    let at : get_or (entries_of xs) i t.entries ≡ t.entries = get_or-map (λ (s : HeldEntries). s.entries) xs i t t.entries h
    ∙ sym (ap (λ (s : HeldEntries). s.entries) e) in
    subst AreDistinct at (d i t.entries (rw length-map h))

-- a table is replaced
pub distinct-set : (xs : List HeldEntries) (i : ℕ) (t' : HeldEntries) → AreDistinct t'.entries → All AreDistinct (entries_of xs)
    → All AreDistinct (entries_of (set xs i t'))
distinct-set xs i t' h d = subst (All AreDistinct) (sym (map-set (λ (s : HeldEntries). s.entries) xs i t')) (All-set AreDistinct (entries_of xs) i t'.entries h d)
