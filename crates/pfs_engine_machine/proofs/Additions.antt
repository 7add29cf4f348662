-- What is added to a table keeps the entries of the tables within their limit, and so do entries that leave.
use Rattle.std.proofs.Common.{◌≡◌, ◌≤◌, ◌<◌, ◌+◌, ◌⊎◌, inl, inr, ℕ, Bool, true, false, if◌then◌else◌, nat_le, Option, Some, None, List, filter, [], ◌∷◌, ◌++◌, length, length-append, set, ap, refl, arith}
use Rattle.std.proofs.lemmas.Bool.{cases_lt}
use Rattle.std.proofs.lemmas.Bool.Decides.{nat_tests}
use Rattle.std.proofs.lemmas.List.{length-set, set_past}
use Rattle.std.proofs.lemmas.List.Sums.{sum_by-set}
use Rattle.std.proofs.lemmas.Option.{unwrap_or-slice_get}
use Rattle.pfs_addr_values.specs.declared.addresses.Addr.{Addr}
use Rattle.pfs_eval.specs.Entries.{Entry, holds_host, mark_of, same_sign}
use Rattle.pfs_eval.proofs.Leaving.{leaving-and-staying}
use Rattle.pfs_eval.specs.Tables.{added_to, entered_beside, entered_to, entries_after, entries_at, entries_entered, entry_count, entry_since, host_entry}
use Rattle.pfs_eval.specs.declared.tables.Added.{Added}
use Rattle.pfs_eval.specs.declared.tables.Added.TheVariants.{New, AlreadyThere, Full}
use Rattle.pfs_eval.specs.declared.entries.Mark.{Mark}
use Rattle.pfs_eval.specs.declared.entries.TableEntry.{TableEntry}
use Rattle.pfs_eval.specs.declared.tables.Entered.{Entered}
use Rattle.pfs_eval.specs.declared.tables.Entered.TheVariants as entered

-- one more at most
count-set : (tables : List (List Entry)) (t : ℕ) (x : Entry) → entry_count (set tables t (entries_at tables t ++ x ∷ [])) ≤ entry_count tables + 1
count-set tables t x = by (cases_lt t (length tables))
  where
    longer : List Entry
    longer = entries_at tables t ++ x ∷ []

    by : ((t < length tables) ⊎ (length tables ≤ t)) → entry_count (set tables t longer) ≤ entry_count tables + 1
    by (inl within) =
        let sums = sum_by-set (λ (es : List Entry). length es) tables t longer [] within in
        let one = length-append (entries_at tables t) (x ∷ []) in
        let old = ap (λ (es : List Entry). length es) (unwrap_or-slice_get tables t []) in
        omega (arith, sums, one, old)
    by (inr past) = omega (arith, ap entry_count (set_past tables t longer past))

pub entries_after-size : (tables : List (List Entry)) (t : ℕ) (a : Addr) (now : ℕ) (o : Added) → length (entries_after tables t a now o) ≡ length tables
entries_after-size tables t a now New = length-set tables t (entries_at tables t ++ host_entry a now ∷ [])
entries_after-size tables t a now AlreadyThere = refl
entries_after-size tables t a now Full = refl

pub entries_after-within : (tables : List (List Entry)) (limit t : ℕ) (a : Addr) (now : ℕ) → entry_count tables ≤ limit
    → entry_count (entries_after tables t a now (added_to tables limit t a)) ≤ limit
entries_after-within tables limit t a now le = held (holds_host (entries_at tables t) a)
  where
    full : (b : Bool) → nat_le limit (entry_count tables) ≡ b → entry_count (entries_after tables t a now (if b then Full else New)) ≤ limit
    full true e = le
    full false e = let fewer : entry_count tables < limit = grind (arith, nat_tests) in omega (arith, fewer, count-set tables t (host_entry a now))

    held : (b : Bool) → entry_count (entries_after tables t a now (if b then AlreadyThere else (if nat_le limit (entry_count tables) then Full else New))) ≤ limit
    held true = le
    held false = full (nat_le limit (entry_count tables)) refl

-- ---- the administrator adds an entry

pub entries_entered-size : (tables : List (List Entry)) (t : ℕ) (e : TableEntry) (now : ℕ) (o : Entered) → length (entries_entered tables t e now o) ≡ length tables
entries_entered-size tables t e now entered.New = length-set tables t (entries_at tables t ++ entry_since e now ∷ [])
entries_entered-size tables t e now entered.AlreadyThere = refl
entries_entered-size tables t e now entered.Conflict = refl
entries_entered-size tables t e now entered.Full = refl

pub entries_entered-within : (tables : List (List Entry)) (limit t : ℕ) (e : TableEntry) (now : ℕ) → entry_count tables ≤ limit
    → entry_count (entries_entered tables t e now (entered_to tables limit t e)) ≤ limit
entries_entered-within tables limit t e now le = by (mark_of (entries_at tables t) e.prefix)
  where
    full : (b : Bool) → nat_le limit (entry_count tables) ≡ b → entry_count (entries_entered tables t e now (if b then entered.Full else entered.New)) ≤ limit
    full true f = le
    full false f = let fewer : entry_count tables < limit = grind (arith, nat_tests) in omega (arith, fewer, count-set tables t (entry_since e now))

    held : (b : Bool) → entry_count (entries_entered tables t e now (if b then entered.AlreadyThere else entered.Conflict)) ≤ limit
    held true = le
    held false = le

    by : (m : Option Mark) → entry_count (entries_entered tables t e now (entered_beside m e.negated (nat_le limit (entry_count tables)))) ≤ limit
    by (Some m) = held (same_sign m.negated e.negated)
    by None = full (nat_le limit (entry_count tables)) refl

-- ---- entries leave

pub filtered-size : (tables : List (List Entry)) (t : ℕ) (stays : Entry → Bool) → length (set tables t (filter stays (entries_at tables t))) ≡ length tables
filtered-size tables t stays = length-set tables t (filter stays (entries_at tables t))

pub filtered-fewer : (tables : List (List Entry)) (t : ℕ) (stays : Entry → Bool) → entry_count (set tables t (filter stays (entries_at tables t))) ≤ entry_count tables
filtered-fewer tables t stays = by (cases_lt t (length tables))
  where
    rest : List Entry
    rest = filter stays (entries_at tables t)

    by : ((t < length tables) ⊎ (length tables ≤ t)) → entry_count (set tables t rest) ≤ entry_count tables
    by (inl within) =
        let sums = sum_by-set (λ (es : List Entry). length es) tables t rest [] within in
        let fewer = leaving-and-staying stays (entries_at tables t) in
        let old = ap (λ (es : List Entry). length es) (unwrap_or-slice_get tables t []) in
        omega (arith, sums, fewer, old)
    by (inr past) = omega (arith, ap entry_count (set_past tables t rest past))
