-- One of all tables changes, by one entry more or by room for one: what their entries and counts are then.
use Rattle.std.proofs.Common.{◌≡◌, ℕ, ◌+◌, ◌<◌, ◌≤◌, ◌⊎◌, inl, inr, Bool, true, false, ◌||◌, cond, nat_le, nat_lt, Option, Some, None, List, [], ◌∷◌, ◌++◌, length, map, get_or, set, refl, ap, sym, subst, ◌∙◌, arith, length-append}
use Rattle.std.specs.Prelude.{OnErr, Result, Ok, Err, slice_index}
use Rattle.std.proofs.Math.Seq.{map-set_same}
use Rattle.std.proofs.lemmas.List.{map-set, get_or-map, get_or-set_other, get_or-set_same, length-map}
use Rattle.std.proofs.lemmas.List.Sums.{sum_by-set}
use Rattle.std.proofs.lemmas.Option.{unwrap_or-slice_get}
use Rattle.std.proofs.lemmas.Bool.Decides.{nat_tests}
use Rattle.std.proofs.lemmas.Bool.{cases_eq, cond-false}
use Rattle.pfs_addr_values.specs.declared.addresses.Addr.{Addr}
use Rattle.pfs_addr_values.specs.Prefixes.{Network}
use Rattle.pfs_eval.specs.Entries.{Entry, holds_host, holds_prefix, is_prefix_of, mark_at, mark_of}
use Rattle.pfs_eval.specs.Holdings.{HeldEntries, Holdings, holdings}
use Rattle.pfs_eval.specs.Tables.{IsReady, OthersKept, entries_at, entry_count, added_to, entered_beside, entered_to, has_room}
use Rattle.pfs_eval.specs.declared.entries.Mark.{Mark}
use Rattle.pfs_eval.specs.declared.entries.TableEntry.{TableEntry}
use Rattle.pfs_eval.specs.declared.tables.Added.TheVariants.{New}
use Rattle.pfs_eval.specs.declared.tables.Entered.TheVariants as entered

-- the entries of the tables
abbrev pub entries_of : List HeldEntries → List (List Entry)
entries_of tables = map (λ (t : HeldEntries). t.entries) tables

-- how many more entries fit into the tables
abbrev pub room_of : List HeldEntries → List ℕ
room_of tables = map (λ (t : HeldEntries). t.spare) tables

-- the table of a number has these entries
pub entries_at-held : (xs : List HeldEntries) (i : ℕ) (t : HeldEntries) → i < length xs → t ≡ get_or xs i t
    → entries_at (entries_of xs) i ≡ t.entries
entries_at-held xs i t h e =
    unwrap_or-slice_get (entries_of xs) i [] ∙ get_or-map (λ (s : HeldEntries). s.entries) xs i t [] h
    ∙ sym (ap (λ (s : HeldEntries). s.entries) e)

-- a table is replaced by one with the same entries
pub entries-same : (xs : List HeldEntries) (i : ℕ) (t t' : HeldEntries) → t ≡ get_or xs i t → t'.entries ≡ t.entries
    → entries_of (set xs i t') ≡ entries_of xs
entries-same xs i t t' e f = map-set_same (λ (s : HeldEntries). s.entries) xs i t' t (f ∙ ap (λ (s : HeldEntries). s.entries) e)

-- by one with one entry more
pub entries-added : (xs : List HeldEntries) (i : ℕ) (t t' : HeldEntries) (x : Entry) → i < length xs → t ≡ get_or xs i t
    → t'.entries ≡ t.entries ++ x ∷ []
    → entries_of (set xs i t') ≡ set (entries_of xs) i (entries_at (entries_of xs) i ++ x ∷ [])
entries-added xs i t t' x h e f =
    map-set (λ (s : HeldEntries). s.entries) xs i t'
    ∙ ap (set (entries_of xs) i) (f ∙ ap (λ es. es ++ x ∷ []) (sym (entries_at-held xs i t h e)))

-- then there is one more in all
pub count-added : (xs : List HeldEntries) (i : ℕ) (t t' : HeldEntries) (x : Entry) → i < length xs → t ≡ get_or xs i t
    → t'.entries ≡ t.entries ++ x ∷ []
    → entry_count (entries_of (set xs i t')) ≡ entry_count (entries_of xs) + 1
count-added xs i t t' x h e f =
    let es = entries_of xs in
    let within : i < length es = rw length-map h in
    let at : get_or es i [] ≡ t.entries = get_or-map (λ (s : HeldEntries). s.entries) xs i t [] h
    ∙ sym (ap (λ (s : HeldEntries). s.entries) e) in
    let sums = sum_by-set (λ (ys : List Entry). length ys) es i t'.entries [] within in
    let longer : length t'.entries ≡ length t.entries + 1 = ap (λ (ys : List Entry). length ys) f
    ∙ length-append t.entries (x ∷ []) in
    let old : length (get_or es i []) ≡ length t.entries = ap (λ (ys : List Entry). length ys) at in
    ap entry_count (map-set (λ (s : HeldEntries). s.entries) xs i t') ∙ omega (arith, sums, longer, old)

-- a table that has room is put in
pub room-set : (xs : List HeldEntries) (i : ℕ) (t' : HeldEntries) → i < length xs → 0 < t'.spare
    → has_room (room_of (set xs i t')) i ≡ true
room-set xs i t' h k =
    let at : get_or (room_of (set xs i t')) i 0 ≡ t'.spare = ap (λ ys. get_or ys i 0)
    (map-set (λ (s : HeldEntries). s.spare) xs i t') ∙ get_or-set_same (room_of xs) i t'.spare 0 (rw length-map h) in
    rw at (grind (arith, nat_tests))

-- of the other tables the room stays
room-other : (xs : List HeldEntries) (i u : ℕ) (t' : HeldEntries) → (u ≡ i → ⊥)
    → slice_index (room_of (set xs i t')) u ≡ slice_index (room_of xs) u
room-other xs i u t' ne =
    ap (λ ys. get_or ys u 0) (map-set (λ (s : HeldEntries). s.spare) xs i t') ∙ get_or-set_other (room_of xs) i u t'.spare 0 ne

ready-kept : (old new : Holdings) (u : ℕ) → slice_index new.room u ≡ slice_index old.room u → new.limit ≡ old.limit
    → entry_count old.entries ≤ entry_count new.entries → IsReady old u → IsReady new u
ready-kept old new u e l k (inl h) = inl (ap (nat_lt 0) e ∙ h)
ready-kept old new u e l k (inr h) = inr (omega (arith, l, k, h))

pub others-same : (i : ℕ) (h : Holdings) → OthersKept i h h
others-same i h = record { room = λ u ne. refl; ready = λ u ne r. r }

-- so it does where a table is replaced by one that has at least its entries
pub others-kept : (xs : List HeldEntries) (i limit : ℕ) (t' : HeldEntries) (old : Holdings) → holdings xs limit ≡ old
    → entry_count (entries_of xs) ≤ entry_count (entries_of (set xs i t')) → OthersKept i old (holdings (set xs i t') limit)
others-kept xs i limit t' old e more = subst (λ (h : Holdings). OthersKept i h (holdings (set xs i t') limit)) e (record {
  room = λ u ne. room-other xs i u t' ne;
  ready = λ u ne r. ready-kept (holdings xs limit) (holdings (set xs i t') limit) u (room-other xs i u t' ne) refl more r;
})

-- no room is lost where a table is replaced by one with at least its room
pub room-more : (xs : List HeldEntries) (i u : ℕ) (t t' : HeldEntries) → i < length xs → t ≡ get_or xs i t → t.spare ≤ t'.spare
    → slice_index (room_of xs) u ≤ slice_index (room_of (set xs i t')) u
room-more xs i u t t' h e more = by (cases_eq u i)
  where
    by : (u ≡ i) ⊎ (u ≡ i → ⊥) → slice_index (room_of xs) u ≤ slice_index (room_of (set xs i t')) u
    by (inl f) =
        let old : get_or (room_of xs) u 0 ≡ t.spare = ap (λ v. get_or (room_of xs) v 0) f ∙ get_or-map (λ (s : HeldEntries). s.spare) xs i t 0 h
        ∙ sym (ap (λ (s : HeldEntries). s.spare) e) in
        let new : get_or (room_of (set xs i t')) u 0 ≡ t'.spare = ap (λ v. get_or (room_of (set xs i t')) v 0) f
        ∙ ap (λ ys. get_or ys i 0) (map-set (λ (s : HeldEntries). s.spare) xs i t') ∙ get_or-set_same (room_of xs) i t'.spare 0 (rw length-map h) in
        omega (arith, old, new, more)
    by (inr ne) = omega (arith, room-other xs i u t' ne)

-- the table of a number is among those held
pub within-held : (xs : List HeldEntries) (es : List (List Entry)) (i : ℕ) → entries_of xs ≡ es → i < length es → i < length xs
within-held xs es i e h = let l = length-map xs (λ (s : HeldEntries). s.entries) in let k = ap (λ (ys : List (List Entry)). length ys) e in omega (arith, l, k)

-- a host that is not held, where the entries are fewer than the limit, is new
pub added-new : (xs : List HeldEntries) (limit i : ℕ) (a : Addr) (t : HeldEntries) (h : Holdings) → holdings xs limit ≡ h
    → i < length h.entries → t ≡ get_or xs i t → holds_host t.entries a ≡ false
    → nat_le h.limit (entry_count h.entries) ≡ false → added_to h.entries h.limit i a ≡ New
added-new xs limit i a t h e within at absent few =
    let view = ap (λ (v : Holdings). v.entries) e in
    let here : entries_at h.entries i ≡ t.entries = ap (λ es. entries_at es i) (sym view)
    ∙ entries_at-held xs i t (within-held xs h.entries i view within) at in
    let held : holds_host (entries_at h.entries i) a ≡ false = ap (λ es. holds_host es a) here ∙ absent in
    cond-false _ _ _ held ∙ cond-false _ _ _ few

-- ---- an entry whose prefix the table does not have

unmarked_step : (b : Bool) (m : Mark) (o : Option Mark) (t : Bool) → (o ≡ None → t ≡ false) → cond b (Some m) o ≡ None → (b || t) ≡ false
unmarked_step true m o t f e = cc
unmarked_step false m o t f e = f e

-- a prefix without a mark is not held
unmarked : (a : Addr) (n : ℕ) (es : List Entry) → mark_at es a n ≡ None → holds_prefix es a n ≡ false
unmarked a n [] h = refl
unmarked a n (x ∷ es) h = unmarked_step (is_prefix_of a n x.0) x.1 (mark_at es a n) (holds_prefix es a n) (unmarked a n es) h

-- nor is it in the table of a number that has these entries
pub unmarked-at : (xs : List HeldEntries) (limit i : ℕ) (p : Network) (t : HeldEntries) (h : Holdings) → holdings xs limit ≡ h
    → i < length h.entries → t ≡ get_or xs i t → mark_of t.entries p ≡ None → mark_of (entries_at h.entries i) p ≡ None
unmarked-at xs limit i p t h e within at absent =
    let view = ap (λ (v : Holdings). v.entries) e in
    ap (λ es. mark_of es p) (ap (λ es. entries_at es i) (sym view) ∙ entries_at-held xs i t (within-held xs h.entries i view within) at) ∙ absent

pub not-held-at : (xs : List HeldEntries) (limit i : ℕ) (p : Network) (t : HeldEntries) (h : Holdings) → holdings xs limit ≡ h
    → i < length h.entries → t ≡ get_or xs i t → mark_of t.entries p ≡ None → holds_prefix (entries_at h.entries i) p.addr p.bits ≡ false
not-held-at xs limit i p t h e within at absent = unmarked p.addr p.bits (entries_at h.entries i) (unmarked-at xs limit i p t h e within at absent)

-- such an entry is new, where the entries are fewer than the limit
pub entered-new : (xs : List HeldEntries) (limit i : ℕ) (entry : TableEntry) (t : HeldEntries) (h : Holdings) → holdings xs limit ≡ h
    → i < length h.entries → t ≡ get_or xs i t → mark_of t.entries entry.prefix ≡ None
    → nat_le h.limit (entry_count h.entries) ≡ false → entered_to h.entries h.limit i entry ≡ entered.New
entered-new xs limit i entry t h e within at absent few =
    ap (λ o. entered_beside o entry.negated (nat_le h.limit (entry_count h.entries))) (unmarked-at xs limit i entry.prefix t h e within at absent)
    ∙ cond-false _ _ _ few

-- a fact of an error
pub on_err : {X E : Type 0} {P : Type 0} (r : Result X E) → P → OnErr r P
on_err (Ok x) p = tt
on_err (Err e) p = p
