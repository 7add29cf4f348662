-- Entries of which a test holds leave a table: the old ones, or the very one that is named.
use Rattle.std.proofs.Common.{◌≡◌, ℕ, ◌+◌, ◌<◌, Bool, not, List, [], filter, length, get_or, set, true, refl, ap, sym, ◌∙◌, arith}
use Rattle.std.proofs.lemmas.List.{map-set, get_or-map, length-map}
use Rattle.std.proofs.lemmas.List.Elements.{All-filter}
use Rattle.std.proofs.lemmas.List.Filters.{length-filter_both}
use Rattle.std.proofs.lemmas.List.Sums.{sum_by-set}
use Rattle.pfs_addr_values.specs.Prefixes.{IsNetwork}
use Rattle.pfs_eval.specs.Blooms.{may_have}
use Rattle.pfs_eval.specs.Entries.{Entry}
use Rattle.pfs_eval.specs.Holdings.{AreEntriesKept, HeldEntries}
use Rattle.pfs_eval.specs.Lengths.{IsLengthNoted}
use Rattle.pfs_eval.specs.Signs.{AreTrueWords}
use Rattle.pfs_eval.specs.declared.lengths.Lengths.{Lengths}
use Rattle.pfs_eval.specs.Tables.{entries_at, entry_count}
use Rattle.pfs_eval.proofs.OneTableChanged.{entries_at-held, entries_of}

-- fewer entries are prefixes still, and their lengths are noted
pub kept-filtered : (p : Entry → Bool) (es : List Entry) (lengths : Lengths) (words signs told : List ℕ) → AreEntriesKept es lengths words signs
    → AreTrueWords told (filter p es) → AreEntriesKept (filter p es) lengths words told
kept-filtered p es lengths words signs told k t = record {
  networks = All-filter p (λ (x : Entry). IsNetwork x.0) es k.networks;
  long = k.long;
  on = k.on;
  noted = All-filter p (λ (x : Entry). IsLengthNoted lengths x.0) es k.noted;
  known = All-filter p (λ (x : Entry). may_have words x.0.addr x.0.bits ≡ true) es k.known;
  told = t;
}

-- those that leave and the others are all
pub leaving-and-staying : (leaves : Entry → Bool) (es : List Entry) → length (filter leaves es) + length (filter (λ (e : Entry). not (leaves e)) es) ≡ length es
leaving-and-staying leaves es = length-filter_both leaves (λ (e : Entry). not (leaves e)) (λ e. refl) es

-- how many leave of a list that has become the others
pub left-of : (leaves : Entry → Bool) (es rest : List Entry) → rest ≡ filter (λ (e : Entry). not (leaves e)) es → length rest + length (filter leaves es) ≡ length es
left-of leaves es rest e = omega (arith, ap (λ (xs : List Entry). length xs) e, leaving-and-staying leaves es)

-- a table is replaced by one with the others
pub entries-left : (leaves : Entry → Bool) (xs : List HeldEntries) (i : ℕ) (t t' : HeldEntries) → i < length xs → t ≡ get_or xs i t
    → t'.entries ≡ filter (λ (e : Entry). not (leaves e)) t.entries
    → entries_of (set xs i t') ≡ set (entries_of xs) i (filter (λ (e : Entry). not (leaves e)) (entries_at (entries_of xs) i))
entries-left leaves xs i t t' h e f =
    map-set (λ (s : HeldEntries). s.entries) xs i t'
    ∙ ap (set (entries_of xs) i) (f ∙ ap (filter (λ (e : Entry). not (leaves e))) (sym (entries_at-held xs i t h e)))

-- then there are as many less in all
pub count-left : (leaves : Entry → Bool) (xs : List HeldEntries) (i : ℕ) (t t' : HeldEntries) → i < length xs → t ≡ get_or xs i t
    → t'.entries ≡ filter (λ (e : Entry). not (leaves e)) t.entries
    → entry_count (entries_of (set xs i t')) + length (filter leaves t.entries) ≡ entry_count (entries_of xs)
count-left leaves xs i t t' h e f =
    let es = entries_of xs in
    let within : i < length es = rw length-map h in
    let at : get_or es i [] ≡ t.entries = get_or-map (λ (s : HeldEntries). s.entries) xs i t [] h
    ∙ sym (ap (λ (s : HeldEntries). s.entries) e) in
    let sums = sum_by-set (λ (ys : List Entry). length ys) es i t'.entries [] within in
    let old : length (get_or es i []) ≡ length t.entries = ap (λ (ys : List Entry). length ys) at in
    let fewer = left-of leaves t.entries t'.entries f in
    let same : entry_count (entries_of (set xs i t')) ≡ entry_count (set es i t'.entries) = ap entry_count (map-set (λ (s : HeldEntries). s.entries) xs i t') in
    omega (arith, same, sums, old, fewer)
