-- Tables as a text says them: no two entries of one prefix, a table or an entry more, and their count.
use Rattle.std.proofs.Common.{◌≡◌, ℕ, ◌+◌, ◌<◌, ◌==◌, suc, zero, Bool, true, false, ◌||◌, List, [], ◌∷◌, ◌++◌, length, map, take, get_or, Some, refl, ap, sym, ◌∙◌, arith, subst, eq-eqb, rules}
use Rattle.std.specs.Prelude.{All, Option, None, option_map, slice_get}
use Rattle.std.specs.List.{IsDistinct, sum_by}
use Rattle.std.proofs.lemmas.Bool.{false≢true}
use Rattle.std.proofs.lemmas.List.{get_or-map, length-map, map-append, take_more}
use Rattle.std.proofs.lemmas.List.Elements.{All-head, All-tail}
use Rattle.std.proofs.lemmas.List.Sums.{sum_by-cons}
use Rattle.std.proofs.lemmas.Map.Keys.{IsDistinct-tail, apart_from_distinct}
use Rattle.std.proofs.lemmas.Option.{slice_get_within, get_or_from_slice_get}
use Rattle.pfs_addr_values.specs.declared.addresses.Addr.{Addr}
use Rattle.pfs_addr_values.specs.declared.addresses.Addr.TheVariants.{V4, V6}
use Rattle.pfs_addr_values.specs.Prefixes.{Network, IsNetwork, network_of}
use Rattle.pfs_conf_values.specs.Configs.{Conf, entry_count_of}
use Rattle.pfs_conf_values.specs.Entries.{are_same_addr, same_network, TextEntry}
use Rattle.pfs_conf_values.specs.declared.tables.TableDef.{TableDef}
use Rattle.pfs_eval.specs.Entries.{Entry, entry_of_text, holds_prefix, is_prefix_of}
use Rattle.pfs_eval.specs.Holdings.{HeldEntries}
use Rattle.pfs_eval.specs.Tables.{config_entries, entry_count}
use Rattle.pfs_eval.proofs.Narrowest.{own_prefix}
use Rattle.pfs_eval.proofs.OneTableChanged.{entries_of}

-- a prefix is that of its own address
pub own_network : (p : Network) → IsNetwork p → network_of p.addr p.bits ≡ p
own_network p h = λ i. record { addr = h.zeros i; bits = p.bits }

addr_itself : (a : Addr) → are_same_addr a a ≡ true
addr_itself (V4 bytes) = search rules
addr_itself (V6 bytes) = search rules

-- a prefix is the same as itself
itself : (p : Network) → same_network p p ≡ true
itself p = let a = addr_itself p.addr in let b : (p.bits == p.bits) ≡ true = eq-eqb p.bits p.bits refl in grind arith

-- two prefixes that are not the same are not prefixes of one address with the same length
apart : (p q : Network) → IsNetwork p → IsNetwork q → same_network q p ≡ false → is_prefix_of p.addr p.bits q ≡ false
apart p q h k d = by (is_prefix_of p.addr p.bits q) refl
  where
    by : (b : Bool) → is_prefix_of p.addr p.bits q ≡ b → b ≡ false
    by true e =
        let same : p ≡ q = sym (own_network p h) ∙ own_prefix p.bits p.addr q k e in
        absurd (false≢true (sym d ∙ ap (λ r. same_network q r) same ∙ itself q))
    by false e = refl

no_part : (b c : Bool) → b ≡ false → c ≡ false → (b || c) ≡ false
no_part b c e f = grind arith

network_at : (es : List TextEntry) (n : ℕ) (e : TextEntry) → All (λ (x : TextEntry). IsNetwork x.0) es
    → slice_get es n ≡ Some e → IsNetwork e.0
network_at es n e h at = subst (λ (x : TextEntry). IsNetwork x.0) (get_or_from_slice_get es n e e at)
    (h n e (slice_get_within es n e at))

-- of entries with different prefixes, none in front has the prefix of the next
pub not-held : (es : List TextEntry) (n : ℕ) (e : TextEntry) → All (λ (x : TextEntry). IsNetwork x.0) es
    → IsDistinct same_network (map (λ (x : TextEntry). x.0) es) → slice_get es n ≡ Some e
    → holds_prefix (map entry_of_text (take n es)) e.0.addr e.0.bits ≡ false
not-held es zero e h d at = refl
not-held [] (suc n) e h d at = refl
not-held (x ∷ xs) (suc n) e h d at =
    let prefix : TextEntry → Network = λ (y : TextEntry). y.0 in
    let within : n < length xs = slice_get_within xs n e at in
    let there : get_or (map prefix xs) n x.0 ≡ e.0 = get_or-map prefix xs n e x.0 within
    ∙ ap prefix (get_or_from_slice_get xs n e e at) in
    let few : suc n < length (map prefix (x ∷ xs)) = let l = length-map xs prefix in omega arith in
    let away : same_network x.0 e.0 ≡ false = ap (same_network x.0) (sym there)
    ∙ apart_from_distinct same_network (map prefix (x ∷ xs)) 0 (suc n) x.0 d (omega arith) few in
    let others = All-tail (λ (y : TextEntry). IsNetwork y.0) x xs h in
    no_part _ _ (apart e.0 x.0 (network_at xs n e others at) (All-head (λ (y : TextEntry). IsNetwork y.0) x xs h) away)
    (not-held xs n e others (IsDistinct-tail same_network x.0 (map prefix xs) d) at)

some_mapped : {X Y : Type 0} (f : X → Y) (o : Option X) (y : Y) → option_map f o ≡ Some y
    → (x : X) × (o ≡ Some x) × (f x ≡ y)
some_mapped f None y e = cc
some_mapped f (Some x) y e = (x, refl, cc)

-- one more of a list that is gone through
pub taken-more : {X Y : Type 0} (f : X → Y) (xs : List X) (n : ℕ) (y : Y) → option_map f (slice_get xs n) ≡ Some y
    → map f (take (n + 1) xs) ≡ map f (take n xs) ++ y ∷ []
taken-more f xs n y e =
    let k = some_mapped f (slice_get xs n) y e in
    let here : get_or xs n k.0 ≡ k.0 = get_or_from_slice_get xs n k.0 k.0 k.1 in
    ap (map f) (take_more xs n k.0 (slice_get_within xs n k.0 k.1)) ∙ map-append f (take n xs) (get_or xs n k.0 ∷ [])
    ∙ ap (λ x. map f (take n xs) ++ f x ∷ []) here ∙ ap (λ z. map f (take n xs) ++ z ∷ []) k.2

-- a table more
pub table-more : (xs : List HeldEntries) (t : HeldEntries) (es : List Entry) → t.entries ≡ es
    → entries_of (xs ++ t ∷ []) ≡ entries_of xs ++ es ∷ []
table-more xs t es e = map-append (λ (s : HeldEntries). s.entries) xs (t ∷ []) ∙ ap (λ ys. entries_of xs ++ ys ∷ []) e

counted : (tables : List TableDef)
    → entry_count (map (λ (t : TableDef). map entry_of_text t.entries) tables)
    ≡ sum_by (λ (t : TableDef). length t.entries) tables
counted [] = refl
counted (t ∷ ts) =
    let size : TableDef → ℕ = λ (u : TableDef). length u.entries in
    let longs : List (List Entry) = map (λ (u : TableDef). map entry_of_text u.entries) ts in
    sum_by-cons (λ (es : List Entry). length es) (map entry_of_text t.entries) longs
    ∙ ap (λ n. n + entry_count longs) (length-map t.entries entry_of_text) ∙ ap (λ n. length t.entries + n) (counted ts)
    ∙ sym (sum_by-cons size t ts)

-- the tables have as many entries as the configuration says
pub count-config : (conf : Conf) → entry_count (config_entries conf) ≡ entry_count_of conf
count-config conf = counted conf.tables

-- the entries of the table of a number, as tables hold them
pub text-entries : (tables : List TableDef) (n : ℕ) (es : List TextEntry)
    → option_map (λ (t : TableDef). t.entries) (slice_get tables n) ≡ Some es
    → option_map (λ (t : TableDef). map entry_of_text t.entries) (slice_get tables n) ≡ Some (map entry_of_text es)
text-entries tables n es e = by (slice_get tables n) e
  where
    by : (o : Option TableDef) → option_map (λ (t : TableDef). t.entries) o ≡ Some es
        → option_map (λ (t : TableDef). map entry_of_text t.entries) o ≡ Some (map entry_of_text es)
    by None h = cc
    by (Some t) h = cc
