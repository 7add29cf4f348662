-- A text that defines all of its tables, before it uses them, leaves each with its number.
use Rattle.std.proofs.Common.{◌≡◌, ◌∙◌, ◌<◌, ◌≤◌, ◌+◌, ℕ, zero, suc, Bool, true, false, List, [], ◌∷◌, ◌++◌, length, map, set, Option, refl, sym, ap, arith}
use Rattle.std.specs.Prelude.{◌||◌, ◌==◌, not, slice_get, slice_index_or}
use Rattle.std.specs.List.{AllByRecursion, IsDistinct}
use Rattle.std.specs.Str.{bytes_eq}
use Rattle.std.proofs.lemmas.Bool.{cond-true, cond-false, and_from, eq-eqb}
use Rattle.std.proofs.lemmas.Map.Keys.{IsDistinct-head, IsDistinct-tail}
use Rattle.pfs_conf_values.specs.Configs.{table_names}
use Rattle.pfs_conf_settings.specs.Drafts.{Drafted, is_defined, with_name, with_table, with_tables}
use Rattle.pfs_conf_settings.specs.Namings.{Named, defined_at, defining, is_named, naming, place_in, table_number, undefined_table}
use Rattle.pfs_conf_values.specs.declared.filters.TableNo.{TableNo}
use Rattle.pfs_conf_values.specs.declared.items.Item.{Item}
use Rattle.pfs_conf_values.specs.declared.limits.Limits.{Limits}
use Rattle.pfs_conf_values.specs.declared.profiles.Profile.{Profile}
use Rattle.pfs_conf_values.specs.declared.routes.Route.{Route}
use Rattle.pfs_conf_values.specs.declared.syncookies.Syncookies.{Syncookies}
use Rattle.pfs_conf_values.specs.declared.tables.TableDef.{TableDef}
use Rattle.pfs_conf_show.specs.Tables.{name_in}
use Rattle.pfs_conf_round_trip.proofs.TablePhrases.{bytes_sym}

-- every one of these tables is defined
abbrev pub trues : List TableDef → List Bool
trues tables = map (λ (t : TableDef). true) tables

-- what the first lines of a canonical text say: the profile, SYN cookies, routes, limits, timeouts, tables that are all defined, and items
abbrev pub drafted : Profile → Syncookies → List Route → Limits → List (Option ℕ) → List TableDef → List Item → Drafted
drafted profile syncookies routes limits timeouts tables items = record { profile = profile; syncookies = syncookies; routes = routes; limits = limits; timeouts = timeouts; tables = tables; defined = trues tables; items = items }

bytes_same : (w : List ℕ) → bytes_eq w w ≡ true
bytes_same [] = refl
bytes_same (b ∷ w) = and_from (b == b) (bytes_eq w w) (eq-eqb b b refl) (bytes_same w)

-- ---- names of tables that are defined

-- what holds of all names, holds of the name of each table
of_each : (P : List ℕ → Type 0) (tables : List TableDef) (i : ℕ) → AllByRecursion P (table_names tables) → i < length tables → P (name_in (slice_get tables i))
of_each P [] i h lt = absurd (omega arith)
of_each P (t ∷ tables) zero h lt = h.0
of_each P (t ∷ tables) (suc i) h lt = of_each P tables i h.1 (omega arith)

-- the name of a table has its place
numbered : (tables : List TableDef) (i : ℕ) → IsDistinct bytes_eq (table_names tables) → i < length tables → place_in (name_in (slice_get tables i)) tables ≡ i
numbered [] i h lt = absurd (omega arith)
numbered (t ∷ tables) zero h lt = cond-false (not (bytes_eq t.name t.name)) _ _ (ap not (bytes_same t.name))
numbered (t ∷ tables) (suc i) h lt =
    let name = name_in (slice_get tables i) in
    let apart : bytes_eq t.name name ≡ false = of_each (λ y. bytes_eq t.name y ≡ false) tables i (IsDistinct-head bytes_eq t.name (table_names tables) h) (omega arith) in
    let other : bytes_eq name t.name ≡ false = bytes_sym name t.name ∙ apart in
    let at = numbered tables i (IsDistinct-tail bytes_eq t.name (table_names tables) h) (omega arith) in
    cond-true (not (bytes_eq name t.name)) (1 + place_in name tables) 0 (ap not other) ∙ omega (arith, at)

-- tables with names of their own, which numbers reach
pub record AreTablesNumbered (tables : List TableDef) : Type 0 where
  pub names : IsDistinct bytes_eq (table_names tables)
  pub few : length tables ≤ 4294967295

number_small : (place n : ℕ) → place ≡ n → n ≤ 4294967295 → table_number place ≡ n
number_small place n e h = omega arith

pub numbered_so : (tables : List TableDef) (i : ℕ) → AreTablesNumbered tables → i < length tables → table_number (place_in (name_in (slice_get tables i)) tables) ≡ i
numbered_so tables i h lt = let few = h.few in number_small (place_in (name_in (slice_get tables i)) tables) i (numbered tables i h.names lt) (omega arith)

or_left : (a b : Bool) → a ≡ true → (a || b) ≡ true
or_left true b h = refl
or_left false b h = absurd (cc h)

or_right : (a b : Bool) → b ≡ true → (a || b) ≡ true
or_right true b h = refl
or_right false b h = h

-- the name of a table is known
known : (tables : List TableDef) (i : ℕ) → i < length tables → is_named (name_in (slice_get tables i)) tables ≡ true
known [] i lt = absurd (omega arith)
known (t ∷ tables) zero lt = or_left (bytes_eq t.name t.name) _ (bytes_same t.name)
known (t ∷ tables) (suc i) lt = or_right (bytes_eq (name_in (slice_get tables i)) t.name) _ (known tables i (omega arith))

-- using a table changes nothing
pub named_again : (profile : Profile) (syncookies : Syncookies) (routes : List Route) (limits : Limits) (timeouts : List (Option ℕ)) (tables : List TableDef) (items : List Item) (t : TableNo) → t.0 < length tables
    → with_name (name_in (slice_get tables t.0)) (drafted profile syncookies routes limits timeouts tables items) ≡ drafted profile syncookies routes limits timeouts tables items
named_again profile syncookies routes limits timeouts tables items t lt =
    let d = drafted profile syncookies routes limits timeouts tables items in
    let name = name_in (slice_get tables t.0) in
    ap (λ (n : Named). with_tables n d) (cond-true (is_named name tables) (record { tables = tables; defined = trues tables }) _ (known tables t.0 lt))

-- ---- a table that is defined next

-- what holds of all that follow, holds of this one
of_this : (P : List ℕ → Type 0) (before rest : List TableDef) (t : TableDef) → AllByRecursion P (table_names (before ++ t ∷ rest)) → P t.name
of_this P [] rest t h = h.0
of_this P (x ∷ before) rest t h = of_this P before rest t h.1

-- its name is new
new_name : (before rest : List TableDef) (t : TableDef) → IsDistinct bytes_eq (table_names (before ++ t ∷ rest)) → is_named t.name before ≡ false
new_name [] rest t h = refl
new_name (x ∷ before) rest t h =
    let names = table_names (before ++ t ∷ rest) in
    let apart : bytes_eq x.name t.name ≡ false = of_this (λ y. bytes_eq x.name y ≡ false) before rest t (IsDistinct-head bytes_eq x.name names h) in
    go (bytes_eq t.name x.name) (is_named t.name before) (bytes_sym t.name x.name ∙ apart) (new_name before rest t (IsDistinct-tail bytes_eq x.name names h))
  where
    go : (a b : Bool) → a ≡ false → b ≡ false → (a || b) ≡ false
    go true b e f = absurd (cc e)
    go false b e f = f

-- the number of a new name is the next
next_number : (name : List ℕ) (tables : List TableDef) → is_named name tables ≡ false → place_in name tables ≡ length tables
next_number name [] h = refl
next_number name (t ∷ tables) h = go (bytes_eq name t.name) refl (next_number name tables)
  where
    go : (b : Bool) → bytes_eq name t.name ≡ b → (is_named name tables ≡ false → place_in name tables ≡ length tables) → place_in name (t ∷ tables) ≡ length (t ∷ tables)
    go true e rest = absurd (let some = sym (ap (λ (b : Bool). b || is_named name tables) e) ∙ h in cc)
    go false e rest =
        let at = rest (sym (ap (λ (b : Bool). b || is_named name tables) e) ∙ h) in
        cond-true (not (bytes_eq name t.name)) (1 + place_in name tables) 0 (ap not e) ∙ omega (arith, at)

set_last : {A : Type 0} (xs : List A) (x y : A) → set (xs ++ x ∷ []) (length xs) y ≡ xs ++ y ∷ []
set_last {A = A} [] x y = refl
set_last {A = A} (z ∷ xs) x y = ap (λ (w : List A). z ∷ w) (set_last xs x y)

past_end : (xs : List Bool) → slice_index_or xs (length xs) false ≡ false
past_end [] = refl
past_end (x ∷ xs) = past_end xs

sizes : (tables : List TableDef) → length (trues tables) ≡ length tables
sizes [] = refl
sizes (t ∷ tables) = ap suc (sizes tables)

trues_more : (tables : List TableDef) (t : TableDef) → trues (tables ++ t ∷ []) ≡ trues tables ++ true ∷ []
trues_more [] t = refl
trues_more (x ∷ tables) t = ap (λ (z : List Bool). true ∷ z) (trues_more tables t)

-- a table of a new name is not defined yet
undefined_yet : (profile : Profile) (syncookies : Syncookies) (routes : List Route) (limits : Limits) (timeouts : List (Option ℕ)) (tables : List TableDef) (items : List Item) (name : List ℕ) → is_named name tables ≡ false
    → is_defined name (drafted profile syncookies routes limits timeouts tables items) ≡ false
undefined_yet profile syncookies routes limits timeouts tables items name h =
    ap (λ (n : ℕ). slice_index_or (trues tables) n false) (next_number name tables h ∙ sym (sizes tables)) ∙ past_end (trues tables)

abbrev named : List TableDef → List Bool → Named
named tables defined = record { tables = tables; defined = defined }

defining_new : (tables : List TableDef) (t : TableDef) → is_named t.name tables ≡ false
    → defining t (named tables (trues tables)) ≡ named (tables ++ t ∷ []) (trues (tables ++ t ∷ []))
defining_new tables t h =
    let u = undefined_table t.name in
    let grown = named (tables ++ u ∷ []) (trues tables ++ false ∷ []) in
    ap (λ (n : ℕ). defined_at n t (naming t.name (named tables (trues tables)))) (next_number t.name tables h)
    ∙ (ap (defined_at (length tables) t) (cond-false (is_named t.name tables) _ grown h)
    ∙ (ap (λ (z : List TableDef). named z (set (trues tables ++ false ∷ []) (length tables) true)) (set_last tables u t)
    ∙ ap (λ (z : List Bool). named (tables ++ t ∷ []) z)
    (ap (λ (n : ℕ). set (trues tables ++ false ∷ []) n true) (sym (sizes tables)) ∙ (set_last (trues tables) false true ∙ sym (trues_more tables t)))))

-- the next table is not defined yet
pub next_new : (profile : Profile) (syncookies : Syncookies) (routes : List Route) (limits : Limits) (timeouts : List (Option ℕ)) (before rest : List TableDef) (t : TableDef) → IsDistinct bytes_eq (table_names (before ++ t ∷ rest))
    → is_defined t.name (drafted profile syncookies routes limits timeouts before []) ≡ false
next_new profile syncookies routes limits timeouts before rest t h = undefined_yet profile syncookies routes limits timeouts before [] t.name (new_name before rest t h)

-- and it gets the next number
pub next_table : (profile : Profile) (syncookies : Syncookies) (routes : List Route) (limits : Limits) (timeouts : List (Option ℕ)) (before rest : List TableDef) (t : TableDef) → IsDistinct bytes_eq (table_names (before ++ t ∷ rest))
    → with_table t (drafted profile syncookies routes limits timeouts before []) ≡ drafted profile syncookies routes limits timeouts (before ++ t ∷ []) []
next_table profile syncookies routes limits timeouts before rest t h =
    ap (λ (n : Named). with_tables n (drafted profile syncookies routes limits timeouts before [])) (defining_new before t (new_name before rest t h))
