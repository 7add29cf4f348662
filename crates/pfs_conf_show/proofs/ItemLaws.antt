-- The text of the items that are left.
use Rattle.std.proofs.Common.{◌≡◌, ℕ, zero, suc, ◌+◌, ◌-◌, ◌<◌, ◌≤◌, List, [], ◌∷◌, ◌++◌, length, drop, Some, None, refl, sym, ap, ◌∙◌, arith, add-one, append_assoc}
use Rattle.std.specs.Prelude.{codes, slice_get}
use Rattle.pfs_conf_values.specs.Order.{next_depth}
use Rattle.pfs_conf_values.specs.declared.items.Item.{Item}
use Rattle.pfs_conf_values.specs.declared.tables.TableDef.{TableDef}
use Rattle.pfs_conf_show.specs.Texts.{braces_text, items_text, what_text}

braces_behind : (n : ℕ) → braces_text (suc n) ≡ braces_text n ++ codes "}\n"
braces_behind zero = refl
braces_behind (suc n) = ap (λ (z : List ℕ). codes "}\n" ++ z) (braces_behind n)

pub braces_more : (n : ℕ) → braces_text (n + 1) ≡ braces_text n ++ codes "}\n"
braces_more n = rw add-one (braces_behind n)

-- the next of the items that are left
pub items_next : (tables : List TableDef) (depth n : ℕ) (items : List Item) (i : Item) → slice_get items n ≡ Some i
    → items_text tables depth (drop n items) ≡ braces_text (depth - i.depth) ++ (what_text tables i.what ++ items_text tables (next_depth i) (drop (n + 1) items))
items_next tables depth n [] i h = absurd (cc h)
items_next tables depth zero (j ∷ items) i h =
    let same : j ≡ i = cc h in
    ap (λ (x : Item). braces_text (depth - x.depth) ++ (what_text tables x.what ++ items_text tables (next_depth x) items)) same
items_next tables depth (suc n) (j ∷ items) i h =
    items_next tables depth n items i h
    ∙ ap (λ (k : ℕ). braces_text (depth - i.depth) ++ (what_text tables i.what ++ items_text tables (next_depth i) (drop k (j ∷ items)))) (up n)
  where
    up : (m : ℕ) → suc (m + 1) ≡ suc m + 1
    up m = omega arith

-- after the last item only the open anchors are left
pub items_end : (tables : List TableDef) (depth n : ℕ) (items : List Item) → length items ≤ n → items_text tables depth (drop n items) ≡ braces_text depth
items_end tables depth zero [] h = refl
items_end tables depth (suc n) [] h = refl
items_end tables depth zero (i ∷ items) h = absurd (omega arith)
items_end tables depth (suc n) (i ∷ items) h = items_end tables depth n items (omega arith)

-- one item more is written
pub item_step : (tables : List TableDef) (depth n : ℕ) (items : List Item) (i : Item) (d : ℕ) (o o1 all : List ℕ) → slice_get items n ≡ Some i
    → o ++ items_text tables depth (drop n items) ≡ all → o1 ≡ o ++ (braces_text (depth - i.depth) ++ what_text tables i.what) → d ≡ next_depth i
    → o1 ++ items_text tables d (drop (n + 1) items) ≡ all
item_step tables depth n items i d o o1 all h e f g =
    let braces = braces_text (depth - i.depth) in
    let text = what_text tables i.what in
    let left = items_text tables (next_depth i) (drop (n + 1) items) in
    ap (λ (k : ℕ). o1 ++ items_text tables k (drop (n + 1) items)) g
    ∙ (ap (λ (z : List ℕ). z ++ left) f
    ∙ (append_assoc o (braces ++ text) left
    ∙ (ap (λ (z : List ℕ). o ++ z) (append_assoc braces text left ∙ sym (items_next tables depth n items i h)) ∙ e)))

-- what is not past the end is there
pub is_there : {X : Type 0} (xs : List X) (n : ℕ) → n < length xs → slice_get xs n ≡ None → ⊥
is_there [] n h e = omega arith
is_there (x ∷ xs) zero h e = cc e
is_there (x ∷ xs) (suc n) h e = is_there xs n (omega arith) e
