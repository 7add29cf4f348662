-- One more item at the end: the preorder, how deep the next may be, and names used once in each body.
use Rattle.std.proofs.Common.{◌≡◌, ◌∙◌, ◌≤◌, ℕ, false, List, [], ◌∷◌, ◌++◌, refl, ap, sym, append_assoc, Ok, Err, OnOk}
use Rattle.std.specs.Prelude.{Result}
use Rattle.std.proofs.lemmas.List.{append-nil}
use Rattle.pfs_conf_values.specs.Order.{AreNamedOnce, IsPreorder, depth_after, next_depth, repeats_name}
use Rattle.pfs_conf_values.specs.declared.items.Item.{Item}

-- after an item at the end, the next may be as deep as that item allows
pub depth_after_push : (most : ℕ) (items : List Item) (i : Item) → depth_after most (items ++ i ∷ []) ≡ next_depth i
depth_after_push most [] i = refl
depth_after_push most (x ∷ items) i = depth_after_push (next_depth x) items i

-- an item no deeper than the others allow keeps the preorder
pub IsPreorder_push : (most : ℕ) (items : List Item) (i : Item) → IsPreorder most items → i.depth ≤ depth_after most items → IsPreorder most (items ++ i ∷ [])
IsPreorder_push most [] i h le = (le, tt)
IsPreorder_push most (x ∷ items) i h le = (h.0, IsPreorder_push (next_depth x) items i h.1 le)

-- an item whose name no sibling in front of it has keeps the names apart
pub AreNamedOnce_push : (before items : List Item) (i : Item) → AreNamedOnce before items → repeats_name i (before ++ items) ≡ false → AreNamedOnce before (items ++ i ∷ [])
AreNamedOnce_push before [] i h fresh = (ap (λ xs. repeats_name i xs) (sym (append-nil before)) ∙ fresh, tt)
AreNamedOnce_push before (x ∷ items) i h fresh =
    (h.0, AreNamedOnce_push (before ++ x ∷ []) items i h.1 (ap (λ xs. repeats_name i xs) (append_assoc before (x ∷ []) items) ∙ fresh))

-- after a push
pub depth_after_pushed : {E : Type 0} (items : List Item) (i : Item) (after : List Item) (r : Result (Unit {0}) E) → OnOk r (after ≡ items ++ i ∷ [])
    → OnOk r (depth_after 0 after ≡ next_depth i)
depth_after_pushed items i after (Ok x) h = ap (depth_after 0) h ∙ depth_after_push 0 items i
depth_after_pushed items i after (Err e) h = h
