-- How the items of a text are nested: how deep the next may be, and that no name of an anchor occurs twice in a body.
use Rattle.std.specs.Prelude.{ℕ, ◌≡◌, ◌+◌, ◌≤◌, Bool, false, if◌then◌else◌, Option, Some, None, List, [], ◌∷◌, ◌++◌}
use Rattle.pfs_conf_values.specs.Depths.{is_rule}
use Rattle.pfs_conf_values.specs.Siblings.{has_sibling, name_of_item}
use Rattle.pfs_conf_values.specs.declared.items.Item.{Item}

-- how deep the item after this one may be: inside an anchor, but not inside a rule
abbrev pub next_depth : Item → ℕ
next_depth i = if is_rule i.what then i.depth else i.depth + 1

-- how deep the item after these may be, where the first of them may be this deep
abbrev pub depth_after : ℕ → List Item → ℕ
depth_after most [] = most
depth_after most (i ∷ rest) = depth_after (next_depth i) rest

-- items in preorder: each is at most one deeper than an anchor in front of it, and no deeper than a rule (pf.conf(5), ANCHORS)
abbrev pub IsPreorder : ℕ → List Item → Type 0
IsPreorder most [] = Unit {0}
IsPreorder most (i ∷ rest) = (i.depth ≤ most) × IsPreorder (next_depth i) rest

-- whether the body of this depth, after these items, has an anchor of this name already, if a name is given
abbrev pub repeats_by : ℕ → Option (List ℕ) → List Item → Bool
repeats_by depth None before = false
repeats_by depth (Some name) before = has_sibling depth name before

-- whether an item has a name that another anchor of its body, in front of it, has
abbrev pub repeats_name : Item → List Item → Bool
repeats_name i before = repeats_by i.depth (name_of_item i.what) before

-- a name of an anchor is used once in each body. before: the items in front (pf.conf(5), ANCHORS)
abbrev pub AreNamedOnce : List Item → List Item → Type 0
AreNamedOnce before [] = Unit {0}
AreNamedOnce before (i ∷ rest) = (repeats_name i before ≡ false) × AreNamedOnce (before ++ i ∷ []) rest
