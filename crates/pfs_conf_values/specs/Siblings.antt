-- Names of anchors, each used once in a body.
use Rattle.std.specs.Prelude.{ℕ, ◌==◌, ◌&&◌, nat_le, Bool, false, Option, Some, None, List, reverse, take_while}
use Rattle.std.specs.List.{list_any}
use Rattle.std.specs.Str.{bytes_eq}
use Rattle.pfs_conf_values.specs.declared.items.Item.{Item}
use Rattle.pfs_conf_values.specs.declared.items.ItemKind.{ItemKind}
use Rattle.pfs_conf_values.specs.declared.items.ItemKind.TheVariants.{Rule, Anchor}

-- the name of an anchor, if it has one
abbrev pub name_of_item : ItemKind → Option (List ℕ)
name_of_item (Rule r) = None
name_of_item (Anchor a) = a.name

-- whether a name is given and is this one
abbrev pub is_this_name : List ℕ → Option (List ℕ) → Bool
is_this_name name None = false
is_this_name name (Some given) = bytes_eq given name

-- whether an item is an anchor of this name, directly in a body of this depth
abbrev pub is_anchor_named : ℕ → List ℕ → Item → Bool
is_anchor_named depth name i = (i.depth == depth) && is_this_name name (name_of_item i.what)

-- whether the body of this depth, after these items, has an anchor of this name already: going back as far as the items
-- are of this depth or deeper
abbrev pub has_sibling : ℕ → List ℕ → List Item → Bool
has_sibling depth name before =
    list_any (is_anchor_named depth name) (take_while (λ (i : Item). nat_le depth i.depth) (reverse before))
