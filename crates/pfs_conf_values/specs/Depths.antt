-- Which items are rules.
use Rattle.std.specs.Prelude.{Bool, true, false}
use Rattle.pfs_conf_values.specs.declared.items.ItemKind.{ItemKind}
use Rattle.pfs_conf_values.specs.declared.items.ItemKind.TheVariants.{Rule, Anchor}

-- whether this is a rule, and no anchor
abbrev pub is_rule : ItemKind → Bool
is_rule (Rule r) = true
is_rule (Anchor a) = false
