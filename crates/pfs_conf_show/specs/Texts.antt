-- The canonical text of a configuration: every line ends with a line feed, words are one space apart, and no line is
-- indented. (own)
use Rattle.std.specs.Prelude.{ℕ, zero, suc, ◌-◌, List, [], ◌∷◌, ◌++◌, Option, Some, None, codes}
use Rattle.std.specs.List.{flat_map}
use Rattle.pfs_conf_values.specs.Configs.{Conf}
use Rattle.pfs_conf_values.specs.Order.{next_depth}
use Rattle.pfs_conf_values.specs.declared.actions.Action.{Action}
use Rattle.pfs_conf_values.specs.declared.actions.Action.TheVariants as action
use Rattle.pfs_conf_values.specs.declared.items.Anchor.{Anchor}
use Rattle.pfs_conf_values.specs.declared.items.Item.{Item}
use Rattle.pfs_conf_values.specs.declared.items.Rule.{Rule}
use Rattle.pfs_conf_values.specs.declared.items.ItemKind.{ItemKind}
use Rattle.pfs_conf_values.specs.declared.items.ItemKind.TheVariants as what
use Rattle.pfs_conf_values.specs.declared.tables.TableDef.{TableDef}
use Rattle.pfs_conf_show.specs.Filters.{extras_text, parameters_text, translation_text}
use Rattle.pfs_conf_show.specs.Options.{state_text}
use Rattle.pfs_conf_show.specs.Settings.{limits_text, profile_text, routes_text, syncookies_text, timeouts_text}
use Rattle.pfs_conf_show.specs.Tables.{table_text}

abbrev pub verb_text : Action → List ℕ
verb_text action.Match = codes "match"
verb_text action.Block = codes "block"
verb_text _ = codes "pass"

-- the line of a rule: what it does, its parameters, what it has behind them, what it translates, and its state clause
abbrev pub rule_text : List TableDef → Rule → List ℕ
rule_text tables r =
    verb_text r.action ++ (parameters_text tables r.quick r.filter ++ (extras_text r.tag r.came ++ (translation_text r.translation
    ++ (state_text tables r.action ++ codes "\n"))))

-- the name of an anchor, in quotes
abbrev pub name_text : Option (List ℕ) → List ℕ
name_text None = []
name_text (Some name) = codes " \"" ++ (name ++ codes "\"")

-- the line that opens an anchor
abbrev pub anchor_text : List TableDef → Anchor → List ℕ
anchor_text tables a = codes "anchor" ++ (name_text a.name ++ (parameters_text tables a.quick a.filter ++ codes " {\n"))

abbrev pub what_text : List TableDef → ItemKind → List ℕ
what_text tables (what.Rule r) = rule_text tables r
what_text tables (what.Anchor a) = anchor_text tables a

-- the lines that close so many anchors
abbrev pub braces_text : ℕ → List ℕ
braces_text zero = []
braces_text (suc n) = codes "}\n" ++ braces_text n

-- items in order, inside so many anchors: an item outside of some of them has their closing lines before it, and at the
-- end all that are left are closed
abbrev pub items_text : List TableDef → ℕ → List Item → List ℕ
items_text tables depth [] = braces_text depth
items_text tables depth (i ∷ items) = braces_text (depth - i.depth) ++ (what_text tables i.what ++ items_text tables (next_depth i) items)

-- the canonical text: limits, timeouts, the profile, SYN cookies, routes, tables by their numbers, items
abbrev pub text_of : Conf → List ℕ
text_of conf =
    limits_text conf.limits
    ++ (timeouts_text conf.timeouts ++ (profile_text conf.profile ++ (syncookies_text conf.syncookies ++ (routes_text conf.routes
    ++ (flat_map table_text conf.tables ++ items_text conf.tables 0 conf.items)))))
