-- What is read of a configuration keeps the load rules: its items, its rules, and their options.
use Rattle.std.proofs.Common.{◌≡◌, ◌∙◌, ◌<◌, ◌≤◌, ◌||◌, ◌&&◌, ◌⊎◌, inl, inr, ℕ, Bool, true, false, Option, Some, None, IfSome, is_none, is_some, unwrap_or, All, length, get_or, refl, ap, sym, subst, arith}
use Rattle.std.specs.Prelude.{IsSome, slice_get, slice_index_or}
use Rattle.std.specs.Option.{option_and_then}
use Rattle.std.proofs.lemmas.Bool.{cases_lt, false≢true}
use Rattle.std.proofs.lemmas.List.{get_or-replicate, get_or_past}
use Rattle.std.proofs.lemmas.List.Elements.{All-weaker}
use Rattle.std.proofs.lemmas.Option.{slice_get-get_or, slice_get_within}
use Rattle.pfs_conf_values.specs.Configs.{Conf, no_options, options_in, options_of, rule_at, rule_in, scope_of}
use Rattle.pfs_conf_values.specs.Invariants.{IsConfig}
use Rattle.pfs_conf_values.specs.LoadRules.{AreOptions, IsAction, IsItem, IsItemAt, IsRule, IsTimeout}
use Rattle.pfs_conf_values.specs.Bounds.{is_global}
use Rattle.pfs_conf_values.specs.Timeouts.{no_timeouts}
use Rattle.pfs_conf_values.specs.declared.actions.Action.{Action}
use Rattle.pfs_conf_values.specs.declared.actions.Action.TheVariants as action
use Rattle.pfs_conf_values.specs.declared.actions.Scope.{Scope}
use Rattle.pfs_conf_values.specs.declared.actions.Scope.TheVariants as scope
use Rattle.pfs_conf_values.specs.declared.items.Item.{Item}
use Rattle.pfs_conf_values.specs.declared.items.Rule.{Rule}
use Rattle.pfs_conf_values.specs.declared.items.ItemKind.{ItemKind}
use Rattle.pfs_conf_values.specs.declared.items.ItemKind.TheVariants as what

-- of no timeouts none is given, at any place
pub no_timeouts_None : (place : ℕ) → slice_index_or no_timeouts place None ≡ None
no_timeouts_None place = by (cases_lt place 16)
  where
    by : ((place < 16) ⊎ (16 ≤ place)) → slice_index_or no_timeouts place None ≡ None
    by w = elim w as (λ u. slice_index_or no_timeouts place None ≡ None) [
      | inl h ↦ get_or-replicate 16 place None None h
      | inr h ↦ get_or_past no_timeouts place None h
    ]

-- no options keep the load rules
pub no_options_AreOptions : (tables : ℕ) → AreOptions tables no_options
no_options_AreOptions tables = record {
  max = tt;
  max_src_nodes = tt;
  max_src_states = tt;
  max_src_conn = tt;
  max_src_conn_rate = tt;
  overload = tt;
  tracked = refl;
  connections = refl;
  rule_connections = refl;
  rule_retention = refl;
  adaptive = refl;
  no_interval = refl;
  timeouts = λ place. subst (λ o. IfSome o (IsTimeout place)) (sym (no_timeouts_None place)) tt;
  size = refl;
}

-- an item of a configuration keeps the load rules
pub item_IsItem : (conf : Conf) → IsConfig conf → (n : ℕ) (i : Item) → slice_get conf.items n ≡ Some i → IsItem (length conf.tables) i
item_IsItem conf sound n i h =
    let within = slice_get_within conf.items n i h in
    let at : get_or conf.items n i ≡ i = let some = sym (slice_get-get_or conf.items n i within) ∙ h in cc in
    subst (IsItem (length conf.tables)) at (sound.items n i within)

-- a rule of a configuration keeps the load rules
pub rule_at_IsRule : (conf : Conf) → IsConfig conf → (n : ℕ) (r : Rule) → rule_at conf n ≡ Some r → IsRule (length conf.tables) r
rule_at_IsRule conf sound n r h = by (slice_get conf.items n) refl
  where
    in_item : (i : Item) (w : ItemKind) → IsItemAt (length conf.tables) i.depth w → rule_in w ≡ Some r → IsRule (length conf.tables) r
    in_item i (what.Rule s) k e = subst (IsRule (length conf.tables)) (let same : s ≡ r = cc in same) k.1
    in_item i (what.Anchor a) k e = absurd cc

    by : (o : Option Item) → slice_get conf.items n ≡ o → IsRule (length conf.tables) r
    by None e = absurd (let none = sym (ap (option_and_then (λ (i : Item). rule_in i.what)) e) ∙ h in cc)
    by (Some i) e =
        in_item i i.what (item_IsItem conf sound n i e) (sym (ap (option_and_then (λ (i : Item). rule_in i.what)) e) ∙ h)

-- the options of any number keep the load rules
pub options_of-AreOptions : (conf : Conf) → IsConfig conf → (n : ℕ) → AreOptions (length conf.tables) (options_of conf n)
options_of-AreOptions conf sound n = by (rule_at conf n) refl
  where
    OptionsKept : Option Rule → Type 0
    OptionsKept o = AreOptions (length conf.tables) (unwrap_or (option_and_then (λ (r : Rule). options_in r.action) o) no_options)

    in_action : (a : Action) → IsAction (length conf.tables) a → AreOptions (length conf.tables) (unwrap_or (options_in a) no_options)
    in_action action.Match k = no_options_AreOptions (length conf.tables)
    in_action action.Block k = no_options_AreOptions (length conf.tables)
    in_action action.Pass k = no_options_AreOptions (length conf.tables)
    in_action (action.Keep o) k = k

    by : (o : Option Rule) → rule_at conf n ≡ o → AreOptions (length conf.tables) (options_of conf n)
    by None e =
        subst (λ o. AreOptions (length conf.tables) (unwrap_or (option_and_then (λ (r : Rule). options_in r.action) o) no_options)) (sym e)
        (no_options_AreOptions (length conf.tables))
    by (Some r) e =
        subst (λ o. AreOptions (length conf.tables) (unwrap_or (option_and_then (λ (r : Rule). options_in r.action) o) no_options)) (sym e)
        (in_action r.action (rule_at_IsRule conf sound n r e).action)

or_true : (b : Bool) → (b || true) ≡ true
or_true true = refl
or_true false = refl

rated : (s : Option Scope) (sources connections rate : Bool) → rate ≡ true → (is_none s && (sources || (connections || rate))) ≡ false
    → (is_global s && (connections || rate)) ≡ false → s ≡ Some scope.Rule
rated None sources connections rate e tracked own =
    absurd (false≢true (sym tracked ∙ ap (λ b. sources || (connections || b)) e ∙ ap (λ b. sources || b) (or_true connections) ∙ or_true sources))
rated (Some scope.Rule) sources connections rate e tracked own = refl
rated (Some scope.Global) sources connections rate e tracked own = absurd (false≢true (sym own ∙ ap (λ b. connections || b) e ∙ or_true connections))

-- a rule with a rate tracks the sources of its own states
pub rated-scope : (conf : Conf) → IsConfig conf → (n : ℕ) → IsSome (options_of conf n).max_src_conn_rate → scope_of conf n ≡ Some scope.Rule
rated-scope conf sound n h =
    let k = options_of-AreOptions conf sound n in
    let o = options_of conf n in
    rated o.scope (is_some o.max_src_nodes || is_some o.max_src_states) (is_some o.max_src_conn) (is_some o.max_src_conn_rate) h k.tracked k.rule_connections

-- no item of a configuration is inside more than 16 anchors
pub items_shallow : (conf : Conf) → IsConfig conf → All (λ (i : Item). i.depth ≤ 16) conf.items
items_shallow conf sound = All-weaker (IsItem (length conf.tables)) (λ (i : Item). i.depth ≤ 16) (λ i. by i.what i.depth) conf.items sound.items
  where
    by : (w : ItemKind) (depth : ℕ) → IsItemAt (length conf.tables) depth w → depth ≤ 16
    by (what.Rule r) depth k = k.0
    by (what.Anchor a) depth k = omega arith
